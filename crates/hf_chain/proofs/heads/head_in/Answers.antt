use Rattle.std.proofs.Common.{◌≡◌, subst, ◌∙◌, sym, ap}
use Rattle.hf_block.specs.Heads.{Fits}
use Rattle.hf_head.specs.Heads.{wide}
use Rattle.hf_block.specs.Walks.{is_free_block}
use Rattle.hf_chain.proofs.Fronts.{block_of, front_read, rec_fits, head_is, vnums_small}
use Rattle.hf_chain.proofs.heads.head_in.Goals as goal

pub returns-in-Some-clause-head : goal.returns-in-Some-clause-head
returns-in-Some-clause-head c = λ u r more is w part enough.
    let e = c.read_block.ensures.again (block_of r) (rec_fits (wide c.args.large) u r is w) (front_read c.args.large u r more c.args.front.now is w part enough) in
    head_is c.in-Some.rec c.in-Ok.block r c.in-Some.ensures.some (let f = c.in-Ok.is in cc)

pub returns-in-Some-clause-chains : goal.returns-in-Some-clause-chains
returns-in-Some-clause-chains c = let f = subst (Fits (wide c.args.large)) c.in-Some.ensures.some c.in-Ok.ensures.found.0 in (f.1, f.2)

pub returns-in-Some-clause-small : goal.returns-in-Some-clause-small
returns-in-Some-clause-small c = let f = subst (Fits (wide c.args.large)) c.in-Some.ensures.some c.in-Ok.ensures.found.0 in vnums_small c.args.large c.in-Some.rec.key c.in-Some.rec.value c.in-Some.rec.head f.4 f.5 f.6

pub returns-in-None-clause-head : goal.returns-in-None-clause-head
returns-in-None-clause-head c = λ u r more is w part enough. absurd (
    let e = c.read_block.ensures.again (block_of r) (rec_fits (wide c.args.large) u r is w) (front_read c.args.large u r more c.args.front.now is w part enough) in
    let same : c.in-Ok.block ≡ block_of r = (let f = c.in-Ok.is in cc) in
    let g = sym (ap is_free_block same) ∙ c.in-None.ensures.none in cc)

pub returns-in-Err-clause-head : goal.returns-in-Err-clause-head
returns-in-Err-clause-head c = λ u r more is w part enough. absurd (let e = c.read_block.ensures.again (block_of r) (rec_fits (wide c.args.large) u r is w) (front_read c.args.large u r more c.args.front.now is w part enough) in let f = c.in-Err.is in cc)
