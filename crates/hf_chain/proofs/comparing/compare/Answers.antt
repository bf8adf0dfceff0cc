use Rattle.std.proofs.Common.{◌≡◌, ◌∙◌, length, arith, sym, ap}
use Rattle.std.proofs.lemmas.Cmp.{ranked}
use Rattle.std.specs.declared.cmp.Ordering.TheVariants.{Equal}
use Rattle.hf_head.specs.Heads.{unit}
use Rattle.hf_chain.specs.declared.heads.RecHead.{RecHead}
use Rattle.hf_chain.proofs.Fronts.{by_hash, by_length, by_bytes, key_inside}
use Rattle.hf_chain.proofs.comparing.compare.Goals as goal

pub returns-in_default-clause-order : goal.returns-in_default-clause-order
returns-in_default-clause-order g c = λ t r a is its. by_hash c.args.rec.now c.args.key.now c.args.hash c.cmp.result r c.requires.hash is its c.cmp.ensures c.in_default.not-Equal

pub returns-in_default-cmp-clause-order : goal.returns-in_default-cmp-clause-order
returns-in_default-cmp-clause-order g c = λ t r a is its. by_length c.args.rec.now c.args.key.now c.args.hash c.cmp-in-Equal.result r c.requires.hash is its (sym c.in-Equal.is ∙ c.cmp.ensures) c.cmp-in-Equal.ensures c.in_default-cmp.not-Equal

pub compare_near-requires-clause-inside : goal.compare_near-requires-clause-inside
compare_near-requires-clause-inside g c = λ t.
    let w = (c.requires.read t).there in
    let long : length c.args.key.now ≡ c.args.rec.now.key = ranked (length c.args.key.now) c.args.rec.now.key Equal (sym c.in-Equal-cmp.is ∙ c.cmp-in-Equal.ensures) in
    let size = ap (λ (x : RecHead). x.key) w.head in
    let head = ap (λ (x : RecHead). x.head) w.head in
    omega (arith, key_inside (unit c.args.head.now) w.r c.args.at (g.S.Space.now c.args.space.now c.args.file) w.has.is, long, size, head)

pub compare_near-requires-clause-front : goal.compare_near-requires-clause-front
compare_near-requires-clause-front g c = λ t. (c.requires.read t).is

pub compare_near-requires-clause-long : goal.compare_near-requires-clause-long
compare_near-requires-clause-long g c = λ t. (c.requires.read t).long

pub returns-in-Equal-cmp-clause-order : goal.returns-in-Equal-cmp-clause-order
returns-in-Equal-cmp-clause-order g c = by_bytes c.compare_near.result g.S.Space.tells c.args.head.now c.args.at c.args.rec.now c.args.key.now c.args.hash (g.S.Space.now c.args.space.now c.args.file) c.requires.hash (sym c.in-Equal.is ∙ c.cmp.ensures) (sym c.in-Equal-cmp.is ∙ c.cmp-in-Equal.ensures) c.compare_near.ensures.order
