use Rattle.std.proofs.Common.{length, ◌∙◌, ◌<◌, ◌^◌, Bool, sym, ap, subst}
use Rattle.hf_head.specs.Heads.{wide, unit}
use Rattle.hf_chain.proofs.Fronts.{front_cut}
use Rattle.hf_chain.proofs.heads.read_front.Goals as goal

pub read-requires-clause-reaches : goal.read-requires-clause-reaches
read-requires-clause-reaches g c = record { file = c.requires.file; inside = λ t. (c.requires.enough t).inside }

pub returns-clause-head : goal.returns-clause-head
returns-clause-head g c = λ t r a.
    let x = c.requires.enough t in
    let w = front_cut (length c.args.front.now) c.args.at (unit c.args.head.now) r (g.S.Space.now c.args.space.now c.args.file) c.read.new.into a.is (c.in_ok-read.ensures.bytes t) x.inside x.enough in
    c.head_in.ensures.head (unit c.args.head.now) r a.is.rest (a.wide ∙ ap wide (sym c.is_large.ensures)) a.is.whole w.0 w.1

pub returns-clause-fits : goal.returns-clause-fits
returns-clause-fits g c =
    let both = subst (λ (z : Bool). (c.head_in.result.left < 256 ^ wide z) × (c.head_in.result.right < 256 ^ wide z)) c.is_large.ensures c.head_in.ensures.chains in
    record { left = both.0; right = both.1; small = c.head_in.ensures.small }
