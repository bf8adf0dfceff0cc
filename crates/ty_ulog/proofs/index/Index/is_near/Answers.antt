use Rattle.std.proofs.Common.{◌∙◌, List, ap, arith, ltb-true, lt-ltb}
use Rattle.ty_ulog.specs.declared.index.Mark.{Mark}
use Rattle.ty_ulog.specs.Steps.{last_place}
use Rattle.ty_ulog.proofs.index.Index.is_near.Goals as goal

pub returns : goal.returns
returns c =
    let e = c.last_place-marked.ensures ∙ ap (λ (ms : List Mark). last_place 0 ms) c.as_slice.ensures in
    (λ t. omega (arith, e, ltb-true _ _ t), λ lt. lt-ltb _ _ (omega (arith, e, lt)))
