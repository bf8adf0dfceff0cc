use Rattle.std.proofs.Common.{◌≡◌, ◌-◌, suc, sym, ap, ◌∙◌, arith}
use Rattle.tc_base.specs.Reading.{size_at}
use Rattle.ty_look.proofs.Ongoing.{text_ends}
use Rattle.ty_look.proofs.looking.text_end.Goals as goal

pub returns-in-Ok-clause-part : goal.returns-in-Ok-clause-part
returns-in-Ok-clause-part c =
    let one : c.args.place.count ≡ suc (c.args.place.count - 1) = omega (arith, c.if-place-eq0.false) in
    text_ends c.args.place _ _ _ _ _ _ c.requires.going c.requires.part one c.min-limit.ensures (ap (size_at c.min-limit.result) (sym c.behind.ensures) ∙ c.in-Ok.ensures.size) c.max.ensures
