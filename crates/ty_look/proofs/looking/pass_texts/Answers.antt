use Rattle.std.proofs.Common.{◌≡◌, ◌-◌, suc, refl, sym, ap, ◌∙◌, ℕ, List, Err, arith}
use Rattle.tc_base.specs.declared.fields.NotWhole.{NotWhole}
use Rattle.tc_base.specs.Reading.{Front}
use Rattle.ty_wire.specs.Items.{item_at}
use Rattle.ty_look.proofs.Ongoing.{passed, all_passed, stopped}
use Rattle.ty_look.proofs.looking.pass_texts.Goals as goal

abbrev failed : NotWhole → Front (List ℕ)
failed e = Err e

pub loop-to-preserved : goal.loop-to-preserved
loop-to-preserved c =
    let one : c.loop-to.to.count ≡ suc (c.loop-to.to.count - 1) = omega (arith, c.loop-to-test.true) in
    passed _ _ _ _ _ _ _ c.loop-to.invariant one c.min-limit.ensures (ap (item_at c.min-limit.result) (sym c.behind.ensures) ∙ c.in-Ok.ensures.item) refl refl refl refl c.in-Ok.ensures.short

pub returns-in-Err-Part-clause-reading : goal.returns-in-Err-Part-clause-reading
returns-in-Err-Part-clause-reading c =
    let one : c.loop-to.to.count ≡ suc (c.loop-to.to.count - 1) = omega (arith, c.loop-to-test.true) in
    stopped _ _ _ _ _ c.loop-to.invariant one c.min-limit.ensures (ap (item_at c.min-limit.result) (sym c.behind.ensures) ∙ c.in-Err-Part.ensures.item ∙ ap failed c.in-Err-Part.field-0-is)

pub returns-in-Err-Bad-clause-reading : goal.returns-in-Err-Bad-clause-reading
returns-in-Err-Bad-clause-reading c =
    let one : c.loop-to.to.count ≡ suc (c.loop-to.to.count - 1) = omega (arith, c.loop-to-test.true) in
    stopped _ _ _ _ _ c.loop-to.invariant one c.min-limit.ensures (ap (item_at c.min-limit.result) (sym c.behind.ensures) ∙ c.in-Err-Bad.ensures.item ∙ ap failed c.in-Err-Bad.field-0-is)

pub returns-clause-reading : goal.returns-clause-reading
returns-clause-reading c = all_passed c.loop-to.to _ c.loop-to.invariant (omega (arith, c.loop-to-test.false))
