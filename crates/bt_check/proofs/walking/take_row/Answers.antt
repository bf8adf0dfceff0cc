use Rattle.std.proofs.Common.{◌≡◌, List, ap, arith, length, subst, take}
use Rattle.std.proofs.lemmas.List.{take_all}
use Rattle.bt_rows.specs.declared.page.Slot.{Slot}
use Rattle.bt_check.specs.Walks.{IsTakenOut}
use Rattle.bt_check.proofs.Walked.{stuck_at, taken_at}
use Rattle.bt_check.proofs.walking.take_row.Goals as goal

pub loop-slot-init : goal.loop-slot-init
loop-slot-init c = record { taken = λ id. omega arith; len = omega arith }

pub loop-slot-preserved : goal.loop-slot-preserved
loop-slot-preserved c =
    let a = c.if-not-take.ensures in
    let v = c.loop-slot.invariant in
    record {
      taken = taken_at c.args.row.now _ c.loop-slot.slot-index c.slot-item.result c.args.ids.now c.loop-slot.ids c.take.new.ids c.as_slice-slot-items.ensures c.loop-slot-test.true c.slot-item.is v.taken a.was a.gone;
      len = omega (arith, a.len, v.len);
    }

pub returns-then-not-take-clause-stuck : goal.returns-then-not-take-clause-stuck
returns-then-not-take-clause-stuck c = λ no_id. stuck_at c.args.row.now _ c.loop-slot.slot-index c.slot-item.result c.args.ids.now c.loop-slot.ids c.as_slice-slot-items.ensures c.loop-slot-test.true c.slot-item.is c.loop-slot.invariant.taken c.if-not-take.ensures.was

pub returns-clause-taken : goal.returns-clause-taken
returns-clause-taken c = λ all.
    let whole : take c.loop-slot.slot-index c.args.row.now ≡ c.args.row.now = take_all _ _ (omega (arith, c.loop-slot-test.false, c.loop-slot.auto.slot-index-end, ap (λ (l : List Slot). length l) c.as_slice-slot-items.ensures)) in
    subst (λ (r : List Slot). IsTakenOut r c.args.ids.now c.loop-slot.ids) whole c.loop-slot.invariant.taken

pub returns-clause-len : goal.returns-clause-len
returns-clause-len c = λ all. omega (arith, c.loop-slot.invariant.len, c.loop-slot-test.false, c.loop-slot.auto.slot-index-end, ap (λ (l : List Slot). length l) c.as_slice-slot-items.ensures)
