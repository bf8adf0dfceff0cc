use Rattle.std.proofs.Common.{◌∙◌, arith, sym}
use Rattle.std.specs.FinMap.{get}
use Rattle.tc_fixed.proofs.Tallied.{len_more, len_same, none_long, some_long, small_len}
use Rattle.tc_fixed.proofs.tally.Tally.records_with.Goals as goal

pub returns-in-Some : goal.returns-in-Some
returns-in-Some c = λ m id v counts small old.
    let was = some_long _ (get m id) (sym c.in-Some.is ∙ old) in
    counts.records ∙ sym (len_same m id v was.0 was.1)

pub returns-in-None : goal.returns-in-None
returns-in-None c = λ m id v counts small old.
    omega (arith, c.saturating_add.ensures, counts.records, small_len m small, len_more m id v (none_long (get m id) (sym c.in-None.is ∙ old)))
