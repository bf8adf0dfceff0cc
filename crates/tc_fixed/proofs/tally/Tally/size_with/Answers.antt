use Rattle.std.proofs.Common.{◌∙◌, arith, sym}
use Rattle.std.specs.FinMap.{get, insert}
use Rattle.tc_fixed.proofs.Tallied.{bytes_over, bytes_more, bytes_some, none_long, some_long, small_bytes}
use Rattle.tc_fixed.proofs.tally.Tally.size_with.Goals as goal

pub returns-in-Some : goal.returns-in-Some
returns-in-Some c = λ m v counts small old long now.
    let was = some_long _ (get m c.args.id) (sym c.in-Some.is ∙ old) in
    omega (arith, c.saturating_sub.ensures, c.saturating_add.ensures, counts.size, long, was.2, bytes_over m c.args.id v was.0 was.1, bytes_some m c.args.id was.0 was.1, small_bytes (insert m c.args.id v) now)

pub returns-in-None : goal.returns-in-None
returns-in-None c = λ m v counts small old long now.
    omega (arith, c.saturating_add-in-None.ensures, c.saturating_add-in-None-2.ensures, c.digits.ensures.value, counts.size, long, bytes_more m c.args.id v (none_long (get m c.args.id) (sym c.in-None.is ∙ old)), small_bytes (insert m c.args.id v) now)
