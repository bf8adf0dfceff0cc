use Rattle.std.proofs.Common.{◌≡◌, [], length}
use Rattle.bt_page.specs.Pages.{EntryFits, entry_bytes}
use Rattle.bt_page.proofs.Runs.{Progress}
use Rattle.bt_page.proofs.reading.entries_of.Given as goal

abbrev pub invariant-loop-rest : goal.invariant-loop-rest
invariant-loop-rest l = Progress EntryFits entry_bytes (λ all tail. tail ≡ []) l.bytes l.entries l.rest

abbrev pub decreases-loop-rest : goal.decreases-loop-rest
decreases-loop-rest l = length l.rest
