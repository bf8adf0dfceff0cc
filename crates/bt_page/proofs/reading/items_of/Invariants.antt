use Rattle.std.proofs.Common.{◌≡◌, [], length}
use Rattle.bt_page.specs.Pages.{ItemFits, item_bytes}
use Rattle.bt_page.proofs.Runs.{Progress}
use Rattle.bt_page.proofs.reading.items_of.Given as goal

abbrev pub invariant-loop-rest : goal.invariant-loop-rest
invariant-loop-rest l = Progress ItemFits item_bytes (λ all tail. tail ≡ []) l.bytes l.items l.rest

abbrev pub decreases-loop-rest : goal.decreases-loop-rest
decreases-loop-rest l = length l.rest
