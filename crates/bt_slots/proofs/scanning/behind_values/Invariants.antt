use Rattle.std.proofs.Common.{◌≡◌, ℕ, List, length}
use Rattle.bt_page.specs.Pages.{SizeFits, value_bytes}
use Rattle.bt_page.proofs.Runs.{Progress}
use Rattle.bt_slots.proofs.scanning.behind_values.Given as goal

abbrev pub invariant-loop-i : goal.invariant-loop-i
invariant-loop-i l = record {
  read : (done : List (List ℕ)) × (length done ≡ l.i) × Progress SizeFits value_bytes (λ all tail. length all ≡ l.n) l.bytes done l.rest;
}
