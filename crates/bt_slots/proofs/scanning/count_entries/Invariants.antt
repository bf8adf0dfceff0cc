use Rattle.std.proofs.Common.{◌≡◌, List, [], ◌+◌, ◌<◌, ◌≤◌, ◌^◌, length}
use Rattle.bt_page.specs.declared.page.NodeEntry.{NodeEntry}
use Rattle.bt_page.specs.Pages.{EntryFits, entry_bytes}
use Rattle.bt_page.proofs.Runs.{Progress}
use Rattle.bt_slots.proofs.scanning.count_entries.Given as goal

abbrev pub invariant-loop-rest : goal.invariant-loop-rest
invariant-loop-rest l = record {
  short : length l.bytes < 2 ^ 64;
  few : l.count + length l.rest ≤ length l.bytes;
  read : (xs : List NodeEntry) × (l.count ≡ length xs) × Progress EntryFits entry_bytes (λ all tail. tail ≡ []) l.bytes xs l.rest;
}

abbrev pub decreases-loop-rest : goal.decreases-loop-rest
decreases-loop-rest l = length l.rest
