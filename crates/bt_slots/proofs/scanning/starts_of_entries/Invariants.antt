use Rattle.std.proofs.Common.{◌≡◌, List, [], ◌++◌, length, take, ◌-◌, ◌≤◌}
use Rattle.bt_page.specs.declared.page.NodeEntry.{NodeEntry}
use Rattle.bt_page.specs.Pages.{EntryFits, entry_bytes}
use Rattle.bt_page.proofs.Runs.{Progress}
use Rattle.bt_slots.specs.Slots.{starts_from}
use Rattle.bt_slots.proofs.scanning.starts_of_entries.Given as goal

abbrev pub invariant-loop-rest : goal.invariant-loop-rest
invariant-loop-rest l = record {
  few : l.count ≤ 128;
  read : (xs : List NodeEntry) × (l.starts.items ++ take l.count l.row ≡ starts_from entry_bytes (l.end - length l.entries) xs) × Progress EntryFits entry_bytes (λ all tail. tail ≡ []) l.entries xs l.rest;
}

abbrev pub decreases-loop-rest : goal.decreases-loop-rest
decreases-loop-rest l = length l.rest
