use Rattle.std.proofs.Common.{◌≡◌, ◌++◌, take}
use Rattle.std.specs.List.{AllByRecursion, flat_map}
use Rattle.bt_page.specs.Pages.{entry_bytes, EntryFits}
use Rattle.bt_page.proofs.writing.put_entries.Given as goal

abbrev pub invariant-loop-entry : goal.invariant-loop-entry
invariant-loop-entry l = record { so : l.into ≡ l.fn.into ++ flat_map entry_bytes (take l.entry-index l.entries); fits : AllByRecursion EntryFits (take l.entry-index l.entries) }
