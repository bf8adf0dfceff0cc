use Rattle.std.proofs.Common.{◌≡◌, ◌++◌, take}
use Rattle.std.specs.List.{AllByRecursion, flat_map}
use Rattle.bt_page.specs.Pages.{value_bytes, SizeFits}
use Rattle.bt_page.proofs.writing.put_values.Given as goal

abbrev pub invariant-loop-value : goal.invariant-loop-value
invariant-loop-value l = record { so : l.into ≡ l.fn.into ++ flat_map value_bytes (take l.value-index l.values); fits : AllByRecursion SizeFits (take l.value-index l.values) }
