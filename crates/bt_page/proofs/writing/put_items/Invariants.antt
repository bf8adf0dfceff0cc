use Rattle.std.proofs.Common.{◌≡◌, ◌++◌, take}
use Rattle.std.specs.List.{AllByRecursion, flat_map}
use Rattle.bt_page.specs.Pages.{item_bytes, ItemFits}
use Rattle.bt_page.proofs.writing.put_items.Given as goal

abbrev pub invariant-loop-item : goal.invariant-loop-item
invariant-loop-item l = record { so : l.into ≡ l.fn.into ++ flat_map item_bytes (take l.item-index l.items); fits : AllByRecursion ItemFits (take l.item-index l.items) }
