use Rattle.std.proofs.Common.{◌≡◌, ◌++◌, take}
use Rattle.ty_wire.specs.Form.{items_bytes}
use Rattle.ty_wire.proofs.writing.spell_items.Given as goal

abbrev pub invariant-loop-item : goal.invariant-loop-item
invariant-loop-item l = l.into ≡ l.fn.into ++ items_bytes (take l.item-index l.items)
