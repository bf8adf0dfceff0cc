use Rattle.std.proofs.Common.{refl}
use Rattle.bt_slots.proofs.Changes.{value_behind}
use Rattle.bt_slots.proofs.building.put_with_value.Goals as goal

pub returns-clause-bytes : goal.returns-clause-bytes
returns-clause-bytes c = value_behind c.args.into.now _ _ c.append.new.self c.args.parts.key.now c.args.parts.first.now c.args.parts.further.now c.args.value.now c.args.parts.more _ c.in_ok-put_parts.ensures c.in_ok-put_vnum.ensures.ok c.in_ok-append.ensures.ok refl
