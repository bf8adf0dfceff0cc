use Rattle.std.proofs.Common.{◌∷◌, [], arith}
use Rattle.bt_slots.proofs.Changes.{new_item, parts_row}
use Rattle.bt_slots.proofs.Leaves.{kept_leaf, pieced, starts_within, more_within, more_may, more_is_leaf}
use Rattle.bt_slots.proofs.ReadBack.{leaf_made}
use Rattle.bt_slots.proofs.Places.{seen, starts_count}
use Rattle.bt_slots.proofs.leaf.SlottedLeaf.with_item_within.Goals as goal

pub with_item-requires-clause-from : goal.with_item-requires-clause-from
with_item-requires-clause-from c =
    let h = seen c.self.inside.bytes c.self.inside.starts.items c.args.self c.self.view_is c.self.invariant in
    starts_within _ _ _ _ c.args.place _ h c.as_slice.ensures c.start-from.ensures

pub with_item-requires-clause-to : goal.with_item-requires-clause-to
with_item-requires-clause-to c =
    let h = seen c.self.inside.bytes c.self.inside.starts.items c.args.self c.self.view_is c.self.invariant in
    starts_within _ _ _ _ c.args.place _ h c.as_slice.ensures c.start-from.ensures

pub overflow_sub-to : goal.overflow_sub-to
overflow_sub-to c =
    let h = seen c.self.inside.bytes c.self.inside.starts.items c.args.self c.self.view_is c.self.invariant in
    let is = pieced c.args.self c.args.place c.args.place (record { key = c.args.key.now; values = c.args.value.now ∷ [] } ∷ []) _ c.as_slice.result.now _ c.in_ok-bytes.bytes _ _ h.is c.as_slice.ensures c.start-from.ensures c.start-from.ensures (parts_row _ _ _ _ _ (new_item _ _ c.in_ok-bytes.ensures.key c.in_ok-bytes.ensures.first).parts) c.in_ok-bytes.ensures.bytes in
    omega (arith, c.len-2.ensures, (more_within c.args.self c.args.place _ _ _ _ h (new_item _ _ c.in_ok-bytes.ensures.key c.in_ok-bytes.ensures.first).fits is c.start-from.result c.start-from.ensures).0)

pub overflow_sub-to-2 : goal.overflow_sub-to-2
overflow_sub-to-2 c =
    let h = seen c.self.inside.bytes c.self.inside.starts.items c.args.self c.self.view_is c.self.invariant in
    let is = pieced c.args.self c.args.place c.args.place (record { key = c.args.key.now; values = c.args.value.now ∷ [] } ∷ []) _ c.as_slice.result.now _ c.in_ok-bytes.bytes _ _ h.is c.as_slice.ensures c.start-from.ensures c.start-from.ensures (parts_row _ _ _ _ _ (new_item _ _ c.in_ok-bytes.ensures.key c.in_ok-bytes.ensures.first).parts) c.in_ok-bytes.ensures.bytes in
    omega (arith, c.len.ensures, c.len-2.ensures, (more_within c.args.self c.args.place _ _ _ _ h (new_item _ _ c.in_ok-bytes.ensures.key c.in_ok-bytes.ensures.first).fits is c.start-from.result c.start-from.ensures).1)

pub inserted-requires-clause-inside : goal.inserted-requires-clause-inside
inserted-requires-clause-inside c = omega (arith, starts_count _ _ _ (seen c.self.inside.bytes c.self.inside.starts.items c.args.self c.self.view_is c.self.invariant), c.requires)

pub inserted-requires-clause-may : goal.inserted-requires-clause-may
inserted-requires-clause-may c =
    let h = seen c.self.inside.bytes c.self.inside.starts.items c.args.self c.self.view_is c.self.invariant in
    let is = pieced c.args.self c.args.place c.args.place (record { key = c.args.key.now; values = c.args.value.now ∷ [] } ∷ []) _ c.as_slice.result.now _ c.in_ok-bytes.bytes _ _ h.is c.as_slice.ensures c.start-from.ensures c.start-from.ensures (parts_row _ _ _ _ _ (new_item _ _ c.in_ok-bytes.ensures.key c.in_ok-bytes.ensures.first).parts) c.in_ok-bytes.ensures.bytes in
    more_may c.args.self c.args.place _ _ _ _ h (new_item _ _ c.in_ok-bytes.ensures.key c.in_ok-bytes.ensures.first).fits is c.start-from.result _ c.start-from.ensures (omega (arith, c.len.ensures, c.len-2.ensures)) (omega (arith, c.len.ensures))

pub invariant_of-result : goal.invariant_of-result
invariant_of-result c =
    let h = seen c.self.inside.bytes c.self.inside.starts.items c.args.self c.self.view_is c.self.invariant in
    let is = pieced c.args.self c.args.place c.args.place (record { key = c.args.key.now; values = c.args.value.now ∷ [] } ∷ []) _ c.as_slice.result.now _ c.in_ok-bytes.bytes _ _ h.is c.as_slice.ensures c.start-from.ensures c.start-from.ensures (parts_row _ _ _ _ _ (new_item _ _ c.in_ok-bytes.ensures.key c.in_ok-bytes.ensures.first).parts) c.in_ok-bytes.ensures.bytes in
    kept_leaf _ _ _ (more_is_leaf c.args.self c.args.place _ _ _ _ h (new_item _ _ c.in_ok-bytes.ensures.key c.in_ok-bytes.ensures.first).fits is c.start-from.result _ _ c.start-from.ensures (omega (arith, c.len.ensures, c.len-2.ensures)) c.in_ok-starts.ensures)

pub returns : goal.returns
returns c =
    let h = seen c.self.inside.bytes c.self.inside.starts.items c.args.self c.self.view_is c.self.invariant in
    let is = pieced c.args.self c.args.place c.args.place (record { key = c.args.key.now; values = c.args.value.now ∷ [] } ∷ []) _ c.as_slice.result.now _ c.in_ok-bytes.bytes _ _ h.is c.as_slice.ensures c.start-from.ensures c.start-from.ensures (parts_row _ _ _ _ _ (new_item _ _ c.in_ok-bytes.ensures.key c.in_ok-bytes.ensures.first).parts) c.in_ok-bytes.ensures.bytes in
    leaf_made _ _ _ (more_is_leaf c.args.self c.args.place _ _ _ _ h (new_item _ _ c.in_ok-bytes.ensures.key c.in_ok-bytes.ensures.first).fits is c.start-from.result _ _ c.start-from.ensures (omega (arith, c.len.ensures, c.len-2.ensures)) c.in_ok-starts.ensures)
