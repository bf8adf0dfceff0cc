use Rattle.std.proofs.Common.{ℕ, ◌+◌, List, [], length, ap, arith, refl, ◌∙◌}
use Rattle.bt_slots.proofs.Leaves.{kept_leaf, pieced, starts_within, less_may, less_is_leaf, less_row}
use Rattle.bt_slots.proofs.ReadBack.{leaf_made}
use Rattle.bt_slots.proofs.Places.{seen, starts_count}
use Rattle.bt_slots.proofs.leaf.SlottedLeaf.without_item.Goals as goal

pub without-requires-clause-from : goal.without-requires-clause-from
without-requires-clause-from c =
    let h = seen c.self.inside.bytes c.self.inside.starts.items c.args.self c.self.view_is c.self.invariant in
    starts_within _ _ _ _ c.args.place _ h c.as_slice.ensures c.start-to.ensures

pub without-requires-clause-to : goal.without-requires-clause-to
without-requires-clause-to c =
    let h = seen c.self.inside.bytes c.self.inside.starts.items c.args.self c.self.view_is c.self.invariant in
    starts_within _ _ _ _ (c.args.place + 1) _ h c.as_slice.ensures c.end-from.ensures

pub removed-starts-requires-clause-inside : goal.removed-starts-requires-clause-inside
removed-starts-requires-clause-inside c = omega (arith, starts_count _ _ _ (seen c.self.inside.bytes c.self.inside.starts.items c.args.self c.self.view_is c.self.invariant), c.requires)

pub removed-starts-requires-clause-may : goal.removed-starts-requires-clause-may
removed-starts-requires-clause-may c =
    let h = seen c.self.inside.bytes c.self.inside.starts.items c.args.self c.self.view_is c.self.invariant in
    let is = pieced c.args.self c.args.place (c.args.place + 1) [] _ c.as_slice.result.now _ c.in_ok-bytes.bytes _ _ h.is c.as_slice.ensures c.start-to.ensures c.end-from.ensures refl c.in_ok-bytes.ensures.bytes in
    less_may c.args.self c.args.place _ _ _ h is c.end-from.result c.start-to.result c.end-from.ensures c.start-to.ensures (omega (arith, ap (λ (l : List ℕ). length l) c.as_slice.ensures, c.in_ok-bytes.ensures.size))

pub invariant_of-result : goal.invariant_of-result
invariant_of-result c =
    let h = seen c.self.inside.bytes c.self.inside.starts.items c.args.self c.self.view_is c.self.invariant in
    let is = pieced c.args.self c.args.place (c.args.place + 1) [] _ c.as_slice.result.now _ c.in_ok-bytes.bytes _ _ h.is c.as_slice.ensures c.start-to.ensures c.end-from.ensures refl c.in_ok-bytes.ensures.bytes in
    kept_leaf _ _ _ (less_is_leaf c.args.self c.args.place _ _ _ h is c.end-from.result c.start-to.result _ c.end-from.ensures c.start-to.ensures c.removed-starts.ensures)

pub returns : goal.returns
returns c =
    let h = seen c.self.inside.bytes c.self.inside.starts.items c.args.self c.self.view_is c.self.invariant in
    let is = pieced c.args.self c.args.place (c.args.place + 1) [] _ c.as_slice.result.now _ c.in_ok-bytes.bytes _ _ h.is c.as_slice.ensures c.start-to.ensures c.end-from.ensures refl c.in_ok-bytes.ensures.bytes in
    leaf_made _ _ _ (less_is_leaf c.args.self c.args.place _ _ _ h is c.end-from.result c.start-to.result _ c.end-from.ensures c.start-to.ensures c.removed-starts.ensures) ∙ less_row c.args.self c.args.place
