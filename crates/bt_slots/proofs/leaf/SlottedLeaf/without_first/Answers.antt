use Rattle.std.proofs.Common.{◌+◌, drop}
use Rattle.bt_slots.proofs.Changes.{has_item, shorter_item}
use Rattle.bt_slots.proofs.Leaves.{starts_within}
use Rattle.bt_slots.proofs.Places.{item_fits, seen, some_at}
use Rattle.bt_slots.proofs.leaf.SlottedLeaf.without_first.Goals as goal

pub with_item-requires-clause-from : goal.with_item-requires-clause-from
with_item-requires-clause-from c =
    let h = seen c.self.inside.bytes c.self.inside.starts.items c.args.self c.self.view_is c.self.invariant in
    starts_within _ _ _ _ c.args.place _ h c.as_slice.ensures c.start.ensures

pub with_item-requires-clause-to : goal.with_item-requires-clause-to
with_item-requires-clause-to c =
    let h = seen c.self.inside.bytes c.self.inside.starts.items c.args.self c.self.view_is c.self.invariant in
    starts_within _ _ _ _ (c.args.place + 1) _ h c.as_slice.ensures c.end.ensures

pub changed-requires-clause-is : goal.changed-requires-clause-is
changed-requires-clause-is c =
    let h = seen c.self.inside.bytes c.self.inside.starts.items c.args.self c.self.view_is c.self.invariant in
    let x = some_at c.args.self.items c.args.place c.requires.inside in (
      record { key = x.0.key; values = drop 1 x.0.values },
      has_item c.args.self c.args.place _ _ _ _ _ _ _ c.as_slice.result.now _ _ _ h c.requires.inside
          (shorter_item x.0 _ _ _ _ (item_fits _ _ _ h _ _ x.1) (c.requires.more x.0 x.1) (c.without_first-parts.ensures x.0 (item_fits _ _ _ h _ _ x.1) (c.requires.more x.0 x.1) (c.parts.ensures.are x.0 x.1)))
          c.as_slice.ensures c.start.ensures c.end.ensures c.in_ok-bytes.ensures.bytes,
    )

pub returns : goal.returns
returns c = λ x at.
    let h = seen c.self.inside.bytes c.self.inside.starts.items c.args.self c.self.view_is c.self.invariant in
    c.changed.ensures (record { key = x.key; values = drop 1 x.values }) (has_item c.args.self c.args.place _ _ _ _ _ _ _ c.as_slice.result.now _ _ _ h c.requires.inside
    (shorter_item x _ _ _ _ (item_fits _ _ _ h _ _ at) (c.requires.more x at) (c.without_first-parts.ensures x (item_fits _ _ _ h _ _ at) (c.requires.more x at) (c.parts.ensures.are x at)))
    c.as_slice.ensures c.start.ensures c.end.ensures c.in_ok-bytes.ensures.bytes)
