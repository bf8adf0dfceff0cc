use Rattle.std.proofs.Common.{◌+◌, ◌∙◌}
use Rattle.std.specs.Prelude.{option_map}
use Rattle.bt_slots.specs.Lying.{values_with_nth}
use Rattle.bt_slots.proofs.Changes.{has_item}
use Rattle.bt_slots.proofs.Leaves.{starts_within}
use Rattle.bt_slots.proofs.Places.{item_fits, seen, some_at}
use Rattle.bt_slots.proofs.Spans.{nth_item}
use Rattle.bt_slots.proofs.leaf.SlottedLeaf.with_further_at.Goals as goal

pub with_item-requires-clause-from : goal.with_item-requires-clause-from
with_item-requires-clause-from c =
    let h = seen c.self.inside.bytes c.self.inside.starts.items c.args.self c.self.view_is c.self.invariant in
    starts_within _ _ _ _ c.args.place _ h c.as_slice-2.ensures c.start.ensures

pub with_item-requires-clause-to : goal.with_item-requires-clause-to
with_item-requires-clause-to c =
    let h = seen c.self.inside.bytes c.self.inside.starts.items c.args.self c.self.view_is c.self.invariant in
    starts_within _ _ _ _ (c.args.place + 1) _ h c.as_slice-2.ensures c.end.ensures

pub changed-requires-clause-is : goal.changed-requires-clause-is
changed-requires-clause-is c =
    let h = seen c.self.inside.bytes c.self.inside.starts.items c.args.self c.self.view_is c.self.invariant in
    let x = some_at c.args.self.items c.args.place c.requires.inside in (
      record { key = x.0.key; values = values_with_nth (c.args.n + 1) (option_map (λ v. v.now) c.args.value) x.0.values },
      has_item c.args.self c.args.place _ _ _ _ _ _ _ c.as_slice-2.result.now _ _ _ h c.requires.inside
          (nth_item x.0 _ _ _ _ _ _ _ _ _ (option_map (λ v. v.now) c.args.value) (item_fits _ _ _ h _ _ x.1) (c.parts-parts.ensures.are x.0 x.1) (c.requires.there x.0 x.1) c.span_of-from.ensures.span c.in_ok-further.ensures.size c.more_with.ensures (c.as_slice.ensures ∙ c.in_ok-further.ensures.is))
          c.as_slice-2.ensures c.start.ensures c.end.ensures c.in_ok-bytes.ensures.bytes,
    )

pub returns : goal.returns
returns c = λ x at.
    let h = seen c.self.inside.bytes c.self.inside.starts.items c.args.self c.self.view_is c.self.invariant in
    c.changed.ensures (record { key = x.key; values = values_with_nth (c.args.n + 1) (option_map (λ v. v.now) c.args.value) x.values }) (has_item c.args.self c.args.place _ _ _ _ _ _ _ c.as_slice-2.result.now _ _ _ h c.requires.inside
    (nth_item x _ _ _ _ _ _ _ _ _ (option_map (λ v. v.now) c.args.value) (item_fits _ _ _ h _ _ at) (c.parts-parts.ensures.are x at) (c.requires.there x at) c.span_of-from.ensures.span c.in_ok-further.ensures.size c.more_with.ensures (c.as_slice.ensures ∙ c.in_ok-further.ensures.is))
    c.as_slice-2.ensures c.start.ensures c.end.ensures c.in_ok-bytes.ensures.bytes)
