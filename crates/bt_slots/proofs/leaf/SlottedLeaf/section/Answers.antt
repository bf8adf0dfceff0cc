use Rattle.std.proofs.Common.{ℕ, List, ◌-◌, ◌∙◌, length, map, take, drop, ap, subst, sym, arith}
use Rattle.std.specs.List.{All}
use Rattle.bt_slots.specs.Changes.{shifted, MayShift}
use Rattle.bt_slots.proofs.Cuts.{section_ends, section_bytes, section_may, section_is_leaf}
use Rattle.bt_slots.proofs.Leaves.{kept_leaf, starts_within}
use Rattle.bt_slots.proofs.Places.{seen, starts_count}
use Rattle.bt_slots.proofs.ReadBack.{leaf_made}
use Rattle.bt_slots.proofs.leaf.SlottedLeaf.section.Goals as goal

pub between-items-requires-clause-order : goal.between-items-requires-clause-order
between-items-requires-clause-order c = (section_ends c.args.self.now c.args.from c.args.to _ _ c.requires.0 c.start-start.ensures c.start.ensures).0

pub between-items-requires-clause-inside : goal.between-items-requires-clause-inside
between-items-requires-clause-inside c =
    let h = seen c.self.inside.bytes c.self.inside.starts.items c.args.self.now c.self.view_is c.self.invariant in
    starts_within _ _ _ _ c.args.to _ h c.as_slice.ensures c.start.ensures

pub copied-requires-clause-inside : goal.copied-requires-clause-inside
copied-requires-clause-inside c =
    let h = seen c.self.inside.bytes c.self.inside.starts.items c.args.self.now c.self.view_is c.self.invariant in
    omega (arith, starts_count _ _ _ h, ap length c.as_slice-2.ensures.value, c.requires.1)

pub copied-requires-clause-may : goal.copied-requires-clause-may
copied-requires-clause-may c =
    let h = seen c.self.inside.bytes c.self.inside.starts.items c.args.self.now c.self.view_is c.self.invariant in
    let is = section_bytes c.args.self.now c.args.from c.args.to _ c.between-items.result.now _ _ c.requires.0 (c.as_slice.ensures ∙ h.is) c.start-start.ensures c.start.ensures c.between-items.ensures in
    subst (λ (xs : List ℕ). All (MayShift c.start-start.result (c.len.result - length c.between-items.result.now)) (take (c.args.to - c.args.from) (drop c.args.from xs))) (sym c.as_slice-2.ensures.value)
    (section_may c.args.self.now c.args.from c.args.to c.args.prev c.args.next _ _ _ c.in_ok-bytes.bytes h is c.in_ok-bytes.ensures c.start-start.result _ c.start-start.ensures (ap (λ (n : ℕ). n - length c.between-items.result.now) c.len.ensures) (omega (arith, c.len.ensures)))

pub invariant_of-result : goal.invariant_of-result
invariant_of-result c =
    let h = seen c.self.inside.bytes c.self.inside.starts.items c.args.self.now c.self.view_is c.self.invariant in
    let is = section_bytes c.args.self.now c.args.from c.args.to _ c.between-items.result.now _ _ c.requires.0 (c.as_slice.ensures ∙ h.is) c.start-start.ensures c.start.ensures c.between-items.ensures in
    kept_leaf _ _ _ (section_is_leaf c.args.self.now c.args.from c.args.to c.args.prev c.args.next _ _ _ c.in_ok-bytes.bytes h is c.in_ok-bytes.ensures c.start-start.result _ _ c.ranges.prev.fits c.ranges.next.fits c.start-start.ensures (ap (λ (n : ℕ). n - length c.between-items.result.now) c.len.ensures)
    (c.in_ok-starts.ensures ∙ ap (λ (xs : List ℕ). map (shifted c.start-start.result (c.len.result - length c.between-items.result.now)) (take (c.args.to - c.args.from) (drop c.args.from xs))) c.as_slice-2.ensures.value))

pub returns : goal.returns
returns c =
    let h = seen c.self.inside.bytes c.self.inside.starts.items c.args.self.now c.self.view_is c.self.invariant in
    let is = section_bytes c.args.self.now c.args.from c.args.to _ c.between-items.result.now _ _ c.requires.0 (c.as_slice.ensures ∙ h.is) c.start-start.ensures c.start.ensures c.between-items.ensures in
    leaf_made _ _ _ (section_is_leaf c.args.self.now c.args.from c.args.to c.args.prev c.args.next _ _ _ c.in_ok-bytes.bytes h is c.in_ok-bytes.ensures c.start-start.result _ _ c.ranges.prev.fits c.ranges.next.fits c.start-start.ensures (ap (λ (n : ℕ). n - length c.between-items.result.now) c.len.ensures)
    (c.in_ok-starts.ensures ∙ ap (λ (xs : List ℕ). map (shifted c.start-start.result (c.len.result - length c.between-items.result.now)) (take (c.args.to - c.args.from) (drop c.args.from xs))) c.as_slice-2.ensures.value))
