use Rattle.std.proofs.Common.{ℕ, ◌-◌, length, ap, arith}
use Rattle.bt_slots.proofs.NodeChanges.{section_order, section_may, section_is_node}
use Rattle.bt_slots.proofs.NodePlaces.{seen_node, kept_node, entries_count}
use Rattle.bt_slots.proofs.ReadBack.{node_made}
use Rattle.bt_slots.proofs.node.SlottedNode.section.Goals as goal

pub between-entries-requires-clause-order : goal.between-entries-requires-clause-order
between-entries-requires-clause-order c =
    let h = seen_node c.self.inside.bytes c.self.inside.starts.items c.args.self.now c.self.view_is c.self.invariant in
    (section_order c.args.self.now c.args.from c.args.to c.args.heir _ _ _ _ _ c.requires.0 h c.as_slice.ensures c.start-start.ensures c.start.ensures).0

pub between-entries-requires-clause-inside : goal.between-entries-requires-clause-inside
between-entries-requires-clause-inside c =
    let h = seen_node c.self.inside.bytes c.self.inside.starts.items c.args.self.now c.self.view_is c.self.invariant in
    (section_order c.args.self.now c.args.from c.args.to c.args.heir _ _ _ _ _ c.requires.0 h c.as_slice.ensures c.start-start.ensures c.start.ensures).1

pub copied-requires-clause-inside : goal.copied-requires-clause-inside
copied-requires-clause-inside c =
    let h = seen_node c.self.inside.bytes c.self.inside.starts.items c.args.self.now c.self.view_is c.self.invariant in
    omega (arith, entries_count _ _ _ h, ap length c.as_slice-2.ensures.value, c.requires.1)

pub copied-requires-clause-may : goal.copied-requires-clause-may
copied-requires-clause-may c =
    let h = seen_node c.self.inside.bytes c.self.inside.starts.items c.args.self.now c.self.view_is c.self.invariant in
    section_may c.args.self.now c.args.from c.args.to c.args.heir _ _ _ _ _ c.requires.0 h c.as_slice.ensures c.start-start.ensures c.start.ensures _ _ c.between-entries.ensures c.in_ok-bytes.ensures
    _ c.as_slice-2.result.now c.as_slice-2.ensures.value (ap (λ (n : ℕ). n - length c.between-entries.result.now) c.len.ensures) (omega (arith, c.len.ensures))

pub invariant_of-result : goal.invariant_of-result
invariant_of-result c =
    let h = seen_node c.self.inside.bytes c.self.inside.starts.items c.args.self.now c.self.view_is c.self.invariant in
    kept_node _ _ _ (section_is_node c.args.self.now c.args.from c.args.to c.args.heir _ _ _ _ _ c.requires.0 h c.as_slice.ensures c.start-start.ensures c.start.ensures _ _ c.between-entries.ensures c.in_ok-bytes.ensures
    _ _ _ c.as_slice-2.ensures.value c.ranges.heir.fits (ap (λ (n : ℕ). n - length c.between-entries.result.now) c.len.ensures) c.in_ok-starts.ensures)

pub returns : goal.returns
returns c =
    let h = seen_node c.self.inside.bytes c.self.inside.starts.items c.args.self.now c.self.view_is c.self.invariant in
    node_made _ _ _ (section_is_node c.args.self.now c.args.from c.args.to c.args.heir _ _ _ _ _ c.requires.0 h c.as_slice.ensures c.start-start.ensures c.start.ensures _ _ c.between-entries.ensures c.in_ok-bytes.ensures
    _ _ _ c.as_slice-2.ensures.value c.ranges.heir.fits (ap (λ (n : ℕ). n - length c.between-entries.result.now) c.len.ensures) c.in_ok-starts.ensures)
