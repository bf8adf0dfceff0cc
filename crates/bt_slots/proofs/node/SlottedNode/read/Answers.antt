use Rattle.std.proofs.Common.{ℕ, List, subst, length}
use Rattle.bt_slots.specs.Reads.{node_in}
use Rattle.bt_slots.specs.Slots.{IsNodeIn}
use Rattle.bt_slots.proofs.NodePlaces.{kept_node, spells_node}
use Rattle.bt_slots.proofs.node.SlottedNode.read.Goals as goal

pub invariant_of-result : goal.invariant_of-result
invariant_of-result c =
    subst (λ (b : List ℕ). IsNodeIn b c.in_ok-starts.starts.items (node_in (length c.in_ok-starts.starts.items) b)) c.as_slice.ensures (kept_node c.as_slice.result.now c.in_ok-starts.starts.items c.in_ok-starts.ensures.found.0 c.in_ok-starts.ensures.found.1)

pub returns-clause-found : goal.returns-clause-found
returns-clause-found c = spells_node c.args.bytes c.in_ok-starts.starts.items _ (invariant_of-result c)
