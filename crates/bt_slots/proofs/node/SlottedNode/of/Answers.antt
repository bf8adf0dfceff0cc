use Rattle.std.proofs.Common.{◌∙◌, ◌++◌, ℕ, List, ap}
use Rattle.bt_page.specs.Pages.{node_bytes}
use Rattle.bt_slots.proofs.NodePlaces.{node_again}
use Rattle.bt_slots.proofs.node.SlottedNode.of.Goals as goal

pub returns-in-Ok : goal.returns-in-Ok
returns-in-Ok c =
    node_again c.write_node.new.into c.args.node.now c.in-Ok.node c.in_ok-write_node.ensures.fits (c.in_ok-write_node.ensures.ok ∙ ap (λ (l : List ℕ). l ++ node_bytes c.args.node.now) c.new-bytes.ensures) c.in-Ok.ensures.found
