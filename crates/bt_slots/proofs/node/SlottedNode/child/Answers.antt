use Rattle.std.proofs.Common.{◌∙◌, ap, ℕ, List}
use Rattle.bt_slots.proofs.NodePlaces.{child_in}
use Rattle.bt_slots.proofs.node.SlottedNode.child.Goals as goal

pub returns : goal.returns
returns c = λ e is.
    ap (λ (x : ℕ × List ℕ). x.0) c.number.ensures ∙ child_in c.args.place c.args.self.now e c.from_entry.result.now _ c.from_entry.ensures.fits is (c.from_entry.ensures.is e is)
