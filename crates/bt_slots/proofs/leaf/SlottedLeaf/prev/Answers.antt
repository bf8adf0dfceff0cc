use Rattle.std.proofs.Common.{◌∙◌, ap, ℕ, List}
use Rattle.bt_slots.specs.Reads.{number_in}
use Rattle.bt_slots.proofs.Places.{seen, links_are}
use Rattle.bt_slots.proofs.leaf.SlottedLeaf.prev.Goals as goal

pub returns : goal.returns
returns c =
    let h = seen c.self.inside.bytes c.self.inside.starts.items c.args.self.now c.self.view_is c.self.invariant in
    ap (λ (x : ℕ × List ℕ). x.0) (c.number.ensures ∙ ap number_in c.as_slice.ensures) ∙ (links_are c.self.inside.bytes c.self.inside.starts.items c.args.self.now h).0
