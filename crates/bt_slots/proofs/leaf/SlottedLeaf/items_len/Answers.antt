use Rattle.std.proofs.Common.{◌∙◌, ap, ℕ, List, length}
use Rattle.bt_slots.specs.Reads.{number_in, second_in}
use Rattle.bt_slots.proofs.Places.{seen, links_are}
use Rattle.bt_slots.proofs.leaf.SlottedLeaf.items_len.Goals as goal

pub returns : goal.returns
returns c =
    let h = seen c.self.inside.bytes c.self.inside.starts.items c.args.self.now c.self.view_is c.self.invariant in
    let second = c.number-2.ensures ∙ ap (λ (x : ℕ × List ℕ). number_in x.1) c.number.ensures ∙ ap second_in c.as_slice.ensures in
    ap (λ (x : ℕ × List ℕ). length x.1) (second ∙ (links_are c.self.inside.bytes c.self.inside.starts.items c.args.self.now h).1)
