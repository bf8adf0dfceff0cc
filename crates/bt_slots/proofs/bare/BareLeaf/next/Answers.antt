use Rattle.std.proofs.Common.{◌∙◌, ap, ℕ, List}
use Rattle.bt_slots.specs.Reads.{number_in, second_in}
use Rattle.bt_slots.proofs.BareReads.{links_are}
use Rattle.bt_slots.proofs.bare.BareLeaf.next.Goals as goal

pub returns : goal.returns
returns c =
    let second = c.number-2.ensures ∙ ap (λ (x : ℕ × List ℕ). number_in x.1) c.number.ensures ∙ ap second_in c.as_slice.ensures in
    ap (λ (x : ℕ × List ℕ). x.0) (second ∙ (links_are c.self.inside.bytes c.self.inside.count c.args.self.now c.self.view_is c.self.invariant).1)
