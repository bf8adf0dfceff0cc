use Rattle.std.proofs.Common.{◌∙◌, ap, ℕ, List}
use Rattle.bt_slots.specs.Reads.{number_in, second_in}
use Rattle.bt_slots.proofs.BareReads.{links_are, items_again}
use Rattle.bt_slots.proofs.bare.BareLeaf.items.Goals as goal

pub returns-clause-bytes : goal.returns-clause-bytes
returns-clause-bytes c =
    let second = c.number-2.ensures ∙ ap (λ (x : ℕ × List ℕ). number_in x.1) c.number.ensures ∙ ap second_in c.as_slice.ensures in
    ap (λ (x : ℕ × List ℕ). x.1) (second ∙ (links_are c.self.inside.bytes c.self.inside.count c.args.self.now c.self.view_is c.self.invariant).1)

pub returns-clause-read : goal.returns-clause-read
returns-clause-read c = items_again c.self.inside.bytes c.self.inside.count c.args.self.now c.self.view_is c.self.invariant _ (returns-clause-bytes c)
