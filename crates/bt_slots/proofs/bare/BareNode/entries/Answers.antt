use Rattle.std.proofs.Common.{◌∙◌, ap, ℕ, List}
use Rattle.bt_slots.specs.Reads.{number_in}
use Rattle.bt_slots.proofs.BareReads.{heir_is, entries_again}
use Rattle.bt_slots.proofs.bare.BareNode.entries.Goals as goal

pub returns : goal.returns
returns c = entries_again c.self.inside.bytes c.self.inside.count c.args.self.now c.self.view_is c.self.invariant _ (ap (λ (x : ℕ × List ℕ). x.1) (c.number.ensures ∙ ap number_in c.as_slice.ensures ∙ heir_is c.self.inside.bytes c.self.inside.count c.args.self.now c.self.view_is c.self.invariant))
