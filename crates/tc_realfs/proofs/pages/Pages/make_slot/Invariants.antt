use Rattle.std.proofs.Common.{ℕ, ◌+◌, ◌-◌, List, vec_len}
use Rattle.tc_realfs.specs.Paging.{Shows}
use Rattle.tc_realfs.proofs.pages.Pages.make_slot.Given as goal

abbrev pub invariant-loop-self : goal.invariant-loop-self
invariant-loop-self l = (file : List ℕ) → Shows l.initial.self file → Shows l.self file

abbrev pub decreases-loop-self : goal.decreases-loop-self
decreases-loop-self l = l.slot + 1 - vec_len l.self.slots
