-- What is held in a space that was only read.
use Rattle.std.proofs.Common.{ℕ, List, sym, subst}
use Rattle.tc_model.specs.Arrays.{Array}
use Rattle.tc_space.specs.Frames.{OnlyReads}
use Rattle.tc_space.specs.Stores.{IsReady}
use Rattle.tc_space.specs.declared.space.Space.{Ghosts}
use Rattle.tc_fixed.specs.declared.fixed.Fixed.{Fixed}
use Rattle.tc_fixed.specs.Holding.{Holds, Means}

module _ {S : Type 0} (s : Ghosts S) (f : Fixed S) (a b : S) (reads : OnlyReads s a b) where
  pub means_after : (m : Array) → Means s f a m → Means s f b m
  means_after m means = (means.0, subst (λ (l : List ℕ). Holds f.width f.limit f.tally m l) (sym (reads.files means.0 0)) means.1)

  pub ready_after : IsReady s (Means s) f a → IsReady s (Means s) f b
  ready_after ready = record { sound = reads.is_sound; held = λ t. let h = ready.held t in (h.0, means_after h.0 h.1) }
