-- What a call on the space below leaves, said of what stands over it.
use Rattle.std.proofs.Common.{◌≡◌, ◌⊎◌, inl, inr, ⊎_elim, ℕ, Some, arith, ◌∙◌, subst}
use Rattle.tc_base.specs.Files.{Files}
use Rattle.tc_space.specs.Moments.{LeavesOnly, Steady}
use Rattle.tc_space.specs.Effects.{FollowsIn, Stays}
use Rattle.tc_space.specs.Frames.{Follows, Keeps}
use Rattle.tc_space.specs.declared.space.Space.{Ghosts}

module _ {B : Type 0} (s : Ghosts B) where
  pub keeps_stays : (a b : B) → Stays s.tells s.moment s.files_at s.left s.kept s.faults s.limit s.names a b → Keeps s a b
  keeps_stays a b stays = record { steady = stays.steady; same_limit = stays.follows.same_limit; same_names = stays.follows.same_names; later = stays.follows.later }

  pub follows_from : (a b : B) → FollowsIn s.faults s.limit s.names a b → Follows s a b
  follows_from a b f = record { later = f.later; same_limit = f.same_limit; same_names = f.same_names }

  pub follows_keeps : (a b : B) → Keeps s a b → Follows s a b
  follows_keeps a b keeps = record { later = keeps.later; same_limit = keeps.same_limit; same_names = keeps.same_names }

  pub keeps_follows : (a b c : B) → Keeps s a b → FollowsIn s.faults s.limit s.names b c → Follows s a c
  keeps_follows a b c keeps f = record { later = omega (arith, keeps.later, f.later); same_limit = f.same_limit ∙ keeps.same_limit; same_names = f.same_names ∙ keeps.same_names }

  -- a commit of files that were brought there first
  pub commits : (a b c : B) (files files' : Files) → ((f : ℕ) → files' f ≡ files f) → Steady s.moment s.files_at s.left s.kept a b → LeavesOnly s.moment s.left b c (λ o. (o ≡ s.kept b) ⊎ (o ≡ Some files')) → LeavesOnly s.moment s.left a c (λ o. (o ≡ s.kept a) ⊎ (o ≡ Some files))
  commits a b c files files' same first second =
      let whole = subst (λ (fs : Files). LeavesOnly s.moment s.left b c (λ o. (o ≡ s.kept b) ⊎ (o ≡ Some fs))) (λ i f. same f i) second in
      record {
        later = omega (arith, first.leaves.later, whole.later);
        each = λ t o le l. ⊎_elim
            (λ m. ⊎_elim (λ was. inl was) (λ is. inr (inl is)) (first.leaves.each t o le m))
            (λ p. inr (⊎_elim (λ is. inl (is ∙ first.same)) (λ is. inr is) p))
            (whole.each t o (omega (arith, le, first.leaves.later)) l);
      }

  -- nothing but bringing them there
  pub only_kept : (a b : B) (files : Files) → Steady s.moment s.files_at s.left s.kept a b → LeavesOnly s.moment s.left a b (λ o. (o ≡ s.kept a) ⊎ (o ≡ Some files))
  only_kept a b files st = record { later = st.leaves.later; each = λ t o le l. ⊎_elim (λ was. inl was) (λ is. inr (inl is)) (st.leaves.each t o le l) }
