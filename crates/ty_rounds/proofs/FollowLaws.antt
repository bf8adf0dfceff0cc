-- What is left of a space's frame where copies may have been made.
use Rattle.std.proofs.Common.{refl, ap, ◌∙◌, arith}
use Rattle.tc_io.specs.Copies.{Named}
use Rattle.tc_space.specs.Effects.{FollowsIn}
use Rattle.tc_space.specs.Frames.{Follows, Keeps, OnlyReads}
use Rattle.tc_space.specs.declared.space.Space as space
use Rattle.ty_rounds.specs.Copying.{OnlyCopies}
use Rattle.ty_rounds.specs.Following.{FollowsTold}

module _ {S : Type 0} (s : space.Ghosts S) where
  -- behind a settling, the records of a round and a commit
  pub keeps_follow : (a b d : S) → Keeps s a b → Keeps s b d → Follows s a d
  keeps_follow a b d k w = record { later = omega (arith, k.later, w.later); same_limit = w.same_limit ∙ k.same_limit; same_names = w.same_names ∙ k.same_names }

  pub commit_follows : (a b d e : S) → Keeps s a b → Keeps s b d → FollowsIn s.faults s.limit s.names d e → Follows s a e
  commit_follows a b d e k w f = record { later = omega (arith, k.later, w.later, f.later); same_limit = f.same_limit ∙ w.same_limit ∙ k.same_limit; same_names = f.same_names ∙ w.same_names ∙ k.same_names }

  pub told_refl : (a : S) → FollowsTold s a a
  told_refl a = record { later = omega arith; same_limit = refl; same_names = refl }

  pub told_then : (a b c : S) → FollowsTold s a b → FollowsTold s b c → FollowsTold s a c
  told_then a b c x y = record { later = omega (arith, x.later, y.later); same_limit = y.same_limit ∙ x.same_limit; same_names = y.same_names ∙ x.same_names }

  pub told_keeps : (a b : S) → Keeps s a b → FollowsTold s a b
  told_keeps a b k = record { later = k.later; same_limit = k.same_limit; same_names = ap (λ (n : Named). n.told) k.same_names }

  pub told_follows : (a b : S) → Follows s a b → FollowsTold s a b
  told_follows a b f = record { later = f.later; same_limit = f.same_limit; same_names = ap (λ (n : Named). n.told) f.same_names }

  pub told_copies : (a b : S) → OnlyCopies s a b → FollowsTold s a b
  told_copies a b c = record { later = c.later; same_limit = c.same_limit; same_names = c.told }

  -- behind a round, its commit, its copies and its sends
  pub told_kept : (a a1 a2 : S) → Keeps s a a1 → Follows s a1 a2 → FollowsTold s a a2
  told_kept a a1 a2 k f = told_then a a1 a2 (told_keeps a a1 k) (told_follows a1 a2 f)

  pub told_copied : (a a1 a2 ac : S) → Keeps s a a1 → Follows s a1 a2 → OnlyCopies s a2 ac → FollowsTold s a ac
  told_copied a a1 a2 ac k f c = told_then a a2 ac (told_kept a a1 a2 k f) (told_copies a2 ac c)

  pub told_all : (a a1 a2 ac a3 : S) → Keeps s a a1 → Follows s a1 a2 → OnlyCopies s a2 ac → OnlyReads s ac a3 → FollowsTold s a a3
  told_all a a1 a2 ac a3 k f c r = told_then a ac a3 (told_copied a a1 a2 ac k f c) (told_keeps ac a3 r.keeps)
