-- What a turn does to copies.
use Rattle.std.proofs.Common.{◌≡◌, ◌∙◌, ℕ, List, [], refl, sym, ap, subst, arith, inl}
use Rattle.std.specs.Prelude.{Result}
use Rattle.tc_base.specs.Files.{Files}
use Rattle.tc_io.specs.Copies.{CopyMoments, Named}
use Rattle.tc_io.specs.Images.{Calls}
use Rattle.tc_io.specs.declared.wire.Entry.{Entry}
use Rattle.tc_space.specs.Frames.{OnlyReads, keeps_refl}
use Rattle.tc_space.specs.Moments.{steady_then}
use Rattle.tc_space.specs.declared.space.Space as space
use Rattle.ty_rounds.specs.Copying.{IsAmong, RoundCopies, OnlyCopies}
use Rattle.ty_rounds.specs.Turns.{CameToSends, TurnCopies}
use Rattle.ty_rounds.specs.declared.outcome.Outcome.{Outcome}
use Rattle.ty_rounds.specs.declared.outcome.TurnErr.{TurnErr}

moments_none : (kept : Files) (cs : Calls) → CopyMoments kept cs cs
moments_none kept cs = record { later = omega arith; each = λ t ims le some. inl some }

pub copies_none : (kept : Files) (labels : List (List ℕ)) (n : Named) → RoundCopies kept labels n n
copies_none kept labels n = record { told = refl; moments = λ l. moments_none kept (n.copies l); others = λ l none. refl }

module _ {S : Type 0} (s : space.Ghosts S) where
  -- none was made, and a turn that came to its sends has none to make
  pub none_copied : (result : Result Outcome TurnErr) (a a' : S) (labels : List (List ℕ)) (es : List Entry) → s.names a' ≡ s.names a → (CameToSends result es → labels ≡ []) → TurnCopies s result a a' labels es
  none_copied result a a' labels es same none = record {
    copies = λ t. subst (λ (n : Named). RoundCopies (s.now a') labels (s.names a) n) (sym same) (copies_none (s.now a') labels (s.names a));
    made = λ came t. record { each = λ l is. absurd (subst (λ (ls : List (List ℕ)). IsAmong l ls) (none came) is) };
  }

  pub reads_only : (a b : S) → OnlyReads s a b → OnlyCopies s a b
  reads_only a b r = record {
    steady = r.keeps.steady;
    files = r.files;
    told = ap (λ (n : Named). n.told) r.keeps.same_names;
    same_limit = r.keeps.same_limit;
    later = r.keeps.later;
    touched = r.untouched;
    sound = r.is_sound;
  }

  pub only_then : (a b c : S) → OnlyCopies s a b → OnlyCopies s b c → OnlyCopies s a c
  only_then a b c x y = record {
    steady = λ t. steady_then s.moment s.left s.files_at s.kept a b c (x.steady t) (y.steady t);
    files = λ t g. y.files t g ∙ x.files t g;
    told = y.told ∙ x.told;
    same_limit = y.same_limit ∙ x.same_limit;
    later = omega (arith, x.later, y.later);
    touched = y.touched ∙ x.touched;
    sound = y.sound;
  }

  pub only_none : (a : S) → s.sound a → OnlyCopies s a a
  only_none a sound = record { steady = (keeps_refl s a).steady; files = λ t g. refl; told = refl; same_limit = refl; later = omega arith; touched = refl; sound = sound }
