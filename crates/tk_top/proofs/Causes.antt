-- Causes, over several calls.
use Rattle.std.proofs.Common.{◌≡◌, ◌≤◌, ⊎_elim, ℕ, refl, ap, arith}
use Rattle.tc_io.specs.Causes.{Rose}
use Rattle.tc_io.specs.Copies.{Named}
use Rattle.tc_space.specs.Frames.{Follows}
use Rattle.tc_space.specs.declared.space.Space as space
use Rattle.ty_base.specs.declared.errors.AnyErr.{AnyErr}
use Rattle.ty_base.specs.declared.errors.AnyErr.TheVariants as any
use Rattle.ty_rounds.specs.Following.{FollowsTold}
use Rattle.ty_rounds.specs.declared.outcome.TurnErr.{TurnErr}
use Rattle.ty_rounds.specs.declared.outcome.TurnErr.TheVariants as turn
use Rattle.tk_top.specs.declared.ends.End.{End}
use Rattle.tk_top.specs.declared.ends.End.TheVariants.{Done, Words, Refused, VolumeFault, Broken, NoMemory, Full, WireFault, TurnsSpent}
use Rattle.tk_top.specs.Ends.{IsEnd, end_of, end_of_turn}
use Rattle.tk_top.specs.Causes.{Caused}
use Rattle.tk_top.specs.Over.{IsOut}

pub is_end_turn : (e : TurnErr) → IsEnd (end_of_turn e)
is_end_turn turn.Volume = tt
is_end_turn turn.Full = tt
is_end_turn turn.Wire = tt
is_end_turn turn.Memory = tt

pub not_out : (e : TurnErr) → IsOut (end_of_turn e) → ⊥
not_out turn.Volume out = ⊎_elim (λ is. cc) (λ is. cc) out
not_out turn.Full out = ⊎_elim (λ is. cc) (λ is. cc) out
not_out turn.Wire out = ⊎_elim (λ is. cc) (λ is. cc) out
not_out turn.Memory out = ⊎_elim (λ is. cc) (λ is. cc) out

pub full_turn : (e : TurnErr) → end_of_turn e ≡ Full → e ≡ turn.Full
full_turn turn.Volume is = absurd cc
full_turn turn.Full is = refl
full_turn turn.Wire is = absurd cc
full_turn turn.Memory is = absurd cc

pub caused_turn : (e : TurnErr) (v0 v v' w0 w w' : ℕ) → v0 ≤ v → w0 ≤ w → (e ≡ turn.Volume → Rose v v') → (e ≡ turn.Wire → Rose w w') → Caused (end_of_turn e) v0 v' w0 w'
caused_turn turn.Volume v0 v v' w0 w w' le le' volume wire = let r = volume refl in omega (arith, le, r)
caused_turn turn.Full v0 v v' w0 w w' le le' volume wire = tt
caused_turn turn.Wire v0 v v' w0 w w' le le' volume wire = let r = wire refl in omega (arith, le', r)
caused_turn turn.Memory v0 v v' w0 w w' le le' volume wire = tt

-- of an opening
pub caused_open : (e : AnyErr) (v v' w : ℕ) → (e ≡ any.Fault → Rose v v') → Caused (end_of e) v v' w w
caused_open (any.Broken file rule) v v' w fault = tt
caused_open any.Full v v' w fault = tt
caused_open any.Fault v v' w fault = fault refl
caused_open any.Memory v v' w fault = tt

-- without copies
pub told_follows : {S : Type 0} (s : space.Ghosts S) (a b : S) → Follows s a b → FollowsTold s a b
told_follows s a b f = record { later = f.later; same_limit = f.same_limit; same_names = ap (λ (n : Named). n.told) f.same_names }

-- the first call was made before
pub caused_later : (end : End) (v0 v v' w0 w w' : ℕ) → v0 ≤ v → w0 ≤ w → Caused end v v' w w' → Caused end v0 v' w0 w'
caused_later Done v0 v v' w0 w w' le le' c = tt
caused_later Words v0 v v' w0 w w' le le' c = tt
caused_later Refused v0 v v' w0 w w' le le' c = tt
caused_later VolumeFault v0 v v' w0 w w' le le' c = omega (arith, le, c)
caused_later (Broken file rule) v0 v v' w0 w w' le le' c = tt
caused_later NoMemory v0 v v' w0 w w' le le' c = tt
caused_later Full v0 v v' w0 w w' le le' c = tt
caused_later WireFault v0 v v' w0 w w' le le' c = omega (arith, le', c)
caused_later TurnsSpent v0 v v' w0 w w' le le' c = tt
