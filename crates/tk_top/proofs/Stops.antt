-- What a stop leaves of a command, from a space to its volume.
use Rattle.std.proofs.Common.{◌≡◌, inl, inr, ⊎_elim, ℕ, List, length, sym, subst}
use Rattle.std.specs.Prelude.{Option}
use Rattle.tc_base.specs.Files.{Files}
use Rattle.tc_io.specs.Images.{Calls, now, Images, ImagesSince}
use Rattle.tc_io.specs.declared.volume.Volume as volume
use Rattle.tc_space.specs.declared.space.Space as space
use Rattle.ud_log.specs.Undo.{recovered}
use Rattle.ud_state.specs.State.{IsSettled}
use Rattle.tc_model.specs.Contents.{Contents}
use Rattle.ty_world.specs.World.{Mark}
use Rattle.ty_rounds.specs.Kept.{Reopens}
use Rattle.tk_top.specs.Naming.{LeavesOpening, OpensOver}
use Rattle.tk_top.specs.Over.{IsOver}
use Rattle.tk_top.specs.Stops.{StopsAt, StopsOver}
use Rattle.tk_top.proofs.Kept.{moved}

-- a space is closed to this volume: what a stop leaves of its calls, it leaves of the space
pub record Closes {S V : Type 0} (s : space.Ghosts S) (v : volume.Ghosts V) (t : S) (w : V) : Type 0 where
  pub exit : (ims : Files) → Images (v.calls w) ims → s.left t (s.moment t) (recovered ims)
  pub leaves : (n : ℕ) (ims : Files) → ImagesSince (v.calls w) n ims → s.left t n (recovered ims)
  pub names : v.names w ≡ s.names t

pub closes : {S V : Type 0} (s : space.Ghosts S) (v : volume.Ghosts V) (under : S → V) (t : S) (w : V) → w ≡ under t → IsOver s.tells v.tells (s.sound t) (v.calls (under t)) (s.touched t) (s.moment t) (s.left t) (s.now t) (s.names t) (v.names (under t)) (s.faults t) (v.faults (under t)) → Closes s v t w
closes s v under t w is over = subst (λ z. Closes s v t z) (sym is) (record { exit = over.exit; leaves = over.leaves; names = sym over.names_are })

-- at the exit
pub exit_left : {S V : Type 0} {s : space.Ghosts S} {v : volume.Ghosts V} {t : S} {w : V} → Closes s v t w → (ims : Files) → Images (v.calls w) ims → s.left t (s.moment t) (recovered ims)
exit_left closed ims are = closed.exit ims are

module _ (reopens : Files → Contents → Type 0) (exits : Option Files → Type 0) (early : Type 0) (marks : List Mark) where
  -- the run never came to an open space
  pub stops_unopened : (old new : Calls) (first : Mark) → early → LeavesOpening old new → Reopens reopens (recovered (now old)) first → ((o : Option Files) → Reopens reopens o first → exits o) → StopsAt reopens exits early marks old new
  stops_unopened old new first soon l k leaves = record {
    exit = λ ims are. ⊎_elim (λ is. inl (leaves (recovered ims) (moved k is))) (λ x. inr (soon, x.0, x.1)) (l.exit ims are);
    moments = λ ims some. inr (l.moments ims some);
  }

  -- the run went on over one
  pub stops_run : {S V : Type 0} {s : space.Ghosts S} {v : volume.Ghosts V} {most : ℕ} {old : Calls} {a t : S} {w : V} → OpensOver s most old a → Closes s v t w → IsSettled old → StopsOver s reopens exits marks a t → StopsAt reopens exits early marks old (v.calls w)
  stops_run {S} {V} {s} {v} {most} {old} {a} {t} {w} o closed settled run = record {
    exit = λ ims are. inl (run.exit (recovered ims) (exit_left closed ims are));
    moments = λ ims some. ⊎_elim
        (λ was. inr (o.moments settled (recovered ims) was))
        (λ m. inl m)
        (run.moments.leaves.each (length old) (recovered ims) o.later (closed.leaves (length old) ims some));
  }
