-- What a stop left is a volume to begin from, and when it is settled.
use Rattle.std.specs.Prelude.{◌≡◌, ℕ, ◌≤◌, List, [], ◌∷◌, length, Option, None}
use Rattle.tc_base.specs.Files.{Files}
use Rattle.tc_io.specs.Images.{Calls, of, now, Image, Images, ImagesSince}
use Rattle.ud_log.specs.Undo.{recovered}
use Rattle.ud_state.specs.Recovery.{StaysSettled}
use Rattle.ud_state.specs.Since.{Left, Since}
use Rattle.ud_state.specs.State.{IsSettled}

-- a volume that begins with these files, all of them on the disk
pub record BeginsWith (cs : Calls) (files : Files) : Type 0 where
  pub reads : (f : ℕ) → now cs f ≡ files f
  pub only : (f : ℕ) (i : List ℕ) → Image (of f cs) i → i ≡ files f

-- after a stop of a settled volume, one that begins with what the stop left is settled, and is recovered to what that is recovered to
abbrev pub RunsAgain : Type 0
RunsAgain = (stopped next : Calls) (left : Files) → IsSettled stopped → Images stopped left → BeginsWith next left → IsSettled next × (recovered (now next) ≡ recovered left)

-- Q holds at each moment since one
abbrev pub AtEach : (Calls → Type 0) → Calls → ℕ → Type 0
AtEach Q [] t = Q []
AtEach Q (c ∷ cs) t = Q (c ∷ cs) × (t ≤ length cs → AtEach Q cs t)

-- where no stop since a moment leaves files that can't be recovered, the volume is settled at each moment since
abbrev pub LeftIsSettled : Type 0
LeftIsSettled = (cs : Calls) (t : ℕ) → (Left cs t None → ⊥) → AtEach IsSettled cs t

-- what an image since a moment is recovered to is left since then
abbrev pub ImagesAreLeft : Type 0
ImagesAreLeft = (cs : Calls) (t : ℕ) (ims : Files) → ImagesSince cs t ims → Left cs t (recovered ims)

-- what is left since recovery began is what some image of then is recovered to
abbrev pub LeftLeads : Type 0
LeftLeads = (old new : Calls) (o : Option Files) → IsSettled old → Since (StaysSettled old) old new → Left new (length old) o → (ims : Files) × Images old ims × (o ≡ recovered ims)
