-- What stops leave at the moments since one.
use Rattle.std.specs.Prelude.{◌≡◌, ◌⊎◌, ℕ, suc, ◌-◌, ◌≤◌, List, [], ◌∷◌, drop, length, Option}
use Rattle.std.proofs.Common.{inl, inr, ⊎_elim, arith, refl, sym, subst, ap, ◌∙◌}
use Rattle.tc_base.specs.Files.{Files}
use Rattle.tc_io.specs.Images.{Step, Calls, Images, now}
use Rattle.ud_log.specs.Undo.{recovered}

-- P holds after each call since then
pub data Since (P : Calls → Type 0) (old : Calls) : Calls → Type 0 where
  here : Since P old old
  more : (c : ℕ × Step) (cs : Calls) → Since P old cs → P (c ∷ cs) → Since P old (c ∷ cs)

-- beside this image of the log, every choice of images of the data files is recovered to this
abbrev pub Agree : Calls → List ℕ → Option Files → Type 0
Agree cs log w = (ims : Files) → Images cs ims → ims 1 ≡ log → recovered ims ≡ w

-- what a stop leaves now: of an image of the log, what every choice beside it is recovered to. Where the choices don't agree it may be anything
pub record LeftNow (cs : Calls) (o : Option Files) : Type 0 where
  pub images : Files
  pub some : Images cs images
  pub is : (w : Option Files) → Agree cs (images 1) w → o ≡ w

-- at some moment from that one on
abbrev pub LeftSince : Calls → ℕ → Option Files → Type 0
LeftSince [] t o = LeftNow [] o
LeftSince (c ∷ cs) t o = LeftNow (c ∷ cs) o ⊎ ((t ≤ length cs) × LeftSince cs t o)

pub record Left (cs : Calls) (t : ℕ) (o : Option Files) : Type 0 where
  pub is : LeftSince cs t o

-- each image is recovered to what has P
abbrev pub Leaves : (Option Files → Type 0) → Calls → Type 0
Leaves P cs = (ims : Files) → Images cs ims → P (recovered ims)

-- all that a stop leaves now has P
abbrev pub AllLeft : (Option Files → Type 0) → Calls → Type 0
AllLeft P cs = (o : Option Files) → LeftNow cs o → P o

-- each image is recovered to what the files as they read are recovered to
pub record Calm (cs : Calls) : Type 0 where
  pub all : Leaves (λ o. o ≡ recovered (now cs)) cs

-- at each moment since then each image was recovered to the same files, and so are the files as they read
pub record Quiet (old new : Calls) : Type 0 where
  pub moments : Since (Leaves (λ o. o ≡ recovered (now old))) old new
  pub kept : recovered (now new) ≡ recovered (now old)

pub since_later : (P : Calls → Type 0) (old new : Calls) → Since P old new → length old ≤ length new
since_later P old _ here = omega arith
since_later P old _ (more c cs since p) = omega (arith, since_later P old cs since)

pub since_each : (P : Option Files → Type 0) (old new : Calls) → Since (AllLeft P) old new → (t : ℕ) (o : Option Files) → t ≤ length old → LeftSince new t o → LeftSince old t o ⊎ P o
since_each P old _ here t o le left = inl left
since_each P old _ (more c cs since p) t o le left = ⊎_elim (λ at_once. inr (p o at_once)) (λ earlier. since_each P old cs since t o le earlier.1) left

-- the calls that had been made at a moment
abbrev pub calls_at : ℕ → Calls → Calls
calls_at t cs = drop (length cs - t) cs

pub calls_now : (cs : Calls) → calls_at (length cs) cs ≡ cs
calls_now cs = let none : length cs - length cs ≡ 0 = omega arith in ap (λ n. drop n cs) none

pub since_at : (P : Calls → Type 0) (old new : Calls) → Since P old new → (t : ℕ) → t ≤ length old → calls_at t new ≡ calls_at t old
since_at P old _ here t le = refl
since_at P old _ (more c cs since p) t le =
    let one : length (c ∷ cs) - t ≡ suc (length cs - t) = omega (arith, le, since_later P old cs since) in
    ap (λ n. drop n (c ∷ cs)) one ∙ since_at P old cs since t le

pub since_then : (P : Calls → Type 0) (a b c : Calls) → Since P a b → Since P b c → Since P a c
since_then P a b _ first here = first
since_then P a b _ first (more c cs second p) = more c cs (since_then P a b cs first second) p

pub since_as : (P Q : Calls → Type 0) (a b : Calls) → ((c : Calls) → P c → Q c) → Since P a b → Since Q a b
since_as P Q a _ weaker here = here
since_as P Q a _ weaker (more c cs since p) = more c cs (since_as P Q a cs weaker since) (weaker (c ∷ cs) p)

-- what the files as they read are recovered to, after any calls
pub since_now : (P : Option Files → Type 0) (a b : Calls) → Since (Leaves P) a b → P (recovered (now a)) → Images b (now b) → P (recovered (now b))
since_now P a _ here p image = p
since_now P a _ (more c cs since leaves) p image = leaves (now (c ∷ cs)) image

pub quiet_refl : (a : Calls) → Quiet a a
quiet_refl a = record { moments = here; kept = refl }

pub quiet_same : (old new : Calls) → new ≡ old → Quiet old new
quiet_same old new is = record { moments = subst (λ (c : Calls). Since (Leaves (λ o. o ≡ recovered (now old))) old c) (sym is) here; kept = ap (λ (c : Calls). recovered (now c)) is }

pub quiet_then : (a b c : Calls) → Quiet a b → Quiet b c → Quiet a c
quiet_then a b c first second = record {
  moments = since_then (Leaves (λ o. o ≡ recovered (now a))) a b c first.moments (subst (λ (w : Option Files). Since (Leaves (λ o. o ≡ w)) b c) first.kept second.moments);
  kept = second.kept ∙ first.kept;
}

calm_at : (w : Option Files) (old new : Calls) → Leaves (λ o. o ≡ w) old → Since (Leaves (λ o. o ≡ w)) old new → Leaves (λ o. o ≡ w) new
calm_at w old _ all here = all
calm_at w old _ all (more c cs since leaves) = leaves

pub quiet_calm : (old new : Calls) → Calm old → Quiet old new → Calm new
quiet_calm old new calm quiet = record { all = λ ims are. calm_at (recovered (now old)) old new calm.all quiet.moments ims are ∙ sym quiet.kept }
