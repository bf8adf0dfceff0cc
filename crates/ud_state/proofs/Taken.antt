-- One call, made or lost, and what a stop leaves at its moments.
use Rattle.std.proofs.Common.{◌≡◌, ⊎_elim, ℕ, List, ◌∷◌, refl, sym, ◌∙◌, subst, Option, Some}
use Rattle.std.proofs.lemmas.Bool.{cases_eq}
use Rattle.tc_base.specs.Files.{Files}
use Rattle.tc_io.specs.Images.{Step, lost, synced, Image, Calls, of, now, Images, IsLost, IsLostSync, WasLost, WasLostSync}
use Rattle.ud_log.specs.Undo.{recovered}
use Rattle.ud_state.specs.State.{AllUndo}
use Rattle.ud_state.specs.Since.{Since, here, more, Leaves, Calm, Quiet, since_now}
use Rattle.ud_state.proofs.Transaction.{of-same, of-other}

-- a call that failed leaves the images of the call made, or the earlier ones
pub lost_image : (cs : Calls) (f g : ℕ) (r i : List ℕ) → Image (of g ((f, lost r) ∷ cs)) i → Image (of g cs) i
lost_image cs f g r i image = ⊎_elim
    (λ same. subst (λ h. Image (of h cs) i) same (subst (λ (l : List Step). Image l i) (of-same f (lost r) cs) (subst (λ h. Image (of h ((f, lost r) ∷ cs)) i) (sym same) image)))
    (λ other. subst (λ (l : List Step). Image l i) (of-other f g (lost r) cs other) image)
    (cases_eq f g)

pub lost_leaves : (P : Option Files → Type 0) (cs : Calls) (f : ℕ) (r : List ℕ) → Leaves P cs → Leaves P ((f, lost r) ∷ cs)
lost_leaves P cs f r all ims are = all ims (λ g. lost_image cs f g r (ims g) (are g))

-- Q holds after a call, and a failure keeps it
module _ (Q : Calls → Type 0) (fails : (ds : Calls) (f : ℕ) (r : List ℕ) → Q ds → Q ((f, lost r) ∷ ds)) (cs c1 : Calls) where
  pub since_made : (c : ℕ × Step) → c1 ≡ c ∷ cs → Q (c ∷ cs) → Since Q cs c1
  since_made c is leaves = subst (λ (d : Calls). Since Q cs d) (sym is) (more c cs here leaves)

  pub since_none : c1 ≡ cs → Since Q cs c1
  since_none is = subst (λ (c : Calls). Since Q cs c) (sym is) here

  pub since_lost : (f : ℕ) (s : Step) → IsLost cs c1 f s → Q ((f, s) ∷ cs) → Since Q cs c1
  since_lost f s is leaves = ⊎_elim since_none
      (λ (was : WasLost cs c1 f s). subst (λ (c : Calls). Since Q cs c) (sym was.is)
      (more (f, lost was.reads) ((f, s) ∷ cs) (more (f, s) cs here leaves) (fails ((f, s) ∷ cs) f was.reads leaves)))
      is

  pub since_lost_sync : (f : ℕ) → IsLostSync cs c1 f → Q cs → Since Q cs c1
  since_lost_sync f is leaves = ⊎_elim since_none
      (λ (was : WasLostSync cs c1 f). subst (λ (c : Calls). Since Q cs c) (sym was.is) (more (f, lost was.reads) cs here (fails cs f was.reads leaves)))
      is

-- what was kept is what the files as they read are recovered to
pub as_now : (cs ds : Calls) (kept : Files) → recovered (now cs) ≡ Some kept → AllUndo ds kept → Leaves (λ o. o ≡ recovered (now cs)) ds
as_now cs ds kept is all ims are = all ims are ∙ sym is

pub calm_undo : (cs : Calls) (kept : Files) → AllUndo cs kept → Images cs (now cs) → Calm cs
calm_undo cs kept all image = record { all = λ ims are. all ims are ∙ sym (all (now cs) image) }

pub quiet_since : (cs c1 : Calls) → Images c1 (now c1) → Since (Leaves (λ o. o ≡ recovered (now cs))) cs c1 → Quiet cs c1
quiet_since cs c1 image since = record { moments = since; kept = since_now (λ o. o ≡ recovered (now cs)) cs c1 since refl image }

module _ (cs c1 : Calls) (image : Images cs (now cs)) (image1 : Images c1 (now c1)) (kept : Files) (before : AllUndo cs kept) where
  is_now : recovered (now cs) ≡ Some kept
  is_now = before (now cs) image

  pub quiet_made : (f : ℕ) (s : Step) → c1 ≡ (f, s) ∷ cs → AllUndo ((f, s) ∷ cs) kept → Quiet cs c1
  quiet_made f s is all = quiet_since cs c1 image1 (since_made (Leaves (λ o. o ≡ recovered (now cs))) (lost_leaves (λ o. o ≡ recovered (now cs))) cs c1 (f, s) is (as_now cs ((f, s) ∷ cs) kept is_now all))

  pub quiet_lost : (f : ℕ) (s : Step) → IsLost cs c1 f s → AllUndo ((f, s) ∷ cs) kept → Quiet cs c1
  quiet_lost f s is all = quiet_since cs c1 image1 (since_lost (Leaves (λ o. o ≡ recovered (now cs))) (lost_leaves (λ o. o ≡ recovered (now cs))) cs c1 f s is (as_now cs ((f, s) ∷ cs) kept is_now all))

  pub quiet_lost_sync : (f : ℕ) → IsLostSync cs c1 f → Quiet cs c1
  quiet_lost_sync f is = quiet_since cs c1 image1 (since_lost_sync (Leaves (λ o. o ≡ recovered (now cs))) (lost_leaves (λ o. o ≡ recovered (now cs))) cs c1 f is (as_now cs cs kept is_now before))

-- a sync of any file where each image is recovered to the same
module _ (cs c1 : Calls) (image : Images cs (now cs)) (image1 : Images c1 (now c1)) (calm : Calm cs) (f : ℕ) where
  synced_image : (g : ℕ) (i : List ℕ) → Image (of g ((f, synced) ∷ cs)) i → Image (of g cs) i
  synced_image g i at_g = ⊎_elim
      (λ same. subst (λ h. Image (of h ((f, synced) ∷ cs)) i → Image (of h cs) i) same here_too at_g)
      (λ other. subst (λ (l : List Step). Image l i) (of-other f g synced cs other) at_g)
      (cases_eq f g)
    where
      here_too : Image (of f ((f, synced) ∷ cs)) i → Image (of f cs) i
      here_too im = subst (λ (j : List ℕ). Image (of f cs) j) (sym (subst (λ (l : List Step). Image l i) (of-same f synced cs) im)) (image f)

  synced_leaves : Leaves (λ o. o ≡ recovered (now cs)) ((f, synced) ∷ cs)
  synced_leaves ims are = calm.all ims (λ g. synced_image g (ims g) (are g))

  pub quiet_synced : c1 ≡ (f, synced) ∷ cs → Quiet cs c1
  quiet_synced is = quiet_since cs c1 image1 (since_made (Leaves (λ o. o ≡ recovered (now cs))) (lost_leaves (λ o. o ≡ recovered (now cs))) cs c1 (f, synced) is synced_leaves)

  pub quiet_not_synced : IsLostSync cs c1 f → Quiet cs c1
  quiet_not_synced is = quiet_since cs c1 image1 (since_lost_sync (Leaves (λ o. o ≡ recovered (now cs))) (lost_leaves (λ o. o ≡ recovered (now cs))) cs c1 f is calm.all)
