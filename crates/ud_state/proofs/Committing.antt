-- The data files are on the disk, and then the log is cut.
use Rattle.std.proofs.Common.{◌≡◌, ◌⊎◌, inl, inr, ⊎_elim, ℕ, List, [], ◌∷◌, sym, ◌∙◌, ap, subst, true, false, cond, Option, Some}
use Rattle.std.proofs.lemmas.Bool.{cases_Bool}
use Rattle.tc_base.specs.Files.{Files}
use Rattle.tc_io.specs.Images.{synced, cut_to, Calls, now, Images, IsLost, IsLostSync}
use Rattle.ud_log.specs.Entries.{Entry}
use Rattle.ud_log.specs.Undo.{is_data, recovered, data_of}
use Rattle.ud_state.specs.State.{Tx, Idle, Durable, EitherOf, SyncOnly}
use Rattle.ud_state.specs.Since.{AllLeft, Since, Leaves, Quiet, since_then, since_as}
use Rattle.ud_state.proofs.Ends.{tx_now, cut_log, cut_kept, cut_gone, cut_idle, idle_undo}
use Rattle.ud_state.proofs.Leaving.{all_left, lost_left}
use Rattle.ud_state.proofs.Taken.{since_made, since_lost, since_lost_sync}

pub either_of : (cs c1 : Calls) → Quiet cs c1 → Since (AllLeft (EitherOf cs)) cs c1
either_of cs c1 quiet = since_as (Leaves (λ w. w ≡ recovered (now cs))) (AllLeft (EitherOf cs)) cs c1 (λ c leaves o left. inl (all_left (recovered (now cs)) c leaves o left)) quiet.moments

data_same : (a b : Files) → ((f : ℕ) → a f ≡ b f) → data_of a ≡ data_of b
data_same a b same = λ i f. each f (cases_Bool (is_data f)) i
  where
    each : (f : ℕ) → (is_data f ≡ true) ⊎ (is_data f ≡ false) → data_of a f ≡ data_of b f
    each f (inl is) = ap (λ t. cond t (a f) []) is ∙ same f ∙ sym (ap (λ t. cond t (b f) []) is)
    each f (inr is) = ap (λ t. cond t (a f) []) is ∙ sym (ap (λ t. cond t (b f) []) is)

-- after syncs that changed nothing, what a stop may leave is said of the same files
pub either_join : (a b c : Calls) → Quiet a b → SyncOnly a b → Since (AllLeft (EitherOf b)) b c → Since (AllLeft (EitherOf a)) a c
either_join a b c first only second = since_then (AllLeft (EitherOf a)) a b c (either_of a b first) (since_as (AllLeft (EitherOf b)) (AllLeft (EitherOf a)) b c (λ d all o left. both o (all o left)) second)
  where
    both : (w : Option Files) → EitherOf b w → EitherOf a w
    both w (inl is) = inl (is ∙ first.kept)
    both w (inr is) = inr (is ∙ ap (λ (fs : Files). Some fs) (data_same (now b) (now a) only.reads))

module _ (cs : Calls) (kept : Files) (es : List Entry) (tx : Tx cs kept es) (there : (f : ℕ) → is_data f ≡ true → Durable cs f) where
  cut_leaves : AllLeft (EitherOf cs) ((1, cut_to 0) ∷ cs)
  cut_leaves o left = ⊎_elim
      (λ whole. inl (left.is (Some kept) (λ ims are log. cut_kept cs kept es tx ims are (log ∙ whole)) ∙ sym (tx_now cs kept es tx)))
      (λ gone. inr (left.is (Some (data_of (now cs))) (λ ims are log. cut_gone cs kept es tx there ims are (log ∙ gone))))
      (cut_log cs kept es tx (left.images 1) (left.some 1))

  idle : Idle ((1, synced) ∷ (1, cut_to 0) ∷ cs) (data_of (now cs))
  idle = cut_idle cs kept es tx there

  pub cut_lost : (c1 : Calls) → IsLost cs c1 1 (cut_to 0) → Since (AllLeft (EitherOf cs)) cs c1
  cut_lost c1 is = since_lost (AllLeft (EitherOf cs)) (lost_left (EitherOf cs)) cs c1 1 (cut_to 0) is cut_leaves

  module _ (c1 c2 : Calls) (made : c1 ≡ (1, cut_to 0) ∷ cs) where
    cut_since : Since (AllLeft (EitherOf cs)) cs c1
    cut_since = since_made (AllLeft (EitherOf cs)) (lost_left (EitherOf cs)) cs c1 (1, cut_to 0) made cut_leaves

    pub gone_lost : IsLostSync c1 c2 1 → Since (AllLeft (EitherOf cs)) cs c2
    gone_lost is = since_then (AllLeft (EitherOf cs)) cs c1 c2 cut_since (since_lost_sync (AllLeft (EitherOf cs)) (lost_left (EitherOf cs)) c1 c2 1 is (subst (λ (c : Calls). AllLeft (EitherOf cs) c) (sym made) cut_leaves))

    pub gone_idle : c2 ≡ (1, synced) ∷ c1 → Idle c2 (data_of (now cs))
    gone_idle is = subst (λ (c : Calls). Idle c (data_of (now cs))) (sym (is ∙ ap (λ (c : Calls). (1, synced) ∷ c) made)) idle

    pub gone_since : c2 ≡ (1, synced) ∷ c1 → Since (AllLeft (EitherOf cs)) cs c2
    gone_since is = since_then (AllLeft (EitherOf cs)) cs c1 c2 cut_since (since_made (AllLeft (EitherOf cs)) (lost_left (EitherOf cs)) c1 c2 (1, synced) is (λ o left. inr (all_left (Some (data_of (now cs))) ((1, synced) ∷ c1) (λ ims are. idle_undo _ (data_of (now cs)) idle ims (subst (λ (c : Calls). Images ((1, synced) ∷ c) ims) made are)) o left)))

pub idle_as : (a b c : Calls) → SyncOnly a b → Idle c (data_of (now b)) → Idle c (data_of (now a))
idle_as a b c only idle = subst (λ (fs : Files). Idle c fs) (data_same (now b) (now a) only.reads) idle
