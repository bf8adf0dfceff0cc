-- A transaction begins and ends.
use Rattle.std.proofs.Common.{◌≡◌, ◌⊎◌, inl, inr, ⊎_elim, ℕ, ◌+◌, ◌-◌, ◌^◌, ◌≤◌, List, [], ◌∷◌, ◌++◌, length, take, get_or, refl, sym, ◌∙◌, ap, subst, arith, true, false, cond, Some, Ok, Err}
use Rattle.std.proofs.lemmas.List.{take_all, drop_all, append-nil}
use Rattle.std.proofs.lemmas.Bool.{cases_lt, cases_Bool}
use Rattle.ud_log.specs.Entries.{Entry, undone}
use Rattle.tc_base.specs.Files.{wrote, Files}
use Rattle.tc_io.specs.Images.{Torn, Step, written, cut_to, synced, Image, Calls, of, now, Images}
use Rattle.ud_log.proofs.Kept.{gives_kept}
use Rattle.ud_log.specs.Good.{AllShort}
use Rattle.ud_state.specs.State.{Data, AllUndo, Pending, Tx, Idle, Durable}
use Rattle.ud_log.specs.Undo.{is_data, all_short, rule, lens_of, length_of, of_file, Log, nothing, log_of, data_of, undone_all, by_log, files_of, recovered, header, log_bytes}
use Rattle.ud_log.proofs.Logs.{lens_data, short_lens, length_of_is, log_done, log_cut, length-header}
use Rattle.ud_state.proofs.Transaction.{inside_of, data_gives, data_log}
use Rattle.ud_state.proofs.Open.{torn_end, log_image, now_log}

pub with_nothing : (kept ims : Files) → AllShort kept → ((f : ℕ) → is_data f ≡ false → kept f ≡ []) → ((f : ℕ) → is_data f ≡ true → ims f ≡ kept f) → log_of (ims 1) ≡ nothing → recovered ims ≡ Some kept
with_nothing kept ims short blank same log =
    let few : all_short (lens_of ims) ≡ true = ap all_short (lens_data ims kept same) ∙ short_lens kept short in
    ap (λ (l : Log). files_of (by_log l ims)) log
    ∙ ap (λ b. files_of (cond b (Ok (data_of ims)) (Err (rule 5)))) few
    ∙ ap (λ (fs : Files). Some fs) (λ i f. each f (cases_Bool (is_data f)) i)
  where
    each : (f : ℕ) → (is_data f ≡ true) ⊎ (is_data f ≡ false) → data_of ims f ≡ kept f
    each f (inl is) = ap (λ b. cond b (ims f) []) is ∙ same f is
    each f (inr is) = ap (λ b. cond b (ims f) []) is ∙ sym (blank f is)

pub log_nothing : (kept : Files) → log_of [] ≡ nothing
log_nothing kept = log_cut kept 0 (omega arith)

pub idle_undo : (cs : Calls) (kept : Files) → Idle cs kept → AllUndo cs kept
idle_undo cs kept idle ims are = with_nothing kept ims idle.short idle.blank (λ f isd. idle.stand f isd (ims f) (are f)) (ap log_of (idle.only (ims 1) (are 1)) ∙ log_nothing kept)

log_alone : (kept : Files) → log_bytes kept [] ≡ header kept
log_alone kept = append-nil (header kept)

pub no_entries : (cs : Calls) (kept : Files) → Idle cs kept → Data cs kept []
no_entries cs kept idle = record {
  short = idle.short;
  good = tt;
  blank = idle.blank;
  holds = λ f isd p low has. absurd has;
  stands = λ f isd i image p low. inr (ap (λ (l : List ℕ). get_or l p 0) (idle.stand f isd i image));
}

empty : (bytes : List ℕ) → wrote 0 bytes [] ≡ bytes ++ []
unfolding wrote
empty bytes = ap (λ (l : List ℕ). bytes ++ l) (drop_all (0 + length bytes) [] (omega arith))

-- the header is put into the empty log
module _ (cs : Calls) (kept : Files) (idle : Idle cs kept) where
  abbrev step : Step
  step = written 0 (header kept)

  torn_header : (i : List ℕ) → Image (of 1 ((1, step) ∷ cs)) i → i ≡ take (length i - 0) (header kept)
  torn_header i from = torn_end (header kept) [] i (subst (λ (l : List ℕ). Torn 0 (header kept) l i) (idle.only from.0 from.1) from.2)

  head_whole : (i : List ℕ) → Image (of 1 ((1, step) ∷ cs)) i → 152 ≤ length i → i ≡ log_bytes kept []
  head_whole i from high = torn_header i from ∙ take_all (length i - 0) (header kept) (omega (arith, high, length-header kept)) ∙ sym (log_alone kept)

  head_data : Data ((1, step) ∷ cs) kept []
  head_data = data_log cs kept [] step (no_entries cs kept idle)

  begin_undo : AllUndo ((1, step) ∷ cs) kept
  begin_undo ims are =
      ⊎_elim
      (λ low. with_nothing kept ims idle.short idle.blank (λ f isd. idle.stand f isd (ims f) (log_image cs step f (ims f) isd (are f)))
      (ap log_of (torn_header (ims 1) (are 1)) ∙ log_cut kept (length (ims 1) - 0) (omega (arith, low))))
      (λ high. data_gives _ kept [] head_data ims are (ap log_of (head_whole (ims 1) (are 1) high) ∙ log_done kept [] idle.short tt))
      (cases_lt (length (ims 1)) 152)

  same_now : (f : ℕ) → is_data f ≡ true → now ((1, step) ∷ cs) f ≡ kept f
  same_now f isd = now_log cs step f isd ∙ idle.same f isd

  pub begin_pending : Pending ((1, step) ∷ cs) kept []
  begin_pending = record {
    files = head_data;
    log = ap (λ (l : List ℕ). wrote 0 (header kept) l) idle.log ∙ empty (header kept);
    only = λ i from. ⊎_elim (λ low. inr (omega (arith, low, ap length (log_alone kept), length-header kept))) (λ high. inl (head_whole i from high)) (cases_lt (length i) 152);
    undo = begin_undo;
    stand = λ f isd p low. inr (ap (λ (l : List ℕ). get_or l p 0) (same_now f isd));
    tail = λ f isd p le low. absurd (omega (arith, low, le, ap length (same_now f isd)));
    fits = λ f isd. subst (λ (l : List ℕ). length l ≤ 2 ^ 40) (sym (same_now f isd)) (idle.short f);
  }

short_now : (cs : Calls) (kept : Files) (es : List Entry) → Tx cs kept es → AllShort (data_of (now cs))
short_now cs kept es tx f = short_of (cases_Bool (is_data f))
  where
    short_of : (is_data f ≡ true) ⊎ (is_data f ≡ false) → length (data_of (now cs) f) ≤ 2 ^ 40
    short_of (inl is) = subst (λ b. length (cond b (now cs f) []) ≤ 2 ^ 40) (sym is) (tx.fits f is)
    short_of (inr is) = subst (λ b. length (cond b (now cs f) []) ≤ 2 ^ 40) (sym is) (omega arith)

-- the log is being cut, with all data files on the disk
module _ (cs : Calls) (kept : Files) (es : List Entry) (tx : Tx cs kept es) where
  pub cut_log : (i : List ℕ) → Image (of 1 ((1, cut_to 0) ∷ cs)) i → (i ≡ log_bytes kept es) ⊎ (i ≡ [])
  cut_log i from = ⊎_elim (λ same. inl (same ∙ tx.only from.0 from.1)) (λ cut. inr cut) from.2

  pub cut_kept : (ims : Files) → Images ((1, cut_to 0) ∷ cs) ims → ims 1 ≡ log_bytes kept es → recovered ims ≡ Some kept
  cut_kept ims are is = data_gives _ kept es (data_log cs kept es (cut_to 0) tx.files) ims are (ap log_of is ∙ log_done kept es tx.files.short tx.files.good)

  pub cut_gone : ((f : ℕ) → is_data f ≡ true → Durable cs f) → (ims : Files) → Images ((1, cut_to 0) ∷ cs) ims → ims 1 ≡ [] → recovered ims ≡ Some (data_of (now cs))
  cut_gone durable ims are is = with_nothing (data_of (now cs)) ims (short_now cs kept es tx) (λ f isd. ap (λ b. cond b (now cs f) []) isd) (λ f isd. durable f isd (ims f) (log_image cs (cut_to 0) f (ims f) isd (are f)) ∙ sym (ap (λ b. cond b (now cs f) []) isd)) (ap log_of is ∙ log_nothing kept)

-- the cut is on the disk
pub cut_idle : (cs : Calls) (kept : Files) (es : List Entry) → Tx cs kept es → ((f : ℕ) → is_data f ≡ true → Durable cs f) → Idle ((1, synced) ∷ (1, cut_to 0) ∷ cs) (data_of (now cs))
cut_idle cs kept es tx durable = record {
  short = short_now cs kept es tx;
  blank = λ f isd. ap (λ b. cond b (now cs f) []) isd;
  log = refl;
  only = λ i image. image;
  same = λ f isd. now_log ((1, cut_to 0) ∷ cs) synced f isd ∙ now_log cs (cut_to 0) f isd ∙ sym (ap (λ b. cond b (now cs f) []) isd);
  stand = λ f isd i image. durable f isd i (log_image cs (cut_to 0) f i isd (log_image ((1, cut_to 0) ∷ cs) synced f i isd image)) ∙ sym (ap (λ b. cond b (now cs f) []) isd);
}

-- what the files as they read are recovered to
pub tx_now : (cs : Calls) (kept : Files) (es : List Entry) → Tx cs kept es → recovered (now cs) ≡ Some kept
tx_now cs kept es tx =
    ap (λ (l : Log). files_of (by_log l (now cs))) (ap log_of tx.log ∙ log_done kept es tx.files.short tx.files.good)
    ∙ ap (λ (fs : Files). Some fs) (λ i f. each f (cases_Bool (is_data f)) i)
  where
    each : (f : ℕ) → (is_data f ≡ true) ⊎ (is_data f ≡ false) → undone_all (lens_of kept) es (now cs) f ≡ kept f
    each f (inl is) =
        ap (λ b. cond b (undone (length_of (lens_of kept) f) (of_file f es) (now cs f)) []) is
        ∙ ap (λ n. undone n (of_file f es) (now cs f)) (length_of_is kept f is)
        ∙ gives_kept (of_file f es) (kept f) (now cs f) (inside_of kept es f tx.files.good) (tx.files.holds f is) (tx.stand f is)
    each f (inr is) = ap (λ b. cond b (undone (length_of (lens_of kept) f) (of_file f es) (now cs f)) []) is ∙ sym (tx.files.blank f is)

pub idle_now : (cs : Calls) (kept : Files) → Idle cs kept → recovered (now cs) ≡ Some kept
idle_now cs kept idle = with_nothing kept (now cs) idle.short idle.blank idle.same (ap log_of idle.log ∙ log_nothing kept)
