-- A volume between the calls of a transaction, and its moments.
use Rattle.std.proofs.Common.{◌≡◌, ◌⊎◌, inl, inr, ⊎_elim, ℕ, zero, ◌+◌, ◌-◌, ◌^◌, ◌<◌, ◌≤◌, List, [], ◌∷◌, ◌++◌, length, take, drop, sym, ◌∙◌, ap, subst, arith, append_assoc, length-append, length-take, take-append-drop, true}
use Rattle.std.proofs.lemmas.List.{places, take_all, drop_all, append-nil}
use Rattle.std.proofs.lemmas.Bool.{cases_lt, cases_eq}
use Rattle.std.proofs.lemmas.Bool.Decides.{nat_tests}
use Rattle.ud_log.specs.Entries.{Entry, Covers, Stands}
use Rattle.tc_base.specs.Files.{wrote, Files}
use Rattle.tc_io.specs.Images.{Torn, Step, written, cut_to, synced, reads, Image, Calls, of, now, Images}
use Rattle.ud_log.specs.Log.{entry_bytes, entries_bytes}
use Rattle.ud_log.proofs.Places.{wrote_before, wrote_behind}
use Rattle.ud_log.proofs.Steps.{cut_stands, covers_more, covers_last}
use Rattle.ud_log.specs.Good.{IsGood}
use Rattle.ud_state.specs.State.{Data, AllUndo, Pending, Tx, Logged}
use Rattle.ud_log.specs.Undo.{is_data, of_file, log_of, header, log_bytes}
use Rattle.ud_log.proofs.Logs.{log_done, log_append, entries_more}
use Rattle.ud_state.proofs.Transaction.{of-same, of-other, data_gives, data_log, data_write, data_cut, data_sync, data_more, of_file-same, of_file-other}

-- an append that is cut short adds a front of it
pub torn_end : (bytes old new : List ℕ) → Torn (length old) bytes old new → new ≡ old ++ take (length new - length old) bytes
torn_end bytes old new torn =
    let n = length old in
    let none : n - n ≡ zero = omega arith in
    sym (take-append-drop n new)
    ∙ ap (λ (l : List ℕ). l ++ drop n new) (torn.before ∙ take_all n old (omega arith))
    ∙ ap (λ (l : List ℕ). old ++ l) (torn.grown (omega arith) ∙ ap (λ k. take (length new - n) (drop k bytes)) none)

-- places in an order with a range
cases_range : (p at n : ℕ) → (p < at) ⊎ (((at ≤ p) × (p < at + n)) ⊎ (at + n ≤ p))
cases_range p at n = ⊎_elim (λ low. inl low) (λ high. ⊎_elim (λ h. inr (inl (high, h))) (λ h. inr (inr h)) (cases_lt p (at + n))) (cases_lt p at)

wrote_stands : (es : List Entry) (kept old : List ℕ) (at : ℕ) (bytes : List ℕ) → at ≤ length old → Stands es kept old → ((p : ℕ) → at ≤ p → p < at + length bytes → p < length kept → Covers es p) → Stands es kept (wrote at bytes old)
wrote_stands es kept old at bytes le stands logged p low =
    ⊎_elim (λ b. ⊎_elim (λ has. inl has) (λ is. inr (wrote_before at bytes old p le b ∙ is)) (stands p low))
    (λ rest. ⊎_elim (λ h. inl (logged p h.0 h.1 low)) (λ b. ⊎_elim (λ has. inl has) (λ is. inr (wrote_behind at bytes old p le b ∙ is)) (stands p low)) rest)
    (cases_range p at (length bytes))

length_wrote : (at : ℕ) (bytes old : List ℕ) → at ≤ length old → length old ≤ length (wrote at bytes old)
unfolding wrote
length_wrote at bytes old le = grind (arith, places)

wrote_end : (bytes old : List ℕ) → wrote (length old) bytes old ≡ old ++ bytes
unfolding wrote
wrote_end bytes old =
    (λ i. take_all (length old) old (omega arith) i ++ bytes ++ drop_all (length old + length bytes) old (omega arith) i) ∙ append-nil (old ++ bytes)

pub tx_undo : (cs : Calls) (kept : Files) (es : List Entry) → Tx cs kept es → AllUndo cs kept
tx_undo cs kept es tx ims are = data_gives cs kept es tx.files ims are (ap log_of (tx.only (ims 1) (are 1)) ∙ log_done kept es tx.files.short tx.files.good)

pub tx_pending : (cs : Calls) (kept : Files) (es : List Entry) → Tx cs kept es → Pending cs kept es
tx_pending cs kept es tx = record { files = tx.files; log = tx.log; only = λ i image. inl (tx.only i image); undo = tx_undo cs kept es tx; stand = tx.stand; tail = tx.tail; fits = tx.fits }

one_ne : (f : ℕ) → is_data f ≡ true → 1 ≡ f → ⊥
one_ne f is one = absurd (grind (arith, nat_tests))

pub now_log : (cs : Calls) (s : Step) (f : ℕ) → is_data f ≡ true → now ((1, s) ∷ cs) f ≡ now cs f
now_log cs s f is = ap reads (of-other 1 f s cs (one_ne f is))

-- each step of the log leaves the data files' images
pub log_image : (cs : Calls) (s : Step) (f : ℕ) (i : List ℕ) → is_data f ≡ true → Image (of f ((1, s) ∷ cs)) i → Image (of f cs) i
log_image cs s f i isd = subst (λ (l : List Step). Image l i) (of-other 1 f s cs (one_ne f isd))

-- images after a step of the log that leaves this image of it
images_before : (cs : Calls) (s : Step) (ims : Files) → Images ((1, s) ∷ cs) ims → Image (of 1 cs) (ims 1) → Images cs ims
images_before cs s ims are log f = ⊎_elim
    (λ one. subst (λ h. Image (of h cs) (ims h)) (sym one) log)
    (λ other. subst (λ (l : List Step). Image l (ims f)) (of-other 1 f s cs (λ same. other (sym same))) (are f))
    (cases_eq f 1)

-- an entry is put behind the log; all of the log may still be on its way to the disk
module _ (cs : Calls) (kept : Files) (es : List Entry) (e : Entry) (pend : Pending cs kept es) (good : IsGood kept e) (is : e.bytes ≡ take (length e.bytes) (drop e.at (now cs e.file))) where
  abbrev log0 : List ℕ
  log0 = log_bytes kept es

  abbrev step : Step
  step = written (length log0) (entry_bytes e)

  whole_log : log0 ++ entry_bytes e ≡ log_bytes kept (es ++ e ∷ [])
  whole_log = append_assoc (header kept) (entries_bytes es) (entry_bytes e) ∙ ap (λ (l : List ℕ). header kept ++ l) (sym (entries_more es e))

  more_data : Data ((1, step) ∷ cs) kept (es ++ e ∷ [])
  more_data = data_log cs kept (es ++ e ∷ []) step (data_more cs kept es e (now cs e.file) pend.files good (pend.stand e.file good.is_data) is)

  -- what stands behind the log, where all of it stood there before
  pub torn_log : (old i : List ℕ) → old ≡ log0 → Torn (length log0) (entry_bytes e) old i → i ≡ log0 ++ take (length i - length log0) (entry_bytes e)
  torn_log old i whole torn = torn_end (entry_bytes e) log0 i (subst (λ (l : List ℕ). Torn (length log0) (entry_bytes e) l i) whole torn)

  append_undo : AllUndo ((1, step) ∷ cs) kept
  append_undo ims are =
      let from = are 1 in
      ⊎_elim
      (λ whole.
      let k = length (ims 1) - length log0 in
      let now_is : ims 1 ≡ log0 ++ take k (entry_bytes e) = torn_log from.0 (ims 1) whole from.2 in
      ⊎_elim (λ without. data_gives _ kept es (data_log cs kept es step pend.files) ims are (ap log_of now_is ∙ without))
      (λ with_it. data_gives _ kept (es ++ e ∷ []) more_data ims are (ap log_of now_is ∙ with_it))
      (log_append kept es e k pend.files.short pend.files.good good))
      (λ short. pend.undo ims (images_before cs step ims are (subst (λ (l : List ℕ). Image (of 1 cs) l) (sym (from.2.beyond short)) from.1)))
      (pend.only from.0 from.1)

  append_only : (i : List ℕ) → Image (of 1 ((1, step) ∷ cs)) i → (i ≡ log_bytes kept (es ++ e ∷ [])) ⊎ (length i < length (log_bytes kept (es ++ e ∷ [])))
  append_only i from =
      let long : length (log_bytes kept (es ++ e ∷ [])) ≡ length log0 + length (entry_bytes e) = ap length (sym whole_log) ∙ length-append log0 (entry_bytes e) in
      ⊎_elim
      (λ whole.
      let k = length i - length log0 in
      let now_is : i ≡ log0 ++ take k (entry_bytes e) = torn_log from.0 i whole from.2 in
      ⊎_elim
      (λ low. inr (omega (arith, long, ap length now_is, length-append log0 (take k (entry_bytes e)), length-take k (entry_bytes e), low)))
      (λ high. inl (now_is ∙ ap (λ (l : List ℕ). log0 ++ l) (take_all k (entry_bytes e) high) ∙ whole_log))
      (cases_lt k (length (entry_bytes e))))
      (λ short. inr (omega (arith, long, short, ap length (from.2.beyond short))))
      (pend.only from.0 from.1)

  tail_grown : (f p : ℕ) → Covers (of_file f es) p → Covers (of_file f (es ++ e ∷ [])) p
  tail_grown f p has = ⊎_elim
      (λ here. subst (λ (l : List Entry). Covers l p) (sym (of_file-same f es e here)) (covers_more (of_file f es) e p has))
      (λ there. subst (λ (l : List Entry). Covers l p) (sym (of_file-other f es e there)) has)
      (cases_eq e.file f)

  stands_grown : (f : ℕ) → is_data f ≡ true → Stands (of_file f (es ++ e ∷ [])) (kept f) (now cs f)
  stands_grown f isd p low = ⊎_elim (λ has. inl (tail_grown f p has)) (λ at_p. inr at_p) (pend.stand f isd p low)

  pub append_pending : Pending ((1, step) ∷ cs) kept (es ++ e ∷ [])
  append_pending = record {
    files = more_data;
    log = ap (λ (l : List ℕ). wrote (length log0) (entry_bytes e) l) pend.log ∙ wrote_end (entry_bytes e) log0 ∙ whole_log;
    only = append_only;
    undo = append_undo;
    stand = λ f isd. subst (λ (l : List ℕ). Stands (of_file f (es ++ e ∷ [])) (kept f) l) (sym (now_log cs step f isd)) (stands_grown f isd);
    tail = λ f isd p le low. tail_grown f p (pend.tail f isd p (subst (λ (l : List ℕ). length l ≤ p) (now_log cs step f isd) le) low);
    fits = λ f isd. subst (λ (l : List ℕ). length l ≤ 2 ^ 40) (sym (now_log cs step f isd)) (pend.fits f isd);
  }

  pub append_logged : (f from : ℕ) → e.file ≡ f → Logged cs kept es f from e.at → Logged ((1, step) ∷ cs) kept (es ++ e ∷ []) f from (e.at + length e.bytes)
  append_logged f from same logged p low high below has =
      let isd : is_data f ≡ true = subst (λ h. is_data h ≡ true) same good.is_data in
      subst (λ (l : List Entry). Covers l p) (sym (of_file-same f es e same))
      (⊎_elim
      (λ before. covers_more (of_file f es) e p (logged p low before below (subst (λ (l : List ℕ). p < length l) (now_log cs step f isd) has)))
      (λ behind. covers_last (of_file f es) e p behind high)
      (cases_lt p e.at))

-- the log is brought to the disk
pub secure_tx : (cs : Calls) (kept : Files) (es : List Entry) → Pending cs kept es → Tx ((1, synced) ∷ cs) kept es
secure_tx cs kept es pend = record {
  files = data_log cs kept es synced pend.files;
  log = pend.log;
  only = λ i image. image ∙ pend.log;
  stand = λ f isd. subst (λ (l : List ℕ). Stands (of_file f es) (kept f) l) (sym (now_log cs synced f isd)) (pend.stand f isd);
  tail = λ f isd p le low. pend.tail f isd p (subst (λ (l : List ℕ). length l ≤ p) (now_log cs synced f isd) le) low;
  fits = λ f isd. subst (λ (l : List ℕ). length l ≤ 2 ^ 40) (sym (now_log cs synced f isd)) (pend.fits f isd);
}

-- what data calls change is one file
reads_step : (cs : Calls) (f g : ℕ) (s : Step) → (f ≡ g → ⊥) → now ((f, s) ∷ cs) g ≡ now cs g
reads_step cs f g s other = ap reads (of-other f g s cs other)

data_one : (f : ℕ) → is_data f ≡ true → f ≡ 1 → ⊥
data_one f is one = absurd (grind (arith, nat_tests))

-- a step of a data file
tx_step : (cs : Calls) (kept : Files) (es : List Entry) (f : ℕ) (s : Step) → Tx cs kept es → is_data f ≡ true → Data ((f, s) ∷ cs) kept es → Stands (of_file f es) (kept f) (reads (s ∷ of f cs))
    → ((p : ℕ) → length (reads (s ∷ of f cs)) ≤ p → p < length (kept f) → Covers (of_file f es) p) → length (reads (s ∷ of f cs)) ≤ 2 ^ 40 → Tx ((f, s) ∷ cs) kept es
tx_step cs kept es f s tx isd files stand tail fits = record {
  files = files;
  log = reads_step cs f 1 s (data_one f isd) ∙ tx.log;
  only = λ i image. tx.only i (subst (λ (l : List Step). Image l i) (of-other f 1 s cs (data_one f isd)) image);
  stand = λ g isg. ⊎_elim
      (λ same. subst (λ h. Stands (of_file h es) (kept h) (now ((f, s) ∷ cs) h)) same (subst (λ (l : List Step). Stands (of_file f es) (kept f) (reads l)) (sym (of-same f s cs)) stand))
      (λ other. subst (λ (l : List ℕ). Stands (of_file g es) (kept g) l) (sym (reads_step cs f g s other)) (tx.stand g isg))
      (cases_eq f g);
  tail = λ g isg. ⊎_elim
      (λ same. subst (λ h. (p : ℕ) → length (now ((f, s) ∷ cs) h) ≤ p → p < length (kept h) → Covers (of_file h es) p) same (subst (λ (l : List Step). (p : ℕ) → length (reads l) ≤ p → p < length (kept f) → Covers (of_file f es) p) (sym (of-same f s cs)) tail))
      (λ other. subst (λ (l : List ℕ). (p : ℕ) → length l ≤ p → p < length (kept g) → Covers (of_file g es) p) (sym (reads_step cs f g s other)) (tx.tail g isg))
      (cases_eq f g);
  fits = λ g isg. ⊎_elim
      (λ same. subst (λ h. length (now ((f, s) ∷ cs) h) ≤ 2 ^ 40) same (subst (λ (l : List Step). length (reads l) ≤ 2 ^ 40) (sym (of-same f s cs)) fits))
      (λ other. subst (λ (l : List ℕ). length l ≤ 2 ^ 40) (sym (reads_step cs f g s other)) (tx.fits g isg))
      (cases_eq f g);
}

pub tx_write : (cs : Calls) (kept : Files) (es : List Entry) (f at : ℕ) (bytes : List ℕ) → Tx cs kept es → is_data f ≡ true → at ≤ length (now cs f) → length (wrote at bytes (now cs f)) ≤ 2 ^ 40
    → ((p : ℕ) → at ≤ p → p < at + length bytes → p < length (kept f) → Covers (of_file f es) p) → Tx ((f, written at bytes) ∷ cs) kept es
tx_write cs kept es f at bytes tx isd le fits logged =
    tx_step cs kept es f (written at bytes) tx isd (data_write cs kept es f at bytes tx.files isd logged)
    (wrote_stands (of_file f es) (kept f) (now cs f) at bytes le (tx.stand f isd) logged)
    (λ p long low. tx.tail f isd p (omega (arith, long, length_wrote at bytes (now cs f) le)) low)
    fits

pub tx_cut : (cs : Calls) (kept : Files) (es : List Entry) (f len : ℕ) → Tx cs kept es → is_data f ≡ true → len ≤ length (now cs f)
    → ((p : ℕ) → len ≤ p → p < length (kept f) → Covers (of_file f es) p) → Tx ((f, cut_to len) ∷ cs) kept es
tx_cut cs kept es f len tx isd le logged =
    let long : length (take len (now cs f)) ≡ len = length-take len (now cs f) ∙ omega (arith, le) in
    tx_step cs kept es f (cut_to len) tx isd (data_cut cs kept es f len tx.files isd logged)
    (cut_stands (of_file f es) (kept f) (now cs f) len (tx.stand f isd) logged)
    (λ p high low. logged p (omega (arith, high, long)) low)
    (omega (arith, long, le, tx.fits f isd))

pub tx_sync : (cs : Calls) (kept : Files) (es : List Entry) (f : ℕ) → Tx cs kept es → is_data f ≡ true → Tx ((f, synced) ∷ cs) kept es
tx_sync cs kept es f tx isd = tx_step cs kept es f synced tx isd (data_sync cs kept es f tx.files isd (tx.stand f isd)) (tx.stand f isd) (tx.tail f isd) (tx.fits f isd)
