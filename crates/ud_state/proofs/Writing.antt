-- A transaction: its header, its entries, and the bytes that are put over what was logged.
use Rattle.std.proofs.Common.{◌≡◌, ⊎_elim, ℕ, zero, suc, ◌+◌, ◌^◌, ◌<◌, ◌≤◌, min, List, [], ◌∷◌, ◌++◌, length, take, drop, get_or, refl, sym, ◌∙◌, ap, subst, arith, length-append, length-take, length-drop, true, Bool, cond}
use Rattle.std.proofs.lemmas.Bool.{cases_lt}
use Rattle.std.proofs.lemmas.Bool.Decides.{nat_tests}
use Rattle.std.proofs.lemmas.List.{places, ext_get_or}
use Rattle.tc_base.specs.Files.{Files, wrote}
use Rattle.tc_io.specs.Images.{Step, written, synced, cut_to, reads, Image, Calls, now, Images, IsLost}
use Rattle.ud_log.specs.Entries.{Entry, entry_of}
use Rattle.ud_log.specs.Log.{entry_bytes, entries_bytes, framed, magic, numbers_bytes}
use Rattle.ud_log.specs.Good.{IsGood}
use Rattle.ud_log.specs.Undo.{is_data, place_of, length_of, lens_of, data_of, header, log_bytes}
use Rattle.ud_log.proofs.Codec.{length-entry}
use Rattle.ud_log.proofs.Logs.{length_of_is, length-header, entries_more, header_data}
use Rattle.ud_state.specs.State.{Pending, Tx, Idle, AreLens, Logged, Logging, Secured, Unchanged, IsOpen, LogOnly}
use Rattle.ud_state.specs.Since.{Calm, Quiet}
use Rattle.ud_state.proofs.Transaction.{of-other}
use Rattle.ud_state.proofs.Open.{tx_undo, tx_pending, append_pending, append_logged, secure_tx, tx_write, tx_cut}
use Rattle.ud_state.proofs.Ends.{idle_undo, begin_pending}
use Rattle.ud_state.proofs.Taken.{quiet_made, quiet_lost, calm_undo}

data_at : (a : Files) (f : ℕ) → is_data f ≡ true → data_of a f ≡ a f
data_at a f isd = ap (λ t. cond t (a f) []) isd

file_of : (k : ℕ) → k < 18 → (f : ℕ) × (is_data f ≡ true) × (place_of f ≡ k)
file_of zero low = (0, refl, refl)
file_of (suc k) low = (suc (suc k), grind (arith, nat_tests), refl)

-- lengths in an array of 18 are those that the header records
pub lens_are : (lens : List ℕ) (files : Files) → AreLens lens files → lens ≡ lens_of files
lens_are lens files are = ext_get_or 0 lens (lens_of files) are.long (λ k low.
    let f = file_of k (omega (arith, low, are.long)) in
    ap (λ j. get_or lens j 0) (sym f.2) ∙ are.at f.0 f.1 ∙ sym (length_of_is files f.0 f.1) ∙ ap (λ j. get_or (lens_of files) j 0) f.2)

pub header_is : (lens : List ℕ) (files : Files) → AreLens lens files → magic ++ numbers_bytes lens ≡ header (data_of files)
unfolding header
header_is lens files are = ap (λ (l : List ℕ). magic ++ numbers_bytes l) (lens_are lens files are) ∙ header_data files (data_of files) (λ f isd. sym (data_at files f isd))

pub lens_of_data : (lens : List ℕ) (files : Files) → AreLens lens files → AreLens lens (data_of files)
lens_of_data lens files are = record { long = are.long; at = λ f isd. are.at f isd ∙ ap (λ (l : List ℕ). length l) (sym (data_at files f isd)) }

-- ---- the header

module _ (cs : Calls) (lens head : List ℕ) (idle : Idle cs (data_of (now cs))) (are : AreLens lens (now cs)) (is : head ≡ magic ++ numbers_bytes lens) where
  head_step : (1, written 0 head) ∷ cs ≡ (1, written 0 (header (data_of (now cs)))) ∷ cs
  head_step = λ i. (1, written 0 ((is ∙ header_is lens (now cs) are) i)) ∷ cs

  begun : Pending ((1, written 0 head) ∷ cs) (data_of (now cs)) []
  begun = subst (λ (c : Calls). Pending c (data_of (now cs)) []) (sym head_step) (begin_pending cs (data_of (now cs)) idle)

  pub begin_logging : (c1 : Calls) → c1 ≡ (1, written 0 head) ∷ cs → (f at : ℕ) → Logging c1 lens f at at
  begin_logging c1 made f at = subst (λ (c : Calls). Logging c lens f at at) (sym made) (record { kept = data_of (now cs); es = []; pending = begun; records = lens_of_data lens (now cs) are; logged = λ p low high. absurd (omega (arith, low, high)) })

  pub begin_end : (c1 : Calls) → c1 ≡ (1, written 0 head) ∷ cs → length (now c1 1) ≡ 152
  begin_end c1 made = ap (λ (c : Calls). length (now c 1)) made ∙ ap length begun.log ∙ length-append (header (data_of (now cs))) [] ∙ ap (λ k. k + 0) (length-header (data_of (now cs)))

  module _ (c1 : Calls) (image : Images cs (now cs)) (image1 : Images c1 (now c1)) where
    pub begin_quiet : c1 ≡ (1, written 0 head) ∷ cs → Quiet cs c1
    begin_quiet made = quiet_made cs c1 image image1 (data_of (now cs)) (idle_undo cs (data_of (now cs)) idle) 1 (written 0 head) made begun.undo

    pub begin_lost : IsLost cs c1 1 (written 0 head) → Quiet cs c1
    begin_lost l = quiet_lost cs c1 image image1 (data_of (now cs)) (idle_undo cs (data_of (now cs)) idle) 1 (written 0 head) l begun.undo

-- ---- an entry

module _ (cs : Calls) (recorded : List ℕ) (f from at n end : ℕ) (bytes old : List ℕ) (l : Logging cs recorded f from at) (isd : is_data f ≡ true) (some : 1 ≤ n) (few : n ≤ 4096) (inside : at + n ≤ length_of recorded f) (within : at + n ≤ length (now cs f))
    (is_end : end ≡ length (now cs 1)) (is_old : old ≡ take n (drop at (now cs f))) (is_bytes : bytes ≡ framed f at old) where
  abbrev entry : Entry
  entry = entry_of f at old

  long_old : length old ≡ n
  long_old = ap length is_old ∙ length-take n (drop at (now cs f)) ∙ omega (arith, length-drop at (now cs f), within)

  good : IsGood l.kept entry
  good = record { is_data = isd; some = omega (arith, some, long_old); few = omega (arith, few, long_old); same = refl; inside = omega (arith, inside, long_old, l.records.at f isd) }

  same_bytes : old ≡ take (length old) (drop at (now cs f))
  same_bytes = is_old ∙ ap (λ k. take k (drop at (now cs f))) (sym long_old)

  entry_step : (1, written end bytes) ∷ cs ≡ (1, written (length (log_bytes l.kept l.es)) (entry_bytes entry)) ∷ cs
  entry_step = λ i. (1, written ((is_end ∙ ap length l.pending.log) i) (is_bytes i)) ∷ cs

  appended : Pending ((1, written end bytes) ∷ cs) l.kept (l.es ++ entry ∷ [])
  appended = subst (λ (c : Calls). Pending c l.kept (l.es ++ entry ∷ [])) (sym entry_step) (append_pending cs l.kept l.es entry l.pending good same_bytes)

  covered : Logged ((1, written end bytes) ∷ cs) l.kept (l.es ++ entry ∷ []) f from (at + length old)
  covered = subst (λ (c : Calls). Logged c l.kept (l.es ++ entry ∷ []) f from (at + length old)) (sym entry_step) (append_logged cs l.kept l.es entry l.pending good same_bytes f from refl l.logged)

  pub append_logging : (c1 : Calls) → c1 ≡ (1, written end bytes) ∷ cs → Logging c1 recorded f from (at + n)
  append_logging c1 made = subst (λ (c : Calls). Logging c recorded f from (at + n)) (sym made) (record {
    kept = l.kept;
    es = l.es ++ entry ∷ [];
    pending = appended;
    records = l.records;
    logged = subst (λ k. Logged ((1, written end bytes) ∷ cs) l.kept (l.es ++ entry ∷ []) f from (at + k)) long_old covered;
  })

  pub append_end : (c1 : Calls) → c1 ≡ (1, written end bytes) ∷ cs → length (now c1 1) ≡ end + 20 + n
  append_end c1 made =
      ap (λ (c : Calls). length (now c 1)) made
      ∙ ap length (appended.log ∙ ap (λ (x : List ℕ). header l.kept ++ x) (entries_more l.es entry))
      ∙ simp (length-append) (omega (arith, long_old, length-entry entry, is_end, ap length l.pending.log, length-append (header l.kept) (entries_bytes l.es)))

  module _ (c1 : Calls) (image : Images cs (now cs)) (image1 : Images c1 (now c1)) where
    pub append_quiet : c1 ≡ (1, written end bytes) ∷ cs → Quiet cs c1
    append_quiet made = quiet_made cs c1 image image1 l.kept l.pending.undo 1 (written end bytes) made appended.undo

    pub append_lost : IsLost cs c1 1 (written end bytes) → Quiet cs c1
    append_lost is = quiet_lost cs c1 image image1 l.kept l.pending.undo 1 (written end bytes) is appended.undo

-- ---- the log is brought to the disk

module _ (cs c1 : Calls) (recorded : List ℕ) (f from to : ℕ) (l : Logging cs recorded f from to) where
  pub secured : is_data f ≡ true → c1 ≡ (1, synced) ∷ cs → Secured c1 recorded f from to
  secured isd made = subst (λ (c : Calls). Secured c recorded f from to) (sym made) (record {
    kept = l.kept;
    es = l.es;
    tx = secure_tx cs l.kept l.es l.pending;
    records = l.records;
    logged = λ p low high below has. l.logged p low high below (subst (λ (x : List ℕ). p < length x) (ap reads (of-other 1 f synced cs (λ one. one_not f isd one))) has);
  })
    where
      one_not : (g : ℕ) → is_data g ≡ true → 1 ≡ g → ⊥
      one_not g isg one = absurd (grind (arith, nat_tests))

  pub logging_calm : Images cs (now cs) → Calm cs
  logging_calm image = calm_undo cs l.kept l.pending.undo image

-- ---- a range of a file that is logged gets other bytes, or goes

-- what stands above the recorded length, or wasn't there, has no entry of this write
pub widen : (cs : Calls) (recorded : List ℕ) (f at stop all : ℕ) → is_data f ≡ true → Secured cs recorded f at stop → min (min all (length_of recorded f)) (length (now cs f)) ≤ stop → Secured cs recorded f at all
widen cs recorded f at stop all isd s le = record {
  kept = s.kept;
  es = s.es;
  tx = s.tx;
  records = s.records;
  logged = λ p low high below has. s.logged p low (omega (arith, le, high, below, has, s.records.at f isd)) below has;
}

length_wrote_below : (at : ℕ) (bytes old : List ℕ) (m : ℕ) → at ≤ length old → length old ≤ m → at + length bytes ≤ m → length (wrote at bytes old) ≤ m
unfolding wrote
length_wrote_below at bytes old m le low high = grind (arith, places)

module _ (cs c1 : Calls) (recorded : List ℕ) (f at : ℕ) (bytes : List ℕ) (s : Secured cs recorded f at (at + length bytes)) (isd : is_data f ≡ true) (within : at ≤ length (now cs f)) (small : at + length bytes ≤ 2 ^ 40) where
  put_tx : Tx ((f, written at bytes) ∷ cs) s.kept s.es
  put_tx = tx_write cs s.kept s.es f at bytes s.tx isd within (length_wrote_below at bytes (now cs f) (2 ^ 40) within (s.tx.fits f isd) small)
      (λ p low high below. ⊎_elim (λ b. s.logged p low high below b) (λ behind. s.tx.tail f isd p behind below) (cases_lt p (length (now cs f))))

  pub put_done : c1 ≡ (f, written at bytes) ∷ cs → Secured c1 recorded f at at
  put_done made = subst (λ (c : Calls). Secured c recorded f at at) (sym made) (record { kept = s.kept; es = s.es; tx = put_tx; records = s.records; logged = λ p low high. absurd (omega (arith, low, high)) })

  pub put_quiet : Images cs (now cs) → Images c1 (now c1) → c1 ≡ (f, written at bytes) ∷ cs → Quiet cs c1
  put_quiet image image1 made = quiet_made cs c1 image image1 s.kept (tx_undo cs s.kept s.es s.tx) f (written at bytes) made (tx_undo _ s.kept s.es put_tx)

  pub put_lost : Images cs (now cs) → Images c1 (now c1) → IsLost cs c1 f (written at bytes) → Quiet cs c1
  put_lost image image1 is = quiet_lost cs c1 image image1 s.kept (tx_undo cs s.kept s.es s.tx) f (written at bytes) is (tx_undo _ s.kept s.es put_tx)

module _ (cs c1 : Calls) (recorded : List ℕ) (f len : ℕ) (s : Secured cs recorded f len (length (now cs f))) (isd : is_data f ≡ true) (within : len ≤ length (now cs f)) where
  cut_tx : Tx ((f, cut_to len) ∷ cs) s.kept s.es
  cut_tx = tx_cut cs s.kept s.es f len s.tx isd within
      (λ p low below. ⊎_elim (λ b. s.logged p low b below b) (λ behind. s.tx.tail f isd p behind below) (cases_lt p (length (now cs f))))

  pub cut_done : c1 ≡ (f, cut_to len) ∷ cs → Secured c1 recorded f len len
  cut_done made = subst (λ (c : Calls). Secured c recorded f len len) (sym made) (record { kept = s.kept; es = s.es; tx = cut_tx; records = s.records; logged = λ p low high. absurd (omega (arith, low, high)) })

  pub cut_quiet : Images cs (now cs) → Images c1 (now c1) → c1 ≡ (f, cut_to len) ∷ cs → Quiet cs c1
  cut_quiet image image1 made = quiet_made cs c1 image image1 s.kept (tx_undo cs s.kept s.es s.tx) f (cut_to len) made (tx_undo _ s.kept s.es cut_tx)

  pub cut_lost : Images cs (now cs) → Images c1 (now c1) → IsLost cs c1 f (cut_to len) → Quiet cs c1
  cut_lost image image1 is = quiet_lost cs c1 image image1 s.kept (tx_undo cs s.kept s.es s.tx) f (cut_to len) is (tx_undo _ s.kept s.es cut_tx)

-- ---- between calls of the space

pub logging_of : (cs : Calls) (end : ℕ) (recorded : List ℕ) (changed : List Bool) → IsOpen cs end recorded changed → (f at : ℕ) → Logging cs recorded f at at
logging_of cs end recorded changed o f at = record { kept = o.kept; es = o.es; pending = tx_pending cs o.kept o.es o.tx; records = o.records; logged = λ p low high. absurd (omega (arith, low, high)) }

pub secured_of : (cs : Calls) (end : ℕ) (recorded : List ℕ) (changed : List Bool) → IsOpen cs end recorded changed → (f at to : ℕ) → to ≤ at → Secured cs recorded f at to
secured_of cs end recorded changed o f at to le = record { kept = o.kept; es = o.es; tx = o.tx; records = o.records; logged = λ p low high. absurd (omega (arith, low, high, le)) }

pub open_of : (cs : Calls) (end : ℕ) (recorded : List ℕ) (changed : List Bool) (f from to : ℕ) → Secured cs recorded f from to → end ≡ length (now cs 1) → Unchanged cs changed → IsOpen cs end recorded changed
open_of cs end recorded changed f from to s is u = record { kept = s.kept; es = s.es; tx = s.tx; log = is; records = s.records; unchanged = u }

pub unchanged_log : (cs c1 : Calls) (changed : List Bool) → LogOnly cs c1 → Unchanged cs changed → Unchanged c1 changed
unchanged_log cs c1 changed only u = record { long = u.long; each = λ f isd not. subst (λ (l : List Step). (i : List ℕ) → Image l i → i ≡ reads l) (sym (only.same f isd)) (u.each f isd not) }

pub lens_log : (cs c1 : Calls) (lens : List ℕ) → LogOnly cs c1 → AreLens lens (now cs) → AreLens lens (now c1)
lens_log cs c1 lens only are = record { long = are.long; at = λ f isd. are.at f isd ∙ ap (λ (l : List Step). length (reads l)) (sym (only.same f isd)) }

pub idle_unchanged : (cs : Calls) (changed : List Bool) → length changed ≡ 18 → Idle cs (data_of (now cs)) → Unchanged cs changed
idle_unchanged cs changed long idle = record { long = long; each = λ f isd not i image. idle.stand f isd i image ∙ data_at (now cs) f isd }
