-- Writes behind the log that are joined: what a stop leaves of the one is what it may leave of the several.
use Rattle.std.proofs.Common.{◌≡◌, ⊎_elim, ℕ, zero, suc, ◌+◌, ◌-◌, ◌<◌, ◌≤◌, List, [], ◌∷◌, ◌++◌, length, take, drop, refl, sym, ◌∙◌, ap, subst, arith, length-append, length-take, length-drop, take-append-drop, true, Bool}
use Rattle.std.proofs.lemmas.Bool.{cases_lt, cases_eq}
use Rattle.std.proofs.lemmas.List.{places, same_lists, take_all}
use Rattle.tc_base.specs.Bytes.{IsBytes}
use Rattle.tc_base.specs.Files.{Files, wrote}
use Rattle.tc_io.specs.Images.{Calls, Image, Images, IsLost, Step, Torn, now, of, reads, written}
use Rattle.ud_log.specs.Entries.{Entry}
use Rattle.ud_log.specs.Log.{framed, magic, numbers_bytes}
use Rattle.ud_log.specs.Undo.{data_of, is_data, length_of, of_file}
use Rattle.ud_log.specs.Entries.{Stands}
use Rattle.ud_state.specs.Since.{Calm, Quiet}
use Rattle.ud_state.specs.State.{AllUndo, AreLens, Idle, IsOpen, Logging, LogOnly, NoLonger, Pending}
use Rattle.ud_state.proofs.Open.{torn_end, tx_pending}
use Rattle.ud_state.proofs.Runs.{log_only_made, log_only_then, not_log}
use Rattle.ud_state.proofs.Taken.{calm_undo, quiet_made, quiet_lost}
use Rattle.ud_state.proofs.Transaction.{of-other}
use Rattle.ud_state.proofs.Writing.{append_end, append_logging, begin_end, begin_logging}
use Rattle.tc_undo.specs.Ahead.{IsPending, Joins, Waits, ahead, appended, text}
use Rattle.tc_undo.specs.Changes.{Logs}
use Rattle.tc_undo.specs.Guards.{Grows, LoggingAll}
use Rattle.tc_undo.specs.declared.piece.Piece.{Piece}
use Rattle.tc_undo.specs.declared.waiting.Waiting.{Waiting}
use Rattle.tc_undo.proofs.Guarding.{grows_by}

-- ---- what may come of a write

-- nothing
torn_none : (at : ℕ) (bytes old : List ℕ) → Torn at bytes old old
torn_none at bytes old = record {
  no_shorter = omega arith;
  before = refl;
  behind = same_lists _ _ (grind (arith, places)) (λ k d h. grind (arith, places));
  grown = λ le. same_lists _ _ (grind (arith, places)) (λ k d h. grind (arith, places));
  beyond = λ _. refl;
  are_bytes = λ b _. b;
}

taken_bytes : (n : ℕ) (bytes : List ℕ) → IsBytes bytes → IsBytes (take n bytes)
taken_bytes zero bytes h i = omega arith
taken_bytes (suc n) [] h i = omega arith
taken_bytes (suc n) (b ∷ bytes) h zero = h 0
taken_bytes (suc n) (b ∷ bytes) h (suc i) = taken_bytes n bytes (λ j. h (suc j)) i

front_bytes : (k : ℕ) (old bytes : List ℕ) → IsBytes old → IsBytes bytes → IsBytes (old ++ take k bytes)
front_bytes k [] bytes f g i = taken_bytes k bytes g i
front_bytes k (x ∷ old) bytes f g zero = f 0
front_bytes k (x ∷ old) bytes f g (suc i) = front_bytes k old bytes (λ j. f (suc j)) g i

-- a front of what stands behind the old bytes
torn_front : (at k : ℕ) (bytes old : List ℕ) → length old ≡ at → Torn at bytes old (old ++ take k bytes)
torn_front at k bytes old is = record {
  no_shorter = grind (arith, places);
  before = same_lists _ _ (grind (arith, places)) (λ j d h. grind (arith, places));
  behind = same_lists _ _ (grind (arith, places)) (λ j d h. grind (arith, places));
  grown = λ le. same_lists _ _ (grind (arith, places)) (λ j d h. grind (arith, places));
  beyond = λ far. absurd (omega (arith, far, is));
  are_bytes = front_bytes k old bytes;
}

-- a write of two texts behind a log: what comes of it comes of a write of the first and one of the second
module _ (at : ℕ) (a b : List ℕ) where
  pub record Between (old new : List ℕ) : Type 0 where
    pub middle : List ℕ
    pub first : Torn at a old middle
    pub second : Torn (at + length a) b middle new

  short_front : (k : ℕ) (old : List ℕ) → k < length a → old ++ take k (a ++ b) ≡ old ++ take k a
  short_front k old low = same_lists _ _ (grind (arith, places)) (λ j d h. grind (arith, places))

  long_front : (k : ℕ) (old : List ℕ) → length a ≤ k → old ++ take k (a ++ b) ≡ (old ++ a) ++ take (k - length a) b
  long_front k old high = same_lists _ _ (grind (arith, places)) (λ j d h. grind (arith, places))

  whole_front : (old : List ℕ) → old ++ take (length a) a ≡ old ++ a
  whole_front old = ap (λ (l : List ℕ). old ++ l) (take_all (length a) a (omega arith))

  between_behind : (k : ℕ) (old : List ℕ) → length old ≡ at → Between old (old ++ take k (a ++ b))
  between_behind k old is = ⊎_elim
      (λ low. record {
        middle = old ++ take k (a ++ b);
        first = subst (λ (l : List ℕ). Torn at a old l) (sym (short_front k old low)) (torn_front at k a old is);
        second = torn_none (at + length a) b (old ++ take k (a ++ b));
      })
      (λ high. record {
        middle = old ++ a;
        first = subst (λ (l : List ℕ). Torn at a old l) (whole_front old) (torn_front at (length a) a old is);
        second = subst (λ (l : List ℕ). Torn (at + length a) b (old ++ a) l) (sym (long_front k old high)) (torn_front (at + length a) (k - length a) b (old ++ a) (length-append old a ∙ ap (λ n. n + length a) is));
      })
      (cases_lt k (length a))

  pub between : (old new : List ℕ) → length old ≤ at → Torn at (a ++ b) old new → Between old new
  between old new le torn = ⊎_elim
      (λ far. subst (λ (l : List ℕ). Between old l) (sym (torn.beyond far)) (record { middle = old; first = torn_none at a old; second = torn_none (at + length a) b old }))
      (λ there.
      let is : length old ≡ at = omega (arith, le, there) in
      let tail : new ≡ old ++ take (length new - length old) (a ++ b) = torn_end (a ++ b) old new (subst (λ n. Torn n (a ++ b) old new) (sym is) torn) in
      subst (λ (l : List ℕ). Between old l) (sym tail) (between_behind (length new - length old) old is))
      (cases_lt (length old) at)

  wrote_both : (old : List ℕ) → length old ≡ at → wrote at (a ++ b) old ≡ wrote (at + length a) b (wrote at a old)
  unfolding wrote
  wrote_both old is = same_lists _ _ (grind (arith, places)) (λ j d h. grind (arith, places))

-- ---- calls that are joined

pub joins_refl : (cs : Calls) → Joins cs cs
joins_refl cs = record { images = λ i image. image; reads = refl; others = λ f other. refl }

pub joins_then : (a b c : Calls) → Joins a b → Joins b c → Joins a c
joins_then a b c first second = record { images = λ i image. first.images i (second.images i image); reads = second.reads ∙ first.reads; others = λ f other. second.others f other ∙ first.others f other }

-- a write of the log behind calls that are joined
pub joins_more : (a b : Calls) (at : ℕ) (bytes : List ℕ) → Joins a b → Joins ((1, written at bytes) ∷ a) ((1, written at bytes) ∷ b)
joins_more a b at bytes j = record {
  images = λ i image. (image.0, j.images image.0 image.1, image.2);
  reads = ap (λ (l : List ℕ). wrote at bytes l) j.reads;
  others = λ f other. of-other 1 f (written at bytes) b other ∙ j.others f other ∙ sym (of-other 1 f (written at bytes) a other);
}

none_taken : (n k : ℕ) (l : List ℕ) → length l ≡ 0 → length (take n (drop k l)) ≡ 0
none_taken n k l none = grind (arith, places)

halves : (at n : ℕ) (old new : List ℕ) → n ≡ 0 → length new ≡ length old → take at new ≡ take at old → drop (at + n) (take (length old) new) ≡ drop (at + n) old → new ≡ old
halves at n old new none same front back =
    sym (take-append-drop at new)
    ∙ (λ i. front i ++ rest i)
    ∙ take-append-drop at old
  where
    all : at + n ≡ at
    all = omega (arith, none)

    rest : drop at new ≡ drop at old
    rest = sym (ap (λ (l : List ℕ). drop at l) (take_all (length old) new (omega (arith, same)))) ∙ sym (ap (λ k. drop k (take (length old) new)) all) ∙ back ∙ ap (λ k. drop k old) all

torn_nothing : (at : ℕ) (bytes old new : List ℕ) → length bytes ≡ 0 → Torn at bytes old new → new ≡ old
torn_nothing at bytes old new none t = ⊎_elim
    (λ far. t.beyond far)
    (λ there.
    let short : length (drop (length old) new) ≡ 0 = ap length (t.grown there) ∙ none_taken (length new - length old) (length old - at) bytes none in
    halves at (length bytes) old new none (omega (arith, short, length-drop (length old) new, t.no_shorter)) t.before t.behind)
    (cases_lt (length old) at)

wrote_nothing : (at : ℕ) (old : List ℕ) → at ≤ length old → wrote at [] old ≡ old
unfolding wrote
wrote_nothing at old le = same_lists _ _ (grind (arith, places)) (λ j d h. grind (arith, places))

-- nothing waits
pub joins_none : (cs : Calls) (bytes : List ℕ) → bytes ≡ [] → Joins cs (appended cs bytes)
joins_none cs bytes none = subst (λ (b : List ℕ). Joins cs (appended cs b)) (sym none) (record {
  images = λ i image. subst (λ (l : List ℕ). Image (of 1 cs) l) (sym (torn_nothing (length (now cs 1)) [] image.0 i refl image.2)) image.1;
  reads = wrote_nothing (length (now cs 1)) (now cs 1) (omega arith);
  others = λ f other. of-other 1 f (written (length (now cs 1)) []) cs other;
})

-- a text that waits, and one more
pub joins_text : (cs : Calls) (a b : List ℕ) (end : ℕ) → NoLonger cs 1 (length (now cs 1)) → end ≡ length (now cs 1) + length a → Joins ((1, written end b) ∷ appended cs a) (appended cs (a ++ b))
joins_text cs a b end most is = subst (λ n. Joins ((1, written n b) ∷ appended cs a) (appended cs (a ++ b))) (sym is) (record {
  images = λ i image. let t = between (length (now cs 1)) a b image.0 i (most image.0 image.1) image.2 in (t.middle, (image.0, image.1, t.first), t.second);
  reads = wrote_both (length (now cs 1)) a b (now cs 1) refl;
  others = λ f other. of-other 1 f (written (length (now cs 1)) (a ++ b)) cs other ∙ sym (of-other 1 f (written (length (now cs 1) + length a) b) (appended cs a) other ∙ of-other 1 f (written (length (now cs 1)) a) cs other);
})

-- ---- what calls that are joined keep

module _ (a b : Calls) (j : Joins a b) where
  one_ne : (f : ℕ) → is_data f ≡ true → 1 ≡ f → ⊥
  one_ne f is one = not_log f is (sym one)

  image_before : (f : ℕ) (i : List ℕ) → Image (of f b) i → Image (of f a) i
  image_before f i image = ⊎_elim
      (λ one. subst (λ g. Image (of g b) i → Image (of g a) i) one (j.images i) image)
      (λ other. subst (λ (l : List Step). Image l i) (j.others f other) image)
      (cases_eq 1 f)

  pub same_now : (f : ℕ) → is_data f ≡ true → now b f ≡ now a f
  same_now f isd = ap reads (j.others f (one_ne f isd))

  pub joins_only : LogOnly a b
  joins_only = record { same = λ f isd. j.others f (one_ne f isd) }

  pub joins_pending : (kept : Files) (es : List Entry) → Pending a kept es → Pending b kept es
  joins_pending kept es p = record {
    files = record { short = p.files.short; good = p.files.good; blank = p.files.blank; holds = p.files.holds; stands = λ f isd i image. p.files.stands f isd i (image_before f i image) };
    log = j.reads ∙ p.log;
    only = λ i image. p.only i (j.images i image);
    undo = λ ims are. p.undo ims (λ f. image_before f (ims f) (are f));
    stand = λ f isd. subst (λ (l : List ℕ). Stands (of_file f es) (kept f) l) (sym (same_now f isd)) (p.stand f isd);
    tail = λ f isd p1 le low. p.tail f isd p1 (subst (λ (l : List ℕ). length l ≤ p1) (same_now f isd) le) low;
    fits = λ f isd. omega (arith, p.fits f isd, ap length (same_now f isd));
  }

  pub joins_logging : (recorded : List ℕ) (f from to : ℕ) → is_data f ≡ true → Logging a recorded f from to → Logging b recorded f from to
  joins_logging recorded f from to isd l = record {
    kept = l.kept;
    es = l.es;
    pending = joins_pending l.kept l.es l.pending;
    records = l.records;
    logged = λ p low high below has. l.logged p low high below (subst (λ (x : List ℕ). p < length x) (same_now f isd) has);
  }

  pub joins_grows : (old : Calls) (recorded : List ℕ) (f from to : ℕ) → Grows old a recorded f from to → Grows old b recorded f from to
  joins_grows old recorded f from to grows = record {
    each = λ kept es pend records.
        let g = grows.each kept es pend records in
        record { more = g.more; pending = joins_pending kept g.more g.pending; covers = g.covers; guards = g.guards };
  }

-- ---- what waits is written

-- each image of the calls is one of a write of which nothing came
image_lost : (cs : Calls) (at : ℕ) (bytes : List ℕ) (ims : Files) → Images cs ims → Images ((1, written at bytes) ∷ cs) ims
image_lost cs at bytes ims are f = ⊎_elim
    (λ one. subst (λ g. Image (of g ((1, written at bytes) ∷ cs)) (ims g)) one here)
    (λ other. subst (λ (l : List Step). Image l (ims f)) (sym (of-other 1 f (written at bytes) cs other)) (are f))
    (cases_eq 1 f)
  where
    here : Image (of 1 ((1, written at bytes) ∷ cs)) (ims 1)
    here = (ims 1, are 1, torn_none at bytes (ims 1))

module _ (cs c1 : Calls) (bytes : List ℕ) (p : IsPending (appended cs bytes)) where
  undo_before : AllUndo cs p.kept
  undo_before ims are = p.pending.undo ims (image_lost cs (length (now cs 1)) bytes ims are)

  pub pending_calm : Images cs (now cs) → Images c1 (now c1) → c1 ≡ appended cs bytes → Quiet cs c1
  pending_calm image image1 made = quiet_made cs c1 image image1 p.kept undo_before 1 (written (length (now cs 1)) bytes) made p.pending.undo

  pub pending_lost : Images cs (now cs) → Images c1 (now c1) → IsLost cs c1 1 (written (length (now cs 1)) bytes) → Quiet cs c1
  pending_lost image image1 lost = quiet_lost cs c1 image image1 p.kept undo_before 1 (written (length (now cs 1)) bytes) lost p.pending.undo

pub pending_made : (cs c1 : Calls) → c1 ≡ cs → IsPending cs → IsPending c1
pending_made cs c1 made p = subst IsPending (sym made) p

pub calm_pending : (cs : Calls) → IsPending cs → Images cs (now cs) → Calm cs
calm_pending cs p image = calm_undo cs p.kept p.pending.undo image

pub no_longer : (cs : Calls) → IsPending cs → NoLonger cs 1 (length (now cs 1))
no_longer cs p i image = ⊎_elim (λ whole. omega (arith, ap length whole, ap length p.pending.log)) (λ short. omega (arith, short, ap length p.pending.log)) (p.pending.only i image)

length_behind : (at : ℕ) (bytes old : List ℕ) → length old ≡ at → length (wrote at bytes old) ≡ at + length bytes
unfolding wrote
length_behind at bytes old is = grind (arith, places)

pub end_of : (cs : Calls) (bytes : List ℕ) → length (now (appended cs bytes) 1) ≡ length (now cs 1) + length bytes
end_of cs bytes = length_behind (length (now cs 1)) bytes (now cs 1) refl

-- what waits is written at the log's end
pub written_at : (cs : Calls) (w : Waiting) (end at : ℕ) → length w.room ≡ 16384 → Waits cs w end → at ≡ end - w.size → at ≡ length (now cs 1)
written_at cs w end at long waits is = omega (arith, is, waits.end_is, end_of cs (text w), length-take w.size w.room, long, w.fits)

module _ (cs : Calls) (w w1 : Waiting) (end : ℕ) (bytes : List ℕ) (waits : Waits cs w end) (more : text w1 ≡ text w ++ bytes) where
  pub added_joins : Joins ((1, written end bytes) ∷ ahead cs w) (ahead cs w1)
  added_joins = subst (λ (l : List ℕ). Joins ((1, written end bytes) ∷ ahead cs w) (appended cs l)) (sym more) (joins_text cs (text w) bytes end waits.no_longer (waits.end_is ∙ end_of cs (text w)))

  pub added_waits : Waits cs w1 (end + length bytes)
  added_waits = record { no_longer = waits.no_longer; end_is = omega (arith, waits.end_is, end_of cs (text w), end_of cs (text w1), ap length more, length-append (text w) bytes) }

pub text_more : (n : ℕ) (room bytes : List ℕ) → n + length bytes ≤ length room → take (n + length bytes) (wrote n bytes room) ≡ take n room ++ bytes
unfolding wrote
text_more n room bytes low = same_lists _ _ (grind (arith, places)) (λ k d h. grind (arith, places))

-- ---- an entry more waits

module _ (cs c1 : Calls) (recorded : List ℕ) (f from at n end : ℕ) (bytes old : List ℕ) (l : Logging cs recorded f from at) (isd : is_data f ≡ true) (some : 1 ≤ n) (few : n ≤ 4096) (inside : at + n ≤ length_of recorded f)
    (within : at + n ≤ length (now cs f)) (is_end : end ≡ length (now cs 1)) (is_old : old ≡ take n (drop at (now cs f))) (is_bytes : bytes ≡ framed f at old) (j : Joins ((1, written end bytes) ∷ cs) c1) where
  pub entry_logs : Logs cs c1 recorded f from (at + n) (end + 20 + n)
  entry_logs = record {
    logging = joins_logging _ c1 j recorded f from (at + n) isd (append_logging cs recorded f from at n end bytes old l isd some few inside within is_end is_old is_bytes _ refl);
    end_is = sym (ap length j.reads ∙ append_end cs recorded f from at n end bytes old l isd some few inside within is_end is_old is_bytes _ refl);
    only = log_only_then cs _ c1 (log_only_made cs _ _ refl) (joins_only _ c1 j);
  }

  pub entry_grows : Grows cs c1 recorded f at (at + n)
  entry_grows = joins_grows _ c1 j cs recorded f at (at + n) (grows_by cs _ recorded f at n end bytes old isd some few inside within is_end is_old is_bytes refl)

pub logging_pending : {cs : Calls} {recorded : List ℕ} {f from to : ℕ} → Logging cs recorded f from to → IsPending cs
logging_pending l = record { kept = l.kept; es = l.es; pending = l.pending }

pub logging_all_pending : {cs : Calls} {recorded : List ℕ} {ps : List Piece} → LoggingAll cs recorded ps → IsPending cs
logging_all_pending l = record { kept = l.kept; es = l.es; pending = l.pending }

-- ---- the front of a log waits

module _ (cs : Calls) (w : Waiting) (lens : List ℕ) (idle : Idle cs (data_of (now cs))) (are : AreLens lens (now cs)) (is : text w ≡ magic ++ numbers_bytes lens) where
  begun_step : ahead cs w ≡ (1, written 0 (text w)) ∷ cs
  begun_step = ap (λ n. (1, written n (text w)) ∷ cs) (ap length idle.log)

  pub begun_logs : (f at : ℕ) → Logs cs (ahead cs w) lens f at at 152
  begun_logs f at = record {
    logging = begin_logging cs lens (text w) idle are is (ahead cs w) begun_step f at;
    end_is = sym (begin_end cs lens (text w) idle are is (ahead cs w) begun_step);
    only = log_only_made cs (ahead cs w) _ begun_step;
  }

  pub begun_waits : Waits cs w 152
  begun_waits = record { no_longer = λ i image. omega (arith, ap length (idle.only i image)); end_is = sym (begin_end cs lens (text w) idle are is (ahead cs w) begun_step) }

-- ---- nothing waits behind an open log

module _ (cs : Calls) (w : Waiting) (none : text w ≡ []) where
  pub open_joins : Joins cs (ahead cs w)
  open_joins = joins_none cs (text w) none

  pub open_waits : (end : ℕ) → IsPending cs → end ≡ length (now cs 1) → Waits cs w end
  open_waits end p is = record { no_longer = no_longer cs p; end_is = is ∙ sym (ap length open_joins.reads) }

pub open_pending : {cs : Calls} {end : ℕ} {recorded : List ℕ} {changed : List Bool} → IsOpen cs end recorded changed → IsPending cs
open_pending {cs} o = record { kept = o.kept; es = o.es; pending = tx_pending cs o.kept o.es o.tx }
