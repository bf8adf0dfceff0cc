-- The entries of a log put back, from the last to the first.
use Rattle.std.proofs.Common.{◌≡◌, ⊎_elim, ℕ, ◌+◌, ◌<◌, ◌≤◌, List, [], ◌∷◌, ◌++◌, length, take, drop, refl, sym, ◌∙◌, ap, subst, arith, append_assoc, length-append, length-take, take-append-drop, true, false, cond, nat_eq}
use Rattle.std.proofs.lemmas.Bool.{cases_eq}
use Rattle.std.proofs.lemmas.Bool.Decides.{nat_tests}
use Rattle.std.proofs.lemmas.List.{append-nil}
use Rattle.tc_base.specs.Files.{Files, wrote}
use Rattle.tc_io.specs.Images.{written, reads, Calls, of, now, Images, IsLost}
use Rattle.ud_log.specs.Entries.{Entry, put_back}
use Rattle.ud_log.specs.Log.{entry_bytes, entries_bytes, entries}
use Rattle.ud_log.specs.Undo.{of_file}
use Rattle.ud_log.proofs.Codec.{length-entry}
use Rattle.ud_log.proofs.Places.{length-wrote}
use Rattle.ud_state.specs.Recovery.{CanPut, AllCanPut, CanPutBack, Restored}
use Rattle.ud_state.specs.State.{Replay}
use Rattle.ud_state.specs.Since.{Quiet}
use Rattle.ud_state.proofs.Transaction.{of-same, of-other}
use Rattle.ud_state.proofs.Taken.{quiet_made, quiet_lost}
use Rattle.ud_state.proofs.Replaying.{replay_undo, back_replay}
use Rattle.ud_state.proofs.Runs.{not_log}

-- those behind this place of the log were put back
pub record Restores (start cs : Calls) (at : ℕ) : Type 0 where
  pub before : List Entry
  pub behind : List Entry
  pub parts : entries (now start 1) ≡ before ++ behind
  pub there : at ≡ 152 + length (entries_bytes before)
  pub lengths : (f : ℕ) → length (now cs f) ≡ length (now start f)
  pub done : Restored start cs behind

pub restores_start : (cs : Calls) (end : ℕ) → CanPutBack cs end → Restores cs cs end
restores_start cs end can = record {
  before = entries (now cs 1);
  behind = [];
  parts = sym (append-nil (entries (now cs 1)));
  there = can.there;
  lengths = λ f. refl;
  done = record { log = refl; reads = λ f isd. refl; replay = λ files lens r. r };
}

-- the last of a list
pub record Last (es : List Entry) : Type 0 where
  pub front : List Entry
  pub last : Entry
  pub is : es ≡ front ++ last ∷ []

last_of : (e : Entry) (es : List Entry) → Last (e ∷ es)
last_of e [] = record { front = []; last = e; is = refl }
last_of e (f ∷ es) = let l = last_of f es in record { front = e ∷ l.front; last = l.last; is = ap (λ (x : List Entry). e ∷ x) l.is }

some_last : (es : List Entry) → 0 < length (entries_bytes es) → Last es
some_last [] some = absurd (omega (arith, some))
some_last (e ∷ es) some = last_of e es

entries_append : (a b : List Entry) → entries_bytes (a ++ b) ≡ entries_bytes a ++ entries_bytes b
entries_append [] b = refl
entries_append (e ∷ a) b = ap (λ (l : List ℕ). entry_bytes e ++ l) (entries_append a b) ∙ sym (append_assoc (entry_bytes e) (entries_bytes a) (entries_bytes b))

can_at : (cs : Calls) (a : List Entry) (e : Entry) (b : List Entry) → AllCanPut cs (a ++ e ∷ b) → CanPut cs e
can_at cs [] e b can = can.0
can_at cs (d ∷ a) e b can = can_at cs a e b can.1

module _ (start cs : Calls) (at end : ℕ) (can : CanPutBack start end) (r : Restores start cs at) (more : 152 < at) where
  abbrev log : List ℕ
  log = now start 1

  pub here : Last r.before
  here = some_last r.before (omega (arith, more, r.there))

  all_parts : entries log ≡ here.front ++ here.last ∷ r.behind
  all_parts = r.parts ∙ ap (λ (l : List Entry). l ++ r.behind) here.is ∙ append_assoc here.front (here.last ∷ []) r.behind

  pub here_can : CanPut start here.last
  here_can = can_at start here.front here.last r.behind (subst (AllCanPut start) all_parts can.can)

  abbrev pub front : List ℕ
  front = take 152 log ++ entries_bytes here.front

  abbrev pub rest : List ℕ
  rest = entries_bytes r.behind ++ drop end log

  same_log : now cs 1 ≡ log
  same_log = ap reads r.done.log

  pub log_parts : now cs 1 ≡ front ++ (entry_bytes here.last ++ rest)
  log_parts =
      same_log
      ∙ sym (take-append-drop 152 log)
      ∙ ap (λ (l : List ℕ). take 152 log ++ l)
      (can.spelled ∙ ap (λ (es : List Entry). entries_bytes es ++ drop end log) all_parts ∙ ap (λ (l : List ℕ). l ++ drop end log) (entries_append here.front (here.last ∷ r.behind)) ∙ append_assoc (entries_bytes here.front) (entry_bytes here.last ++ entries_bytes r.behind) (drop end log) ∙ ap (λ (l : List ℕ). entries_bytes here.front ++ l) (append_assoc (entry_bytes here.last) (entries_bytes r.behind) (drop end log)))
      ∙ sym (append_assoc (take 152 log) (entries_bytes here.front) (entry_bytes here.last ++ rest))

  pub front_long : length front ≡ 152 + length (entries_bytes here.front)
  front_long = length-append (take 152 log) (entries_bytes here.front) ∙ ap (λ k. k + length (entries_bytes here.front)) (length-take 152 log ∙ omega (arith, can.long))

  before_long : length (entries_bytes r.before) ≡ length (entries_bytes here.front) + length (entry_bytes here.last)
  before_long = ap (λ (es : List Entry). length (entries_bytes es)) here.is ∙ ap length (entries_append here.front (here.last ∷ [])) ∙ length-append (entries_bytes here.front) (entry_bytes here.last ++ []) ∙ ap (λ (l : List ℕ). length (entries_bytes here.front) + length l) (append-nil (entry_bytes here.last))

  pub ends_there : at ≡ length front + 20 + length here.last.bytes
  ends_there = omega (arith, r.there, before_long, front_long, length-entry here.last)

  pub inside_now : here.last.at + length here.last.bytes ≤ length (now cs here.last.file)
  inside_now = omega (arith, here_can.inside, r.lengths here.last.file)

  -- the entry is put back
  module _ (c1 : Calls) where
    abbrev e : Entry
    e = here.last

    eq_test : (f g : ℕ) → f ≡ g → nat_eq f g ≡ true
    eq_test f g is = grind (arith, nat_tests)

    ne_test : (f g : ℕ) → (f ≡ g → ⊥) → nat_eq f g ≡ false
    ne_test f g is = grind (arith, nat_tests)

    one_back : (files : Files) (lens : List ℕ) → Replay start files lens (entries log) → Replay ((e.file, written e.at e.bytes) ∷ cs) files lens (entries log)
    one_back files lens rep = back_replay cs files lens (entries log) here.front r.behind e (r.done.replay files lens rep) here_can.is_data all_parts

    pub back_made : c1 ≡ (e.file, written e.at e.bytes) ∷ cs → Restores start c1 (length front)
    back_made made = record {
      before = here.front;
      behind = e ∷ r.behind;
      parts = all_parts;
      there = front_long;
      lengths = λ f. ⊎_elim
          (λ same. subst (λ h. length (now c1 h) ≡ length (now start h)) same (ap length (now_same e.file refl) ∙ length-wrote e.at e.bytes (now cs e.file) inside_now ∙ r.lengths e.file))
          (λ other. ap length (now_other f other) ∙ r.lengths f)
          (cases_eq e.file f);
      done = record {
        log = ap (of 1) made ∙ of-other e.file 1 (written e.at e.bytes) cs (not_log e.file here_can.is_data) ∙ r.done.log;
        reads = λ f isd. ⊎_elim
            (λ same. subst (λ h. now c1 h ≡ put_back (of_file h (e ∷ r.behind)) (now start h)) same
            (now_same e.file refl ∙ ap (λ (l : List ℕ). wrote e.at e.bytes l) (r.done.reads e.file here_can.is_data) ∙ sym (ap (λ b. put_back (cond b (e ∷ of_file e.file r.behind) (of_file e.file r.behind)) (now start e.file)) (eq_test e.file e.file refl))))
            (λ other. now_other f other ∙ r.done.reads f isd ∙ sym (ap (λ b. put_back (cond b (e ∷ of_file f r.behind) (of_file f r.behind)) (now start f)) (ne_test e.file f other)))
            (cases_eq e.file f);
        replay = λ files lens rep. subst (λ (c : Calls). Replay c files lens (entries log)) (sym made) (one_back files lens rep);
      };
    }
      where
        now_same : (g : ℕ) → e.file ≡ g → now c1 e.file ≡ wrote e.at e.bytes (now cs e.file)
        now_same g is = ap (λ (c : Calls). now c e.file) made ∙ ap reads (of-same e.file (written e.at e.bytes) cs)

        now_other : (g : ℕ) → (e.file ≡ g → ⊥) → now c1 g ≡ now cs g
        now_other g other = ap (λ (c : Calls). now c g) made ∙ ap reads (of-other e.file g (written e.at e.bytes) cs other)

    module _ (image : Images cs (now cs)) (image1 : Images c1 (now c1)) (files : Files) (lens : List ℕ) (rep : Replay start files lens (entries log)) where
      pub back_quiet : c1 ≡ (e.file, written e.at e.bytes) ∷ cs → Quiet cs c1
      back_quiet made = quiet_made cs c1 image image1 files (replay_undo cs files lens (entries log) (r.done.replay files lens rep)) e.file (written e.at e.bytes) made (replay_undo _ files lens (entries log) (one_back files lens rep))

      pub back_lost : IsLost cs c1 e.file (written e.at e.bytes) → Quiet cs c1
      back_lost is = quiet_lost cs c1 image image1 files (replay_undo cs files lens (entries log) (r.done.replay files lens rep)) e.file (written e.at e.bytes) is (replay_undo _ files lens (entries log) (one_back files lens rep))

no_bytes : (es : List Entry) → length (entries_bytes es) ≡ 0 → es ≡ []
no_bytes [] is = refl
no_bytes (e ∷ es) is = absurd (omega (arith, is, length-append (entry_bytes e) (entries_bytes es), length-entry e))

pub restores_end : (start cs : Calls) (at : ℕ) → Restores start cs at → at ≤ 152 → Restored start cs (entries (now start 1))
restores_end start cs at r low =
    let none : r.before ≡ [] = no_bytes r.before (omega (arith, low, r.there)) in
    subst (λ (es : List Entry). Restored start cs es) (sym (r.parts ∙ ap (λ (es : List Entry). es ++ r.behind) none)) r.done
