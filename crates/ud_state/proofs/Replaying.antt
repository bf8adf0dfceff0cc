-- Recovery: each step of it keeps what the files are recovered to.
use Rattle.std.proofs.Common.{◌≡◌, ◌⊎◌, inl, inr, ⊎_elim, ℕ, zero, suc, ◌+◌, ◌^◌, ◌<◌, ◌≤◌, List, [], ◌∷◌, ◌++◌, length, replicate, get_or, refl, sym, ◌∙◌, ap, subst, arith, true, false, Bool, cond, Some, nat_eq, nat_le}
use Rattle.std.proofs.lemmas.Bool.{cases_lt, cases_eq, cases_Bool, and_parts}
use Rattle.std.proofs.lemmas.List.{length-replicate}
use Rattle.std.proofs.lemmas.Bool.Decides.{nat_tests}
use Rattle.tc_base.specs.Files.{Files, resized}
use Rattle.tc_io.specs.Images.{Torn, Step, written, synced, cut_to, reads, Image, Calls, of, now, Images}
use Rattle.ud_log.specs.Entries.{Entry, Inside, Covers, undone, Stands}
use Rattle.ud_log.proofs.Places.{length-put_back, length-resized}
use Rattle.ud_log.proofs.Kept.{gives_kept, holds_of, stands_of}
use Rattle.ud_log.proofs.Steps.{torn_stands, zeros_stand, cut_stands, torn_length}
use Rattle.ud_log.specs.Good.{AllShort}
use Rattle.ud_log.specs.Undo.{is_data, length_of, place_of, of_file, all_short, all_inside, Log, nothing, undoes, log_of, undone_all, by_log, files_of, recovered}
use Rattle.ud_state.specs.State.{AllUndo, Idle, Replay, NoLonger, Durable, IsSettled}
use Rattle.ud_state.specs.Since.{Calm}
use Rattle.ud_state.proofs.Transaction.{of-same, of-other}
use Rattle.ud_state.proofs.Open.{log_image, now_log}
use Rattle.ud_state.proofs.Ends.{with_nothing}

pub replay_undo : (cs : Calls) (result : Files) (lens : List ℕ) (es : List Entry) → Replay cs result lens es → AllUndo cs result
replay_undo cs result lens es r ims are =
    ap (λ (l : Log). files_of (by_log l ims)) (r.only (ims 1) (are 1)) ∙ ap (λ (fs : Files). Some fs) (λ i f. each f (cases_Bool (is_data f)) i)
  where
    each : (f : ℕ) → (is_data f ≡ true) ⊎ (is_data f ≡ false) → undone_all lens es ims f ≡ result f
    each f (inl is) =
        ap (λ b. cond b (undone (length_of lens f) (of_file f es) (ims f)) []) is
        ∙ ap (λ n. undone n (of_file f es) (ims f)) (sym (r.lengths f is))
        ∙ gives_kept (of_file f es) (result f) (ims f) (r.inside f is) (r.holds f is) (r.stands f is (ims f) (are f))
    each f (inr is) = ap (λ b. cond b (undone (length_of lens f) (of_file f es) (ims f)) []) is ∙ sym (r.blank f is)

pub inside_lens : (lens : List ℕ) (es : List Entry) (f : ℕ) → all_inside lens es ≡ true → Inside (length_of lens f) (of_file f es)
inside_lens lens [] f is = tt
inside_lens lens (e ∷ es) f is =
    let parts = and_parts (nat_le (e.at + length e.bytes) (length_of lens e.file)) (all_inside lens es) is in
    let fits : e.at + length e.bytes ≤ length_of lens e.file = grind (arith, nat_tests, parts.0) in
    ⊎_elim
    (λ same. subst (λ b. Inside (length_of lens f) (cond b (e ∷ of_file f es) (of_file f es))) (sym (hit e.file f same)) (subst (λ g. e.at + length e.bytes ≤ length_of lens g) same fits, inside_lens lens es f parts.1))
    (λ other. subst (λ b. Inside (length_of lens f) (cond b (e ∷ of_file f es) (of_file f es))) (sym (miss e.file f other)) (inside_lens lens es f parts.1))
    (cases_eq e.file f)
  where
    hit : (g h : ℕ) → g ≡ h → nat_eq g h ≡ true
    hit g h same = grind (arith, nat_tests)

    miss : (g h : ℕ) → (g ≡ h → ⊥) → nat_eq g h ≡ false
    miss g h apart = grind (arith, nat_tests)

pub short_at : (ns : List ℕ) (k : ℕ) → all_short ns ≡ true → get_or ns k 0 ≤ 2 ^ 40
short_at [] k is = omega arith
short_at (n ∷ ns) zero is = let parts = and_parts (nat_le n (2 ^ 40)) (all_short ns) is in grind (arith, nat_tests, parts.0)
short_at (n ∷ ns) (suc k) is = let parts = and_parts (nat_le n (2 ^ 40)) (all_short ns) is in short_at ns k parts.1

-- with each file on the disk as it reads, recovery may begin
module _ (cs : Calls) (lens : List ℕ) (es : List Entry) (log : log_of (now cs 1) ≡ undoes lens es) (short : all_short lens ≡ true) (fine : all_inside lens es ≡ true) (log_there : Durable cs 1) (there : (f : ℕ) → is_data f ≡ true → Durable cs f) where
  abbrev result : Files
  result = undone_all lens es (now cs)

  at_data : (f : ℕ) → is_data f ≡ true → result f ≡ undone (length_of lens f) (of_file f es) (now cs f)
  at_data f is = ap (λ b. cond b (undone (length_of lens f) (of_file f es) (now cs f)) []) is

  long : (f : ℕ) → is_data f ≡ true → length (result f) ≡ length_of lens f
  long f is = ap length (at_data f is) ∙ length-put_back (length_of lens f) (of_file f es) (resized (length_of lens f) (now cs f)) (inside_lens lens es f fine) (length-resized (length_of lens f) (now cs f))

  in_file : (f : ℕ) → is_data f ≡ true → Inside (length (result f)) (of_file f es)
  in_file f is = subst (λ n. Inside n (of_file f es)) (sym (long f is)) (inside_lens lens es f fine)

  gives : (f : ℕ) → is_data f ≡ true → undone (length (result f)) (of_file f es) (now cs f) ≡ result f
  gives f is = ap (λ n. undone n (of_file f es) (now cs f)) (long f is) ∙ sym (at_data f is)

  not_long : (f : ℕ) → (is_data f ≡ true) ⊎ (is_data f ≡ false) → length (result f) ≤ 2 ^ 40
  not_long f (inl is) = omega (arith, long f is, short_at lens (place_of f) short)
  not_long f (inr is) = omega (arith, ap (λ b. length (cond b (undone (length_of lens f) (of_file f es) (now cs f)) [])) is)

  pub replay_start : Replay cs result lens es
  replay_start = record {
    only = λ i image. ap log_of (log_there i image) ∙ log;
    blank = λ f is. ap (λ b. cond b (undone (length_of lens f) (of_file f es) (now cs f)) []) is;
    short = λ f. not_long f (cases_Bool (is_data f));
    lengths = long;
    inside = in_file;
    holds = λ f is. holds_of (of_file f es) (result f) (now cs f) (in_file f is) (gives f is);
    stands = λ f is i image. subst (λ (l : List ℕ). Stands (of_file f es) (result f) l) (sym (there f is i image)) (stands_of (of_file f es) (result f) (now cs f) (in_file f is) (gives f is));
  }

-- a step of a data file after which each of its images still stands
replay_step : (cs : Calls) (result : Files) (lens : List ℕ) (es : List Entry) (f : ℕ) (s : Step) → Replay cs result lens es → is_data f ≡ true → ((i : List ℕ) → Image (s ∷ of f cs) i → Stands (of_file f es) (result f) i) → Replay ((f, s) ∷ cs) result lens es
replay_step cs result lens es f s r isd standing = record {
  only = λ i image. r.only i (subst (λ (l : List Step). Image l i) (of-other f 1 s cs (not_log f isd)) image);
  blank = r.blank;
  short = r.short;
  lengths = r.lengths;
  inside = r.inside;
  holds = r.holds;
  stands = λ g isg i image. ⊎_elim
      (λ same. subst (λ h. Stands (of_file h es) (result h) i) same (standing i (subst (λ (l : List Step). Image l i) (of-same f s cs) (subst (λ h. Image (of h ((f, s) ∷ cs)) i) (sym same) image))))
      (λ other. r.stands g isg i (subst (λ (l : List Step). Image l i) (of-other f g s cs other) image))
      (cases_eq f g);
}
  where
    not_log : (h : ℕ) → is_data h ≡ true → h ≡ 1 → ⊥
    not_log h ish one = absurd (grind (arith, nat_tests))

torn_short : (at : ℕ) (bytes i j : List ℕ) → length i ≤ at → Torn at bytes i j → length j ≤ at + length bytes
torn_short at bytes i j short torn = ⊎_elim (λ far. omega (arith, ap length (torn.beyond far), short)) (λ le. omega (arith, short, le, torn_length at bytes i j le torn)) (cases_lt (length i) at)

-- zeros behind what each image has
pub fill_replay : (cs : Calls) (result : Files) (lens : List ℕ) (es : List Entry) (f most n : ℕ) → Replay cs result lens es → is_data f ≡ true → NoLonger cs f most → Replay ((f, written most (replicate n 0)) ∷ cs) result lens es
fill_replay cs result lens es f most n r isd short =
    replay_step cs result lens es f (written most (replicate n 0)) r isd
    (λ i image. zeros_stand (of_file f es) (result f) image.0 i most n (r.stands f isd image.0 image.1) (short image.0 image.1) image.2)

pub fill_longer : (cs : Calls) (f most n : ℕ) → NoLonger cs f most → NoLonger ((f, written most (replicate n 0)) ∷ cs) f (most + n)
fill_longer cs f most n short i image = longer (subst (λ (l : List Step). Image l i) (of-same f (written most (replicate n 0)) cs) image)
  where
    longer : Image (written most (replicate n 0) ∷ of f cs) i → length i ≤ most + n
    longer im = omega (arith, torn_short most (replicate n 0) im.0 i (short im.0 im.1) im.2, length-replicate {A = ℕ} n 0)

-- a cut to the length that the file has in the end
pub cut_replay : (cs : Calls) (result : Files) (lens : List ℕ) (es : List Entry) (f len : ℕ) → Replay cs result lens es → is_data f ≡ true → length (result f) ≤ len → Replay ((f, cut_to len) ∷ cs) result lens es
cut_replay cs result lens es f len r isd ends =
    replay_step cs result lens es f (cut_to len) r isd
    (λ i image. ⊎_elim (λ same. subst (λ (l : List ℕ). Stands (of_file f es) (result f) l) (sym same) (r.stands f isd image.0 image.1))
    (λ less. subst (λ (l : List ℕ). Stands (of_file f es) (result f) l) (sym less) (cut_stands (of_file f es) (result f) image.0 len (r.stands f isd image.0 image.1) (λ p high low. absurd (omega (arith, high, low, ends)))))
    image.2)

-- a sync
pub sync_replay : (cs : Calls) (result : Files) (lens : List ℕ) (es : List Entry) (f : ℕ) → Replay cs result lens es → is_data f ≡ true → Images cs (now cs) → Replay ((f, synced) ∷ cs) result lens es
sync_replay cs result lens es f r isd image =
    replay_step cs result lens es f synced r isd (λ i is. subst (λ (l : List ℕ). Stands (of_file f es) (result f) l) (sym is) (r.stands f isd (now cs f) (image f)))

hit_one : (f : ℕ) (e : Entry) → e.file ≡ f → nat_eq e.file f ≡ true
hit_one f e is = grind (arith, nat_tests)

covers_push : (b : Bool) (d : Entry) (es : List Entry) (p : ℕ) → Covers es p → Covers (cond b (d ∷ es) es) p
covers_push true d es p has = inr has
covers_push false d es p has = has

covers_in : (f : ℕ) (before : List Entry) (e : Entry) (behind : List Entry) (p : ℕ) → e.file ≡ f → e.at ≤ p → p < e.at + length e.bytes → Covers (of_file f (before ++ e ∷ behind)) p
covers_in f [] e behind p is low high = subst (λ b. Covers (cond b (e ∷ of_file f behind) (of_file f behind)) p) (sym (hit_one f e is)) (inl (low, high))
covers_in f (d ∷ before) e behind p is low high = covers_push (nat_eq d.file f) d (of_file f (before ++ e ∷ behind)) p (covers_in f before e behind p is low high)

-- an entry of the log is put back
pub back_replay : (cs : Calls) (result : Files) (lens : List ℕ) (es before behind : List Entry) (e : Entry) → Replay cs result lens es → is_data e.file ≡ true → es ≡ before ++ e ∷ behind → Replay ((e.file, written e.at e.bytes) ∷ cs) result lens es
back_replay cs result lens es before behind e r isd split =
    replay_step cs result lens es e.file (written e.at e.bytes) r isd
    (λ i image. torn_stands (of_file e.file es) (result e.file) image.0 i e.at e.bytes (r.stands e.file isd image.0 image.1)
    (λ p low high below. subst (λ (x : List Entry). Covers (of_file e.file x) p) (sym split) (covers_in e.file before e behind p refl low high)) image.2)

-- ---- the end, with the result on the disk

module _ (cs : Calls) (result : Files) (lens : List ℕ) (es : List Entry) (r : Replay cs result lens es) (done : (f : ℕ) → is_data f ≡ true → (i : List ℕ) → Image (of f cs) i → i ≡ result f) (none : log_of [] ≡ nothing) where
  pub cut_result : AllUndo ((1, cut_to 0) ∷ cs) result
  cut_result ims are =
      let from = are 1 in
      let images : (f : ℕ) → is_data f ≡ true → Image (of f cs) (ims f) = λ f isd. log_image cs (cut_to 0) f (ims f) isd (are f) in
      ⊎_elim
      (λ same. ap (λ (l : Log). files_of (by_log l ims)) (ap log_of same ∙ r.only from.0 from.1) ∙ ap (λ (fs : Files). Some fs) (λ i f. each ims images f (cases_Bool (is_data f)) i))
      (λ gone. with_nothing result ims r.short r.blank (λ f isd. done f isd (ims f) (images f isd)) (ap log_of gone ∙ none))
      from.2
    where
      each : (ims : Files) → ((f : ℕ) → is_data f ≡ true → Image (of f cs) (ims f)) → (f : ℕ) → (is_data f ≡ true) ⊎ (is_data f ≡ false) → undone_all lens es ims f ≡ result f
      each ims images f (inl is) =
          ap (λ b. cond b (undone (length_of lens f) (of_file f es) (ims f)) []) is
          ∙ ap (λ n. undone n (of_file f es) (ims f)) (sym (r.lengths f is))
          ∙ gives_kept (of_file f es) (result f) (ims f) (r.inside f is) (r.holds f is) (r.stands f is (ims f) (images f is))
      each ims images f (inr is) = ap (λ b. cond b (undone (length_of lens f) (of_file f es) (ims f)) []) is ∙ sym (r.blank f is)

-- nothing is left of the log
pub emptied : (cs : Calls) (kept : Files) → AllShort kept → ((f : ℕ) → is_data f ≡ false → kept f ≡ []) → ((f : ℕ) → is_data f ≡ true → now cs f ≡ kept f) → ((f : ℕ) → is_data f ≡ true → Durable cs f) → Idle ((1, synced) ∷ (1, cut_to 0) ∷ cs) kept
emptied cs kept short blank same there = record {
  short = short;
  blank = blank;
  log = refl;
  only = λ i image. image;
  same = λ f isd. now_log ((1, cut_to 0) ∷ cs) synced f isd ∙ now_log cs (cut_to 0) f isd ∙ same f isd;
  stand = λ f isd i image. there f isd i (log_image cs (cut_to 0) f i isd (log_image ((1, cut_to 0) ∷ cs) synced f i isd image)) ∙ same f isd;
}

-- the log is brought to the disk first: where the volume is settled, each image is then undone to the same
pub sync_log_calm : (cs : Calls) → IsSettled cs → Images cs (now cs) → Calm ((1, synced) ∷ cs)
sync_log_calm cs settled image = record {
  all = λ ims are. settled.same ims (now cs) (earlier ims are) image (are 1) ∙ ap recovered (λ i f. sym (unchanged f) i);
}
  where
    earlier : (ims : Files) → Images ((1, synced) ∷ cs) ims → Images cs ims
    earlier ims are f = ⊎_elim
        (λ log. subst (λ g. Image (of g cs) (ims g)) (sym log) (subst (λ (i : List ℕ). Image (of 1 cs) i) (sym (are 1)) (image 1)))
        (λ other. subst (λ (l : List Step). Image l (ims f)) (of-other 1 f synced cs (λ same. other (sym same))) (are f))
        (cases_eq f 1)

    unchanged : (f : ℕ) → now ((1, synced) ∷ cs) f ≡ now cs f
    unchanged f = ⊎_elim
        (λ same. subst (λ h. now ((1, synced) ∷ cs) h ≡ now cs h) same refl)
        (λ other. ap reads (of-other 1 f synced cs other))
        (cases_eq 1 f)
