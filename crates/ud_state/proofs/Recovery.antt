-- Recovery from the first sync to the empty log, stopped anywhere and run again.
use Rattle.std.proofs.Common.{◌≡◌, ◌⊎◌, inl, inr, ⊎_elim, ℕ, ◌+◌, ◌^◌, ◌≤◌, List, [], ◌∷◌, ◌++◌, length, take, drop, refl, sym, ◌∙◌, ap, subst, arith, true, false, Bool, cond, ◌&&◌, nat_eq, nat_le, Option, Some, None}
use Rattle.ud_log.specs.Scan.{ScannedAll}
use Rattle.std.proofs.lemmas.Bool.{cases_Bool, and_parts}
use Rattle.std.proofs.lemmas.Bool.Decides.{nat_tests}
use Rattle.tc_base.specs.Files.{Files, resized}
use Rattle.tc_io.specs.Images.{Step, synced, cut_to, lost, reads, Image, Calls, of, now, Images, IsLost, IsLostSync, WasLostSync}
use Rattle.ud_log.specs.Entries.{Entry}
use Rattle.ud_log.specs.Log.{entries, entries_bytes}
use Rattle.ud_log.specs.Undo.{is_data, place_of, length_of, is_formed, all_short, all_formed, all_inside, nothing, undoes, log_of, data_of, recovered}
use Rattle.ud_log.proofs.Logs.{data_below}
use Rattle.ud_log.proofs.Places.{length-resized}
use Rattle.ud_state.specs.State.{AllUndo, Idle, Replay, Durable, AreLens, IsSettled}
use Rattle.ud_state.specs.Recovery.{StaysSettled, not_yet, since, Recovers, Ready, CanPut, AllCanPut, CanPutBack}
use Rattle.ud_state.specs.Since.{Since, here, more, Leaves, Calm, Quiet, since_as}
use Rattle.ud_state.proofs.Taken.{lost_image, quiet_made, quiet_lost, calm_undo}
use Rattle.ud_state.proofs.Ends.{with_nothing, log_nothing}
use Rattle.ud_state.proofs.Replaying.{replay_undo, cut_result, emptied, sync_log_calm, short_at}
use Rattle.ud_state.proofs.Transaction.{of-other}
use Rattle.ud_state.proofs.Runs.{sync_reads, not_log}

calm_settled : (cs : Calls) (files : Files) → (w : Option Files) → w ≡ Some files → Leaves (λ o. o ≡ w) cs → IsSettled cs
calm_settled cs files w is all = record {
  same = λ ims jms are bre log. all ims are ∙ sym (all jms bre);
  whole = λ ims are none. let both : Some files ≡ None = sym is ∙ sym (all ims are) ∙ none in absurd cc;
}

settled_files : (cs : Calls) → IsSettled cs → (ims : Files) → Images cs ims → (fs : Files) × (recovered ims ≡ Some fs)
settled_files cs settled ims are = which (recovered ims) (settled.whole ims are)
  where
    which : (w : Option Files) → (w ≡ None → ⊥) → (fs : Files) × (w ≡ Some fs)
    which (Some fs) some = (fs, refl)
    which None some = absurd (some refl)

lost_settled : (cs : Calls) (f : ℕ) (r : List ℕ) → IsSettled cs → IsSettled ((f, lost r) ∷ cs)
lost_settled cs f r settled = record {
  same = λ ims jms are bre log. settled.same ims jms (λ g. lost_image cs f g r (ims g) (are g)) (λ g. lost_image cs f g r (jms g) (bre g)) log;
  whole = λ ims are. settled.whole ims (λ g. lost_image cs f g r (ims g) (are g));
}

pub recovers_not : (old new : Calls) → IsSettled old → IsLostSync old new 1 → Recovers old new
recovers_not old new settled is = record {
  moments = ⊎_elim
      (λ same. subst (λ (c : Calls). Since (StaysSettled old) old c) (sym same) here)
      (λ (was : WasLostSync old new 1). subst (λ (c : Calls). Since (StaysSettled old) old c) (sym was.is)
      (more (1, lost was.reads) old here (record { settled = lost_settled old 1 was.reads settled; leads = record { from = λ ims are. (ims, (λ g. lost_image old 1 g was.reads (ims g) (are g)), refl) } })))
      is;
  from = not_yet is;
}

since_after : (P : Calls → Type 0) (a b c : Calls) → Since P a b → Since P b c → Since P a c
since_after P a b _ first here = first
since_after P a b _ first (more c cs second p) = more c cs (since_after P a b cs first second) p

pub recovers_since : (old new : Calls) → IsSettled old → Images old (now old) → Quiet ((1, synced) ∷ old) new → Recovers old new
recovers_since old new settled image quiet =
    let calm = sync_log_calm old settled image in
    let w = recovered (now ((1, synced) ∷ old)) in
    let kept : w ≡ recovered (now old) = ap recovered (λ i f. sync_reads old 1 f i) in
    let files = settled_files old settled (now old) image in
    let good : (c : Calls) → Leaves (λ o. o ≡ w) c → StaysSettled old c = λ c leaves. record {
      settled = calm_settled c files.0 w (kept ∙ files.1) leaves;
      leads = record { from = λ ims are. (now old, image, leaves ims are ∙ kept) };
    } in
    record {
      moments = since_after (StaysSettled old) old ((1, synced) ∷ old) new (more (1, synced) old here (good ((1, synced) ∷ old) calm.all)) (since_as (Leaves (λ o. o ≡ w)) (StaysSettled old) ((1, synced) ∷ old) new good quiet.moments);
      from = since quiet;
    }

-- ---- the entries that the scan found may be put back

and_four : (a b c d : Bool) → (a && b && c && d) ≡ true → (a ≡ true) × ((b ≡ true) × ((c ≡ true) × (d ≡ true)))
and_four true true true true is = (refl, (refl, (refl, refl)))
and_four true true true false is = absurd cc
and_four true true false d is = absurd cc
and_four true false c d is = absurd cc
and_four false b c d is = absurd cc

can_all : (cs : Calls) (lens : List ℕ) (es : List Entry) → all_short lens ≡ true → all_formed es ≡ true → all_inside lens es ≡ true → ((f : ℕ) → is_data f ≡ true → length (now cs f) ≡ length_of lens f) → AllCanPut cs es
can_all cs lens [] short formed inside long = tt
can_all cs lens (e ∷ es) short formed inside long =
    let f = and_parts (is_formed e) (all_formed es) formed in
    let i = and_parts (nat_le (e.at + length e.bytes) (length_of lens e.file)) (all_inside lens es) inside in
    (can_one e f.0 i.0, can_all cs lens es short f.1 i.1 long)
  where
    can_one : (d : Entry) → is_formed d ≡ true → nat_le (d.at + length d.bytes) (length_of lens d.file) ≡ true → CanPut cs d
    can_one d form ins =
        let parts = and_four (is_data d.file) (nat_le 1 (length d.bytes)) (nat_le (length d.bytes) 4096) (nat_eq d.again (length d.bytes)) form in
        let few : length d.bytes ≤ 4096 = let p = parts.1.1.0 in grind (arith, nat_tests, p) in
        let same : d.again ≡ length d.bytes = let p = parts.1.1.1 in grind (arith, nat_tests, p) in
        let fits : d.at + length d.bytes ≤ length_of lens d.file = grind (arith, nat_tests, ins) in
        record {
          formed = form;
          is_data = parts.0;
          fits = record { file = omega (arith, data_below d.file parts.0); at = omega (arith, fits, short_at lens (place_of d.file) short); size = omega (arith, few); again = omega (arith, few, same) };
          inside = omega (arith, fits, long d.file parts.0);
        }

pub can_put_back : (old cs : Calls) (lens : List ℕ) (end : ℕ) → ScannedAll (now old 1) lens end true → all_short lens ≡ true → 152 ≤ length (now old 1) → of 1 cs ≡ of 1 old → ((f : ℕ) → is_data f ≡ true → now cs f ≡ resized (length_of lens f) (now old f)) → CanPutBack cs end
can_put_back old cs lens end sc short long same files =
    let log : now old 1 ≡ now cs 1 = sym (ap reads same) in
    record {
      spelled = subst (λ (l : List ℕ). drop 152 l ≡ entries_bytes (entries l) ++ drop end l) log sc.spelled;
      there = subst (λ (l : List ℕ). end ≡ 152 + length (entries_bytes (entries l))) log sc.there;
      long = subst (λ (l : List ℕ). 152 ≤ length l) log long;
      can = subst (λ (l : List ℕ). AllCanPut cs (entries l)) log (can_all cs lens (entries (now old 1)) short sc.formed sc.inside (λ f isd. ap length (files f isd) ∙ length-resized (length_of lens f) (now old f)));
    }

-- ---- the end

none_left : (l : List ℕ) → length l ≡ 0 → l ≡ []
none_left [] is = refl
none_left (x ∷ l) is = absurd (omega (arith, is))

pub ready_replay : (cs : Calls) (result : Files) (lens : List ℕ) (es : List Entry) → Replay cs result lens es → Images cs (now cs) → ((f : ℕ) → is_data f ≡ true → Durable cs f) → ((f : ℕ) → is_data f ≡ true → now cs f ≡ result f) → Ready cs result
ready_replay cs result lens es r image there same = record {
  undo = replay_undo cs result lens es r;
  cut = cut_result cs result lens es r (λ f isd i im. there f isd i im ∙ same f isd) (log_nothing result);
  gone = emptied cs result r.short r.blank same there;
  empty = λ none.
      let says : log_of [] ≡ undoes lens es = sym (ap log_of (none_left (now cs 1) none)) ∙ r.only (now cs 1) (image 1) in
      let both : nothing ≡ undoes lens es = sym (log_nothing result) ∙ says in
      absurd cc;
}

ready_cut : (cs : Calls) (files ims : Files) → ((l : List ℕ) → log_of l ≡ nothing → (ims 1 ≡ l) → recovered ims ≡ Some files) → (j : List ℕ) → log_of j ≡ nothing → (ims 1 ≡ j) ⊎ (ims 1 ≡ take 0 j) → recovered ims ≡ Some files
ready_cut cs files ims gives j says (inl same) = gives j says same
ready_cut cs files ims gives j says (inr cut) = gives [] (log_nothing files) cut

pub ready_nothing : (cs : Calls) (lens : List ℕ) → log_of (now cs 1) ≡ nothing → AreLens lens (now cs) → all_short lens ≡ true → Durable cs 1 → ((f : ℕ) → is_data f ≡ true → Durable cs f) → Ready cs (data_of (now cs))
ready_nothing cs lens says are short log there =
    let files = data_of (now cs) in
    record {
      undo = λ ims im. with_nothing files ims small blank (λ f isd. there f isd (ims f) (im f) ∙ sym (at f isd)) (ap log_of (log (ims 1) (im 1)) ∙ says);
      cut = λ ims im.
          let from = im 1 in
          ready_cut cs files ims (λ l nothing_there is. with_nothing files ims small blank (λ f isd. there f isd (ims f) (subst (λ (s : List Step). Image s (ims f)) (other f isd) (im f)) ∙ sym (at f isd)) (ap log_of is ∙ nothing_there)) from.0 (ap log_of (log from.0 from.1) ∙ says) from.2;
      gone = emptied cs files small blank (λ f isd. sym (at f isd)) there;
      empty = λ none. record {
        short = small;
        blank = blank;
        log = none_left (now cs 1) none;
        only = λ i im. log i im ∙ none_left (now cs 1) none;
        same = λ f isd. sym (at f isd);
        stand = λ f isd i im. there f isd i im ∙ sym (at f isd);
      };
    }
  where
    at : (f : ℕ) → is_data f ≡ true → data_of (now cs) f ≡ now cs f
    at f isd = ap (λ t. cond t (now cs f) []) isd

    blank : (f : ℕ) → is_data f ≡ false → data_of (now cs) f ≡ []
    blank f isd = ap (λ t. cond t (now cs f) []) isd

    small_at : (f : ℕ) → (is_data f ≡ true) ⊎ (is_data f ≡ false) → length (data_of (now cs) f) ≤ 2 ^ 40
    small_at f (inl is) = omega (arith, ap length (at f is), are.at f is, short_at lens (place_of f) short)
    small_at f (inr is) = omega (arith, ap length (blank f is))

    small : (f : ℕ) → length (data_of (now cs) f) ≤ 2 ^ 40
    small f = small_at f (cases_Bool (is_data f))

    other : (f : ℕ) → is_data f ≡ true → of f ((1, cut_to 0) ∷ cs) ≡ of f cs
    other f isd = of-other 1 f (cut_to 0) cs (λ one. not_log f isd (sym one))

module _ (cs c1 : Calls) (files : Files) (ready : Ready cs files) where
  pub drop_lost : Images cs (now cs) → Images c1 (now c1) → IsLost cs c1 1 (cut_to 0) → Quiet cs c1
  drop_lost image image1 is = quiet_lost cs c1 image image1 files ready.undo 1 (cut_to 0) is ready.cut

  pub drop_made : Images cs (now cs) → Images c1 (now c1) → c1 ≡ (1, cut_to 0) ∷ cs → Quiet cs c1
  drop_made image image1 is = quiet_made cs c1 image image1 files ready.undo 1 (cut_to 0) is ready.cut

  pub drop_calm : c1 ≡ (1, cut_to 0) ∷ cs → Images c1 (now c1) → Calm c1
  drop_calm is image1 = calm_undo c1 files (subst (λ (c : Calls). AllUndo c files) (sym is) ready.cut) image1

pub idle_files : (cs : Calls) (files : Files) → Idle cs files → data_of (now cs) ≡ files
idle_files cs files idle = λ i f. each f (cases_Bool (is_data f)) i
  where
    each : (f : ℕ) → (is_data f ≡ true) ⊎ (is_data f ≡ false) → data_of (now cs) f ≡ files f
    each f (inl is) = ap (λ t. cond t (now cs f) []) is ∙ idle.same f is
    each f (inr is) = ap (λ t. cond t (now cs f) []) is ∙ sym (idle.blank f is)
