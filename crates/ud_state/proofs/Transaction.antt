-- What a stop leaves in each step of a transaction is undone to what was kept.
use Rattle.std.proofs.Common.{◌≡◌, ◌⊎◌, inl, inr, ⊎_elim, ℕ, ◌+◌, ◌<◌, ◌≤◌, List, [], ◌∷◌, ◌++◌, length, take, drop, refl, sym, ◌∙◌, ap, subst, arith, true, false, Bool, nat_eq, cond, Some}
use Rattle.std.proofs.lemmas.Bool.{cases_eq, cases_Bool}
use Rattle.std.proofs.lemmas.Bool.Decides.{nat_tests}
use Rattle.ud_log.specs.Entries.{Entry, Inside, Covers, undone, Stands, Holds}
use Rattle.tc_base.specs.Files.{Files}
use Rattle.tc_io.specs.Images.{Step, written, cut_to, synced, lost, Image, Calls, of, now, Images}
use Rattle.ud_log.proofs.Kept.{gives_kept}
use Rattle.ud_log.proofs.Steps.{torn_stands, cut_stands, stands_more, holds_more}
use Rattle.ud_log.specs.Good.{IsGood, AllGood}
use Rattle.ud_state.specs.State.{Data}
use Rattle.ud_log.specs.Undo.{is_data, lens_of, length_of, of_file, Log, undoes, log_of, undone_all, by_log, files_of, recovered}
use Rattle.ud_log.proofs.Logs.{length_of_is, good_more}

-- steps of one file, and of another

eq_test : (f g : ℕ) → f ≡ g → nat_eq f g ≡ true
eq_test f g is = grind (arith, nat_tests)

ne_test : (f g : ℕ) → (f ≡ g → ⊥) → nat_eq f g ≡ false
ne_test f g is = grind (arith, nat_tests)

pub of-same : (f : ℕ) (s : Step) (cs : Calls) → of f ((f, s) ∷ cs) ≡ s ∷ of f cs
of-same f s cs = ap (λ b. cond b (s ∷ of f cs) (of f cs)) (eq_test f f refl)

pub of-other : (f g : ℕ) (s : Step) (cs : Calls) → (f ≡ g → ⊥) → of g ((f, s) ∷ cs) ≡ of g cs
of-other f g s cs is = ap (λ b. cond b (s ∷ of g cs) (of g cs)) (ne_test f g is)

data_ne : (f : ℕ) → is_data f ≡ true → f ≡ 1 → ⊥
data_ne f is one = absurd (grind (arith, nat_tests))

pub inside_of : (kept : Files) (es : List Entry) (f : ℕ) → AllGood kept es → Inside (length (kept f)) (of_file f es)
inside_of kept [] f good = tt
inside_of kept (e ∷ es) f good =
    ⊎_elim
    (λ is. subst (λ b. Inside (length (kept f)) (cond b (e ∷ of_file f es) (of_file f es))) (sym (eq_test e.file f is)) (subst (λ g. e.at + length e.bytes ≤ length (kept g)) is good.0.inside, inside_of kept es f good.1))
    (λ is. subst (λ b. Inside (length (kept f)) (cond b (e ∷ of_file f es) (of_file f es))) (sym (ne_test e.file f is)) (inside_of kept es f good.1))
    (cases_eq e.file f)

pub data_gives : (cs : Calls) (kept : Files) (es : List Entry) → Data cs kept es → (ims : Files) → Images cs ims → log_of (ims 1) ≡ undoes (lens_of kept) es → recovered ims ≡ Some kept
data_gives cs kept es d ims are log =
    ap (λ (l : Log). files_of (by_log l ims)) log ∙ ap (λ (fs : Files). Some fs) (λ i f. each f (cases_Bool (is_data f)) i)
  where
    each : (f : ℕ) → (is_data f ≡ true) ⊎ (is_data f ≡ false) → undone_all (lens_of kept) es ims f ≡ kept f
    each f (inl is) =
        ap (λ b. cond b (undone (length_of (lens_of kept) f) (of_file f es) (ims f)) []) is
        ∙ ap (λ n. undone n (of_file f es) (ims f)) (length_of_is kept f is)
        ∙ gives_kept (of_file f es) (kept f) (ims f) (inside_of kept es f d.good) (d.holds f is) (d.stands f is (ims f) (are f))
    each f (inr is) = ap (λ b. cond b (undone (length_of (lens_of kept) f) (of_file f es) (ims f)) []) is ∙ sym (d.blank f is)

-- a step of the log changes nothing of the data files
pub data_log : (cs : Calls) (kept : Files) (es : List Entry) (s : Step) → Data cs kept es → Data ((1, s) ∷ cs) kept es
data_log cs kept es s d = record {
  short = d.short;
  good = d.good;
  blank = d.blank;
  holds = d.holds;
  stands = λ f is i image. d.stands f is i (subst (λ (l : List Step). Image l i) (of-other 1 f s cs (λ one. data_ne f is (sym one))) image);
}

-- a step of a data file after which each of its images still stands
pub data_step : (cs : Calls) (kept : Files) (es : List Entry) (f : ℕ) (s : Step) → Data cs kept es → ((i : List ℕ) → Image (s ∷ of f cs) i → Stands (of_file f es) (kept f) i) → Data ((f, s) ∷ cs) kept es
data_step cs kept es f s d here = record {
  short = d.short;
  good = d.good;
  blank = d.blank;
  holds = d.holds;
  stands = λ g is i image. ⊎_elim
      (λ same. subst (λ h. Stands (of_file h es) (kept h) i) same (here i (subst (λ (l : List Step). Image l i) (of-same f s cs) (subst (λ h. Image (of h ((f, s) ∷ cs)) i) (sym same) image))))
      (λ other. d.stands g is i (subst (λ (l : List Step). Image l i) (of-other f g s cs other) image))
      (cases_eq f g);
}

pub data_write : (cs : Calls) (kept : Files) (es : List Entry) (f at : ℕ) (bytes : List ℕ) → Data cs kept es → is_data f ≡ true → ((p : ℕ) → at ≤ p → p < at + length bytes → p < length (kept f) → Covers (of_file f es) p)
    → Data ((f, written at bytes) ∷ cs) kept es
data_write cs kept es f at bytes d is logged =
    data_step cs kept es f (written at bytes) d (λ i image. torn_stands (of_file f es) (kept f) image.0 i at bytes (d.stands f is image.0 image.1) logged image.2)

pub data_cut : (cs : Calls) (kept : Files) (es : List Entry) (f len : ℕ) → Data cs kept es → is_data f ≡ true → ((p : ℕ) → len ≤ p → p < length (kept f) → Covers (of_file f es) p) → Data ((f, cut_to len) ∷ cs) kept es
data_cut cs kept es f len d is logged =
    data_step cs kept es f (cut_to len) d (λ i image.
    ⊎_elim (λ same. subst (λ (l : List ℕ). Stands (of_file f es) (kept f) l) (sym same) (d.stands f is image.0 image.1))
    (λ less. subst (λ (l : List ℕ). Stands (of_file f es) (kept f) l) (sym less) (cut_stands (of_file f es) (kept f) image.0 len (d.stands f is image.0 image.1) logged))
    image.2)

pub data_lost : (cs : Calls) (kept : Files) (es : List Entry) (f : ℕ) (r : List ℕ) → Data cs kept es → is_data f ≡ true → Data ((f, lost r) ∷ cs) kept es
data_lost cs kept es f r d is = data_step cs kept es f (lost r) d (λ i image. d.stands f is i image)

pub data_sync : (cs : Calls) (kept : Files) (es : List Entry) (f : ℕ) → Data cs kept es → is_data f ≡ true → Stands (of_file f es) (kept f) (now cs f) → Data ((f, synced) ∷ cs) kept es
data_sync cs kept es f d is here = data_step cs kept es f synced d (λ i image. subst (λ (l : List ℕ). Stands (of_file f es) (kept f) l) (sym image) here)

of_file_more : (f : ℕ) (es : List Entry) (e : Entry) → of_file f (es ++ e ∷ []) ≡ cond (nat_eq e.file f) (of_file f es ++ e ∷ []) (of_file f es)
of_file_more f [] e = refl
of_file_more f (d ∷ es) e = elim (cases_Bool (nat_eq d.file f)) [
  | inl hit ↦ ap (λ b. cond b (d ∷ of_file f (es ++ e ∷ [])) (of_file f (es ++ e ∷ []))) hit ∙ ap (λ (l : List Entry). d ∷ l) (of_file_more f es e) ∙ push (nat_eq e.file f) ∙ sym (ap (λ b. cond (nat_eq e.file f) (cond b (d ∷ of_file f es) (of_file f es) ++ e ∷ []) (cond b (d ∷ of_file f es) (of_file f es))) hit)
  | inr miss ↦ ap (λ b. cond b (d ∷ of_file f (es ++ e ∷ [])) (of_file f (es ++ e ∷ []))) miss ∙ of_file_more f es e ∙ sym (ap (λ b. cond (nat_eq e.file f) (cond b (d ∷ of_file f es) (of_file f es) ++ e ∷ []) (cond b (d ∷ of_file f es) (of_file f es))) miss)
]
  where
    push : (b : Bool) → d ∷ cond b (of_file f es ++ e ∷ []) (of_file f es) ≡ cond b (d ∷ of_file f es ++ e ∷ []) (d ∷ of_file f es)
    push true = refl
    push false = refl

pub of_file-same : (f : ℕ) (es : List Entry) (e : Entry) → e.file ≡ f → of_file f (es ++ e ∷ []) ≡ of_file f es ++ e ∷ []
of_file-same f es e is = of_file_more f es e ∙ ap (λ b. cond b (of_file f es ++ e ∷ []) (of_file f es)) (eq_test e.file f is)

pub of_file-other : (f : ℕ) (es : List Entry) (e : Entry) → (e.file ≡ f → ⊥) → of_file f (es ++ e ∷ []) ≡ of_file f es
of_file-other f es e is = of_file_more f es e ∙ ap (λ b. cond b (of_file f es ++ e ∷ []) (of_file f es)) (ne_test e.file f is)

-- one more entry, with the bytes that its file has now
pub data_more : (cs : Calls) (kept : Files) (es : List Entry) (e : Entry) (now : List ℕ) → Data cs kept es → IsGood kept e → Stands (of_file e.file es) (kept e.file) now → e.bytes ≡ take (length e.bytes) (drop e.at now) → Data cs kept (es ++ e ∷ [])
data_more cs kept es e now d good stands is = record {
  short = d.short;
  good = good_more kept es e d.good good;
  blank = d.blank;
  holds = λ f isd. ⊎_elim
      (λ same. subst (λ (l : List Entry). Holds l (kept f)) (sym (of_file-same f es e same))
      (subst (λ g. Holds (of_file g es ++ e ∷ []) (kept g)) same
      (holds_more (of_file e.file es) e (kept e.file) now (inside_of kept es e.file d.good) (d.holds e.file good.is_data) stands good.inside is)))
      (λ other. subst (λ (l : List Entry). Holds l (kept f)) (sym (of_file-other f es e other)) (d.holds f isd))
      (cases_eq e.file f);
  stands = λ f isd i image. ⊎_elim
      (λ same. subst (λ (l : List Entry). Stands l (kept f) i) (sym (of_file-same f es e same)) (stands_more (of_file f es) e (kept f) i (d.stands f isd i image)))
      (λ other. subst (λ (l : List Entry). Stands l (kept f) i) (sym (of_file-other f es e other)) (d.stands f isd i image))
      (cases_eq e.file f);
}
