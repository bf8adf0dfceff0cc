-- One call more on a copy.
use Rattle.std.proofs.Common.{◌≡◌, ◌∙◌, ℕ, ◌+◌, ◌<◌, length, take, drop, get_or, Bool, true, false, cond, List, [], ◌∷◌, ◌++◌, map, reverse, append_assoc, refl, sym, ap, subst}
use Rattle.std.proofs.lemmas.Bool.{and_from, and_parts}
use Rattle.std.proofs.lemmas.List.{map-append, reverse-append, take_more, take-append-drop}
use Rattle.std.proofs.lemmas.Slice.Eq.{bytes_eq-Decides}
use Rattle.tc_base.specs.Texts.{is_text}
use Rattle.tc_fakes.specs.Copied.{copy_calls, those}
use Rattle.tc_fakes.specs.History.{calls_of, calls_push, call_of, step_of}
use Rattle.tc_fakes.specs.Honest.{all_fit, fits}
use Rattle.tc_io.specs.Images.{Calls, now}
use Rattle.tc_fakes.specs.declared.changes.Call.{Call}
use Rattle.tc_fakes.specs.declared.copied.CopyCall.{CopyCall}

text_true : (a b : List ℕ) → a ≡ b → is_text a b ≡ true
text_true a b same = (bytes_eq-Decides a b).1 same

text_false : (a b : List ℕ) → (a ≡ b → ⊥) → is_text a b ≡ false
text_false a b apart = go (is_text a b) refl
  where
    go : (r : Bool) → r ≡ is_text a b → is_text a b ≡ false
    go false e = sym e
    go true e = absurd (apart ((bytes_eq-Decides a b).0 (sym e)))

those_same : (l : List ℕ) (cs : List CopyCall) (c : CopyCall) → is_text c.label l ≡ true → those l (cs ++ c ∷ []) ≡ those l cs ++ c.call ∷ []
those_same l [] c is = ap (λ t. cond t (c.call ∷ []) []) is
those_same l (d ∷ cs) c is = each (is_text d.label l) (those_same l cs c is)
  where
    each : (b : Bool) → those l (cs ++ c ∷ []) ≡ those l cs ++ c.call ∷ [] → cond b (d.call ∷ those l (cs ++ c ∷ [])) (those l (cs ++ c ∷ [])) ≡ cond b (d.call ∷ those l cs) (those l cs) ++ c.call ∷ []
    each true rest = ap (λ (x : List Call). d.call ∷ x) rest
    each false rest = rest

those_other : (l : List ℕ) (cs : List CopyCall) (c : CopyCall) → is_text c.label l ≡ false → those l (cs ++ c ∷ []) ≡ those l cs
those_other l [] c isnt = ap (λ t. cond t (c.call ∷ []) []) isnt
those_other l (d ∷ cs) c isnt = each (is_text d.label l) (those_other l cs c isnt)
  where
    each : (b : Bool) → those l (cs ++ c ∷ []) ≡ those l cs → cond b (d.call ∷ those l (cs ++ c ∷ [])) (those l (cs ++ c ∷ [])) ≡ cond b (d.call ∷ those l cs) (those l cs)
    each true rest = ap (λ (x : List Call). d.call ∷ x) rest
    each false rest = rest

pub pushed_same : (cs : List CopyCall) (c : CopyCall) (l : List ℕ) → c.label ≡ l → copy_calls (cs ++ c ∷ []) l ≡ call_of c.call ∷ copy_calls cs l
pushed_same cs c l is = ap (λ (x : List Call). calls_of x) (those_same l cs c (text_true c.label l is)) ∙ calls_push (those l cs) c.call

pub pushed_other : (cs : List CopyCall) (c : CopyCall) (l : List ℕ) → (c.label ≡ l → ⊥) → copy_calls (cs ++ c ∷ []) l ≡ copy_calls cs l
pushed_other cs c l apart = ap (λ (x : List Call). calls_of x) (those_other l cs c (text_false c.label l apart))

pub fit_pushed : (cs : List CopyCall) (c : CopyCall) → ((l : List ℕ) → all_fit (copy_calls cs l) ≡ true) → fits (step_of c.call.change) (now (copy_calls cs c.label) c.call.file) ≡ true → (l : List ℕ) → all_fit (copy_calls (cs ++ c ∷ []) l) ≡ true
fit_pushed cs c fit here l = each (is_text c.label l) refl
  where
    each : (b : Bool) → b ≡ is_text c.label l → all_fit (copy_calls (cs ++ c ∷ []) l) ≡ true
    each true e =
        let same : c.label ≡ l = (bytes_eq-Decides c.label l).0 (sym e) in
        ap (λ (x : Calls). all_fit x) (pushed_same cs c l same)
        ∙ and_from (fits (step_of c.call.change) (now (copy_calls cs l) c.call.file)) (all_fit (copy_calls cs l)) (subst (λ m. fits (step_of c.call.change) (now (copy_calls cs m) c.call.file) ≡ true) same here) (fit l)
    each false e = ap (λ (x : Calls). all_fit x) (pushed_other cs c l (λ is. let t = text_true c.label l is in absurd cc)) ∙ fit l

-- ---- a front of them

those_append : (l : List ℕ) (cs ds : List CopyCall) → those l (cs ++ ds) ≡ those l cs ++ those l ds
those_append l [] ds = refl
those_append l (c ∷ cs) ds = each (is_text c.label l) (those_append l cs ds)
  where
    each : (b : Bool) → those l (cs ++ ds) ≡ those l cs ++ those l ds → cond b (c.call ∷ those l (cs ++ ds)) (those l (cs ++ ds)) ≡ cond b (c.call ∷ those l cs) (those l cs) ++ those l ds
    each true rest = ap (λ (x : List Call). c.call ∷ x) rest
    each false rest = rest

calls_append : (a b : List Call) → calls_of (a ++ b) ≡ calls_of b ++ calls_of a
calls_append a b = ap (λ (x : Calls). reverse x) (map-append call_of a b) ∙ reverse-append (map call_of a) (map call_of b)

fit_behind : (a b : Calls) → all_fit (a ++ b) ≡ true → all_fit b ≡ true
fit_behind [] b fit = fit
fit_behind (c ∷ a) b fit = fit_behind a b (and_parts (fits c.1 (now (a ++ b) c.0)) (all_fit (a ++ b)) fit).1

-- the next call on a copy fits what the earlier ones make of it
pub next_fits : (front back : List CopyCall) (c : CopyCall) (l : List ℕ) → all_fit (copy_calls (front ++ c ∷ back) l) ≡ true → c.label ≡ l → fits (step_of c.call.change) (now (copy_calls front l) c.call.file) ≡ true
next_fits front back c l fit is =
    let parts : copy_calls (front ++ c ∷ back) l ≡ calls_of (those l back) ++ copy_calls (front ++ c ∷ []) l =
    ap (λ (x : List CopyCall). copy_calls x l) (sym (append_assoc front (c ∷ []) back)) ∙ ap (λ (x : List Call). calls_of x) (those_append l (front ++ c ∷ []) back) ∙ calls_append (those l (front ++ c ∷ [])) (those l back) in
    let here : all_fit (call_of c.call ∷ copy_calls front l) ≡ true = ap (λ (x : Calls). all_fit x) (sym (pushed_same front c l is)) ∙ fit_behind (calls_of (those l back)) (copy_calls (front ++ c ∷ []) l) (ap (λ (x : Calls). all_fit x) (sym parts) ∙ fit) in
    (and_parts (fits (step_of c.call.change) (now (copy_calls front l) c.call.file)) (all_fit (copy_calls front l)) here).0

-- ---- the calls on a copy, made once more

module _ (all items : List CopyCall) (are : items ≡ all) (i : ℕ) (x : CopyCall) (l : List ℕ) (cs : Calls) (lt : i < length items) (at : x ≡ get_or items i x) (so_far : cs ≡ copy_calls (take i items) l) where
  front : take (i + 1) items ≡ take i items ++ x ∷ []
  front = take_more items i x lt ∙ ap (λ (y : CopyCall). take i items ++ y ∷ []) (sym at)

  whole : items ≡ take i items ++ x ∷ drop (i + 1) items
  whole = sym (take-append-drop (i + 1) items) ∙ ap (λ (f : List CopyCall). f ++ drop (i + 1) items) front ∙ append_assoc (take i items) (x ∷ []) (drop (i + 1) items)

  pub replay_fits : all_fit (copy_calls all l) ≡ true → x.label ≡ l → fits (step_of x.call.change) (now cs x.call.file) ≡ true
  replay_fits fit is = subst (λ (d : Calls). fits (step_of x.call.change) (now d x.call.file) ≡ true) (sym so_far)
      (next_fits (take i items) (drop (i + 1) items) x l (subst (λ (f : List CopyCall). all_fit (copy_calls f l) ≡ true) (sym are ∙ whole) fit) is)

  pub replay_next : (ds : Calls) → (x.label ≡ l → ds ≡ call_of x.call ∷ cs) → ((x.label ≡ l → ⊥) → ds ≡ cs) → ds ≡ copy_calls (take (i + 1) items) l
  replay_next ds same other = each (is_text x.label l) refl
    where
      each : (b : Bool) → b ≡ is_text x.label l → ds ≡ copy_calls (take (i + 1) items) l
      each true e =
          let is : x.label ≡ l = (bytes_eq-Decides x.label l).0 (sym e) in
          same is ∙ ap (λ (d : Calls). call_of x.call ∷ d) so_far ∙ sym (pushed_same (take i items) x l is) ∙ ap (λ (f : List CopyCall). copy_calls f l) (sym front)
      each false e =
          let isnt : x.label ≡ l → ⊥ = λ is. let t = text_true x.label l is in absurd cc in
          other isnt ∙ so_far ∙ sym (pushed_other (take i items) x l isnt) ∙ ap (λ (f : List CopyCall). copy_calls f l) (sym front)
