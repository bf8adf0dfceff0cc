-- One argument more.
use Rattle.std.proofs.Common.{◌≡◌, ℕ, List, [], ◌∷◌, ◌++◌, refl, sym, ap, ◌∙◌}
use Rattle.std.specs.Prelude.{◌<◌, ◌+◌, length, drop, get_or, Option, Some, None, option_map, option_and_then, filter_map}
use Rattle.std.proofs.Common.{drop-cons, add-one, append_assoc}
use Rattle.std.specs.List.{last_or}
use Rattle.std.proofs.lemmas.List.{append-nil}
use Rattle.std.proofs.lemmas.List.Elements.{filter_map-append}
use Rattle.tc_model.specs.Texts.{parts}
use Rattle.td_query.specs.declared.reading.Draft.{Draft}
use Rattle.tc_model.specs.declared.query.Cond.{Cond}
use Rattle.tc_model.specs.declared.query.Sort.{Sort}
use Rattle.tc_model.specs.declared.query.Deed.{Deed}
use Rattle.tc_model.specs.Queries.{Term, condition, ordering, limit, asks, term_of, terms, as_condition, as_ordering, as_limit, as_deed}
use Rattle.td_query.specs.Drafts.{IsDraft}

one_more : {A : Type 0} (h : Term → Option A) (ts : List Term) (t : Term) (x : A) → h t ≡ Some x → filter_map h (ts ++ t ∷ []) ≡ filter_map h ts ++ x ∷ []
one_more h ts t x e = filter_map-append h ts (t ∷ []) ∙ ap (λ o. filter_map h ts ++ filter_map (λ _. o) (t ∷ [])) e

none_more : {A : Type 0} (h : Term → Option A) (ts : List Term) (t : Term) → h t ≡ None → filter_map h (ts ++ t ∷ []) ≡ filter_map h ts
none_more h ts t e = filter_map-append h ts (t ∷ []) ∙ ap (λ o. filter_map h ts ++ filter_map (λ _. o) (t ∷ [])) e ∙ append-nil (filter_map h ts)

last_is : {A : Type 0} (o : Option A) (xs : List A) (x : A) → last_or o (xs ++ x ∷ []) ≡ Some x
last_is o [] x = refl
last_is o (y ∷ ys) x = last_is (Some y) ys x

last_more : {A : Type 0} (h : Term → Option A) (ts : List Term) (t : Term) (x : A) → h t ≡ Some x → Some x ≡ last_or None (filter_map h (ts ++ t ∷ []))
last_more h ts t x e = sym (ap (last_or None) (one_more h ts t x e) ∙ last_is None (filter_map h ts) x)

last_same : {A : Type 0} (h : Term → Option A) (ts : List Term) (t : Term) (o : Option A) → h t ≡ None → o ≡ last_or None (filter_map h ts) → o ≡ last_or None (filter_map h (ts ++ t ∷ []))
last_same h ts t o e is = is ∙ ap (last_or None) (sym (none_more h ts t e))

pub with_condition : (d e : Draft) (ts : List Term) (c : Cond) → IsDraft d ts → e.conds ≡ d.conds ++ c ∷ [] → e.sort ≡ d.sort → e.limit ≡ d.limit → e.deeds ≡ d.deeds → IsDraft e (ts ++ condition c ∷ [])
with_condition d e ts c i a s l f = record {
  conds = a ∙ ap (λ cs. cs ++ c ∷ []) i.conds ∙ sym (one_more as_condition ts (condition c) c refl);
  sort = last_same as_ordering ts (condition c) e.sort refl (s ∙ i.sort);
  limit = last_same as_limit ts (condition c) e.limit refl (l ∙ i.limit);
  deeds = f ∙ i.deeds ∙ sym (none_more as_deed ts (condition c) refl);
}

pub with_ordering : (d e : Draft) (ts : List Term) (o : Sort) → IsDraft d ts → e.conds ≡ d.conds → e.sort ≡ Some o → e.limit ≡ d.limit → e.deeds ≡ d.deeds → IsDraft e (ts ++ ordering o ∷ [])
with_ordering d e ts o i a s l f = record {
  conds = a ∙ i.conds ∙ sym (none_more as_condition ts (ordering o) refl);
  sort = s ∙ last_more as_ordering ts (ordering o) o refl;
  limit = last_same as_limit ts (ordering o) e.limit refl (l ∙ i.limit);
  deeds = f ∙ i.deeds ∙ sym (none_more as_deed ts (ordering o) refl);
}

pub with_limit : (d e : Draft) (ts : List Term) (m : Option ℕ) (n : ℕ) → IsDraft d ts → e.conds ≡ d.conds → e.sort ≡ d.sort → e.limit ≡ Some (m, n) → e.deeds ≡ d.deeds → IsDraft e (ts ++ limit m n ∷ [])
with_limit d e ts m n i a s l f = record {
  conds = a ∙ i.conds ∙ sym (none_more as_condition ts (limit m n) refl);
  sort = last_same as_ordering ts (limit m n) e.sort refl (s ∙ i.sort);
  limit = l ∙ last_more as_limit ts (limit m n) (m, n) refl;
  deeds = f ∙ i.deeds ∙ sym (none_more as_deed ts (limit m n) refl);
}

pub with_deed : (d e : Draft) (ts : List Term) (x : Deed) → IsDraft d ts → e.conds ≡ d.conds → e.sort ≡ d.sort → e.limit ≡ d.limit → e.deeds ≡ d.deeds ++ x ∷ [] → IsDraft e (ts ++ asks x ∷ [])
with_deed d e ts x i a s l f = record {
  conds = a ∙ i.conds ∙ sym (none_more as_condition ts (asks x) refl);
  sort = last_same as_ordering ts (asks x) e.sort refl (s ∙ i.sort);
  limit = last_same as_limit ts (asks x) e.limit refl (l ∙ i.limit);
  deeds = f ∙ ap (λ ds. ds ++ x ∷ []) i.deeds ∙ sym (one_more as_deed ts (asks x) x refl);
}

-- ---- one argument after the other

grown : (ts : List Term) (t : Term) (o : Option Term) (u : Option (List Term)) → o ≡ Some t → option_map (λ us. ts ++ us) (option_and_then (λ t. option_map (λ us. t ∷ us) u) o) ≡ option_map (λ us. (ts ++ t ∷ []) ++ us) u
grown ts t o None e = ap (λ (o : Option Term). option_map (λ us. ts ++ us) (option_and_then (λ t. option_map (λ us. t ∷ us) None) o)) e
grown ts t o (Some us) e = ap (λ (o : Option Term). option_map (λ us. ts ++ us) (option_and_then (λ t. option_map (λ us. t ∷ us) (Some us)) o)) e ∙ ap Some (sym (append_assoc ts (t ∷ []) us))

pub read_step : (args : List (List ℕ)) (i : ℕ) (arg d : List ℕ) (ts : List Term) (t : Term) → i < length args → arg ≡ get_or args i d → term_of (parts arg) ≡ Some t
    → terms args ≡ option_map (λ us. ts ++ us) (terms (drop i args)) → terms args ≡ option_map (λ us. (ts ++ t ∷ []) ++ us) (terms (drop (i + 1) args))
read_step args i arg d ts t lt is some so =
    let e : drop i args ≡ arg ∷ drop (i + 1) args = drop-cons args i d lt ∙ (λ j. sym is j ∷ drop (sym (add-one i) j) args) in
    so ∙ ap (λ l. option_map (λ us. ts ++ us) (terms l)) e ∙ grown ts t (term_of (parts arg)) (terms (drop (i + 1) args)) some
