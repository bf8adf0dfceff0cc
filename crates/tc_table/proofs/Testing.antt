-- Tests of texts, of which each is taken once.
use Rattle.std.proofs.Common.{◌≡◌, ◌∙◌, ℕ, Bool, true, false, cond, not, List, [], ◌∷◌, ◌++◌, refl, sym, ap}
use Rattle.std.specs.Prelude.{◌&&◌, ◌||◌, fold}
use Rattle.std.specs.List.{list_all, list_any}
use Rattle.std.proofs.lemmas.Bool.{and_parts}
use Rattle.tc_base.specs.Texts.{is_text}
use Rattle.tc_model.specs.Texts.{distinct, is_among, with_text}
use Rattle.td_index.proofs.Counting.{text_is}

and_true : (p : Bool) → (p && true) ≡ p
and_true true = refl
and_true false = refl

and_assoc : (p q r : Bool) → (p && (q && r)) ≡ ((p && q) && r)
and_assoc true q r = refl
and_assoc false q r = refl

module _ (p : List ℕ → Bool) where
  all_append : (xs ys : List (List ℕ)) → list_all p (xs ++ ys) ≡ (list_all p xs && list_all p ys)
  all_append [] ys = refl
  all_append (x ∷ xs) ys = ap (λ b. p x && b) (all_append xs ys) ∙ and_assoc (p x) (list_all p xs) (list_all p ys)

  all_in : (t : List ℕ) (ts : List (List ℕ)) → is_among t ts ≡ true → list_all p ts ≡ true → p t ≡ true
  all_in t [] among all = absurd (let f : false ≡ true = among in cc)
  all_in t (u ∷ us) among all =
      let both = and_parts (p u) (list_all p us) all in
      go (is_text t u) refl among both.0 (λ rest. all_in t us rest both.1)
    where
      go : (b : Bool) → is_text t u ≡ b → (b || is_among t us) ≡ true → p u ≡ true → (is_among t us ≡ true → p t ≡ true) → p t ≡ true
      go true is among here rest = ap p (text_is t u is) ∙ here
      go false is among here rest = rest among

  all_had : (t : List ℕ) (ts : List (List ℕ)) → is_among t ts ≡ true → list_all p ts ≡ (list_all p ts && p t)
  all_had t ts among = go (list_all p ts) refl (p t) refl
    where
      go : (a : Bool) → list_all p ts ≡ a → (b : Bool) → p t ≡ b → a ≡ (a && b)
      go false e b f = refl
      go true e true f = refl
      go true e false f = sym (all_in t ts among e) ∙ f

  all_with : (front : List (List ℕ)) (t : List ℕ) → list_all p (with_text front t) ≡ (list_all p front && p t)
  all_with front t = go (is_among t front) refl
    where
      go : (b : Bool) → is_among t front ≡ b → list_all p (cond b front (front ++ t ∷ [])) ≡ (list_all p front && p t)
      go true e = all_had t front e
      go false e = all_append front (t ∷ []) ∙ ap (λ b. list_all p front && b) (and_true (p t))

  all_fold : (front ts : List (List ℕ)) → list_all p (fold with_text front ts) ≡ (list_all p front && list_all p ts)
  all_fold front [] = sym (and_true (list_all p front))
  all_fold front (t ∷ ts) = all_fold (with_text front t) ts ∙ (ap (λ b. b && list_all p ts) (all_with front t) ∙ sym (and_assoc (list_all p front) (p t) (list_all p ts)))

  pub all_distinct : (ts : List (List ℕ)) → list_all p (distinct ts) ≡ list_all p ts
  all_distinct ts = all_fold [] ts

  any_not : (ts : List (List ℕ)) → list_any p ts ≡ not (list_all (λ t. not (p t)) ts)
  any_not [] = refl
  any_not (t ∷ ts) = ap (λ b. p t || b) (any_not ts) ∙ go (p t) (list_all (λ u. not (p u)) ts)
    where
      go : (a b : Bool) → (a || not b) ≡ not (not a && b)
      go true b = refl
      go false b = refl

pub any_distinct : (p : List ℕ → Bool) (ts : List (List ℕ)) → list_any p (distinct ts) ≡ list_any p ts
any_distinct p ts = any_not p (distinct ts) ∙ (ap not (all_distinct (λ t. not (p t)) ts) ∙ sym (any_not p ts))
