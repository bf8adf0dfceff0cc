-- One text more.
use Rattle.std.proofs.Common.{◌≡◌, ◌∙◌, ℕ, Bool, true, false, cond, List, [], ◌∷◌, ◌++◌, map, refl, sym, ap}
use Rattle.std.specs.Prelude.{◌||◌, filter, fold}
use Rattle.std.specs.List.{list_any}
use Rattle.std.specs.Cmp.Lexicographic.{same_text}
use Rattle.std.proofs.lemmas.List.{map-append}
use Rattle.indexmap.specs.IndexSet.{insert_key}
use Rattle.tc_base.specs.Texts.{is_text}
use Rattle.tc_model.specs.Texts.{distinct, is_among, with_text}

module _ {K : Type 0} (text : K → List ℕ) where
  pub among_keys : (a : List ℕ) (ks : List K) → list_any (λ k. is_text a (text k)) ks ≡ is_among a (map text ks)
  among_keys a [] = refl
  among_keys a (k ∷ ks) = ap (λ b. is_text a (text k) || b) (among_keys a ks)

  pub inserted : (ks : List K) (v : K) → map text (insert_key (λ a b. is_text (text a) (text b)) ks v) ≡ with_text (map text ks) (text v)
  inserted ks v = go (list_any (λ k. is_text (text v) (text k)) ks) (is_among (text v) (map text ks)) (among_keys (text v) ks)
    where
      go : (b c : Bool) → b ≡ c → map text (cond b ks (ks ++ v ∷ [])) ≡ cond c (map text ks) (map text ks ++ text v ∷ [])
      go true true e = refl
      go true false e = absurd cc
      go false true e = absurd cc
      go false false e = map-append text ks (v ∷ [])

-- one token more of those that are gone through
pub goes_on : (front ts us : List (List ℕ)) (t : List ℕ) → ts ≡ t ∷ us → fold with_text front ts ≡ fold with_text (with_text front t) us
goes_on front ts us t e = ap (fold with_text front) e

-- ---- each once

or_none : (p : Bool) → (p || false) ≡ p
or_none true = refl
or_none false = refl

or_assoc : (p q r : Bool) → (p || (q || r)) ≡ ((p || q) || r)
or_assoc true q r = refl
or_assoc false q r = refl

among_append : (a : List ℕ) (xs ys : List (List ℕ)) → is_among a (xs ++ ys) ≡ (is_among a xs || is_among a ys)
among_append a [] ys = refl
among_append a (x ∷ xs) ys = ap (λ t. is_text a x || t) (among_append a xs ys) ∙ or_assoc (is_text a x) (is_among a xs) (is_among a ys)

with_among : (a : List ℕ) (front : List (List ℕ)) (t : List ℕ) → is_among a (with_text front t) ≡ (is_among a front || is_text a t)
with_among a front t = go (is_among t front) refl
  where
    there : (b : Bool) → is_among t front ≡ true → is_text a t ≡ b → is_among a front ≡ (is_among a front || b)
    there false e is = sym (or_none (is_among a front))
    there true e is = let same : a ≡ t = same_text a t (sym is) in let has : is_among a front ≡ true = ap (λ (l : List ℕ). is_among l front) same ∙ e in has ∙ sym (ap (λ p. p || true) has)

    go : (b : Bool) → is_among t front ≡ b → is_among a (cond b front (front ++ t ∷ [])) ≡ (is_among a front || is_text a t)
    go true e = there (is_text a t) e refl
    go false e = among_append a front (t ∷ []) ∙ ap (λ p. is_among a front || p) (or_none (is_text a t))

among_fold : (a : List ℕ) (front ts : List (List ℕ)) → is_among a (fold with_text front ts) ≡ (is_among a front || is_among a ts)
among_fold a front [] = sym (or_none (is_among a front))
among_fold a front (t ∷ ts) = among_fold a (with_text front t) ts ∙ (ap (λ p. p || is_among a ts) (with_among a front t) ∙ sym (or_assoc (is_among a front) (is_text a t) (is_among a ts)))

pub distinct_has : (a : List ℕ) (ts : List (List ℕ)) → is_among a (distinct ts) ≡ is_among a ts
distinct_has a ts = among_fold a [] ts

filtered : (p q : List ℕ → Bool) → ((a : List ℕ) → p a ≡ q a) → (xs : List (List ℕ)) → filter p xs ≡ filter q xs
filtered p q same [] = refl
filtered p q same (x ∷ xs) = ap (λ b. cond b (x ∷ filter p xs) (filter p xs)) (same x) ∙ ap (λ (l : List (List ℕ)). cond (q x) (x ∷ l) l) (filtered p q same xs)

pub among_distinct : (set ts : List (List ℕ)) → set ≡ distinct ts → (xs : List (List ℕ)) → filter (λ a. is_among a set) xs ≡ filter (λ a. is_among a ts) xs
among_distinct set ts is xs = filtered (λ a. is_among a set) (λ a. is_among a ts) (λ a. ap (is_among a) is ∙ distinct_has a ts) xs
