-- The keys of a map, each once.
use Rattle.std.proofs.Common.{◌≡◌, ◌∙◌, ℕ, ◌+◌, ◌≤◌, Bool, true, false, cond, List, [], ◌∷◌, map, Option, Some, None, refl, sym, ap, subst, arith, ◌⊎◌, inl, inr, ⊎_elim}
use Rattle.std.specs.Prelude.{◌&&◌, is_some, T}
use Rattle.std.specs.Ordering.{nat_cmp, is_eq, is_lt, eq_by_cmp}
use Rattle.std.specs.declared.cmp.Ordering.{Ordering}
use Rattle.std.specs.declared.cmp.Ordering.TheVariants.{Less, Equal, Greater}
use Rattle.std.specs.Cmp.Lexicographic.{slice_cmp, texts_ties}
use Rattle.std.specs.FinMap.{get, keys, entries, entries_sorted, get-entries, find, is_sorted}
use Rattle.std.specs.FinMap.Entries.{below_all}
use Rattle.std.proofs.lemmas.Bool.{and_parts}
use Rattle.tc_base.specs.Maps.{Map}
use Rattle.tc_base.specs.Texts.{is_text}
use Rattle.td_index.specs.Checks.{firsts_by, parts_in}
use Rattle.td_index.specs.Entries.{one, times}
use Rattle.td_index.proofs.Counting.{text_is, either, one_true, one_false, one_most}

abbrev Entry : Type 0
Entry = List ℕ × List ℕ

abbrev R : List ℕ → List ℕ → Ordering
R = slice_cmp nat_cmp

is_true : (b : Bool) → T b → b ≡ true
is_true true t = refl
is_true false t = absurd t

not_same : (x y : List ℕ) → is_lt (R x y) ≡ true → is_text x y ≡ false
not_same x y lt = texts_ties x y ∙ less (R x y) lt
  where
    less : (o : Ordering) → is_lt o ≡ true → is_eq o ≡ false
    less Less e = refl
    less Equal e = absurd (let f : false ≡ true = e in cc)
    less Greater e = refl

-- a key below all others isn't one of them
below : (x : List ℕ) (es : List Entry) → below_all R x es ≡ true → times x (map (λ e. e.0) es) ≡ 0
below x [] h = refl
below x (e ∷ es) h =
    let both = and_parts (is_lt (R x e.0)) (below_all R x es) h in
    omega (arith, one_false (is_text x e.0) (not_same x e.0 both.0), below x es both.1)

once : (k : List ℕ) (es : List Entry) → is_sorted R es ≡ true → times k (map (λ e. e.0) es) ≡ one (is_some (find R k es))
once k [] h = refl
once k (e ∷ es) h =
    let both = and_parts (below_all R e.0 es) (is_sorted R es) h in
    elim (is_text k e.0) as (λ t. is_text k e.0 ≡ t → one t + times k (map (λ e. e.0) es) ≡ one (is_some (cond t (Some e.1) (find R k es)))) [
      | true ↦ λ is. let none : times k (map (λ e. e.0) es) ≡ 0 = ap (λ (l : List ℕ). times l (map (λ e. e.0) es)) (text_is k e.0 is) ∙ below e.0 es both.0 in omega (arith, none)
      | false ↦ λ is. omega (arith, once k es both.1)
    ] refl
    ∙ ap (λ (t : Bool). one (is_some (cond t (Some e.1) (find R k es)))) (texts_ties k e.0)

pub times_keys : (m : Map) (k : List ℕ) → times k (keys m) ≡ one (is_some (get m k))
times_keys m k = once k (entries m) (is_true (is_sorted R (entries m)) (entries_sorted m)) ∙ ap (λ (o : Option (List ℕ)). one (is_some o)) (sym (get-entries m k))

pub keys_once : (m : Map) (k : List ℕ) → times k (keys m) ≤ 1
keys_once m k = omega (arith, times_keys m k, one_most (is_some (get m k)))

-- what isn't held gives nothing
pub none_owed : (of : List ℕ → List (List ℕ)) (m : Map) (k : List ℕ) → times k (keys m) ≡ 0 → firsts_by of m k ≡ []
none_owed of m k none = gone (get m k) (sym (times_keys m k) ∙ none)
  where
    gone : (o : Option (List ℕ)) → one (is_some o) ≡ 0 → parts_in of o ≡ []
    gone None e = refl
    gone (Some v) e = absurd (omega (arith, e))
