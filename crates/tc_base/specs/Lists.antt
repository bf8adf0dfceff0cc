-- A list of pairs in an order of keys, equal keys in order of arrival.
use Rattle.std.specs.Prelude.{◌≡◌, ℕ, List, [], ◌∷◌, ◌++◌, map, drop, filter, slice_get, Option, Some, None, true}
use Rattle.std.specs.List.{AllByRecursion, dedup}
use Rattle.std.specs.declared.cmp.Ordering.{Ordering}
use Rattle.std.specs.Ordering.{is_lt, is_le, is_gt, is_ge}
use Rattle.tc_base.specs.declared.seq.Pair.{Pair}
use Rattle.tc_base.specs.Texts.{is_text}

abbrev pub pair : List ℕ → List ℕ → Pair
pair key value = record { key = key; value = value }

-- the values of a key, in order of arrival
abbrev pub values : List Pair → List ℕ → List (List ℕ)
values ps key = map (λ p. p.value) (filter (λ p. is_text p.key key) ps)

abbrev pub first : List Pair → List ℕ → Option (List ℕ)
first ps key = slice_get (values ps key) 0

abbrev pub below : (List ℕ → List ℕ → Ordering) → List Pair → List ℕ → List Pair
below R ps key = filter (λ p. is_lt (R p.key key)) ps

abbrev pub above : (List ℕ → List ℕ → Ordering) → List Pair → List ℕ → List Pair
above R ps key = filter (λ p. is_gt (R p.key key)) ps

-- the pairs with these values under the key, in place of those that it had
abbrev pub with_values : (List ℕ → List ℕ → Ordering) → List Pair → List ℕ → List (List ℕ) → List Pair
with_values R ps key vs = below R ps key ++ (map (pair key) vs ++ above R ps key)

-- the first value is another one, or the pair comes in
abbrev pub with_first : (List ℕ → List ℕ → Ordering) → List Pair → List ℕ → List ℕ → List Pair
with_first R ps key value = with_values R ps key (value ∷ drop 1 (values ps key))

-- the value comes behind those of its key
abbrev pub with_last : (List ℕ → List ℕ → Ordering) → List Pair → List ℕ → List ℕ → List Pair
with_last R ps key value = with_values R ps key (values ps key ++ value ∷ [])

-- without the first value of a key
abbrev pub without_first : (List ℕ → List ℕ → Ordering) → List Pair → List ℕ → List Pair
without_first R ps key = with_values R ps key (drop 1 (values ps key))

-- without all values of a key
abbrev pub without_all : (List ℕ → List ℕ → Ordering) → List Pair → List ℕ → List Pair
without_all R ps key = with_values R ps key []

-- the keys, each once
abbrev pub keys : List Pair → List (List ℕ)
keys ps = dedup is_text (map (λ p. p.key) ps)

-- the pairs from a key on, and before another where there is one
abbrev pub from_on : (List ℕ → List ℕ → Ordering) → List ℕ → List Pair → List Pair
from_on R key ps = filter (λ p. is_ge (R p.key key)) ps

abbrev pub before : (List ℕ → List ℕ → Ordering) → Option (List ℕ) → List Pair → List Pair
before R None ps = ps
before R (Some key) ps = below R ps key

-- no key stands behind a greater one
abbrev pub Rises : (List ℕ → List ℕ → Ordering) → List Pair → Type 0
Rises R [] = Unit {0}
Rises R (p ∷ ps) = AllByRecursion (λ q. is_le (R p.key q.key) ≡ true) ps × Rises R ps
