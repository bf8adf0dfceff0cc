-- What puts and outs make of a map, and of a list of pairs.
use Rattle.std.specs.Prelude.{ℕ, List, [], ◌++◌, filter, take, Bool, true, false, Option, is_some, unwrap_or}
use Rattle.std.specs.FinMap.{get, insert, remove}
use Rattle.std.specs.declared.cmp.Ordering.{Ordering}
use Rattle.tc_base.specs.Lists.{first, values, with_first, with_last, without_first, without_all}
use Rattle.tc_base.specs.Maps.{Map}
use Rattle.tc_base.specs.declared.kind.Mode.{Mode}
use Rattle.tc_base.specs.declared.kind.Mode.TheVariants.{Over, Keep, Cat}
use Rattle.tc_base.specs.declared.order.Side.{Side}
use Rattle.tc_base.specs.declared.order.Side.TheVariants.{Before, Inside, After}
use Rattle.tc_base.specs.declared.seq.Pair.{Pair}

abbrev pub same : {M : Type 0} → M → M
same m = m

-- the value that a put gives, where this is the old one
abbrev pub put_value : Mode → Option (List ℕ) → List ℕ → List ℕ
put_value Over old value = value
put_value Keep old value = value
put_value Cat old value = unwrap_or old [] ++ value

-- ---- of a map

abbrev pub value_in : List ℕ → Map → Option (List ℕ)
value_in key m = get m key

abbrev pub is_in : List ℕ → Map → Bool
is_in key m = is_some (get m key)

abbrev pub put_in : Mode → List ℕ → List ℕ → Map → Map
put_in mode key value m = insert m key (put_value mode (get m key) value)

abbrev pub out_of : List ℕ → Map → Map
out_of key m = remove m key

-- ---- of a list of pairs in an order of keys

abbrev pub first_in : List ℕ → List Pair → Option (List ℕ)
first_in key ps = first ps key

abbrev pub values_in : List ℕ → List Pair → List (List ℕ)
values_in key ps = values ps key

abbrev pub has_pair : List ℕ → List Pair → Bool
has_pair key ps = is_some (first ps key)

module _ (cmp : List ℕ → List ℕ → Ordering) where
  -- the first value of the key is another one, or the pair comes in
  abbrev pub put_first : Mode → List ℕ → List ℕ → List Pair → List Pair
  put_first mode key value ps = with_first cmp ps key (put_value mode (first ps key) value)

  abbrev pub put_last : List ℕ → List ℕ → List Pair → List Pair
  put_last key value ps = with_last cmp ps key value

  abbrev pub first_out : List ℕ → List Pair → List Pair
  first_out key ps = without_first cmp ps key

  abbrev pub all_out : List ℕ → List Pair → List Pair
  all_out key ps = without_all cmp ps key

abbrev pub is_inside : Side → Bool
is_inside Before = false
is_inside Inside = true
is_inside After = false

-- the pairs of a stretch of keys
abbrev pub inside : (List ℕ → Side) → List Pair → List Pair
inside side ps = filter (λ p. is_inside (side p.key)) ps

-- the first of them
abbrev pub inside_first : ℕ → (List ℕ → Side) → List Pair → List Pair
inside_first max side ps = take max (inside side ps)
