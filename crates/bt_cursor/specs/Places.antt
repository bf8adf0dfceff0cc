-- Places in a list of pairs: a key, and the number of its values in front of one.
use Rattle.std.specs.Prelude.{◌⊎◌, ℕ, zero, suc, ◌+◌, ◌-◌, ◌^◌, ◌≤◌, List, [], ◌∷◌, ◌++◌, filter, length, slice_get, min, nat_lt, Option, None, Some, option_map, option_and_then, if◌then◌else◌}
use Rattle.std.specs.Ordering.{is_ge, is_gt, is_lt, nat_cmp, ordering_then}
use Rattle.std.specs.declared.cmp.Ordering.{Ordering}
use Rattle.tc_base.specs.Lists.{above, pair, values}
use Rattle.tc_base.specs.declared.order.Order.{Ghosts as Orders}
use Rattle.tc_base.specs.declared.seq.Pair.{Pair}
use Rattle.tc_space.specs.Frames.{Reads}
use Rattle.tc_space.specs.declared.records.Records.{Ghosts as Stores}
use Rattle.tc_space.specs.declared.space.Space.{Ghosts}
use Rattle.bt_page.specs.declared.page.Item.{Item}
use Rattle.bt_tree.specs.declared.tree.Tree.{Tree}
use Rattle.bt_tree.specs.Meaning.{Means}
use Rattle.bt_tree.specs.Showing.{item_before, item_first, item_last}
use Rattle.bt_tree.specs.Visits.{LooksAt, StaysTree}
use Rattle.bt_cursor.specs.declared.cursor.Place.{Place}
use Rattle.bt_cursor.specs.declared.takers.End.{End}

abbrev pub place : List ℕ → ℕ → Place
place key number = record { key = key; number = number }

-- the places of pairs behind others, in order
abbrev pub places_behind : List Pair → List Pair → List Place
places_behind front [] = []
places_behind front (p ∷ ps) = place p.key (length (values front p.key)) ∷ places_behind (front ++ p ∷ []) ps

abbrev pub places : List Pair → List Place
places ps = places_behind [] ps

abbrev pub head_of : {A : Type 0} → List A → Option A
head_of [] = None
head_of (x ∷ xs) = Some x

abbrev pub end_in : {A : Type 0} → List A → Option A
end_in [] = None
end_in (x ∷ []) = Some x
end_in (x ∷ y ∷ xs) = end_in (y ∷ xs)

abbrev pub first_place : List Pair → Option Place
first_place ps = head_of (places ps)

abbrev pub last_place : List Pair → Option Place
last_place ps = end_in (places ps)

-- the pair at a place, if there is one
abbrev pub pair_in : List Pair → Place → Option Pair
pair_in ps at = option_map (pair at.key) (slice_get (values ps at.key) at.number)

abbrev pub pair_at : Option Place → List Pair → Option Pair
pair_at at ps = option_and_then (pair_in ps) at

module _ (cmp : List ℕ → List ℕ → Ordering) where
  -- by the key, then by the number
  abbrev pub place_cmp : Place → Place → Ordering
  place_cmp a b = ordering_then (cmp a.key b.key) (nat_cmp a.number b.number)

  -- the nearest place behind one, and in front of it
  abbrev pub place_behind : Place → List Pair → Option Place
  place_behind at ps = head_of (filter (λ p. is_gt (place_cmp p at)) (places ps))

  abbrev pub place_before : Place → List Pair → Option Place
  place_before at ps = end_in (filter (λ p. is_lt (place_cmp p at)) (places ps))

  -- the nearest from one on
  abbrev pub place_from : Place → List Pair → Option Place
  place_from at ps = head_of (filter (λ p. is_ge (place_cmp p at)) (places ps))

  -- from nowhere it is nowhere
  abbrev pub next_place : Option Place → List Pair → Option Place
  next_place at ps = option_and_then (λ p. place_behind p ps) at

  abbrev pub prev_place : Option Place → List Pair → Option Place
  prev_place at ps = option_and_then (λ p. place_before p ps) at

-- ---- as the tree tells it

-- a key of an item, and the number of its last value
abbrev pub end_of : Item → End
end_of x = record { key = x.key; last = length x.values - 1 }

abbrev pub end_first : List Pair → Option End
end_first ps = option_map end_of (item_first ps)

abbrev pub end_last : List Pair → Option End
end_last ps = option_map end_of (item_last ps)

abbrev pub ends_above : (List ℕ → List ℕ → Ordering) → List ℕ → List Pair → Option End
ends_above cmp key ps = end_first (above cmp ps key)

abbrev pub ends_before : (List ℕ → List ℕ → Ordering) → List ℕ → List Pair → Option End
ends_before cmp key ps = option_map end_of (item_before cmp key ps)

-- the number of a key's last value
abbrev pub number_last : List (List ℕ) → Option ℕ
number_last [] = None
number_last (v ∷ vs) = Some (length vs)

abbrev pub last_number : List ℕ → List Pair → Option ℕ
last_number key ps = number_last (values ps key)

abbrev pub value_at : List ℕ → ℕ → List Pair → Option (List ℕ)
value_at key number ps = slice_get (values ps key) number

-- of a key whose last value has this number, the number behind one, and the nearest in front of it
abbrev pub number_behind : ℕ → Option ℕ → Option ℕ
number_behind number None = None
number_behind number (Some last) = if nat_lt number last then Some (number + 1) else None

abbrev pub number_in_front : ℕ → Option ℕ → Option ℕ
number_in_front number None = None
number_in_front zero (Some last) = None
number_in_front (suc n) (Some last) = Some (min n last)

-- a store was asked for so many pages at most, unless more can't be counted
abbrev pub AsksFor : {S V : Type 0} → Stores V S → ℕ → V → V → Type 0
AsksFor R most v w = (R.gets w ≤ R.gets v + most) ⊎ (2 ^ 64 - 1 ≤ most)

-- nothing is written, the pairs of the tree stay, and its store is asked for so many pages at most
pub record Looks {S V O : Type 0} (s : Ghosts S) (R : Stores V S) (o : Orders O) (most : ℕ) (t u : Tree V O) (old new : S) : Type 0 where
  pub reads : Reads s (Means s R o) t u old new
  pub looks : LooksAt s R t u old new
  pub stays : StaysTree t u
  pub asked : AsksFor R most t.store u.store

-- so many at most where pairs are meant
abbrev pub AsksFew : {S V O : Type 0} → Ghosts S → Stores V S → Orders O → ℕ → Tree V O → Tree V O → S → Type 0
AsksFew s R o most t u old = (ps : List Pair) → Means s R o t old ps → AsksFor R most t.store u.store
