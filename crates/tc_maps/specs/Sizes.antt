-- The bytes of the keys and values of a map.
use Rattle.std.specs.Prelude.{◌≡◌, ℕ, ◌+◌, List, [], length, sum_by, unwrap_or, filter, Option, Some, None}
use Rattle.std.specs.Ordering.{is_ge}
use Rattle.std.specs.FinMap.{get, entries, from_entries}
use Rattle.std.specs.BTreeMap.{BTreeMap, IsOrdered}
use Rattle.tc_base.specs.Maps.{Map}
use Rattle.tc_base.specs.Orders.{lexical}

abbrev pub size_of : Map → ℕ
size_of m = sum_by (λ e. length e.0 + length e.1) (entries m)

-- the value of a key, no bytes where it isn't held
abbrev pub value_of : Map → List ℕ → List ℕ
value_of m key = unwrap_or (get m key) []

-- the bytes of a key of so many bytes and its value; none where it isn't held
abbrev pub entry_size : ℕ → Option (List ℕ) → ℕ
entry_size key None = 0
entry_size key (Some value) = key + length value

-- the same, where the length of the value is given
abbrev pub size_gone : ℕ → Option ℕ → ℕ
size_gone key None = 0
size_gone key (Some value) = key + value

-- the map that the entries make
abbrev pub map_seen : BTreeMap (List ℕ) (List ℕ) → Map
map_seen m = from_entries {R = lexical} m.entries

-- the entries from a key on
abbrev pub entries_on : List ℕ → Map → List (List ℕ × List ℕ)
entries_on key m = filter (λ e. is_ge (lexical e.0 key)) (entries m)

-- what a map keeps beside its entries
pub record IsSized (m : BTreeMap (List ℕ) (List ℕ)) (bytes : ℕ) : Type 0 where
  pub sorted : IsOrdered lexical m
  pub size : bytes ≡ size_of (map_seen m)
