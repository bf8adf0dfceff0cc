-- Changes of maps: none where they fail.
use Rattle.std.specs.Prelude.{ℕ, ◌+◌, List, length, sum_by, Option, Some, None, option_map, is_some, if◌then◌else◌}
use Rattle.std.specs.declared.cmp.Ordering.{Ordering}
use Rattle.std.specs.FinMap.{FinMap, get, insert, remove, entries}
use Rattle.tc_base.specs.Maps.{Map}
use Rattle.tc_model.specs.Values.{allowed}

-- the bytes of all keys and values
abbrev pub bytes_in : Map → ℕ
bytes_in m = sum_by (λ e. length e.0 + length e.1) (entries m)

-- the map with a key set to a value; a new value of more than 16,777,216 bytes is refused
abbrev pub with_value : Map → List ℕ → List ℕ → Option Map
with_value m key value = option_map (insert m key) (allowed value)

-- the map without a key that is held; none where it isn't
abbrev pub without : {K X : Type 0} {R : K → K → Ordering} → FinMap R X → K → Option (FinMap R X)
without m key = if is_some (get m key) then Some (remove m key) else None
