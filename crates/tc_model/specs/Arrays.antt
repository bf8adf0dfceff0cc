-- A map from ids to values of at most a width: the data of a fixed-length database.
use Rattle.std.specs.Prelude.{ℕ, ◌+◌, ◌-◌, ◌&&◌, List, take, map, codes, slice_get, Option, Some, None, option_map, option_and_then, unwrap_or, nat_le, if◌then◌else◌}
use Rattle.std.specs.List.{last_or}
use Rattle.std.specs.Fmt.{decimal}
use Rattle.std.specs.Ordering.{nat_cmp}
use Rattle.std.specs.FinMap.{FinMap, get, insert, keys as ids}
use Rattle.tc_model.specs.Values.{allowed}
use Rattle.tc_base.specs.Texts.{is_text}
use Rattle.tc_model.specs.Texts.{is_number, number}

abbrev pub Array : Type 0
Array = FinMap nat_cmp (List ℕ)

-- the least and the greatest id held; 0 where nothing is held
abbrev pub least : Array → ℕ
least m = unwrap_or (slice_get (ids m) 0) 0

abbrev pub greatest : Array → ℕ
greatest m = unwrap_or (last_or None (ids m)) 0

-- the number that a key names: one of four words, or one to twenty digits; 0 of any other key
abbrev pub number_named : Array → List ℕ → ℕ
number_named m key =
    if is_text key (codes "min") then least m
    else (if is_text key (codes "max") then greatest m
    else (if is_text key (codes "prev") then least m - 1
    else (if is_text key (codes "next") then greatest m + 1
    else (if is_number 20 key then number key else 0))))

-- an id is a number from 1 to the greatest id allowed
abbrev pub as_id : ℕ → ℕ → Option ℕ
as_id most n = if nat_le 1 n && nat_le n most then Some n else None

abbrev pub id_of : ℕ → Array → List ℕ → Option ℕ
id_of most m key = as_id most (number_named m key)

abbrev pub value_at : ℕ → Array → List ℕ → Option (List ℕ)
value_at most m key = option_and_then (λ id. get m id) (id_of most m key)

-- a value is cut to the width
abbrev pub with_cell : ℕ → Array → ℕ → List ℕ → Option Array
with_cell width m id value = option_map (λ v. insert m id v) (allowed (take width value))

-- the key in replies
abbrev pub named : Array → List ℕ → List ℕ
named m key = decimal (number_named m key)

abbrev pub key_texts : Array → List (List ℕ)
key_texts m = map (λ id. decimal id) (ids m)
