-- An item where it lies, and one value among several of a key.
use Rattle.std.specs.Prelude.{◌≡◌, ℕ, suc, ◌+◌, ◌-◌, List, [], ◌∷◌, ◌++◌, take, drop, Option, Some, None}
use Rattle.bt_page.specs.Pages.{value_bytes}
use Rattle.bt_page.specs.declared.page.Item.{Item}
use Rattle.bt_page.specs.declared.page.NodeEntry.{NodeEntry}
use Rattle.bt_slots.specs.Reads.{values_in}

-- the item of a key, a first value, and so many further ones in these bytes
abbrev pub seen : List ℕ → List ℕ → ℕ → List ℕ → Item
seen key first more further = record { key = key; values = first ∷ (values_in more further).0 }

-- the entry of a page and a key
abbrev pub entry_of : ℕ → List ℕ → NodeEntry
entry_of child key = record { child = child; key = key }

-- what is behind so many values
abbrev pub behind_values : ℕ → List ℕ → List ℕ
behind_values n bytes = (values_in n bytes).1

-- the value of a number stands between these places, its size with it
pub record IsSpanOf (n : ℕ) (bytes : List ℕ) (from to : ℕ) : Type 0 where
  pub begins : drop from bytes ≡ behind_values n bytes
  pub ends : drop to bytes ≡ behind_values (suc n) bytes
  pub front : take from bytes ++ behind_values n bytes ≡ bytes

-- a value as its bytes behind its size, or nothing
abbrev pub bytes_or_none : Option (List ℕ) → List ℕ
bytes_or_none None = []
bytes_or_none (Some value) = value_bytes value

-- bytes of which those from one place to another are a value, or go
abbrev pub with_further : ℕ → ℕ → Option (List ℕ) → List ℕ → List ℕ
with_further from to value bytes = take from bytes ++ (bytes_or_none value ++ drop to bytes)

abbrev pub one_or_none : {A : Type 0} → Option A → List A
one_or_none None = []
one_or_none (Some x) = x ∷ []

-- the value at a place, counted from 0, is another, or goes
abbrev pub values_with_nth : ℕ → Option (List ℕ) → List (List ℕ) → List (List ℕ)
values_with_nth n value vs = take n vs ++ (one_or_none value ++ drop (n + 1) vs)

-- how many further values there are then
abbrev pub more_with : ℕ → Option (List ℕ) → ℕ
more_with more (Some value) = more
more_with more None = more - 1
