-- What is taken of items that are shown.
use Rattle.std.specs.Prelude.{◌≡◌, ◌⊎◌, ℕ, ◌-◌, ◌==◌, Bool, true, false, List, [], ◌∷◌, ◌++◌, length, map, filter, nat_eq, Option, Some, None, if◌then◌else◌}
use Rattle.std.specs.List.{starts_with}
use Rattle.tc_base.specs.Lists.{pair}
use Rattle.tc_base.specs.declared.seq.Pair.{Pair}
use Rattle.bt_page.specs.declared.page.Item.{Item}
use Rattle.bt_rows.specs.Rules.{item_pairs}
use Rattle.tc_engine.specs.Changes.{first_of}
use Rattle.tc_engine.specs.Rows.{Adds, is_long, item_row, pair_row, text_rows}
use Rattle.tc_engine.specs.declared.rows.Rows.{Rows}
use Rattle.tc_treedb.specs.Reading.{bytes_in}
use Rattle.tc_treedb.specs.declared.takers.FirstRow.{FirstRow}
use Rattle.tc_treedb.specs.declared.takers.KeyRows.{KeyRows}
use Rattle.tc_treedb.specs.declared.takers.PairRows.{PairRows}

-- none is left to add
abbrev pub is_spent : Option ℕ → Bool
is_spent None = false
is_spent (Some n) = n == 0

-- what is left to add behind so many
abbrev pub lessened : Option ℕ → ℕ → Option ℕ
lessened None n = None
lessened (Some k) n = Some (k - n)

-- the bytes of an item's pairs, the key with each value
abbrev pub lengths : Item → ℕ
lengths x = bytes_in (item_pairs x)

-- nothing that is shown changes rows any more: one had no room, or none is left to add
abbrev pub AreDone : Rows → Option ℕ → Type 0
AreDone rows left = (is_long rows ≡ true) ⊎ (is_spent left ≡ true)

-- ---- pairs

-- of the pairs that were shown the first were added, a row for each key and value; and so many are left to add, unless a row had no room
pub record AreAdded (most : Option ℕ) (from : Rows) (shown : List Pair) (t : PairRows) : Type 0 where
  pub added : Adds from t.rows (text_rows (first_of most shown))
  pub count : is_long t.rows ≡ false → t.left ≡ lessened most (length shown)

-- whatever was shown before, these values of a key were behind it; where no more is wanted, nothing changes any more
pub record AddsValues (key : List ℕ) (vs : List (List ℕ)) (t u : PairRows) (more : Bool) : Type 0 where
  pub goes_on : (most : Option ℕ) (from : Rows) (shown : List Pair) → AreAdded most from shown t → AreAdded most from (shown ++ map (pair key) vs) u
  pub ends : more ≡ false → AreDone u.rows u.left

abbrev pub AddsPair : List ℕ → List ℕ → PairRows → PairRows → Bool → Type 0
AddsPair key value t u more = AddsValues key (value ∷ []) t u more

-- ---- keys

abbrev pub beginning : List ℕ → List (List ℕ) → List (List ℕ)
beginning prefix keys = filter (λ key. starts_with nat_eq key prefix) keys

-- of the keys that were shown and begin with the prefix the first were added
pub record AreKeysAdded (most : Option ℕ) (from : Rows) (shown : List (List ℕ)) (t : KeyRows) : Type 0 where
  pub added : Adds from t.rows (map item_row (first_of most (beginning t.prefix.now shown)))
  pub count : is_long t.rows ≡ false → t.left ≡ lessened most (length (beginning t.prefix.now shown))

pub record AddsKey (key : List ℕ) (t u : KeyRows) (more : Bool) : Type 0 where
  pub prefix_same : u.prefix.now ≡ t.prefix.now
  pub goes_on : (most : Option ℕ) (from : Rows) (shown : List (List ℕ)) → AreKeysAdded most from shown t → AreKeysAdded most from (shown ++ key ∷ []) u
  pub ends : more ≡ false → AreDone u.rows u.left

-- ---- a first value

-- the row of a value, with its key where that is wanted
abbrev pub first_row : Bool → List ℕ → List ℕ → List (List ℕ)
first_row with_key key value = (if with_key then pair_row key value else item_row value) ∷ []

abbrev pub AddsFirst : Item → FirstRow → FirstRow → Type 0
AddsFirst x t u = (value : List ℕ) (others : List (List ℕ)) → x.values ≡ value ∷ others → Adds t.rows u.rows (first_row t.with_key x.key value)
