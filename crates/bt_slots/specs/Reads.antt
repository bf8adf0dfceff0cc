-- What any bytes are read as. Where they end too early, or no number stands at their front, there is less or nothing.
use Rattle.std.specs.Prelude.{ℕ, zero, suc, List, [], ◌∷◌, take, drop, Ok, Err}
use Rattle.tc_base.specs.Reading.{Front}
use Rattle.tc_base.specs.Vnum.{vnum_front}
use Rattle.bt_page.specs.declared.page.NodeEntry.{NodeEntry}
use Rattle.bt_page.specs.declared.page.Item.{Item}
use Rattle.bt_page.specs.declared.page.Leaf.{Leaf}
use Rattle.bt_page.specs.declared.page.Node.{Node}

abbrev pub or_none : Front ℕ → ℕ × List ℕ
or_none (Ok x) = x
or_none (Err e) = (0, [])

-- the number at the front, and what is behind it
unfoldable pub number_in : List ℕ → ℕ × List ℕ
number_in bytes = or_none (vnum_front bytes)

-- a text behind its size
abbrev pub cut : ℕ × List ℕ → List ℕ × List ℕ
cut x = (take x.0 x.1, drop x.0 x.1)

abbrev pub value_in : List ℕ → List ℕ × List ℕ
value_in bytes = cut (number_in bytes)

abbrev pub with_value : List ℕ → List (List ℕ) × List ℕ → List (List ℕ) × List ℕ
with_value v x = (v ∷ x.0, x.1)

-- so many values, one behind the other
unfoldable pub values_in : ℕ → List ℕ → List (List ℕ) × List ℕ
values_in zero bytes = ([], bytes)
values_in (suc n) bytes = with_value (value_in bytes).0 (values_in n (value_in bytes).1)

-- the number behind so many
abbrev pub second_in : List ℕ → ℕ × List ℕ
second_in bytes = number_in (number_in bytes).1

abbrev pub third_in : List ℕ → ℕ × List ℕ
third_in bytes = number_in (second_in bytes).1

-- a key and its first value of these sizes, and so many further values
abbrev pub item_with : ℕ → ℕ → ℕ × List ℕ → Item × List ℕ
item_with k v x = (record { key = take k x.1; values = take v (drop k x.1) ∷ (values_in x.0 (drop v (drop k x.1))).0 }, (values_in x.0 (drop v (drop k x.1))).1)

unfoldable pub item_in : List ℕ → Item × List ℕ
item_in bytes = item_with (number_in bytes).0 (second_in bytes).0 (third_in bytes)

unfoldable pub items_in : ℕ → List ℕ → List Item
items_in zero bytes = []
items_in (suc n) bytes = (item_in bytes).0 ∷ items_in n (item_in bytes).1

-- a leaf of so many items
unfoldable pub leaf_in : ℕ → List ℕ → Leaf
leaf_in n bytes = record { prev = (number_in bytes).0; next = (second_in bytes).0; items = items_in n (second_in bytes).1 }

unfoldable pub entry_in : List ℕ → NodeEntry × List ℕ
entry_in bytes = (record { child = (number_in bytes).0; key = (cut (second_in bytes)).0 }, (cut (second_in bytes)).1)

unfoldable pub entries_in : ℕ → List ℕ → List NodeEntry
entries_in zero bytes = []
entries_in (suc n) bytes = (entry_in bytes).0 ∷ entries_in n (entry_in bytes).1

-- a node of so many entries
unfoldable pub node_in : ℕ → List ℕ → Node
node_in n bytes = record { heir = (number_in bytes).0; entries = entries_in n (number_in bytes).1 }
