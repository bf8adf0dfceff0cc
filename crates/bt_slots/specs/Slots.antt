-- Pages as their bytes, beside the places where their items or entries begin.
use Rattle.std.specs.Prelude.{◌≡◌, ℕ, ◌+◌, List, [], ◌∷◌, ◌++◌, ◌<◌, length, set, take, drop, slice_get, Some}
use Rattle.std.specs.List.{AllByRecursion, flat_map}
use Rattle.tc_base.specs.Vnum.{vnum}
use Rattle.bt_page.specs.Pages.{two, three, value_bytes, item_bytes, entry_bytes, leaf_bytes, node_bytes, ItemFits, LeafFits, NodeFits}
use Rattle.bt_page.specs.declared.page.NodeEntry.{NodeEntry}
use Rattle.bt_page.specs.declared.page.Item.{Item}
use Rattle.bt_page.specs.declared.page.Leaf.{Leaf}
use Rattle.bt_page.specs.declared.page.Node.{Node}

-- where each begins, one behind the other, the first at this place
unfoldable pub starts_from : {A : Type 0} → (A → List ℕ) → ℕ → List A → List ℕ
starts_from s at [] = []
starts_from s at (x ∷ xs) = at ∷ starts_from s (at + length (s x)) xs

-- the bytes are values that fit, one behind the other, and these the places where they begin, the first at this one
abbrev pub AreStarts : {A : Type 0} → (A → Type 0) → (A → List ℕ) → ℕ → List ℕ → List ℕ → Type 0
AreStarts {A = A} F s at bytes starts = (xs : List A) × (starts ≡ starts_from s at xs) × AllByRecursion F xs × (bytes ≡ flat_map s xs)

-- these are a leaf's bytes, and these the places of its items
pub record IsLeafIn (bytes starts : List ℕ) (l : Leaf) : Type 0 where
  pub fits : LeafFits l
  pub is : bytes ≡ leaf_bytes l
  pub begin : starts ≡ starts_from item_bytes (length (two l.prev l.next)) l.items

-- where a leaf's item at a place begins, or would come
abbrev pub bytes_before : Leaf → ℕ → ℕ
bytes_before l place = length (two l.prev l.next) + length (flat_map item_bytes (take place l.items))

-- these are a node's bytes, and these the places of its entries
pub record IsNodeIn (bytes starts : List ℕ) (n : Node) : Type 0 where
  pub fits : NodeFits n
  pub is : bytes ≡ node_bytes n
  pub begin : starts ≡ starts_from entry_bytes (length (vnum n.heir)) n.entries

-- where a node's entry at a place begins, or would come
abbrev pub entries_before : Node → ℕ → ℕ
entries_before n place = length (vnum n.heir) + length (flat_map entry_bytes (take place n.entries))

-- an item's key, its first value, how many further values it has, and their bytes
pub record ArePartsOf (i : Item) (key first : List ℕ) (more : ℕ) (further : List ℕ) : Type 0 where
  pub others : List (List ℕ)
  pub key_is : key ≡ i.key
  pub values_are : i.values ≡ first ∷ others
  pub count : more ≡ length others
  pub further_are : further ≡ flat_map value_bytes others

-- of an item with further values, the parts without the first value
abbrev pub PartsBehindFirst : List ℕ → List ℕ → ℕ → List ℕ → List ℕ → List ℕ → ℕ → List ℕ → Type 0
PartsBehindFirst key first more further key' first' more' further' = (i : Item) → ItemFits i → 1 < length i.values → ArePartsOf i key first more further → ArePartsOf (record { key = i.key; values = drop 1 i.values }) key' first' more' further'

-- the bytes of an item of these parts
abbrev pub parts_bytes : List ℕ → List ℕ → ℕ → List ℕ → List ℕ
parts_bytes key first more further = three (length key) (length first) more ++ (key ++ (first ++ further))

-- ---- what is asked of a page and changed in it

-- what the item at a place is asked for
abbrev pub OfItem : {A : Type 0} → (Item → A) → List Item → ℕ → A → Type 0
OfItem f items place y = (x : Item) → slice_get items place ≡ Some x → y ≡ f x

abbrev pub OfEntry : {A : Type 0} → (NodeEntry → A) → List NodeEntry → ℕ → A → Type 0
OfEntry f entries place y = (e : NodeEntry) → slice_get entries place ≡ Some e → y ≡ f e

-- a leaf with other items
abbrev pub with_items : Leaf → List Item → Leaf
with_items l items = record { prev = l.prev; next = l.next; items = items }

-- the values of the item at a place are others
abbrev pub HasValuesAt : (List (List ℕ) → List (List ℕ)) → ℕ → Leaf → Leaf → Type 0
HasValuesAt f place old new = (x : Item) → slice_get old.items place ≡ Some x → new ≡ with_items old (set old.items place (record { key = x.key; values = f x.values }))
