-- The bytes of pages. Sizes, counts and ids are varying numbers.
use Rattle.std.specs.Prelude.{ℕ, ◌<◌, ◌≤◌, ◌^◌, List, [], ◌∷◌, ◌++◌, length}
use Rattle.std.specs.List.{AllByRecursion, flat_map}
use Rattle.tc_base.specs.Vnum.{vnum}
use Rattle.bt_page.specs.declared.page.Item.{Item}
use Rattle.bt_page.specs.declared.page.NodeEntry.{NodeEntry}
use Rattle.bt_page.specs.declared.page.Leaf.{Leaf}
use Rattle.bt_page.specs.declared.page.Node.{Node}

-- numbers, one behind the other
abbrev pub two : ℕ → ℕ → List ℕ
two a b = vnum a ++ vnum b

abbrev pub three : ℕ → ℕ → ℕ → List ℕ
three a b c = vnum a ++ (vnum b ++ vnum c)

-- a further value
abbrev pub value_bytes : List ℕ → List ℕ
value_bytes v = vnum (length v) ++ v

-- the sizes of a key and of its first value, the number of further values; key, first value; the further values
abbrev pub spelled_item : List ℕ → List (List ℕ) → List ℕ
spelled_item key [] = []
spelled_item key (v ∷ more) = three (length key) (length v) (length more) ++ (key ++ (v ++ flat_map value_bytes more))

unfoldable pub item_bytes : Item → List ℕ
item_bytes i = spelled_item i.key i.values

-- child, size of the key, key
unfoldable pub entry_bytes : NodeEntry → List ℕ
entry_bytes e = two e.child (length e.key) ++ e.key

-- both links, then the items
unfoldable pub leaf_bytes : Leaf → List ℕ
leaf_bytes l = two l.prev l.next ++ flat_map item_bytes l.items

-- the heir, then the entries
unfoldable pub node_bytes : Node → List ℕ
node_bytes n = vnum n.heir ++ flat_map entry_bytes n.entries

-- its length can be written
abbrev pub SizeFits : List ℕ → Type 0
SizeFits xs = length xs < 2 ^ 64

-- it has a value at least
abbrev pub HasValue : Item → Type 0
HasValue i = 0 < length i.values

-- what has bytes: all numbers are below 2 ^ 64, the count of further values too
pub record ItemFits (i : Item) : Type 0 where
  pub key : SizeFits i.key
  pub values : AllByRecursion SizeFits i.values
  pub some : HasValue i
  pub count : length i.values ≤ 2 ^ 64

pub record EntryFits (e : NodeEntry) : Type 0 where
  pub child : e.child < 2 ^ 64
  pub key : SizeFits e.key

pub record LeafFits (l : Leaf) : Type 0 where
  pub prev : l.prev < 2 ^ 64
  pub next : l.next < 2 ^ 64
  pub items : AllByRecursion ItemFits l.items

pub record NodeFits (n : Node) : Type 0 where
  pub heir : n.heir < 2 ^ 64
  pub entries : AllByRecursion EntryFits n.entries
