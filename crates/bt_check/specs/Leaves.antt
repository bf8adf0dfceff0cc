-- Leaves that were seen, one by one.
use Rattle.std.specs.Prelude.{◌≡◌, ◌↔◌, ℕ, ◌-◌, List, [], ◌∷◌, ◌++◌, Option, Some, None, ⊤, IsTrue, length, nat_le, option_map, option_to_list, if◌then◌else◌}
use Rattle.std.specs.List.{AllByRecursion}
use Rattle.tc_base.specs.Maps.{Map as Stored}
use Rattle.bt_page.specs.declared.page.Item.{Item}
use Rattle.bt_rows.specs.declared.head.TreeHead.{TreeHead}
use Rattle.bt_rows.specs.declared.page.LeafAt.{LeafAt}
use Rattle.bt_rows.specs.declared.page.Slot.{Slot}
use Rattle.bt_rows.specs.Orders.{Before}
use Rattle.bt_rows.specs.Rows.{held, leaf_at, leaves_among}
use Rattle.bt_rows.specs.Rules.{Ascends, AtLeast, InLeaf, InOrder, IsBelow, Under, pairs_of}
use Rattle.bt_check.specs.ReadPages.{OfPages}
use Rattle.bt_check.specs.Walks.{AreThere}
use Rattle.bt_check.specs.declared.leaves.Seen.{Seen}
use Rattle.bt_check.specs.declared.rows.Placed.{Placed}

-- what is kept of a leaf at its place is that leaf
abbrev pub at_place : Placed → LeafAt
at_place p = record { slot = p.slot; leaf = p.leaf }

abbrev pub last_at : Option Placed → Option LeafAt
last_at last = option_map at_place last

-- all keys against a bound
abbrev pub AreAbove : Before → Option (List ℕ) → List Item → Type 0
AreAbove before bound items = AllByRecursion (λ x. AtLeast before bound x.key) items

abbrev pub AreUnder : Before → Option (List ℕ) → List Item → Type 0
AreUnder before bound items = AllByRecursion (λ x. Under before x.key bound) items

-- the key of the last item, or one in front of all
abbrev pub key_behind : List ℕ → List Item → List ℕ
key_behind key [] = key
key_behind key (x ∷ xs) = key_behind x.key xs

abbrev pub last_key : List Item → Option (List ℕ)
last_key [] = None
last_key (x ∷ xs) = Some (key_behind x.key xs)

-- the keys of a last leaf ascend
abbrev pub EndAscends : Before → Option LeafAt → Type 0
EndAscends before None = ⊤
EndAscends before (Some l) = Ascends before l.leaf.items

-- a leaf in order behind the last one
abbrev pub IsBehind : Before → Option LeafAt → LeafAt → Type 0
IsBehind before None m = InLeaf before m
IsBehind before (Some l) m = InLeaf before m × IsBelow before l m

-- a leaf linked with the last one, or the first
abbrev pub IsTied : TreeHead → Option LeafAt → LeafAt → Type 0
IsTied h None m = (m.leaf.prev ≡ 0) × (h.first ≡ m.slot.id)
IsTied h (Some l) m = (m.leaf.prev ≡ l.slot.id) × (l.leaf.next ≡ m.slot.id)

-- the last link, and the ends that the head tells
abbrev pub IsClosed : TreeHead → Option LeafAt → Type 0
IsClosed h None = (h.first ≡ 0) × (h.last ≡ 0)
IsClosed h (Some l) = (l.leaf.next ≡ 0) × (h.last ≡ l.slot.id)

-- a number less another, or none where it is less
abbrev pub less : Option ℕ → ℕ → Option ℕ
less None n = None
less (Some k) n = if nat_le n k then Some (k - n) else None

abbrev pub last_leaf : Option LeafAt → List LeafAt → Option LeafAt
last_leaf o [] = o
last_leaf o (l ∷ ls) = last_leaf (Some l) ls

-- all are tied from a last one on
abbrev pub AreTied : TreeHead → Option LeafAt → List LeafAt → Type 0
AreTied h o [] = ⊤
AreTied h o (l ∷ ls) = IsTied h o l × AreTied h (Some l) ls

-- what was seen of leaves
pub record IsSeen (before : Before) (h : TreeHead) (ls : List LeafAt) (s : Seen) : Type 0 where
  pub last_is : last_at s.last ≡ last_leaf None ls
  pub in_order : IsTrue s.ordered ↔ InOrder before ls
  pub tied : IsTrue s.linked ↔ AreTied h None ls
  pub rest : s.left ≡ less (Some h.pairs) (length (pairs_of ls))

-- these are seen behind whatever was seen
abbrev pub Sees : Before → TreeHead → List LeafAt → Seen → Seen → Type 0
Sees before h more old new = (ls : List LeafAt) → IsSeen before h ls old → IsSeen before h (ls ++ more) new

-- it is so of whatever leaves were seen
abbrev pub OfSeen : TreeHead → Seen → (Before → List LeafAt → Type 0) → Type 0
OfSeen h s Is = (before : Before) (ls : List LeafAt) → IsSeen before h ls s → Is before ls

-- the leaf in a place, if one stands there
abbrev pub IsLeafIn : Slot → Option Placed → Stored → Type 0
IsLeafIn s there m = OfPages m (λ pages. held pages s.id ≡ 1 → option_to_list (last_at there) ≡ leaf_at s (pages s.id))

-- the leaves in these places were seen
abbrev pub SeesAll : Before → TreeHead → List Slot → Seen → Stored → Type 0
SeesAll before h slots s m = OfPages m (λ pages. AreThere pages slots → IsSeen before h (leaves_among pages slots) s)
