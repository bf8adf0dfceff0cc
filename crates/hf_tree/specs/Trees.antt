-- Trees of records by key; what hangs left is greater.
use Rattle.std.specs.Prelude.{◌≡◌, ℕ, ◌+◌, Option, Some, None}
use Rattle.std.specs.declared.cmp.Ordering.{Ordering}
use Rattle.std.specs.declared.cmp.Ordering.TheVariants.{Less, Equal, Greater}
use Rattle.hf_tree.specs.declared.parent.Parent.{Parent}
use Rattle.hf_tree.specs.declared.parent.Parent.TheVariants.{Left, Right}
use Rattle.hf_tree.specs.declared.parent.Found.{Found}
use Rattle.hf_tree.specs.declared.parent.Found.TheVariants.{Here, Gap}
use Rattle.hf_tree.specs.Keys.{Key, key_cmp}

pub data Tree : Type 0 where
  leaf : Tree
  node : (at : ℕ) (key : Key) (l r : Tree) → Tree

abbrev pub nodes : Tree → ℕ
nodes leaf = 0
nodes (node p q l r) = nodes l + nodes r + 1

-- the first for a lesser key, the second for the same, the third for a greater
abbrev pub by_order : {A : Type 0} → Ordering → A → A → A → A
by_order Less a b c = a
by_order Equal a b c = b
by_order Greater a b c = c

-- P holds of each place and key
abbrev pub AllOf : (ℕ → Key → Type 0) → Tree → Type 0
AllOf P leaf = Unit {0}
AllOf P (node p q l r) = P p q × AllOf P l × AllOf P r

abbrev pub Above : Key → ℕ → Key → Type 0
Above q p k = key_cmp k q ≡ Greater

abbrev pub Below : Key → ℕ → Key → Type 0
Below q p k = key_cmp k q ≡ Less

abbrev pub Ordered : Tree → Type 0
Ordered leaf = Unit {0}
Ordered (node p q l r) = AllOf (Above q) l × AllOf (Below q) r × Ordered l × Ordered r

-- where the search for a key ends, from this parent on
abbrev pub seek : Parent → Tree → Key → Found
seek from leaf k = Gap from
seek from (node p q l r) k = by_order (key_cmp k q) (seek (Right p) r k) (Here p from) (seek (Left p) l k)

abbrev pub look : Tree → Key → Option ℕ
look leaf k = None
look (node p q l r) k = by_order (key_cmp k q) (look r k) (Some p) (look l k)

-- this tree with another in the place of the one at a key, or of the leaf where the key would hang
abbrev pub graft : Tree → Key → Tree → Tree
graft leaf k s = s
graft (node p q l r) k s = by_order (key_cmp k q) (node p q l (graft r k s)) (s) (node p q (graft l k s) r)

-- the tree at a key
abbrev pub part : Tree → Key → Tree
part leaf k = leaf
part (node p q l r) k = by_order (key_cmp k q) (part r k) (node p q l r) (part l k)

-- the second hung as right child on the rightmost node of the first
abbrev pub join : Tree → Tree → Tree
join leaf r = r
join (node p q l m) r = node p q l (join m r)

-- what takes the place of a tree when its root is taken out
abbrev pub rest : Tree → Tree
rest leaf = leaf
rest (node p q l r) = join l r

abbrev pub insert : Tree → Key → ℕ → Tree
insert t k p = graft t k (node p k leaf leaf)

abbrev pub remove : Tree → Key → Tree
remove t k = graft t k (rest (part t k))

-- the place of the rightmost node
abbrev pub last : ℕ → Tree → ℕ
last p leaf = p
last p (node q k l r) = last q r
