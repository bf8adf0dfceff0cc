-- Pairs, leaves and nodes that go from a tree.
use Rattle.std.specs.Prelude.{◌≡◌, ◌⊎◌, ⊤, ℕ, suc, ◌-◌, ◌≤◌, ◌<◌, List, [], ◌∷◌, ◌++◌, Bool, true, Option, Some, None, is_some, length, MatchOption, ◌==◌, if◌then◌else◌}
use Rattle.std.specs.List.{AllByRecursion}
use Rattle.std.specs.declared.cmp.Ordering.{Ordering}
use Rattle.tc_base.specs.declared.order.Order.{Ghosts as Orders}
use Rattle.tc_base.specs.declared.seq.Pair.{Pair}
use Rattle.tc_space.specs.Changes.{has_pair}
use Rattle.tc_space.specs.Frames.{Keeps}
use Rattle.tc_space.specs.Stores.{IsReady, Only, TakesOut}
use Rattle.tc_space.specs.declared.records.Records.{Ghosts as Stores}
use Rattle.tc_space.specs.declared.space.Space.{Ghosts}
use Rattle.bt_page.specs.Limits.{NodeWithin}
use Rattle.bt_page.specs.declared.page.Leaf.{Leaf}
use Rattle.bt_page.specs.declared.page.Node.{Node}
use Rattle.bt_rows.specs.declared.head.TreeHead.{TreeHead}
use Rattle.bt_rows.specs.declared.page.LeafAt.{LeafAt}
use Rattle.bt_rows.specs.declared.page.Page.{Page}
use Rattle.bt_rows.specs.declared.page.Page.TheVariants.{Leaf as leaf_page, Node as node_page}
use Rattle.bt_rows.specs.Levels.{NodeAt, Stands}
use Rattle.bt_rows.specs.Orders.{Before, before_by}
use Rattle.bt_rows.specs.Pages.{PageMap}
use Rattle.bt_rows.specs.Rules.{B5, B7, pairs_of}
use Rattle.bt_cache.specs.Effects.{SameStore}
use Rattle.bt_ways.specs.Changes.{IsTaken, removed}
use Rattle.bt_ways.specs.Items.{IsLeafFor}
use Rattle.bt_ways.specs.Removals.{CutsFrom, with_items, with_next, with_prev, without_place}
use Rattle.bt_ways.specs.Ways.{Found}
use Rattle.bt_ways.specs.Writes.{drop_at}
use Rattle.bt_tree.specs.declared.removing.Lessened.{Lessened}
use Rattle.bt_tree.specs.declared.tree.Tree.{Tree}
use Rattle.bt_tree.specs.Climbing.{ShowsWay, StoodIn}
use Rattle.bt_tree.specs.Inserting.{IsPutPage}
use Rattle.bt_tree.specs.Meaning.{Means, Meant, file_in}
use Rattle.bt_tree.specs.Paging.{ComesNone, LacksRoom, Seen, Shows, Stood, Turns}
use Rattle.bt_tree.specs.Trees.{IsTree}

-- ---- what stays, whatever a call answers

-- no page gets an id, and the rows don't become more
pub record AddsNone {V O : Type 0} (t u : Tree V O) : Type 0 where
  pub leaf_ids : u.head.leaf_ids ≡ t.head.leaf_ids
  pub node_ids : u.head.node_ids ≡ t.head.node_ids
  pub rows : u.height ≤ t.height

-- all that is told of the tree stays, but for its root, its first and its last leaf, and no rows come
pub record Narrows {S V O : Type 0} (s : Ghosts S) (R : Stores V S) (t u : Tree V O) (old new : S) : Type 0 where
  pub keeps : Keeps s old new
  pub made : SameStore R t.store u.store
  pub column : u.column ≡ t.column
  pub head : u.head ≡ record t.head { root = u.head.root; first = u.head.first; last = u.head.last }
  pub rows : u.height ≤ t.height

-- ---- a leaf that goes

-- the items of a leaf that is held
pub record SharesItems (pages : PageMap) (l : Leaf) : Type 0 where
  pub id : ℕ
  pub was : Leaf
  pub there : pages id ≡ Some (leaf_page was)
  pub same : l.items ≡ was.items

-- a node that stood, without one of its places
pub record IsLess (pages : PageMap) (n : Node) : Type 0 where
  pub id : ℕ
  pub place : ℕ
  pub was : Node
  pub there : pages id ≡ Some (node_page was)
  pub is : n ≡ without_place place was

abbrev pub IsLessPage : PageMap → Page → Type 0
IsLessPage pages (leaf_page l) = ⊤
IsLessPage pages (node_page n) = IsLess pages n

-- a page that is written where a leaf goes: a leaf with no items or with those of another, or a node within the limit that stood, without one of its places
abbrev pub IsRemnant : TreeHead → PageMap → Page → Type 0
IsRemnant h pages (leaf_page l) = (l.items ≡ []) ⊎ SharesItems pages l
IsRemnant h pages (node_page n) = NodeWithin h.node_limit n × AllByRecursion (λ e. StoodIn pages e.key) n.entries × IsLess pages n

-- each page is an old one, or such a page
abbrev pub WritesRemnants : TreeHead → PageMap → PageMap → Type 0
WritesRemnants h old new = (id : ℕ) (p : Page) → new id ≡ Some p → (old id ≡ Some p) ⊎ IsRemnant h old p

-- where an id is named, a leaf has it
abbrev pub IsLeafOrNone : PageMap → ℕ → Type 0
IsLeafOrNone pages id = (id ≡ 0 → ⊥) → (l : Leaf) × (pages id ≡ Some (leaf_page l))

abbrev pub ShowsLink : {S V O : Type 0} → Ghosts S → Stores V S → ℕ → Tree V O → S → PageMap → Type 0
ShowsLink s R id t space pages = Shows s R t space pages × IsLeafOrNone pages id

abbrev pub ShowsLinks : {S V O : Type 0} → Ghosts S → Stores V S → ℕ → ℕ → Tree V O → S → PageMap → Type 0
ShowsLinks s R prev next t space pages = Shows s R t space pages × (IsLeafOrNone pages prev × IsLeafOrNone pages next)

abbrev pub Becomes : (PageMap → PageMap) → PageMap → PageMap → Type 0
Becomes f old new = new ≡ f old

-- the neighbours of a leaf are linked with each other, and it is gone
abbrev pub without_linked : ℕ → ℕ → ℕ → PageMap → PageMap
without_linked id prev next pages = drop_at id (with_prev next prev (with_next prev next pages))

-- the place that the noted way leads to has gone from the rows above
abbrev pub Cuts : {V O : Type 0} → Tree V O → PageMap → PageMap → Type 0
Cuts t old new = CutsFrom t.head.node_limit old new t.head.root t.path × WritesRemnants t.head old new

-- ---- a root that gives way

-- they stand in so many rows
pub record InRows (before : Before) (root height : ℕ) (pages : PageMap) : Type 0 where
  pub leaves : List LeafAt
  pub levels : List (List NodeAt)
  pub stands : Stands before pages root leaves levels
  pub high : height ≡ suc (length levels)

abbrev pub ShowsRows : {S V O : Type 0} → Ghosts S → Stores V S → Before → Tree V O → S → PageMap → Type 0
ShowsRows s R before t space pages = Shows s R t space pages × InRows before t.head.root t.height pages

-- a node has its heir alone below it
pub record IsLone (pages : PageMap) (id : ℕ) : Type 0 where
  pub node : Node
  pub there : pages id ≡ Some (node_page node)
  pub alone : node.entries ≡ []

-- a leaf had a page that is gone
abbrev pub LosesLeaf : PageMap → PageMap → Type 0
LosesLeaf old new = (id : ℕ) × (l : Leaf) × (old id ≡ Some (leaf_page l)) × (new id ≡ None)

-- nodes above go, and the same leaves stand under another root, which has more below it than its heir
pub record Sinks (before : Before) (height height' root root' : ℕ) (old new : PageMap) : Type 0 where
  pub fewer : (id : ℕ) → (new id ≡ old id) ⊎ (new id ≡ None)
  pub moved : (root' ≡ root) ⊎ ((n : Node) × (old root ≡ Some (node_page n)))
  pub wide : IsLone new root' → ⊥
  pub stands : (leaves : List LeafAt) (levels : List (List NodeAt)) → Stands before old root leaves levels → height ≡ suc (length levels)
      → (rows : List (List NodeAt)) × Stands before new root' leaves rows × (height' ≡ suc (length rows))

abbrev pub SinksTo : {V O : Type 0} → Before → Tree V O → Tree V O → PageMap → PageMap → Type 0
SinksTo before t u old new = Sinks before t.height u.height t.head.root u.head.root old new

-- the root is another, one row less
pub record IsLowered {V O : Type 0} (heir : ℕ) (t u : Tree V O) : Type 0 where
  pub store : u.store ≡ t.store
  pub cache : u.cache ≡ t.cache
  pub column : u.column ≡ t.column
  pub head : u.head ≡ record t.head { root = heir }
  pub height : u.height ≡ t.height - 1

-- ---- an emptied leaf

-- the noted way leads to this leaf, whose links these are
pub record AtLast (before : Before) (h : TreeHead) (height : ℕ) (path : List (ℕ × ℕ)) (id prev next : ℕ) (pages : PageMap) : Type 0 where
  pub key : List ℕ
  pub leaves : List LeafAt
  pub levels : List (List NodeAt)
  pub stands : Stands before pages h.root leaves levels
  pub high : height ≡ suc (length levels)
  pub limits : B5 h pages
  pub links : B7 h leaves
  pub found : Found before h.root key leaves levels path id
  pub prev_is : prev ≡ found.leaf.leaf.prev
  pub next_is : next ≡ found.leaf.leaf.next

abbrev pub ShowsLast : {S V O : Type 0} → Ghosts S → Stores V S → Before → ℕ → ℕ → ℕ → Tree V O → S → PageMap → Type 0
ShowsLast s R before id prev next t space pages = Shows s R t space pages × AtLast before t.head t.height t.path id prev next pages

-- the pages stand in rows again, under a root that has more below it than its heir, keep the limits, and hold the pairs of these leaves but for one's
pub record Vacated (before : Before) (h : TreeHead) (height : ℕ) (front : List LeafAt) (leaf : LeafAt) (back : List LeafAt) (pages : PageMap) : Type 0 where
  pub after : List LeafAt
  pub rows : List (List NodeAt)
  pub stands : Stands before pages h.root after rows
  pub high : height ≡ suc (length rows)
  pub wide : IsLone pages h.root → ⊥
  pub limits : B5 h pages
  pub links : B7 h after
  pub pairs : pairs_of after ≡ pairs_of (front ++ with_items leaf [] ∷ back)

-- the leaf went, or is the root, with no items, no page came, and each is an old one or what is left where a leaf goes
abbrev pub Vacates : {V O : Type 0} → Before → ℕ → ℕ → ℕ → Tree V O → Tree V O → PageMap → PageMap → Type 0
Vacates before id prev next t u old new = ((l : AtLast before t.head t.height t.path id prev next old) → Vacated before u.head u.height l.found.front l.found.leaf l.found.back new) × ComesNone old new × WritesRemnants t.head old new

-- ---- pairs that go

-- in the leaf where a key belongs values of it went; the leaf isn't written yet
pub record GivesPairs (cmp : List ℕ → List ℕ → Ordering) (all : Bool) (key : List ℕ) {h : TreeHead} {height : ℕ} {m : List ℕ → Option (List ℕ)} (tree : IsTree (before_by cmp) h height m) (path : List (ℕ × ℕ)) (x : Lessened) : Type 0 where
  pub found : Found (before_by cmp) h.root key tree.leaves tree.levels path x.id
  pub prev : x.leaf.prev ≡ found.leaf.leaf.prev
  pub next : x.leaf.next ≡ found.leaf.leaf.next
  pub taken : IsTaken cmp all key found.leaf.leaf.items x.leaf.items x.count

-- ---- the calls

-- the heir of a node that has no other page below it
abbrev pub IsHeir : Node → Option ℕ → Type 0
IsHeir n heir = MatchOption heir (0 < length n.entries) (λ id. (n.entries ≡ []) × (id ≡ n.heir))

-- the first leaf is another where none is named in front, and the last one where none is named behind
abbrev pub first_after : ℕ → ℕ → ℕ → ℕ
first_after prev next first = if prev == 0 then next else first

abbrev pub last_after : ℕ → ℕ → ℕ → ℕ
last_after prev next last = if next == 0 then prev else last

-- no number changes, nor how many rows there are
abbrev pub StaysNumbered : {V O : Type 0} → Tree V O → Tree V O → Type 0
StaysNumbered t u = (u.head ≡ t.head) × (u.height ≡ t.height)

-- besides the head, the rows and the noted way stay
abbrev pub StaysBeside : {V O : Type 0} → Tree V O → Tree V O → Type 0
StaysBeside t u = (u.height ≡ t.height) × (u.path ≡ t.path)

module _ {S V O : Type 0} (s : Ghosts S) (R : Stores V S) where
  abbrev pub HasLink : ℕ → Tree V O → S → Type 0
  HasLink id t space = IsReady s (ShowsLink s R id) t space

  abbrev pub HasLinks : ℕ → ℕ → Tree V O → S → Type 0
  HasLinks prev next t space = IsReady s (ShowsLinks s R prev next) t space

  abbrev pub TurnsLinked : ℕ → (PageMap → PageMap) → Tree V O → Tree V O → S → S → Type 0
  TurnsLinked id f t u old new = Turns s (Only (file_in R t)) (ShowsLink s R id) (Shows s R) (Becomes f) t u old new

  abbrev pub TurnsUnlinked : ℕ → ℕ → ℕ → Tree V O → Tree V O → S → S → Type 0
  TurnsUnlinked id prev next t u old new = Turns s (Only (file_in R t)) (ShowsLinks s R prev next) (Shows s R) (Becomes (without_linked id prev next)) t u old new

  -- where a leaf stands under an id and the key belongs there, this is whether it is held
  abbrev pub HitsIn : Before → List ℕ → ℕ → Tree V O → S → Bool → Type 0
  HitsIn before key id t space hit = (pages : PageMap) (l : Leaf) (ps : List Pair) → Shows s R t space pages → pages id ≡ Some (leaf_page l) → IsLeafFor before key ps l → hit ≡ has_pair key ps

  -- where a node stands under an id, this is its heir if it has no other page below it
  abbrev pub ShowsHeir : ℕ → Tree V O → S → Option ℕ → Type 0
  ShowsHeir id t space heir = (pages : PageMap) (n : Node) → Shows s R t space pages → pages id ≡ Some (node_page n) → IsHeir n heir

  abbrev pub TurnsCut : Tree V O → Tree V O → S → S → Type 0
  TurnsCut t u old new = Turns s (Only (file_in R t)) (ShowsWay s R) (Shows s R) (Cuts t) t u old new

  -- the store has no room for what is left of pages where a leaf goes, or the undo log is full
  abbrev pub LacksRemnant : (Tree V O → S → PageMap → Type 0) → Tree V O → S → S → Type 0
  LacksRemnant Shown t old new = LacksRoom s R (Seen (Shown t old)) (λ w i. Stood w.0 i) (λ w. w.0) (λ w p. IsRemnant t.head w.0 p) t old new

  abbrev pub LacksLink : ℕ → Tree V O → S → S → Type 0
  LacksLink id t old new = LacksRemnant (ShowsLink s R id) t old new

  abbrev pub LacksLinks : ℕ → ℕ → Tree V O → S → S → Type 0
  LacksLinks prev next t old new = LacksRemnant (ShowsLinks s R prev next) t old new

  abbrev pub LacksCut : Tree V O → S → S → Type 0
  LacksCut t old new = LacksRemnant (ShowsWay s R) t old new

module _ {S V O : Type 0} (s : Ghosts S) (R : Stores V S) (o : Orders O) where
  abbrev pub HasRows : Tree V O → S → Type 0
  HasRows t space = IsReady s (ShowsRows s R (before_by o.cmp)) t space

  abbrev pub TurnsSunk : Tree V O → Tree V O → S → S → Type 0
  TurnsSunk t u old new = Turns s (Only (file_in R t)) (ShowsRows s R (before_by o.cmp)) (Shows s R) (SinksTo (before_by o.cmp) t u) t u old new

  abbrev pub HasLast : ℕ → ℕ → ℕ → Tree V O → S → Type 0
  HasLast id prev next t space = IsReady s (ShowsLast s R (before_by o.cmp) id prev next) t space

  abbrev pub TurnsVacated : ℕ → ℕ → ℕ → Tree V O → Tree V O → S → S → Type 0
  TurnsVacated id prev next t u old new = Turns s (Only (file_in R t)) (ShowsLast s R (before_by o.cmp) id prev next) (Shows s R) (Vacates (before_by o.cmp) id prev next t u) t u old new

  abbrev pub LacksLast : ℕ → ℕ → ℕ → Tree V O → S → S → Type 0
  LacksLast id prev next t old new = LacksRemnant s R (ShowsLast s R (before_by o.cmp) id prev next) t old new

  -- whether something is answered is whether the key is held
  abbrev pub TellsHeld : {A : Type 0} → List ℕ → Tree V O → S → Option A → Type 0
  TellsHeld key t space found = (ps : List Pair) → Means s R o t space ps → is_some found ≡ has_pair key ps

  -- where a leaf goes, the root has more below it than its heir
  abbrev pub LowersRoot : Tree V O → Tree V O → S → S → Type 0
  LowersRoot t u old new = (ps : List Pair) (h : Means s R o t old ps) → (pages : PageMap) × Shows s R u new pages × (LosesLeaf h.1.is.tree.pages pages → IsLone pages u.head.root → ⊥)

  module _ (all : Bool) (key : List ℕ) where
    -- in the leaf that was read of a tree values went
    abbrev pub GivesInLeaf : Tree V O → S → List (ℕ × ℕ) → Lessened → Type 0
    GivesInLeaf t space path x = (ps : List Pair) (h : Means s R o t space ps) → GivesPairs o.cmp all key h.1.is.tree path x

    abbrev pub Removes : Bool → Tree V O → Tree V O → S → S → Type 0
    Removes taken t u old new = TakesOut s (Only (file_in R t)) (Means s R o) (has_pair key) (removed o.cmp all key) taken t u old new

    -- where the key is held, a page of the tree before or after; a node stood, and is without one of its places
    abbrev pub IsLeftPage : (t : Tree V O) (old : S) → Meant s R o t old → Page → Type 0
    IsLeftPage t old w p = IsPutPage o.cmp t.head w.1.1.is.tree.pages w.0 (removed o.cmp all key w.0) p × IsLessPage w.1.1.is.tree.pages p × (has_pair key w.0 ≡ true)

    -- the store, which holds the pages of the tree before and such pages alone, has no room for a page of the tree before or after, under an id that has one, or the undo log is full
    abbrev pub IsRefusedRoom : Tree V O → S → S → Type 0
    IsRefusedRoom t old new = LacksRoom s R (Meant s R o t old) (λ w i. Stood w.1.1.is.tree.pages i) (λ w. w.1.1.is.tree.pages) (IsLeftPage t old) t old new
