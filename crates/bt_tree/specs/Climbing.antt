-- Entries that climb along the way that a tree has noted.
use Rattle.std.specs.Prelude.{◌⊎◌, ◌≡◌, ⊤, ℕ, zero, suc, ◌+◌, ◌<◌, ◌≤◌, ◌/◌, List, [], ◌∷◌, ◌++◌, Some, None, length}
use Rattle.std.specs.List.{AllByRecursion}
use Rattle.tc_space.specs.Frames.{Keeps}
use Rattle.tc_space.specs.Stores.{IsReady, Only}
use Rattle.tc_space.specs.declared.records.Records.{Ghosts as Stores}
use Rattle.tc_space.specs.declared.space.Space.{Ghosts}
use Rattle.bt_page.specs.Keys.{node_offset}
use Rattle.bt_page.specs.Limits.{NodeWithin}
use Rattle.bt_page.specs.declared.page.NodeEntry.{NodeEntry}
use Rattle.bt_page.specs.declared.page.Node.{Node}
use Rattle.bt_rows.specs.declared.head.TreeHead.{TreeHead}
use Rattle.bt_rows.specs.declared.page.Page.{Page}
use Rattle.bt_rows.specs.declared.page.Page.TheVariants.{Node as node_page}
use Rattle.bt_rows.specs.declared.page.Slot.{Slot}
use Rattle.bt_rows.specs.Pages.{PageMap}
use Rattle.bt_cache.specs.Effects.{SameStore}
use Rattle.bt_ways.specs.Climbs.{ClimbsWith, IsHeldWay}
use Rattle.bt_ways.specs.Laws.{spliced}
use Rattle.bt_ways.specs.Ways.{Crumb, path_of}
use Rattle.bt_ways.specs.Writes.{put_at}
use Rattle.bt_tree.specs.declared.tree.Tree.{Tree}
use Rattle.bt_tree.specs.Meaning.{file_in}
use Rattle.bt_tree.specs.Paging.{ComesAnew, FillsIds, IsNext, IsOwn, LacksSeen, Shows, Turns}

abbrev pub NodesWithin : ℕ → PageMap → Type 0
NodesWithin limit pages = (id : ℕ) (n : Node) → pages id ≡ Some (node_page n) → NodeWithin limit n

-- the way leads from the root to some place, along nodes that are held, and no node is above the limit
pub record CanClimb (limit : ℕ) (pages : PageMap) (root : ℕ) (path : List (ℕ × ℕ)) : Type 0 where
  pub crumbs : List Crumb
  pub place : Slot
  pub along : path ≡ path_of crumbs
  pub way : IsHeldWay pages root crumbs place
  pub within : NodesWithin limit pages

abbrev pub ShowsWay : {S V O : Type 0} → Ghosts S → Stores V S → Tree V O → S → PageMap → Type 0
ShowsWay s R t space pages = Shows s R t space pages × CanClimb t.head.node_limit pages t.head.root t.path

-- whatever it answers: so many ids of nodes are given at most, and so many rows come at most, under another root; all else that is told of the tree stays
pub record Grows {S V O : Type 0} (s : Ghosts S) (R : Stores V S) (nodes rows : ℕ) (t u : Tree V O) (old new : S) : Type 0 where
  pub keeps : Keeps s old new
  pub made : SameStore R t.store u.store
  pub column : u.column ≡ t.column
  pub head : u.head ≡ record t.head { root = u.head.root; node_ids = u.head.node_ids }
  pub nodes_least : t.head.node_ids ≤ u.head.node_ids
  pub nodes_most : u.head.node_ids ≤ t.head.node_ids + nodes
  pub rows_least : t.height ≤ u.height
  pub rows_most : u.height ≤ t.height + rows

-- a node is written as two: an entry in its middle goes on up under the id of the second, which no page had
pub record Divided (given id : ℕ) (node : Node) (above : List NodeEntry) (old new : PageMap) : Type 0 where
  pub second : ℕ
  pub front : List NodeEntry
  pub up : NodeEntry
  pub back : List NodeEntry
  pub next_id : second ≡ node_offset + (given + 1)
  pub fresh : old second ≡ None
  pub cut : node.entries ≡ front ++ up ∷ back
  pub half : length front ≡ length node.entries / 2
  pub are : new ≡ put_at id (node_page (record { heir = node.heir; entries = front })) (put_at second (node_page (record { heir = up.child; entries = back })) old)
  pub above_is : above ≡ record { child = second; key = up.key } ∷ []

-- a key is one of these
abbrev pub IsAmong : {X : Type 0} → (X → List ℕ) → List ℕ → List X → Type 0
IsAmong f key [] = ⊥
IsAmong f key (x ∷ xs) = (f x ≡ key) ⊎ IsAmong f key xs

abbrev pub entry_key : NodeEntry → List ℕ
entry_key e = e.key

-- a key of an entry stood in a node among the pages
pub record StoodIn (pages : PageMap) (key : List ℕ) : Type 0 where
  pub id : ℕ
  pub node : Node
  pub is : pages id ≡ Some (node_page node)
  pub among : IsAmong entry_key key node.entries

-- the last of the pages below a node with this heir and these entries
abbrev pub last_below : ℕ → List NodeEntry → ℕ
last_below heir [] = heir
last_below heir (e ∷ es) = last_below e.child es

-- a node of some of the places below one with this heir and these entries, one behind the other
pub record IsSection (heir : ℕ) (entries : List NodeEntry) (n : Node) : Type 0 where
  pub front : List NodeEntry
  pub back : List NodeEntry
  pub are : entries ≡ front ++ (n.entries ++ back)
  pub heir_is : n.heir ≡ last_below heir front

-- so many ids of nodes are given at most, once a way was climbed, and an id is one of a node among them
abbrev pub way_most : TreeHead → List (ℕ × ℕ) → ℕ
way_most h path = h.node_ids + suc (length path)

abbrev pub IsWayId : ℕ → ℕ → Type 0
IsWayId most id = (node_offset < id) × (id ≤ node_offset + most)

-- where entries climb a way: past the root, a node of them over it; else a section of the lowest node with them put in at its place, or, where that is above the limit, such a node where one entry with a
-- key of these climbs on, above a node whose id is given by then
abbrev pub IsWayOf : ℕ → ℕ → PageMap → ℕ → List (ℕ × ℕ) → List NodeEntry → Node → Type 0
IsWayOf limit most pages root [] added n = IsSection root added n
IsWayOf limit most pages root (step ∷ path) added n =
    (m : Node) × (pages step.0 ≡ Some (node_page m))
    × (IsSection m.heir (spliced m.entries step.1 added) n ⊎ ((up : NodeEntry) × IsAmong entry_key up.key (spliced m.entries step.1 added) × (limit < length (spliced m.entries step.1 added)) × IsWayId most up.child × IsWayOf limit most pages root path (up ∷ []) n))

-- a section of so many entries at most, whose keys are those of these
abbrev pub IsNodeOf : ℕ → ℕ → List NodeEntry → Page → Type 0
IsNodeOf most heir entries p = (n : Node) × (p ≡ node_page n) × (length n.entries ≤ most) × AllByRecursion (λ e. IsAmong entry_key e.key entries) n.entries × IsSection heir entries n

-- a node within the limit, whose keys are those that are added or stood in a node, where these entries climb this way
abbrev pub IsKnownNode : ℕ → ℕ → ℕ → List (ℕ × ℕ) → List NodeEntry → PageMap → Page → Type 0
IsKnownNode limit most root path added pages p = (n : Node) × (p ≡ node_page n) × NodeWithin limit n × AllByRecursion (λ e. IsAmong entry_key e.key added ⊎ StoodIn pages e.key) n.entries × IsWayOf limit most pages root path added n

-- each page is an old one, or such a node
abbrev pub WritesKnown : ℕ → ℕ → ℕ → List (ℕ × ℕ) → List NodeEntry → PageMap → PageMap → Type 0
WritesKnown limit most root path added old new = (id : ℕ) (p : Page) → new id ≡ Some p → (old id ≡ Some p) ⊎ IsKnownNode limit most root path added old p

-- so many nodes come at least, where so many entries climb a way: the lowest of it have no room, or it ends and a root comes
abbrev pub IsFullWay : ℕ → PageMap → ℕ → ℕ → List (ℕ × ℕ) → Type 0
IsFullWay limit pages more zero path = ⊤
IsFullWay limit pages more (suc n) [] = n ≡ 0
IsFullWay limit pages more (suc n) (step ∷ path) = (m : Node) × (pages step.0 ≡ Some (node_page m)) × (limit < length m.entries + more) × IsFullWay limit pages 1 n path

-- fewer ids of nodes are left than nodes come
abbrev pub LacksNodeIds : TreeHead → PageMap → List (ℕ × ℕ) → ℕ → Type 0
LacksNodeIds h pages path more = (n : ℕ) × (node_offset ≤ h.node_ids + n) × IsFullWay h.node_limit pages more n path

-- the entries climbed
abbrev pub Climbs : {V O : Type 0} → Tree V O → Tree V O → List NodeEntry → PageMap → PageMap → Type 0
Climbs t u added old new = ClimbsWith t.head.node_limit old new t.height u.height t.head.root u.head.root t.path added × ComesAnew t.head old new × WritesKnown t.head.node_limit (way_most t.head t.path) t.head.root t.path added old new × FillsIds t.head u.head new

-- a node is written as two; where it stood, the second alone comes
abbrev pub Divides : {V O : Type 0} → Tree V O → Tree V O → ℕ → Node → List NodeEntry → PageMap → PageMap → Type 0
Divides t u id node above old new = Divided t.head.node_ids id node above old new × ((old id ≡ None → ⊥) → ComesAnew t.head old new) × FillsIds t.head u.head new

-- this id, or the next one of a node
abbrev pub IsOneOrNext : ℕ → TreeHead → PageMap → ℕ → Type 0
IsOneOrNext id h pages i = (i ≡ id) ⊎ IsNext h 0 1 i

module _ {S V O : Type 0} (s : Ghosts S) (R : Stores V S) where
  -- the noted way may be climbed
  abbrev pub HasWay : Tree V O → S → Type 0
  HasWay t space = IsReady s (ShowsWay s R) t space

  abbrev pub TurnsDivided : ℕ → Node → List NodeEntry → Tree V O → Tree V O → S → S → Type 0
  TurnsDivided id node above t u old new = Turns s (Only (file_in R t)) (Shows s R) (Shows s R) (Divides t u id node above) t u old new

  abbrev pub TurnsClimbed : List NodeEntry → Tree V O → Tree V O → S → S → Type 0
  TurnsClimbed added t u old new = Turns s (Only (file_in R t)) (ShowsWay s R) (Shows s R) (Climbs t u added) t u old new

  -- the store has no room for a section of so many of these entries at most, under such an id
  abbrev pub LacksNodeOf : (PageMap → ℕ → Type 0) → ℕ → ℕ → List NodeEntry → Tree V O → S → S → Type 0
  LacksNodeOf Own most heir entries t old new = LacksSeen s R (Shows s R t old) Own (λ pages p. IsNodeOf most heir entries p) t old new

  -- it has none for a node that these entries make where they climb the noted way
  abbrev pub LacksWayNode : List NodeEntry → Tree V O → S → S → Type 0
  LacksWayNode added t old new = LacksSeen s R (ShowsWay s R t old) (IsOwn t.head 0 (suc (length t.path))) (IsKnownNode t.head.node_limit (way_most t.head t.path) t.head.root t.path added) t old new

  -- where a node stands under an id, it has no room for so many entries more
  abbrev pub IsFullAt : ℕ → ℕ → Tree V O → S → Type 0
  IsFullAt id more t space = (pages : PageMap) (n : Node) → Shows s R t space pages → pages id ≡ Some (node_page n) → t.head.node_limit < length n.entries + more

  -- so many nodes come at least, where so many entries climb the noted way
  abbrev pub ComeAlong : ℕ → ℕ → Tree V O → S → Type 0
  ComeAlong more nodes t space = (pages : PageMap) → ShowsWay s R t space pages → IsFullWay t.head.node_limit pages more nodes t.path
