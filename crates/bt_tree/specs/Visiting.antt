-- The items of a stretch of keys shown where they lie.
use Rattle.std.specs.Prelude.{◌≡◌, ◌≢◌, ◌⊎◌, ℕ, ◌+◌, ◌≤◌, Bool, true, false, List, [], ◌∷◌, ◌++◌, length}
use Rattle.std.specs.List.{AllByRecursion}
use Rattle.std.specs.declared.cmp.Ordering.{Ordering}
use Rattle.tc_base.specs.Maps.{Map}
use Rattle.tc_base.specs.declared.order.Order.{Ghosts as Orders}
use Rattle.tc_base.specs.declared.order.Side.{Side}
use Rattle.tc_base.specs.declared.seq.Pair.{Pair}
use Rattle.tc_space.specs.Changes.{inside, is_inside}
use Rattle.tc_space.specs.declared.records.Records.{Ghosts as Stores}
use Rattle.tc_space.specs.declared.space.Space.{Ghosts}
use Rattle.bt_page.specs.declared.page.Item.{Item}
use Rattle.bt_page.specs.declared.page.Leaf.{Leaf}
use Rattle.bt_rows.specs.Orders.{before_by}
use Rattle.bt_rows.specs.Rules.{Ascends}
use Rattle.bt_rows.specs.declared.page.Page.TheVariants.{Leaf as leaf_page}
use Rattle.bt_cache.specs.Held.{Beside, HasPage}
use Rattle.bt_ways.specs.Changes.{AreItems, items_pairs}
use Rattle.bt_tree.specs.declared.tree.Tree.{Tree}
use Rattle.bt_tree.specs.Meaning.{Means}
use Rattle.bt_tree.specs.Ranging.{is_front, is_from, leaves_inside}
use Rattle.bt_tree.specs.Showing.{Takes}

-- an item was shown as the last one, and no more was wanted
pub record IsLastOne {T : Type 0} (takes : Takes T) (t : T) (x : Item) (xs : List Item) (mid u : T) (more : Bool) : Type 0 where
  pub taken : takes t x mid false
  pub last : xs ≡ []
  pub same : u ≡ mid
  pub enough : more ≡ false

-- these were shown one by one: behind each but the last more was wanted, and this is whether it is behind all
abbrev pub Shown : {T : Type 0} → Takes T → T → List Item → T → Bool → Type 0
Shown takes t [] u more = (u ≡ t) × (more ≡ true)
Shown {T} takes t (x ∷ xs) u more = (mid : T) × ((takes t x mid true × Shown takes mid xs u more) ⊎ IsLastOne takes t x xs mid u more)

-- ---- what is seen from outside

-- the first items of these pairs were shown, all of them unless no more was wanted, and behind a way of so many pages no more were read than items were shown, and one
pub record IsVisited {T : Type 0} (takes : Takes T) (cmp : List ℕ → List ℕ → Ordering) (ps : List Pair) (way steps steps' : ℕ) (t u : T) : Type 0 where
  pub went : List Item
  pub left : List Item
  pub are : AreItems cmp (went ++ left)
  pub pairs : items_pairs (went ++ left) ≡ ps
  pub more : Bool
  pub shown : Shown takes t went u more
  pub whole : more ≡ true → left ≡ []
  pub few : steps' ≤ steps + way + 1 + length went

-- whatever pairs a tree means, so it was with those of the stretch
abbrev pub VisitsPairs : {S V O T : Type 0} → Ghosts S → Stores V S → Orders O → Takes T → (List ℕ → Side) → Tree V O → S → ℕ → ℕ → T → T → Type 0
VisitsPairs s R o takes side tree space steps steps' t u = (ps : List Pair) → Means s R o tree space ps → IsVisited takes o.cmp (inside side ps) tree.height steps steps' t u

-- whatever tree was meant, the most pages that are read are its height, its leaves that hold a pair of the stretch, and one more; whatever a store tells, they are its height and as many as it
-- counts pairs
pub record CostsVisit {S V O : Type 0} (s : Ghosts S) (R : Stores V S) (o : Orders O) (side : List ℕ → Side) (tree : Tree V O) (old : S) (steps steps' : ℕ) : Type 0 where
  pub leaves : (ps : List Pair) (h : Means s R o tree old ps) → steps' ≤ steps + tree.height + 1 + leaves_inside side h.1.is.tree.leaves
  pub most : steps' ≤ steps + tree.height + tree.head.pairs

-- ---- in one page

-- the first of these items isn't inside
pub record BeginsOutside (side : List ℕ → Side) (items : List Item) : Type 0 where
  pub first : Item
  pub rest : List Item
  pub are : items ≡ first ∷ rest
  pub outside : is_inside (side first.key) ≡ false

-- items were shown as long as they are inside and more was wanted
pub record ShowsRest {T : Type 0} (takes : Takes T) (side : List ℕ → Side) (items : List Item) (t u : T) (all : Bool) : Type 0 where
  pub went : List Item
  pub left : List Item
  pub are : items ≡ went ++ left
  pub inside : AllByRecursion (λ x. is_inside (side x.key) ≡ true) went
  pub more : Bool
  pub shown : Shown takes t went u more
  pub whole : all ≡ true → (left ≡ []) × (more ≡ true)
  pub ended : all ≡ false → (more ≡ false) ⊎ BeginsOutside side left

-- of a leaf those inside were, and the next leaf is told where there may be more
pub record IsShownOf {T : Type 0} (takes : Takes T) (side : List ℕ → Side) (l : Leaf) (t u : T) (next : ℕ) : Type 0 where
  pub front : List Item
  pub went : List Item
  pub left : List Item
  pub are : l.items ≡ front ++ (went ++ left)
  pub skipped : AllByRecursion (λ x. is_front (side x.key) ≡ true) front
  pub inside : AllByRecursion (λ x. is_inside (side x.key) ≡ true) went
  pub from : AllByRecursion (λ x. is_from (side x.key) ≡ true) left
  pub more : Bool
  pub shown : Shown takes t went u more
  pub on : next ≢ 0 → (left ≡ []) × (next ≡ l.next) × (more ≡ true)
  pub ended : next ≡ 0 → (more ≡ false) ⊎ (((left ≡ []) × (l.next ≡ 0)) ⊎ BeginsOutside side left)

abbrev pub ShowsInside : {T : Type 0} → (List ℕ → List ℕ → Ordering) → Takes T → (List ℕ → Side) → Leaf → T → T → ℕ → Type 0
ShowsInside cmp takes side l t u next = Ascends (before_by cmp) l.items → IsShownOf takes side l t u next

-- so it was of whatever leaf stands under an id
abbrev pub ShowsLeaf : {S V O T : Type 0} → Ghosts S → Stores V S → (List ℕ → List ℕ → Ordering) → Takes T → (List ℕ → Side) → ℕ → Tree V O → S → T → T → ℕ → Type 0
ShowsLeaf s R cmp takes side id tree space t u next =
    (m : Map) (l : Leaf) → Beside s R (tree.cache.pages, tree.store) space m → HasPage m id (leaf_page l) → Ascends (before_by cmp) l.items → IsShownOf takes side l t u next
