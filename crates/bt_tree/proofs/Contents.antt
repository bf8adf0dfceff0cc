-- The items of a tree's leaves are those of its pairs.
use Rattle.std.proofs.Common.{◌≡◌, ℕ, ◌<◌, List, [], ◌∷◌, ◌++◌, true, Option, Some, map, refl, sym, ap, ◌∙◌, subst, ⊎_elim, arith, append_assoc}
use Rattle.std.specs.FinMap.{get}
use Rattle.std.specs.List.{AllByRecursion, flat_map}
use Rattle.std.specs.declared.cmp.Ordering.{Ordering}
use Rattle.std.proofs.lemmas.Bool.{cases_eq}
use Rattle.std.proofs.lemmas.Grind.{flat_map-append}
use Rattle.tc_base.specs.Maps.{Map}
use Rattle.tc_base.specs.declared.seq.Pair.{Pair}
use Rattle.bt_page.specs.Pages.{HasValue}
use Rattle.bt_page.specs.declared.page.Item.{Item}
use Rattle.bt_page.specs.declared.page.Leaf.{Leaf}
use Rattle.bt_page.specs.declared.page.Node.{Node}
use Rattle.bt_rows.specs.declared.head.TreeHead.{TreeHead}
use Rattle.bt_rows.specs.declared.page.LeafAt.{LeafAt}
use Rattle.bt_rows.specs.declared.page.Page.{Page}
use Rattle.bt_rows.specs.declared.page.Page.TheVariants.{Leaf as leaf_page, Node as node_page}
use Rattle.bt_rows.specs.Levels.{LeavesHeld, LevelsHeld, NodeAt, NodesHeld, Stands, leaf_slot, level_times, node_slot}
use Rattle.bt_rows.specs.Orders.{Before, IsOrder, before_by}
use Rattle.bt_rows.specs.Pages.{PageMap}
use Rattle.bt_rows.specs.Rows.{times}
use Rattle.bt_rows.specs.Rules.{Ascends, AtLeast, InOrder, IsBelow, Under, item_pairs, leaf_pairs, pairs_of}
use Rattle.bt_ways.specs.Changes.{items_pairs}
use Rattle.bt_ways.proofs.Counts.{held_some, times_none}
use Rattle.bt_ways.proofs.Keys.{all_flat, all_join, all_map, all_part, under_on}
use Rattle.bt_tree.specs.Inserting.{AreItemsOf}
use Rattle.bt_tree.specs.Parting.{IsStretch}
use Rattle.bt_tree.specs.Trees.{HoldsPairs}
use Rattle.bt_tree.proofs.Descents.{leaf_values}
use Rattle.bt_tree.proofs.Pages.{has_page}

pub stretch_in : {X : Type 0} (xs ys a b zs : List X) → IsStretch xs ys → zs ≡ a ++ (ys ++ b) → IsStretch xs zs
stretch_in {X} xs ys a b zs s e = (a ++ s.0, s.1 ++ b, e ∙ ap (λ (t : List X). a ++ (t ++ b)) s.2 ∙ regroup a s.0 xs s.1 b)
  where
    regroup : (p q r t u : List X) → p ++ ((q ++ (r ++ t)) ++ u) ≡ (p ++ q) ++ (r ++ (t ++ u))
    regroup p q r t u = simp append_assoc

-- ---- the items of a row of leaves

abbrev pub items_of : LeafAt → List Item
items_of l = l.leaf.items

abbrev pub row_items : List LeafAt → List Item
row_items ls = flat_map items_of ls

pub pairs_items : (ls : List LeafAt) → pairs_of ls ≡ items_pairs (row_items ls)
pairs_items [] = refl
pairs_items (l ∷ ls) = ap (λ (t : List Pair). leaf_pairs l ++ t) (pairs_items ls) ∙ sym (flat_map-append item_pairs l.leaf.items (row_items ls))

module _ (before : Before) (order : IsOrder before) where
  -- a key under the bound of each leaf is in front of their items
  in_front : (k : List ℕ) (ls : List LeafAt) → AllByRecursion (λ m. Under before k m.slot.bound) ls → InOrder before ls → AllByRecursion (λ x. before k x.key ≡ true) (row_items ls)
  in_front k [] u o = tt
  in_front k (m ∷ ls) u o =
      all_join (λ (x : Item). before k x.key ≡ true) m.leaf.items (row_items ls)
      (all_map (λ (x : Item). AtLeast before m.slot.bound x.key) (λ (x : Item). before k x.key ≡ true) m.leaf.items (λ x least. under_on before order k m.slot.bound x.key u.0 least) o.0.above)
      (in_front k ls u.1 o.2)

  ascends_join : (xs ys : List Item) → Ascends before xs → AllByRecursion (λ x. AllByRecursion (λ y. before x.key y.key ≡ true) ys) xs → Ascends before ys → Ascends before (xs ++ ys)
  ascends_join [] ys a b c = c
  ascends_join (x ∷ xs) ys a b c = (all_join (λ (y : Item). before x.key y.key ≡ true) xs ys a.0 b.0, ascends_join xs ys a.1 b.1 c)

  -- these keys are under the bound of a leaf
  abbrev Beneath : List Item → LeafAt → Type 0
  Beneath xs m = AllByRecursion (λ x. Under before x.key m.slot.bound) xs

  pub rows_ascend : (ls : List LeafAt) → InOrder before ls → Ascends before (row_items ls)
  rows_ascend [] o = tt
  rows_ascend (l ∷ ls) o = ascends_join l.leaf.items (row_items ls) o.0.ascends (each l.leaf.items (all_map (IsBelow before l) (Beneath l.leaf.items) ls (λ m b. b.items) o.1)) (rows_ascend ls o.2)
    where
      each : (xs : List Item) → AllByRecursion (Beneath xs) ls → AllByRecursion (λ x. AllByRecursion (λ y. before x.key y.key ≡ true) (row_items ls)) xs
      each [] h = tt
      each (x ∷ xs) h = (in_front x.key ls (all_map (Beneath (x ∷ xs)) (λ (m : LeafAt). Under before x.key m.slot.bound) ls (λ m b. b.0) h) o.2, each xs (all_map (Beneath (x ∷ xs)) (Beneath xs) ls (λ m b. b.1) h))

-- ---- a leaf that is held is one of the row

no_leaf : (l : Leaf) (n : Node) → ◌≡◌ {A = Option Page} (Some (leaf_page l)) (Some (node_page n)) → ⊥
no_leaf l n e = cc

leaf_one : (l k : Leaf) → ◌≡◌ {A = Option Page} (Some (leaf_page l)) (Some (leaf_page k)) → l ≡ k
leaf_one l k e = cc

times-front : (j : ℕ) (x : LeafAt) (xs : List LeafAt) → (x.slot.id ≡ j → ⊥) → times j (map leaf_slot (x ∷ xs)) ≡ times j (map leaf_slot xs)
times-front j x xs ne = omega (arith, times_none j x.slot ne)

node_times : (pages : PageMap) (j : ℕ) (l : Leaf) → pages j ≡ Some (leaf_page l) → (ns : List NodeAt) → NodesHeld pages ns → times j (map node_slot ns) ≡ 0
node_times pages j l is [] h = refl
node_times pages j l is (n ∷ ns) h =
    let away : n.slot.id ≡ j → ⊥ = λ e. no_leaf l n.node (sym is ∙ ap pages (sym e) ∙ h.0) in
    omega (arith, node_times pages j l is ns h.1, times_none j n.slot away)

levels_none : (pages : PageMap) (j : ℕ) (l : Leaf) → pages j ≡ Some (leaf_page l) → (Ls : List (List NodeAt)) → LevelsHeld pages Ls → level_times j Ls ≡ 0
levels_none pages j l is [] h = refl
levels_none pages j l is (L ∷ Ls) h = omega (arith, node_times pages j l is L h.0, levels_none pages j l is Ls h.1)

leaf_among : (pages : PageMap) (j : ℕ) (k : Leaf) → pages j ≡ Some (leaf_page k) → (ls : List LeafAt) → LeavesHeld pages ls → 0 < times j (map leaf_slot ls) → IsStretch k.items (row_items ls)
leaf_among pages j k is [] h lt = absurd (omega (arith, lt))
leaf_among pages j k is (l ∷ ls) h lt = ⊎_elim
    (λ (here : l.slot.id ≡ j).
    let same : l.leaf ≡ k = leaf_one l.leaf k (sym h.0 ∙ ap pages here ∙ is) in
    ([], row_items ls, ap (λ (x : Leaf). x.items ++ row_items ls) same))
    (λ (other : l.slot.id ≡ j → ⊥).
    let r = leaf_among pages j k is ls h.1 (omega (arith, lt, times-front j l ls other)) in
    (l.leaf.items ++ r.0, r.1, ap (λ (t : List Item). l.leaf.items ++ t) r.2 ∙ sym (append_assoc l.leaf.items r.0 (k.items ++ r.1))))
    (cases_eq l.slot.id j)

leaf_stretch : (before : Before) (pages : PageMap) (root : ℕ) (leaves : List LeafAt) (levels : List (List NodeAt)) → Stands before pages root leaves levels → (j : ℕ) (k : Leaf) → pages j ≡ Some (leaf_page k) → IsStretch k.items (row_items leaves)
leaf_stretch before pages root leaves levels st j k is =
    leaf_among pages j k is leaves st.leaves_held (omega (arith, st.once j, levels_none pages j k is levels st.nodes_held, held_some pages j (leaf_page k) is))

-- ---- the items of a tree

module _ (cmp : List ℕ → List ℕ → Ordering) (order : IsOrder (before_by cmp)) (h : TreeHead) (height : ℕ) (column : Option (List ℕ)) (m : Map) (ps : List Pair) (p : HoldsPairs (before_by cmp) h height column (get m) ps) where
  abbrev pub HaveValues : LeafAt → Type 0
  HaveValues l = AllByRecursion HasValue l.leaf.items

  pub have : (ls : List LeafAt) → LeavesHeld p.tree.pages ls → AllByRecursion HaveValues ls
  have [] held = tt
  have (l ∷ ls) held = (leaf_values m l.slot.id l.leaf (has_page h m p.tree.pages l.slot.id (leaf_page l.leaf) p.tree.head p.tree.held held.0), have ls held.1)

  some_of : (xs : List Item) → IsStretch xs (row_items p.tree.leaves) → AreItemsOf cmp xs ps
  some_of xs stretch = record {
    all = row_items p.tree.leaves;
    are = record { ascends = rows_ascend (before_by cmp) order p.tree.leaves p.tree.stands.order; some = all_flat HasValue items_of p.tree.leaves (have p.tree.leaves p.tree.stands.leaves_held) };
    pairs = p.are ∙ pairs_items p.tree.leaves;
    some = stretch;
  }

  -- a page has some of them, and so has none
  pub page_items : (j : ℕ) (k : Leaf) → p.tree.pages j ≡ Some (leaf_page k) → AreItemsOf cmp k.items ps
  page_items j k is = some_of k.items (leaf_stretch (before_by cmp) p.tree.pages h.root p.tree.leaves p.tree.levels p.tree.stands j k is)

  pub no_items_of : AreItemsOf cmp [] ps
  no_items_of = some_of [] ([], row_items p.tree.leaves, refl)

  -- where a leaf becomes another, so has each stretch of that one
  pub changed_items : (front back : List LeafAt) (leaf new : LeafAt) (qs : List Pair) (xs : List Item) → p.tree.leaves ≡ front ++ leaf ∷ back → AllByRecursion HasValue new.leaf.items → InOrder (before_by cmp) (front ++ new ∷ back) → pairs_of (front ++ new ∷ back) ≡ qs
      → IsStretch xs new.leaf.items → AreItemsOf cmp xs qs
  changed_items front back leaf new qs xs parts some in_order are stretch =
      let were : AllByRecursion HaveValues (front ++ leaf ∷ back) = subst (λ (t : List LeafAt). AllByRecursion HaveValues t) parts (have p.tree.leaves p.tree.stands.leaves_held) in
      let both = all_part HaveValues front (leaf ∷ back) were in
      record {
        all = row_items (front ++ new ∷ back);
        are = record {
          ascends = rows_ascend (before_by cmp) order (front ++ new ∷ back) in_order;
          some = all_flat HasValue items_of (front ++ new ∷ back) (all_join HaveValues front (new ∷ back) both.0 (some, both.1.1));
        };
        pairs = sym are ∙ pairs_items (front ++ new ∷ back);
        some = stretch_in xs new.leaf.items (row_items front) (row_items back) (row_items (front ++ new ∷ back)) stretch (flat_map-append items_of front (new ∷ back));
      }
