-- Leaves that are scanned one after the other.
use Rattle.std.proofs.Common.{◌≡◌, ◌≢◌, ℕ, ◌+◌, ◌<◌, ◌≤◌, List, [], ◌∷◌, ◌++◌, true, false, Option, Some, None, length, map, take, refl, sym, ap, ◌∙◌, subst, inl, inr, ⊎_elim, arith, append_assoc, length-append}
use Rattle.std.specs.Prelude.{nat_lt, if◌then◌else◌}
use Rattle.std.specs.FinMap.{get}
use Rattle.std.specs.List.{AllByRecursion, flat_map}
use Rattle.std.specs.declared.cmp.Ordering.{Ordering}
use Rattle.std.specs.declared.cmp.Ordering.TheVariants.{Less, Equal, Greater}
use Rattle.std.specs.Ordering.{is_le, is_lt, ordering_reverse}
use Rattle.std.specs.Cmp.{IsTotalOrder}
use Rattle.std.proofs.lemmas.Bool.Decides.{nat_tests}
use Rattle.std.proofs.lemmas.Grind.{flat_map-append}
use Rattle.std.proofs.lemmas.List.{append-nil, length-map}
use Rattle.std.proofs.lemmas.Map.Lookups.{CmpEqualImpliesEq}
use Rattle.tc_base.specs.Maps.{Map}
use Rattle.tc_base.specs.Orders.{NeverFalls, rank}
use Rattle.tc_base.specs.declared.order.Side.{Side}
use Rattle.tc_base.specs.declared.seq.Pair.{Pair}
use Rattle.tc_base.specs.Lists.{Rises}
use Rattle.tc_space.specs.Changes.{inside}
use Rattle.bt_page.specs.Pages.{HasValue}
use Rattle.bt_page.specs.declared.page.Item.{Item}
use Rattle.bt_page.specs.declared.page.Node.{Node}
use Rattle.bt_rows.specs.declared.head.TreeHead.{TreeHead}
use Rattle.bt_rows.specs.declared.page.LeafAt.{LeafAt}
use Rattle.bt_rows.specs.declared.page.Page.{Page}
use Rattle.bt_rows.specs.declared.page.Page.TheVariants.{Leaf as leaf_page, Node as node_page}
use Rattle.bt_rows.specs.declared.page.Slot.{Slot}
use Rattle.bt_rows.specs.Orders.{Before, before_by}
use Rattle.bt_rows.specs.Pages.{PageMap, IsGiven}
use Rattle.bt_rows.specs.Rows.{root_slot, first_id}
use Rattle.bt_rows.specs.Rules.{AtLeast, Under, BoundUnder, Ascends, IsBelow, InOrder, IsLinked, IsWithin, item_pairs, leaf_pairs, pairs_of}
use Rattle.bt_rows.specs.Levels.{NodeAt, leaf_slot, node_slot, LeadsUp, NodesHeld, LevelsHeld, LeavesHeld, Stands}
use Rattle.bt_rows.proofs.Held.{decided}
use Rattle.bt_cache.specs.Held.{HasPage}
use Rattle.bt_tree.specs.Ranging.{is_front, is_from, leaves_inside, start_of, IsScanned}
use Rattle.bt_tree.specs.Trees.{HoldsPairs}
use Rattle.bt_ways.specs.Ways.{IsBehind, Found}
use Rattle.bt_tree.proofs.Descents.{leaf_values}
use Rattle.bt_ways.proofs.Keys.{all_map, all_part, all_leaves, order_behind}
use Rattle.bt_tree.proofs.Pages.{has_page}
use Rattle.bt_ways.proofs.Rows.{leaves_part}
use Rattle.bt_tree.proofs.Sorted.{le_of, leaves_rise}
use Rattle.bt_tree.proofs.Stretches.{front_rank, from_rank, fronts_inside, rank_on, scanned_on, scanned_end}

-- ---- leaves of a tree

pub link_at : (prev : ℕ) (front : List LeafAt) (l : LeafAt) (back : List LeafAt) → IsLinked prev (front ++ l ∷ back) → l.leaf.next ≡ first_id back
link_at prev [] l back k = k.1
link_at prev (x ∷ front) l back k = link_at x.slot.id front l back k.2

-- above a row of nodes stands the root, a node
pub root_node : (pages : PageMap) (root : ℕ) (L : List NodeAt) (Ls : List (List NodeAt)) → LeadsUp root Ls (map node_slot L) → NodesHeld pages L → LevelsHeld pages Ls → (n : Node) × (pages root ≡ Some (node_page n))
root_node pages root [] [] up here held = absurd (cc)
root_node pages root (n ∷ L) [] up here held =
    let same : n.slot ≡ root_slot root = cc in
    (n.node, ap pages (sym (ap (λ (x : Slot). x.id) same)) ∙ here.0)
root_node pages root L (M ∷ Ls) up here held = root_node pages root M Ls up.1 held.0 held.1

-- a leaf behind another isn't the root
pub not_root : (before : Before) (pages : PageMap) (root : ℕ) (levels : List (List NodeAt)) (front : List LeafAt) (l : LeafAt) (back : List LeafAt) → Stands before pages root (front ++ l ∷ back) levels → 0 < length front → pages l.slot.id ≡ Some (leaf_page l.leaf) → l.slot.id ≢ root
not_root before pages root [] front l back st more at same =
    omega (arith, more, ap (λ (t : List Slot). length t) st.up, length-map (front ++ l ∷ back) leaf_slot, length-append front (l ∷ back))
not_root before pages root (L ∷ Ls) front l back st more at same =
    let n = root_node pages root L Ls st.up.1 st.nodes_held.0 st.nodes_held.1 in
    clash n.0 (sym (ap pages same ∙ n.1) ∙ at)
  where
    clash : (n : Node) → Some (node_page n) ≡ Some (leaf_page l.leaf) → ⊥
    clash n e = cc

some_pairs : (xs : List Item) → AllByRecursion HasValue xs → 0 < length xs → 0 < length (flat_map item_pairs xs)
some_pairs [] h lt = absurd (omega (arith, lt))
some_pairs (x ∷ xs) h lt = go x.values h.0
  where
    go : (vs : List (List ℕ)) → 0 < length vs → 0 < length (item_pairs (record { key = x.key; values = vs }) ++ flat_map item_pairs xs)
    go [] some = absurd (omega (arith, some))
    go (v ∷ vs) some = omega arith

-- at a leaf: what is inside in front of it was added, and nothing behind it is in front of the stretch
pub record Going (side : List ℕ → Side) (leaves : List LeafAt) (pairs : List Pair) (next : ℕ) : Type 0 where
  pub front : List LeafAt
  pub at : LeafAt
  pub back : List LeafAt
  pub parts : leaves ≡ front ++ at ∷ back
  pub is : at.slot.id ≡ next
  pub got : pairs ≡ inside side (pairs_of front)
  pub ahead : AllByRecursion (λ p. is_from (side p.key) ≡ true) (pairs_of back)

-- nor is a pair of its own, of which it has some
pub record Further (side : List ℕ → Side) (leaves : List LeafAt) (pairs : List Pair) (next : ℕ) : Type 0 where
  pub going : Going side leaves pairs next
  pub from : AllByRecursion (λ p. is_from (side p.key) ≡ true) (leaf_pairs going.at)
  pub some : 0 < length (leaf_pairs going.at)

module _ (cmp : List ℕ → List ℕ → Ordering) (total : IsTotalOrder cmp) (exact : CmpEqualImpliesEq cmp) (side : List ℕ → Side) (falls : NeverFalls cmp side) where
  ge_of : (x y : List ℕ) → before_by cmp x y ≡ false → is_le (cmp y x) ≡ true
  ge_of x y e = go (cmp x y) (cmp y x) (total.antisymm y x) e
    where
      go : (o p : Ordering) → p ≡ ordering_reverse o → is_lt o ≡ false → is_le p ≡ true
      go Less p f e = absurd (cc)
      go Equal p f e = rw f refl
      go Greater p f e = rw f refl

  rank_le : (x y : List ℕ) → is_le (cmp x y) ≡ true → rank (side x) ≤ rank (side y)
  rank_le x y le = rank_on side cmp exact falls x y le

  front_of_bound : (x : List ℕ) (bound : Option (List ℕ)) → Under (before_by cmp) x bound → AtLeast (start_of side) bound [] → is_front (side x) ≡ true
  front_of_bound x None u low = absurd u
  front_of_bound x (Some b) u low = front_rank (side x) (side b) (rank_le x b (le_of cmp total exact x b u)) low

  from_of_bound : (x : List ℕ) (bound : Option (List ℕ)) → AtLeast (before_by cmp) bound x → Under (start_of side) [] bound → is_from (side x) ≡ true
  from_of_bound x None a high = absurd high
  from_of_bound x (Some b) a high = from_rank (side b) (side x) (rank_le b x (ge_of x b a)) high

  from_on : (a b : Option (List ℕ)) → Under (start_of side) [] a → BoundUnder (before_by cmp) a b → Under (start_of side) [] b
  from_on None b u w = absurd u
  from_on (Some a) None u w = absurd w
  from_on (Some a) (Some b) u w = from_rank (side a) (side b) (rank_le a b (le_of cmp total exact a b w)) u

  pub all_front : (front : List LeafAt) (leaf : LeafAt) (back : List LeafAt) → InOrder (before_by cmp) (front ++ leaf ∷ back) → AtLeast (start_of side) leaf.slot.bound [] → AllByRecursion (λ p. is_front (side p.key) ≡ true) (pairs_of front)
  all_front front leaf back o low = all_leaves (λ k. is_front (side k) ≡ true) front (go front o)
    where
      go : (front : List LeafAt) → InOrder (before_by cmp) (front ++ leaf ∷ back) → AllByRecursion (λ l. AllByRecursion (λ x. is_front (side x.key) ≡ true) l.leaf.items) front
      go [] o = tt
      go (l ∷ front) o = (
        all_map (λ x. Under (before_by cmp) x.key leaf.slot.bound) (λ x. is_front (side x.key) ≡ true) l.leaf.items (λ x u. front_of_bound x.key leaf.slot.bound u low) ((all_part (IsBelow (before_by cmp) l) front (leaf ∷ back) o.1).1.0).items,
        go front o.2,
      )

  pub all_from : (back : List LeafAt) → InOrder (before_by cmp) back → IsBehind (start_of side) [] (map leaf_slot back) → AllByRecursion (λ p. is_from (side p.key) ≡ true) (pairs_of back)
  all_from back o high = all_leaves (λ k. is_from (side k) ≡ true) back (go back o high)
    where
      go : (back : List LeafAt) → InOrder (before_by cmp) back → IsBehind (start_of side) [] (map leaf_slot back) → AllByRecursion (λ l. AllByRecursion (λ x. is_from (side x.key) ≡ true) l.leaf.items) back
      go [] o high = tt
      go (l ∷ []) o high = (all_map (λ x. AtLeast (before_by cmp) l.slot.bound x.key) (λ x. is_from (side x.key) ≡ true) l.leaf.items (λ x a. from_of_bound x.key l.slot.bound a high) o.0.above, tt)
      go (l ∷ m ∷ back) o high = (
        all_map (λ x. AtLeast (before_by cmp) l.slot.bound x.key) (λ x. is_from (side x.key) ≡ true) l.leaf.items (λ x a. from_of_bound x.key l.slot.bound a high) o.0.above,
        go (m ∷ back) o.2 (from_on l.slot.bound m.slot.bound high o.1.0.bounds),
      )

  -- the leaf at the end of the way down
  pub going_first : (root id : ℕ) (leaves : List LeafAt) (levels : List (List NodeAt)) (path : List (ℕ × ℕ)) → InOrder (before_by cmp) leaves → Found (start_of side) root [] leaves levels path id → Going side leaves [] id
  going_first root id leaves levels path order f =
      let o : InOrder (before_by cmp) (f.front ++ f.leaf ∷ f.back) = subst (λ (t : List LeafAt). InOrder (before_by cmp) t) f.parts order in
      record {
        front = f.front;
        at = f.leaf;
        back = f.back;
        parts = f.parts;
        is = f.is;
        got = sym (fronts_inside side (pairs_of f.front) (all_front f.front f.leaf f.back o f.low));
        ahead = all_from f.back (order_behind (before_by cmp) f.front (f.leaf ∷ f.back) o).2 f.high;
      }

  module _ (max : ℕ) (h : TreeHead) (height : ℕ) (column : Option (List ℕ)) (m : Map) (ps : List Pair) (is : HoldsPairs (before_by cmp) h height column (get m) ps) where
    leaf_held : (front : List LeafAt) (l : LeafAt) (back : List LeafAt) → is.tree.leaves ≡ front ++ l ∷ back → is.tree.pages l.slot.id ≡ Some (leaf_page l.leaf)
    leaf_held front l back parts = (leaves_part is.tree.pages front (l ∷ back) (subst (λ (t : List LeafAt). LeavesHeld is.tree.pages t) parts is.tree.stands.leaves_held)).1.0

    leaf_has : (front : List LeafAt) (l : LeafAt) (back : List LeafAt) → is.tree.leaves ≡ front ++ l ∷ back → HasPage m l.slot.id (leaf_page l.leaf)
    leaf_has front l back parts = has_page h m is.tree.pages l.slot.id (leaf_page l.leaf) is.tree.head is.tree.held (leaf_held front l back parts)

    id_given : (front : List LeafAt) (l : LeafAt) (back : List LeafAt) → is.tree.leaves ≡ front ++ l ∷ back → 1 ≤ l.slot.id
    id_given front l back parts = ⊎_elim given (λ (not : IsGiven h l.slot.id → ⊥). absurd (clash (sym (is.tree.held.others l.slot.id not) ∙ leaf_held front l back parts))) (decided h l.slot.id)
      where
        clash : None ≡ Some (leaf_page l.leaf) → ⊥
        clash e = cc

        given : IsGiven h l.slot.id → 1 ≤ l.slot.id
        given (inl g) = g.0
        given (inr g) = omega (arith, g.0)

    leaf_some : (front : List LeafAt) (l : LeafAt) (back : List LeafAt) → is.tree.leaves ≡ front ++ l ∷ back → 0 < length front → 0 < length (leaf_pairs l)
    leaf_some front l back parts more =
        let held = leaf_held front l back parts in
        let within : IsWithin h l.slot.id (Some (leaf_page l.leaf)) = subst (λ (o : Option Page). IsWithin h l.slot.id o) held (is.limits l.slot.id) in
        let st : Stands (before_by cmp) is.tree.pages h.root (front ++ l ∷ back) is.tree.levels = subst (λ (t : List LeafAt). Stands (before_by cmp) is.tree.pages h.root t is.tree.levels) parts is.tree.stands in
        some_pairs l.leaf.items (leaf_values m l.slot.id l.leaf (leaf_has front l back parts)) (within.some (not_root (before_by cmp) is.tree.pages h.root is.tree.levels front l back st more held))

    -- the page of the next leaf
    pub going_page : (pairs : List Pair) (next : ℕ) (g : Going side is.tree.leaves pairs next) → HasPage m next (leaf_page g.at.leaf)
    going_page pairs next g = subst (λ (id : ℕ). HasPage m id (leaf_page g.at.leaf)) g.is (leaf_has g.front g.at g.back g.parts)

    pub going_ascends : (pairs : List Pair) (next : ℕ) (g : Going side is.tree.leaves pairs next) → Ascends (before_by cmp) g.at.leaf.items
    going_ascends pairs next g = (order_behind (before_by cmp) g.front (g.at ∷ g.back) (subst (λ (t : List LeafAt). InOrder (before_by cmp) t) g.parts is.tree.stands.order)).0.ascends

    module _ (pairs pairs' : List Pair) (next onward : ℕ) (g : Going side is.tree.leaves pairs next) (sc : IsScanned side max g.at.leaf pairs pairs' onward) where
      link : g.at.leaf.next ≡ first_id g.back
      link = link_at 0 g.front g.at g.back (subst (λ (t : List LeafAt). IsLinked 0 t) g.parts is.tree.stands.links)

      whole : ps ≡ pairs_of g.front ++ (leaf_pairs g.at ++ pairs_of g.back)
      whole = is.are ∙ ap pairs_of g.parts ∙ flat_map-append leaf_pairs g.front (g.at ∷ g.back)

      -- it ends, and no further pair is wanted
      pub going_end : length pairs ≤ max → onward ≡ 0 → pairs' ≡ take max (inside side ps)
      going_end room end =
          subst (λ (t : List Pair). pairs' ≡ take max (inside side t)) (sym whole)
          (scanned_end side max g.at.leaf pairs pairs' onward sc cmp exact falls (pairs_of g.front) (pairs_of g.back) g.got room end (λ none. no_more g.back refl none)
          (subst (λ (t : List Pair). Rises cmp t) (sym is.are ∙ whole) (leaves_rise cmp total exact is.tree.leaves is.tree.stands.order)))
        where
          no_more : (back : List LeafAt) → back ≡ g.back → g.at.leaf.next ≡ 0 → pairs_of g.back ≡ []
          no_more [] e none = ap pairs_of (sym e)
          no_more (l ∷ back) e none =
              absurd (omega (arith, sym none ∙ link ∙ ap first_id (sym e), id_given (g.front ++ g.at ∷ []) l back (g.parts ∙ ap (λ (t : List LeafAt). g.front ++ g.at ∷ t) (sym e) ∙ sym (append_assoc g.front (g.at ∷ []) (l ∷ back)))))

      -- it goes on at the next leaf
      pub record On : Type 0 where
        pub to : Further side is.tree.leaves pairs' onward
        pub front_is : to.going.front ≡ g.front ++ g.at ∷ []

      pub going_on : onward ≢ 0 → On
      going_on on = go g.back refl
        where
          go : (back : List LeafAt) → back ≡ g.back → On
          go [] e = absurd (on ((sc.on on).1 ∙ link ∙ ap first_id (sym e)))
          go (l ∷ back) e =
              let parts : is.tree.leaves ≡ (g.front ++ g.at ∷ []) ++ l ∷ back = g.parts ∙ ap (λ (t : List LeafAt). g.front ++ g.at ∷ t) (sym e) ∙ sym (append_assoc g.front (g.at ∷ []) (l ∷ back)) in
              let ahead = all_part (λ p. is_from (side p.key) ≡ true) (leaf_pairs l) (pairs_of back) (subst (λ (t : List LeafAt). AllByRecursion (λ p. is_from (side p.key) ≡ true) (pairs_of t)) (sym e) g.ahead) in
              record {
                to = record {
                  going = record {
                    front = g.front ++ g.at ∷ [];
                    at = l;
                    back = back;
                    parts = parts;
                    is = sym ((sc.on on).1 ∙ link ∙ ap first_id (sym e));
                    got = scanned_on side max g.at.leaf pairs pairs' onward sc (pairs_of g.front) g.got on ∙ ap (inside side) (sym (flat_map-append leaf_pairs g.front (g.at ∷ []) ∙ ap (λ (t : List Pair). pairs_of g.front ++ t) (append-nil (leaf_pairs g.at))));
                    ahead = ahead.1;
                  };
                  from = ahead.0;
                  some = leaf_some (g.front ++ g.at ∷ []) l back parts (omega (arith, length-append g.front (g.at ∷ [])));
                };
                front_is = refl;
              }

-- ---- how many leaves hold a pair of the stretch

inside_more : (side : List ℕ → Side) (xs ys : List LeafAt) → leaves_inside side (xs ++ ys) ≡ leaves_inside side xs + leaves_inside side ys
inside_more side [] ys = omega arith
inside_more side (x ∷ xs) ys = omega (arith, inside_more side xs ys)

pub inside_front : (side : List ℕ → Side) (leaves front back : List LeafAt) → leaves ≡ front ++ back → leaves_inside side front ≤ leaves_inside side leaves
inside_front side leaves front back e = omega (arith, ap (leaves_inside side) e, inside_more side front back)

pub inside_one : (side : List ℕ → Side) (front : List LeafAt) (l : LeafAt) → 0 < length (inside side (leaf_pairs l)) → leaves_inside side (front ++ l ∷ []) ≡ leaves_inside side front + 1
inside_one side front l some = inside_more side front (l ∷ []) ∙ omega (arith, one (length (inside side (leaf_pairs l))) some)
  where
    one : (n : ℕ) → 0 < n → ◌≡◌ {A = ℕ} (if nat_lt 0 n then 1 else 0) 1
    one n lt = grind (arith, nat_tests)
