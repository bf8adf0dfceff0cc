-- One value among several of a key, which is another or goes.
use Rattle.std.proofs.Common.{Result, Ok, Err, ◌≡◌, ℕ, suc, ◌+◌, ◌-◌, ◌<◌, ◌≤◌, List, [], ◌∷◌, ◌++◌, Bool, true, false, Option, Some, None, length, map, take, drop, refl, sym, ap, ◌∙◌, subst, inl, inr, arith, append_assoc, length-append}
use Rattle.std.specs.Prelude.{OnOk, is_some, nat_lt, set, slice_get}
use Rattle.std.specs.Cmp.{IsTotalOrder}
use Rattle.std.specs.FinMap.{get}
use Rattle.std.specs.List.{AllByRecursion, flat_map}
use Rattle.std.specs.declared.cmp.Ordering.{Ordering}
use Rattle.std.proofs.lemmas.Bool.Decides.{nat_tests}
use Rattle.std.proofs.lemmas.Grind.{flat_map-append}
use Rattle.std.proofs.lemmas.List.{drop_at, length-drop, length-take-le, set_at, take_at}
use Rattle.tc_base.specs.Maps.{Map}
use Rattle.tc_base.specs.declared.order.Order.{Ghosts as Orders}
use Rattle.tc_base.specs.declared.seq.Pair.{Pair}
use Rattle.tc_space.specs.Frames.{Writes, keeps_refl, Reads}
use Rattle.tc_space.specs.Stores.{Only, TakesOut}
use Rattle.tc_space.specs.declared.records.Records.{Ghosts as Stores}
use Rattle.tc_space.specs.declared.space.Space.{Ghosts}
use Rattle.bt_page.specs.declared.page.Item.{Item}
use Rattle.bt_page.specs.declared.page.Leaf.{Leaf}
use Rattle.bt_rows.specs.declared.head.TreeHead.{TreeHead}
use Rattle.bt_rows.specs.declared.page.LeafAt.{LeafAt}
use Rattle.bt_rows.specs.declared.page.Page.{Page}
use Rattle.bt_rows.specs.declared.page.Page.TheVariants.{Leaf as leaf_page, Node as node_page}
use Rattle.bt_rows.specs.Orders.{Before, IsOrder, before_by}
use Rattle.bt_rows.specs.Rules.{Ascends, InOrder, item_pairs, pairs_of}
use Rattle.bt_ways.specs.Changes.{AreItems, IsOver, ItemsWithin, items_pairs, removed}
use Rattle.bt_ways.specs.Searches.{IsSpot}
use Rattle.bt_ways.specs.Ways.{Found}
use Rattle.bt_slots.specs.Lying.{values_with_nth}
use Rattle.bt_ways.proofs.Changing.{ascends_put, pairs_count}
use Rattle.bt_ways.proofs.Revaluing.{leaf_revalued}
use Rattle.bt_ways.proofs.Spots.{Around, around_held, parts_of_around, item_of_place, key_there}
use Rattle.bt_ways.proofs.Values.{Parts, revalued_parts}
use Rattle.bt_ways.proofs.Keys.{all_join, all_part, order_behind}
use Rattle.bt_ways.proofs.Within.{items_within}
use Rattle.bt_tree.specs.declared.inserting.Changed.{Changed}
use Rattle.bt_page.specs.Pages.{HasValue, item_bytes}
use Rattle.tc_base.specs.Lists.{pair, values, with_values}
use Rattle.bt_tree.specs.declared.tree.Tree.{Tree}
use Rattle.bt_tree.specs.Inserting.{IsPutPage, WritesPages, Gains}
use Rattle.bt_cache.specs.Effects.{same_store_refl}
use Rattle.bt_tree.specs.Valuing.{ChangesPages, IsCrowdedBy, IsSetMore, IsSetPage, RevaluesIn, gone, valued, GivesFew, IsPlaceOf, IsSetFull, SetsAt, TellsPlace, has_nth}
use Rattle.bt_tree.proofs.EndPairs.{spot_of}
use Rattle.bt_tree.proofs.Inserts.{leaf_held, leaves_within, means_looked}
use Rattle.tc_space.specs.Changes.{has_pair}
use Rattle.bt_slots.specs.Slots.{HasValuesAt}
use Rattle.bt_ways.specs.Items.{IsLeafFor, item_of}
use Rattle.bt_tree.specs.Finding.{LeadsTo}
use Rattle.bt_tree.specs.Removing.{AddsNone, IsLeftPage, IsLessPage, IsRefusedRoom, LowersRoot, Removes}
use Rattle.bt_tree.proofs.Finds.{found_none, found_some}
use Rattle.bt_tree.proofs.Remaking.{IsRemade, made_given, made_kept, made_kept_pages, made_kept_root, made_lacks_leaf, made_lacks_piece, made_piece, made_put, made_ready, made_shown, made_spread, made_spread_pages, made_spread_root}
use Rattle.bt_tree.proofs.Removes.{count_around}
use Rattle.bt_tree.proofs.Revaluings.{same_links}
use Rattle.bt_ways.specs.Removals.{with_items}
use Rattle.bt_tree.specs.Meaning.{IsOpen, Means, Meant, file_in}
use Rattle.bt_tree.specs.Numbers.{with_pairs}
use Rattle.bt_tree.specs.Paging.{IsLeafId, IsOwn, LacksPage, LacksSeen, LacksThis, PutsAt, StaysStill, Stood, IsPageOf}
use Rattle.bt_tree.specs.Parting.{ClimbsIn, HasLeaf, IsPiece, LacksId, LacksIds, ShowsLeaf, TurnsParted, Widens}
use Rattle.bt_tree.specs.Trees.{HoldsPairs}
use Rattle.bt_tree.specs.Visits.{LooksAt, StaysTree}
use Rattle.bt_tree.proofs.Descents.{leaf_values, belongs}
use Rattle.bt_tree.proofs.Droppings.{room_after}
use Rattle.bt_tree.proofs.Pages.{has_page, found_leaf}

-- ---- a part of what is within the limits is

bytes_of : (xs ys : List Item) → length (flat_map item_bytes (xs ++ ys)) ≡ length (flat_map item_bytes xs) + length (flat_map item_bytes ys)
bytes_of xs ys = ap length (flat_map-append item_bytes xs ys) ∙ length-append (flat_map item_bytes xs) (flat_map item_bytes ys)

front_within : (limit : ℕ) (xs ys : List Item) → ItemsWithin limit (xs ++ ys) → ItemsWithin limit xs
front_within limit xs ys w = let all = length-append xs ys in record { keys = omega (arith, w.keys, all); bytes = λ two. omega (arith, w.bytes (omega (arith, two, all)), bytes_of xs ys) }

back_within : (limit : ℕ) (xs ys : List Item) → ItemsWithin limit (xs ++ ys) → ItemsWithin limit ys
back_within limit xs ys w = let all = length-append xs ys in record { keys = omega (arith, w.keys, all); bytes = λ two. omega (arith, w.bytes (omega (arith, two, all)), bytes_of xs ys) }

-- ---- one value of a key's item

gone_is : (place : ℕ) (value : Option (List ℕ)) (vs : List (List ℕ)) → place < length vs → length (values_with_nth place value vs) + gone value ≡ length vs
gone_is place None vs lt = omega (arith, lt, length-append (take place vs) (drop (place + 1) vs), length-take-le place vs (omega (arith, lt)), length-drop (place + 1) vs)
gone_is place (Some v) vs lt = omega (arith, lt, length-append (take place vs) (v ∷ drop (place + 1) vs), length-take-le place vs (omega (arith, lt)), length-drop (place + 1) vs)

some_left : (place : ℕ) (value : Option (List ℕ)) (vs : List (List ℕ)) → (value ≡ None → 0 < place) → place < length vs → 0 < length (values_with_nth place value vs)
some_left place None vs ne lt = omega (arith, ne refl, length-append (take place vs) (drop (place + 1) vs), length-take-le place vs (omega (arith, lt)))
some_left place (Some v) vs ne lt = omega (arith, length-append (take place vs) (v ∷ drop (place + 1) vs))

-- one item is another, whose values are the key's with that
pub record IsRevalued (cmp : List ℕ → List ℕ → Ordering) (key : List ℕ) (place : ℕ) (value : Option (List ℕ)) (old new : List Item) (at : ℕ) : Type 0 where
  pub front : List Item
  pub was : Item
  pub item : Item
  pub back : List Item
  pub old_is : old ≡ front ++ was ∷ back
  pub new_is : new ≡ front ++ item ∷ back
  pub key_is : item.key ≡ key
  pub place_is : at ≡ length front
  pub items : AreItems cmp new
  pub pairs : items_pairs new ≡ valued cmp key place value (items_pairs old)
  pub count : length (items_pairs new) + gone value ≡ length (items_pairs old)

module _ (cmp : List ℕ → List ℕ → Ordering) (total : IsTotalOrder cmp) (order : IsOrder (before_by cmp)) (key : List ℕ) (place : ℕ) (value : Option (List ℕ)) (ne : value ≡ None → 0 < place) (old : List Item) (at : ℕ) (held : AreItems cmp old)
    (was : Item) (there : slice_get old at ≡ Some was) (its : was.key ≡ key) (enough : place < length was.values) where
  abbrev the_item : Item
  the_item = record { key = was.key; values = values_with_nth place value was.values }

  spot : IsSpot (before_by cmp) old key at true
  spot = subst (λ (k : List ℕ). IsSpot (before_by cmp) old k at true) its (spot_of (before_by cmp) order old at was held.ascends there)

  a : Around (before_by cmp) key old at (was ∷ []) was.values
  a = around_held (before_by cmp) order key old at was there held.ascends spot

  pub revalued_at : (new : List Item) → new ≡ set old at the_item → IsRevalued cmp key place value old new at
  revalued_at new is =
      let become = values_with_nth place value in
      let same : new ≡ a.front ++ the_item ∷ a.back = is ∙ ap (λ (t : List Item). set t at the_item) a.are ∙ set_at a.front was a.back the_item at a.at in
      let pairs : items_pairs (a.front ++ the_item ∷ a.back) ≡ items_pairs a.front ++ (map (pair key) (values_with_nth place value was.values) ++ items_pairs a.back) =
      flat_map-append item_pairs a.front (the_item ∷ a.back)
      ∙ ap (λ (t : List ℕ). items_pairs a.front ++ (map (pair t) (values_with_nth place value was.values) ++ items_pairs a.back)) its in
      let parts : Parts (before_by cmp) key (items_pairs old) = parts_of_around (before_by cmp) key old at (was ∷ []) was.values a in
      let low : AllByRecursion (λ x. before_by cmp x.key was.key ≡ true) a.front = subst (λ (t : List ℕ). AllByRecursion (λ x. before_by cmp x.key t ≡ true) a.front) (sym its) a.low in
      let high : AllByRecursion (λ x. before_by cmp was.key x.key ≡ true) a.back = subst (λ (t : List ℕ). AllByRecursion (λ x. before_by cmp t x.key ≡ true) a.back) (sym its) a.high in
      let has = all_part HasValue a.front (was ∷ a.back) (subst (λ (t : List Item). AllByRecursion HasValue t) a.are held.some) in
      let are : AreItems cmp (a.front ++ the_item ∷ a.back) = record {
        ascends = ascends_put (before_by cmp) a.front (was ∷ []) a.back the_item (subst (λ (t : List Item). Ascends (before_by cmp) t) a.are held.ascends) low high;
        some = all_join HasValue a.front (the_item ∷ a.back) has.0 (some_left place value was.values ne enough, has.1.1);
      } in
      record {
        front = a.front;
        was = was;
        item = the_item;
        back = a.back;
        old_is = a.are;
        new_is = same;
        key_is = its;
        place_is = sym a.at;
        items = subst (AreItems cmp) (sym same) are;
        pairs = ap items_pairs same ∙ pairs ∙ sym (revalued_parts cmp total order key (values_with_nth place value) (items_pairs old) parts);
        count = omega (
          arith,
          ap (λ (t : List Item). length (items_pairs t)) same,
          pairs_count key (items_pairs a.front) (values_with_nth place value was.values) (items_pairs a.back) pairs,
          pairs_count key (items_pairs a.front) was.values (items_pairs a.back) parts.are,
          gone_is place value was.values enough,
        );
      }

module _ (cmp : List ℕ → List ℕ → Ordering) (key : List ℕ) (place : ℕ) (value : Option (List ℕ)) (old new : List Item) (at : ℕ) (c : IsRevalued cmp key place value old new at) where
  -- what is true of the key and of the keys of the items is true of those of the new ones
  pub revalued_keys : (P : List ℕ → Type 0) → P key → AllByRecursion (λ x. P x.key) old → AllByRecursion (λ x. P x.key) new
  revalued_keys P here all =
      let parts = all_part (λ (x : Item). P x.key) c.front (c.was ∷ c.back) (subst (λ (t : List Item). AllByRecursion (λ x. P x.key) t) c.old_is all) in
      subst (λ (t : List Item). AllByRecursion (λ x. P x.key) t) (sym c.new_is) (all_join (λ (x : Item). P x.key) c.front (c.item ∷ c.back) parts.0 (subst P (sym c.key_is) here, parts.1.1))

  pub revalued_inside : at < length new
  revalued_inside = omega (arith, ap length c.new_is, length-append c.front (c.item ∷ c.back), c.place_is)

  -- the items around it are within the limits if all were
  pub over_revalued : (limit : ℕ) → ItemsWithin limit old → 4 ≤ limit → (ItemsWithin limit new → ⊥) → IsOver limit new at
  over_revalued limit w least over = record {
    least = least;
    keys = omega (arith, ap length c.new_is, length-append c.front (c.item ∷ c.back), ap length c.old_is, length-append c.front (c.was ∷ c.back), w.keys);
    inside = revalued_inside;
    front = subst (λ (t : List Item). ItemsWithin limit t) (sym (ap (take at) c.new_is ∙ take_at c.front (c.item ∷ c.back) at (sym c.place_is))) (front_within limit c.front (c.was ∷ c.back) was_within);
    back = subst (λ (t : List Item). ItemsWithin limit t) (sym behind) (back_within limit (c.was ∷ []) c.back (back_within limit c.front (c.was ∷ c.back) was_within));
    over = over;
  }
    where
      was_within : ItemsWithin limit (c.front ++ c.was ∷ c.back)
      was_within = subst (λ (t : List Item). ItemsWithin limit t) c.old_is w

      behind : drop (at + 1) new ≡ c.back
      behind =
          ap (drop (at + 1)) (c.new_is ∙ sym (append_assoc c.front (c.item ∷ []) c.back))
          ∙ drop_at (c.front ++ c.item ∷ []) c.back (at + 1) (omega (arith, c.place_is, length-append c.front (c.item ∷ [])))

-- ---- what becomes of the leaf

module _ (cmp : List ℕ → List ℕ → Ordering) (total : IsTotalOrder cmp) (order : IsOrder (before_by cmp)) (key : List ℕ) (place : ℕ) (value : Option (List ℕ)) (ne : value ≡ None → 0 < place) (h : TreeHead) (height : ℕ) (column : Option (List ℕ)) (m : Map) (ps : List Pair)
    (p : HoldsPairs (before_by cmp) h height column (get m) ps) (path : List (ℕ × ℕ)) (x : Changed) (takes : RevaluesIn cmp key place value p.tree path x) where
  abbrev f : Found (before_by cmp) h.root key p.tree.leaves p.tree.levels path x.id
  f = takes.found

  abbrev with_new : List LeafAt
  with_new = f.front ++ with_items f.leaf x.leaf.items ∷ f.back

  pub old_are : AreItems cmp f.leaf.leaf.items
  old_are = record {
    ascends = (order_behind (before_by cmp) f.front (f.leaf ∷ f.back) (subst (λ (t : List LeafAt). InOrder (before_by cmp) t) f.parts p.tree.stands.order)).0.ascends;
    some = leaf_values m x.id f.leaf.leaf (has_page h m p.tree.pages x.id (leaf_page f.leaf.leaf) p.tree.head p.tree.held (leaf_held (before_by cmp) h height column m ps p key path x.id f));
  }

  abbrev pub made : IsRevalued cmp key place value f.leaf.leaf.items x.leaf.items x.place
  made = revalued_at cmp total order key place value ne f.leaf.leaf.items x.place old_are takes.was takes.at takes.key_is takes.enough x.leaf.items takes.items

  takes_both : InOrder (before_by cmp) with_new × (pairs_of with_new ≡ valued cmp key place value (pairs_of p.tree.leaves))
  takes_both = leaf_revalued cmp total order key (values_with_nth place value) p.tree.pages h.root p.tree.leaves p.tree.levels path x.id p.tree.stands f x.leaf.items made.items.ascends (revalued_keys cmp key place value f.leaf.leaf.items x.leaf.items x.place made) made.pairs

  pairs_are : pairs_of with_new ≡ valued cmp key place value ps
  pairs_are = takes_both.1 ∙ ap (valued cmp key place value) (sym p.are)

  counted : h.pairs - gone value ≡ length (valued cmp key place value ps)
  counted = omega (arith, count_around f.front f.leaf x.leaf.items (gone value) f.back made.count, ap (λ (t : List LeafAt). length (pairs_of t)) f.parts, p.count, ap length pairs_are)

  remade : IsRemade cmp p.tree key path x.id x.leaf (valued cmp key place value ps) (h.pairs - gone value)
  remade = record {
    found = f;
    prev = takes.prev;
    next = takes.next;
    some = omega (arith, revalued_inside cmp key place value f.leaf.leaf.items x.leaf.items x.place made);
    have = made.items.some;
    in_order = takes_both.0;
    pairs = pairs_are;
    counted = counted;
  }

  crowded : (ItemsWithin h.leaf_limit x.leaf.items → ⊥) → IsOver h.leaf_limit x.leaf.items x.place
  crowded over = over_revalued cmp key place value f.leaf.leaf.items x.leaf.items x.place made h.leaf_limit
      (items_within h.leaf_limit f.leaf.leaf (leaves_within (before_by cmp) h height column m ps p key path x.id f x.id f.leaf.leaf (leaf_held (before_by cmp) h height column m ps p key path x.id f)).within) p.tree.head.leaf_limit.0 over

-- ids that are given, where a leaf is parted and where not
pub none_looked : {V O : Type 0} (t u : Tree V O) → StaysTree t u → AddsNone t u
none_looked t u stays = record { leaf_ids = ap (λ (y : TreeHead). y.leaf_ids) stays.head; node_ids = ap (λ (y : TreeHead). y.node_ids) stays.head; rows = omega (arith, stays.height) }

pub none_put : {V O : Type 0} (t u v : Tree V O) → StaysTree t u → {S : Type 0} (s : Ghosts S) (R : Stores V S) (b d : S) → StaysStill s R u v b d → AddsNone t v
none_put t u v stays s R b d still = record {
  leaf_ids = ap (λ (y : TreeHead). y.leaf_ids) (still.head ∙ stays.head);
  node_ids = ap (λ (y : TreeHead). y.node_ids) (still.head ∙ stays.head);
  rows = omega (arith, still.height, stays.height);
}

module _ {V O : Type 0} (t u v w : Tree V O) (less : ℕ) (stays : StaysTree t u) (noted : w ≡ with_pairs (v.head.pairs - less) v) where
  leaves_on : w.head.leaf_ids ≡ v.head.leaf_ids
  leaves_on = ap (λ (y : Tree V O). y.head.leaf_ids) noted

  nodes_on : w.head.node_ids ≡ v.head.node_ids
  nodes_on = ap (λ (y : Tree V O). y.head.node_ids) noted

  rows_on : w.height ≡ v.height
  rows_on = ap (λ (y : Tree V O). y.height) noted

  pub none_still : {S : Type 0} (s : Ghosts S) (R : Stores V S) (b d : S) → StaysStill s R u v b d → AddsNone t w
  none_still s R b d still = record {
    leaf_ids = leaves_on ∙ ap (λ (y : TreeHead). y.leaf_ids) (still.head ∙ stays.head);
    node_ids = nodes_on ∙ ap (λ (y : TreeHead). y.node_ids) (still.head ∙ stays.head);
    rows = omega (arith, rows_on, still.height, stays.height);
  }

  pub gains_parted : {S : Type 0} (s : Ghosts S) (R : Stores V S) (b d : S) → length u.path + 1 ≡ t.height → Widens s R (suc (length u.path)) u v b d → Gains 2 t.height 1 t w
  gains_parted s R b d deep widens =
      let leaves' : u.head.leaf_ids ≡ t.head.leaf_ids = ap (λ (y : TreeHead). y.leaf_ids) stays.head in
      let nodes' : u.head.node_ids ≡ t.head.node_ids = ap (λ (y : TreeHead). y.node_ids) stays.head in
      let rows' : u.height ≡ t.height = stays.height in
      record {
        leaves_least = omega (arith, leaves_on, leaves', widens.leaves_least);
        leaves_most = omega (arith, leaves_on, leaves', widens.leaves_most);
        nodes_least = omega (arith, nodes_on, nodes', widens.nodes_least);
        nodes_most = omega (arith, nodes_on, nodes', widens.nodes_most, deep);
        rows_least = omega (arith, rows_on, rows', widens.rows_least);
        rows_most = omega (arith, rows_on, rows', widens.rows_most);
      }

pub few_of : {V O : Type 0} (t u : Tree V O) → Gains 2 t.height 1 t u → GivesFew 2 t.height 1 t u
few_of t u g = record { leaves_least = g.leaves_least; leaves_most = g.leaves_most; nodes_least = g.nodes_least; nodes_most = g.nodes_most; rows_most = g.rows_most }

pub few_none : {V O : Type 0} (t u : Tree V O) → AddsNone t u → GivesFew 2 t.height 1 t u
few_none t u g = record {
  leaves_least = omega (arith, g.leaf_ids);
  leaves_most = omega (arith, g.leaf_ids);
  nodes_least = omega (arith, g.node_ids);
  nodes_most = omega (arith, g.node_ids);
  rows_most = omega (arith, g.rows);
}

-- t at the start, u once the leaf was changed, v once it is written, w in the end
module _ {S V O : Type 0} (s : Ghosts S) (R : Stores V S) (o : Orders O) (total : IsTotalOrder o.cmp) (order : IsOrder (before_by o.cmp)) (key : List ℕ) (place : ℕ) (value : Option (List ℕ)) (ne : value ≡ None → 0 < place)
    (t u : Tree V O) (a b : S) (x : Changed) (looks : LooksAt s R t u a b) (stays : StaysTree t u) (taken : ((ps : List Pair) (h : Means s R o t a ps) → RevaluesIn o.cmp key place value h.1.is.tree u.path x)) where
  abbrev made_of : (ps : List Pair) (h : Means s R o t a ps) → IsRevalued o.cmp key place value (taken ps h).found.leaf.leaf.items x.leaf.items x.place
  made_of ps h = made o.cmp total order key place value ne t.head t.height t.column h.1.records ps h.1.is u.path x (taken ps h)

  pub limit_same : u.head.leaf_limit ≡ t.head.leaf_limit
  limit_same = ap (λ (y : TreeHead). y.leaf_limit) stays.head

  pub over_there : IsOpen s R o t a → (ItemsWithin u.head.leaf_limit x.leaf.items → ⊥) → s.tells → IsOver u.head.leaf_limit x.leaf.items x.place
  over_there ready over told =
      let h = ready.held told in
      subst (λ (n : ℕ). IsOver n x.leaf.items x.place) (sym limit_same)
      (crowded o.cmp total order key place value ne t.head t.height t.column h.1.1.records h.0 h.1.1.is u.path x (taken h.0 h.1) (λ w. over (subst (λ (n : ℕ). ItemsWithin n x.leaf.items) (sym limit_same) w)))

  -- what a tree with another leaf is
  abbrev less : ℕ → ℕ
  less n = n - gone value

  remade_of : (ps : List Pair) (h : Means s R o t a ps) → IsRemade o.cmp h.1.is.tree key u.path x.id x.leaf (valued o.cmp key place value ps) (less t.head.pairs)
  remade_of ps h = remade o.cmp total order key place value ne t.head t.height t.column h.1.records ps h.1.is u.path x (taken ps h)

  leaf_shown : (ps : List Pair) (h : Means s R o t a ps) → ShowsLeaf s R x.id x.leaf.next u b h.1.is.tree.pages
  leaf_shown = made_shown s R o order key (valued o.cmp key place value) less t u a b x.id x.leaf looks stays remade_of

  pub leaf_ready : IsOpen s R o t a → HasLeaf s R x.id x.leaf.next u b
  leaf_ready = made_ready s R o order key (valued o.cmp key place value) less t u a b x.id x.leaf looks stays remade_of

  pub id_given : IsOpen s R o t a → s.tells → IsLeafId u.head x.id
  id_given = made_given s R o order key (valued o.cmp key place value) less t u a b x.id x.leaf looks stays remade_of

  leaf_put : ItemsWithin u.head.leaf_limit x.leaf.items → (ps : List Pair) (h : Means s R o t a ps) → IsPutPage o.cmp t.head h.1.is.tree.pages ps (valued o.cmp key place value ps) (leaf_page x.leaf)
  leaf_put = made_put s R o order key (valued o.cmp key place value) less t u a b x.id x.leaf looks stays remade_of

  piece_put : (p : Page) (ps : List Pair) (h : Means s R o t a ps) → IsPiece u.head u.path x.leaf.items x.leaf.next h.1.is.tree.pages p → IsPutPage o.cmp t.head h.1.is.tree.pages ps (valued o.cmp key place value ps) p
  piece_put = made_piece s R o order key (valued o.cmp key place value) less t u a b x.id x.leaf looks stays remade_of

  -- where the leaf is parted
  abbrev pub is_crowded : (ItemsWithin u.head.leaf_limit x.leaf.items → ⊥) → (ps : List Pair) (h : Means s R o t a ps) → IsCrowdedBy o.cmp key (valued o.cmp key place value) h.1.is.tree
  is_crowded over ps h =
      let tk = taken ps h in
      record {
        path = u.path;
        id = x.id;
        found = tk.found;
        there = leaf_held (before_by o.cmp) t.head t.height t.column h.1.records ps h.1.is key u.path x.id tk.found;
        items = x.leaf.items;
        are = (made_of ps h).items;
        pairs = (made_of ps h).pairs;
        over = λ w. over (subst (λ (n : ℕ). ItemsWithin n x.leaf.items) (sym limit_same) w);
      }

  -- once it is written
  module _ (v w : Tree V O) (d : S) (noted : w ≡ with_pairs (v.head.pairs - gone value) v) where
    pub set_kept : ItemsWithin u.head.leaf_limit x.leaf.items → PutsAt s R x.id (leaf_page x.leaf) u v b d → StaysStill s R u v b d → Writes s (Only (file_in R t)) (Means s R o) (valued o.cmp key place value) t w a d
    set_kept = made_kept s R o order key (valued o.cmp key place value) less t u a b x.id x.leaf looks stays remade_of v w d noted

    pub set_spread : v.column ≡ u.column → v.head ≡ record u.head { root = v.head.root; last = v.head.last; leaf_ids = v.head.leaf_ids; node_ids = v.head.node_ids }
        → TurnsParted s R x.id x.leaf u v b d → Writes s (Only (file_in R t)) (Means s R o) (valued o.cmp key place value) t w a d
    set_spread = made_spread s R o order key (valued o.cmp key place value) less t u a b x.id x.leaf looks stays remade_of v w d noted

    pub kept_changes : ItemsWithin u.head.leaf_limit x.leaf.items → PutsAt s R x.id (leaf_page x.leaf) u v b d → StaysStill s R u v b d → ChangesPages s R o key place value t w a d
    kept_changes fits put still = record {
      adds = inl (none_still t u v w (gone value) stays noted s R b d still);
      written = made_kept_pages s R o order key (valued o.cmp key place value) less t u a b x.id x.leaf looks stays remade_of v w d noted fits put still;
      root = made_kept_root s R o order key (valued o.cmp key place value) less t u a b x.id x.leaf looks stays remade_of v w d noted put;
    }

    pub spread_changes : length u.path + 1 ≡ t.height → (ItemsWithin u.head.leaf_limit x.leaf.items → ⊥) → Widens s R (suc (length u.path)) u v b d → TurnsParted s R x.id x.leaf u v b d → ChangesPages s R o key place value t w a d
    spread_changes deep over widens turns = record {
      adds = inr (gains_parted t u v w (gone value) stays noted s R b d deep widens, is_crowded over);
      written = made_spread_pages s R o order key (valued o.cmp key place value) less t u a b x.id x.leaf looks stays remade_of v w d noted turns;
      root = made_spread_root s R o order key (valued o.cmp key place value) less t u a b x.id x.leaf looks stays remade_of v w d noted turns;
    }

  -- what a refusal says of the tree
  pub sets_over : (ItemsWithin u.head.leaf_limit x.leaf.items → ⊥) → LacksId s R x.leaf.items u b → (ps : List Pair) (h : Means s R o t a ps) → (c : IsCrowdedBy o.cmp key (valued o.cmp key place value) h.1.is.tree) × LacksIds t.head h.1.is.tree.pages c.path c.items
  sets_over over lacks ps h =
      let shown = leaf_shown ps h in (
        is_crowded over ps h,
        subst (λ (y : TreeHead). LacksIds y h.1.is.tree.pages u.path x.leaf.items) stays.head (lacks h.1.is.tree.pages (shown.0, shown.1.way)),
      )

  -- a node that comes where the leaf is parted
  piece_more : (ItemsWithin u.head.leaf_limit x.leaf.items → ⊥) → (p : Page) (ps : List Pair) (h : Means s R o t a ps) → IsPiece u.head u.path x.leaf.items x.leaf.next h.1.is.tree.pages p → IsSetMore o.cmp key (valued o.cmp key place value) h.1.is.tree p
  piece_more over (leaf_page l) ps h piece = tt
  piece_more over (node_page n) ps h piece = inr (is_crowded over ps h, subst (λ (y : TreeHead). ClimbsIn y h.1.is.tree.pages u.path x.leaf.items n) stays.head piece.2)

  abbrev LacksSet : S → Type 0
  LacksSet d = LacksPage s R (Meant s R o t a) (λ w i. IsOwn t.head 2 t.height w.1.1.is.tree.pages i) (λ w. w.1.1.is.tree.pages) (IsSetPage s R o key place value t a) t a d

  module _ (hit : (ps : List Pair) → Means s R o t a ps → has_nth key place ps ≡ true) where
    pub lacks_leaf : (d : S) → ItemsWithin u.head.leaf_limit x.leaf.items → LacksThis s R x.id (leaf_page x.leaf) u b d → LacksSet d
    lacks_leaf d fits l = made_lacks_leaf s R o order key (valued o.cmp key place value) less t u a b x.id x.leaf looks stays remade_of (IsSetPage s R o key place value t a) (λ w. (leaf_put fits w.0 w.1, tt, hit w.0 w.1)) d l

    pub lacks_piece : length u.path + 1 ≡ t.height → (d : S) → (ItemsWithin u.head.leaf_limit x.leaf.items → ⊥)
        → LacksSeen s R (ShowsLeaf s R x.id x.leaf.next u b) (IsOwn u.head 2 (suc (length u.path))) (IsPiece u.head u.path x.leaf.items x.leaf.next) u b d → LacksSet d
    lacks_piece deep d over l = made_lacks_piece s R o order key (valued o.cmp key place value) less t u a b x.id x.leaf looks stays remade_of (IsSetPage s R o key place value t a) (λ w p piece. (piece_put p w.0 w.1 piece, piece_more over p w.0 w.1 piece, hit w.0 w.1)) deep d l

-- ---- the leaf that was read

-- the values of a key in the leaf where it belongs, if it isn't there, and if it is
no_values : (key : List ℕ) (vs : List (List ℕ)) → None ≡ item_of key vs → vs ≡ []
no_values key [] e = refl
no_values key (v ∷ vs) e = absurd (cc)

its_values : (key : List ℕ) (vs : List (List ℕ)) (x : Item) → Some x ≡ item_of key vs → vs ≡ x.values
its_values key [] x e = absurd (cc)
its_values key (v ∷ vs) x e = let same : x ≡ record { key = key; values = v ∷ vs } = cc in sym (ap (λ (y : Item). y.values) same)

past : (place n : ℕ) → n ≤ place → nat_lt place n ≡ false
past place n le = grind (arith, nat_tests)

module _ (before : Before) (order : IsOrder before) (key : List ℕ) (ps : List Pair) (leaf : Leaf) (at place : ℕ) (l : IsLeafFor before key ps leaf) where
  pub place_none : IsSpot before leaf.items key at false → has_nth key place ps ≡ false
  place_none s =
      let none : values ps key ≡ [] = no_values key (values ps key) (found_none before order key ps leaf at l (λ asc. s)) in
      past place (length (values ps key)) (omega (arith, ap length none))

  pub place_past : IsSpot before leaf.items key at true → (many : ℕ) → ((x : Item) → slice_get leaf.items at ≡ Some x → many ≡ length x.values) → many ≤ place → has_nth key place ps ≡ false
  place_past s many is le =
      let x = item_of_place leaf.items at (s.inside refl) in
      let its : values ps key ≡ x.0.values = its_values key (values ps key) x.0 (found_some before order key ps leaf at l x.0 (λ asc. s) x.1) in
      past place (length (values ps key)) (omega (arith, ap length its, is x.0 x.1, le))

  pub place_there : IsSpot before leaf.items key at true → (many : ℕ) → ((x : Item) → slice_get leaf.items at ≡ Some x → many ≡ length x.values) → place < many → IsPlaceOf key place leaf (Some at) ps
  place_there s many is lt =
      let x = item_of_place leaf.items at (s.inside refl) in (
        x.0,
        x.1,
        key_there before order key leaf.items at x.0 x.1 s,
        omega (arith, is x.0 x.1, lt),
      )

-- t at the start, u and b once it was gone down, and w and d once the place was told
module _ {S V O : Type 0} (s : Ghosts S) (R : Stores V S) (o : Orders O) (order : IsOrder (before_by o.cmp)) (key : List ℕ) (place : ℕ) (value : Option (List ℕ)) (t u : Tree V O) (a b : S) (path : List (ℕ × ℕ)) (id : ℕ)
    (looks : LooksAt s R t u a b) (stays : StaysTree t u) (found : LeadsTo s R o.cmp (before_by o.cmp) key t a path id) where
  told_by : (at : Option ℕ) → TellsPlace s R o.cmp key place id u b at → (ps : List Pair) (h : Means s R o t a ps) → IsPlaceOf key place (found h.1.records h.1.is.tree ((h.0, h.1.store), h.1.same)).leaf.leaf at ps
  told_by at tells ps h =
      let p : HoldsPairs (before_by o.cmp) t.head t.height t.column (get h.1.records) ps = h.1.is in
      let f = found h.1.records p.tree ((h.0, h.1.store), h.1.same) in
      tells p.tree.pages f.leaf.leaf (means_looked s R o t u a b looks stays ps h) (found_leaf (before_by o.cmp) p.tree.pages t.head.root key p.tree.leaves p.tree.levels path id p.tree.stands f) ps
      (belongs (before_by o.cmp) order key t.head t.height t.column h.1.records ps p path id f)

  pub none_told : TellsPlace s R o.cmp key place id u b None → (ps : List Pair) → Means s R o t a ps → has_nth key place ps ≡ false
  none_told tells ps h = told_by None tells ps h

  pub revalues_leaf : (w : Tree V O) (d : S) (path' : List (ℕ × ℕ)) (at : ℕ) (read new : Leaf) → path' ≡ path → LooksAt s R t w a d → StaysTree t w → TellsPlace s R o.cmp key place id u b (Some at) → IsPageOf s R leaf_page id w d read
      → at < length read.items → HasValuesAt (values_with_nth place value) at read new → (ps : List Pair) (h : Means s R o t a ps) → RevaluesIn o.cmp key place value h.1.is.tree path' (record { id = id; leaf = new; place = at; grown = false })
  revalues_leaf w d path' at read new way looks' stays' tells is_read lt is ps h =
      let p : HoldsPairs (before_by o.cmp) t.head t.height t.column (get h.1.records) ps = h.1.is in
      let f = found h.1.records p.tree ((h.0, h.1.store), h.1.same) in
      let here = found_leaf (before_by o.cmp) p.tree.pages t.head.root key p.tree.leaves p.tree.levels path id p.tree.stands f in
      let same : read ≡ f.leaf.leaf = is_read p.tree.pages f.leaf.leaf (means_looked s R o t w a d looks' stays' ps h) here in
      let k = told_by (Some at) tells ps h in
      let links = same_links (values_with_nth place value) at read new lt is in
      let there : slice_get read.items at ≡ Some k.0 = ap (λ (l : Leaf). slice_get l.items at) same ∙ k.1 in
      subst (λ (q : List (ℕ × ℕ)). RevaluesIn o.cmp key place value p.tree q (record { id = id; leaf = new; place = at; grown = false })) (sym way)
      (record {
        found = f;
        prev = links.0 ∙ ap (λ (l : Leaf). l.prev) same;
        next = links.1 ∙ ap (λ (l : Leaf). l.next) same;
        was = k.0;
        at = k.1;
        key_is = k.2;
        enough = k.3;
        items = ap (λ (l : Leaf). l.items) (is k.0 there) ∙ ap (λ (l : Leaf). set l.items at (record { key = k.0.key; values = values_with_nth place value k.0.values })) same;
      })

-- a leaf in which it is another shows that it is there
pub held_nth : {S V O : Type 0} (s : Ghosts S) (R : Stores V S) (o : Orders O) → IsOrder (before_by o.cmp) → (key : List ℕ) (place : ℕ) (value : Option (List ℕ)) (t : Tree V O) (a : S) (path : List (ℕ × ℕ)) (x : Changed)
    → ((ps : List Pair) (h : Means s R o t a ps) → RevaluesIn o.cmp key place value h.1.is.tree path x) → (ps : List Pair) → Means s R o t a ps → has_nth key place ps ≡ true
held_nth s R o order key place value t a path x taken ps h =
    let tk = taken ps h in
    let f = tk.found in
    let l = belongs (before_by o.cmp) order key t.head t.height t.column h.1.records ps h.1.is path x.id f in
    let spot : IsSpot (before_by o.cmp) f.leaf.leaf.items key x.place true = subst (λ (k : List ℕ). IsSpot (before_by o.cmp) f.leaf.leaf.items k x.place true) tk.key_is (spot_of (before_by o.cmp) order f.leaf.leaf.items x.place tk.was l.ascends tk.at) in
    let its : values ps key ≡ tk.was.values = its_values key (values ps key) tk.was (found_some (before_by o.cmp) order key ps f.leaf.leaf x.place l tk.was (λ asc. spot) tk.at) in
    few place (length (values ps key)) (omega (arith, tk.enough, ap length its))
  where
    few : (m n : ℕ) → m < n → nat_lt m n ≡ true
    few m n lt = grind (arith, nat_tests)

-- ---- the first value goes as `remove` takes it

drop_all : (vs : List (List ℕ)) → drop 1 vs ≡ values_with_nth 0 None vs
drop_all [] = refl
drop_all (v ∷ vs) = refl

pub first_gone : (cmp : List ℕ → List ℕ → Ordering) (key : List ℕ) → removed cmp false key ≡ valued cmp key 0 None
first_gone cmp key = λ i ps. with_values cmp ps key (drop_all (values ps key) i)

has_first : (vs : List (List ℕ)) → is_some (slice_get vs 0) ≡ nat_lt 0 (length vs)
has_first [] = refl
has_first (v ∷ vs) = sym (less (length vs))
  where
    less : (n : ℕ) → nat_lt 0 (suc n) ≡ true
    less n = grind (arith, nat_tests)

pub first_held : (key : List ℕ) → has_pair key ≡ has_nth key 0
first_held key = λ i ps. has_first (values ps key) i

module _ {S V O : Type 0} (s : Ghosts S) (R : Stores V S) (o : Orders O) (key : List ℕ) (t u : Tree V O) (a b : S) where
  pub removes_first : (taken : Bool) → Removes s R o false key taken t u a b → SetsAt s R o key 0 None taken t u a b
  removes_first taken out = subst (λ (f : List Pair → List Pair). TakesOut s (Only (file_in R t)) (Means s R o) (has_nth key 0) f taken t u a b) (first_gone o.cmp key)
      (subst (λ (f : List Pair → Bool). TakesOut s (Only (file_in R t)) (Means s R o) f (removed o.cmp false key) taken t u a b) (first_held key) out)

  pub removes_changes : {T E : Type 0} (r : Result T E) → OnOk r (WritesPages s R o (removed o.cmp false key) t u a b) → OnOk r (LowersRoot s R o t u a b) → AddsNone t u → OnOk r (ChangesPages s R o key 0 None t u a b)
  removes_changes (Ok x) pages root none = record { adds = inl none; written = subst (λ (f : List Pair → List Pair). WritesPages s R o f t u a b) (first_gone o.cmp key) pages; root = root }
  removes_changes (Err e) pages root none = tt

  -- a page that is left where the first value goes
  less_more : (w : Meant s R o t a) (p : Page) → IsLessPage w.1.1.is.tree.pages p → IsSetMore o.cmp key (valued o.cmp key 0 None) w.1.1.is.tree p
  less_more w (leaf_page l) less = tt
  less_more w (node_page n) less = inl less

  less_set : (w : Meant s R o t a) (p : Page) → IsLeftPage s R o false key t a w p → IsSetPage s R o key 0 None t a w p
  less_set w p left = (
    subst (λ (f : List Pair → List Pair). IsPutPage o.cmp t.head w.1.1.is.tree.pages w.0 (f w.0) p) (first_gone o.cmp key) left.0,
    less_more w p left.1,
    sym (ap (λ (f : List Pair → Bool). f w.0) (first_held key)) ∙ left.2,
  )

  pub removes_full : IsRefusedRoom s R o false key t a b → IsSetFull s R o key 0 None t a b
  removes_full room = inr (room_after s R (Meant s R o t a) (Meant s R o t a) (λ w i. Stood w.1.1.is.tree.pages i) (λ w i. IsOwn t.head 2 t.height w.1.1.is.tree.pages i) (λ w. w.1.1.is.tree.pages) (λ w. w.1.1.is.tree.pages) (IsLeftPage s R o false key t a) (IsSetPage s R o key 0 None t a) t t a a b
      (keeps_refl s a) (same_store_refl R t.store) refl (λ w. record { seen = w; own = λ i stood. inl stood; was = λ id p is. inl is; fine = λ p left. less_set w p left }) room)

-- ---- whether it was there

pub sets_none : {S V : Type 0} (s : Ghosts S) (own : ℕ → Type 0) (M : V → S → List Pair → Type 0) (has : List Pair → Bool) (f : List Pair → List Pair) (v w : V) (a b : S) → ((ps : List Pair) → M v a ps → has ps ≡ false) → Reads s M v w a b → TakesOut s own M has f false v w a b
sets_none s own M has f v w a b none reads = record { held = λ ps h. sym (none ps h); out = λ e. absurd (clash e); none = λ e. reads }
  where
    clash : false ≡ true → ⊥
    clash e = cc

pub sets_some : {S V : Type 0} (s : Ghosts S) (own : ℕ → Type 0) (M : V → S → List Pair → Type 0) (has : List Pair → Bool) (f : List Pair → List Pair) (v w : V) (a b : S) → ((ps : List Pair) → M v a ps → has ps ≡ true) → Writes s own M f v w a b → TakesOut s own M has f true v w a b
sets_some s own M has f v w a b some writes = record { held = λ ps h. sym (some ps h); out = λ e. writes; none = λ e. absurd (clash e) }
  where
    clash : true ≡ false → ⊥
    clash e = cc
