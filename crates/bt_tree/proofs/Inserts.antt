-- The leaf of a tree where a key belongs, and what a put leaves whatever it answers.
use Rattle.std.proofs.Common.{◌≡◌, ℕ, suc, ◌+◌, ◌<◌, ◌≤◌, List, [], ◌∷◌, ◌++◌, Bool, true, false, Option, Some, length, map, refl, sym, ap, ◌∙◌, subst, inl, inr, ⊎_elim, arith, ◌⊎◌}
use Rattle.std.specs.FinMap.{get}
use Rattle.std.specs.List.{AllByRecursion}
use Rattle.tc_base.specs.Maps.{Map}
use Rattle.tc_base.specs.declared.order.Order.{Ghosts as Orders}
use Rattle.tc_base.specs.declared.seq.Pair.{Pair}
use Rattle.tc_space.specs.Effects.{Stays as StaysOver}
use Rattle.tc_space.specs.Frames.{GivenUp, Keeps, Reads, Refuses, reads_then}
use Rattle.tc_space.specs.declared.records.Records.{Ghosts as Stores}
use Rattle.tc_space.specs.declared.space.Space.{Ghosts}
use Rattle.bt_page.specs.declared.page.Item.{Item}
use Rattle.bt_page.specs.declared.page.Leaf.{Leaf}
use Rattle.bt_page.specs.declared.page.Node.{Node}
use Rattle.bt_rows.specs.declared.head.TreeHead.{TreeHead}
use Rattle.bt_rows.specs.declared.page.LeafAt.{LeafAt}
use Rattle.bt_rows.specs.declared.page.Page.{Page}
use Rattle.bt_rows.specs.declared.page.Page.TheVariants.{Leaf as leaf_page, Node as node_page}
use Rattle.bt_rows.specs.declared.page.Slot.{Slot}
use Rattle.bt_rows.specs.Levels.{LeadsUp, LeavesHeld, LevelsHeld, NodeAt, leaf_slot, level_times}
use Rattle.bt_rows.proofs.Building.{held_most}
use Rattle.bt_rows.specs.Orders.{Before, before_by}
use Rattle.bt_rows.specs.Pages.{PageMap}
use Rattle.bt_rows.specs.Rows.{first_id, last_id}
use Rattle.bt_rows.specs.Rules.{IsLinked, IsWithin, LeafLimits, item_pairs}
use Rattle.bt_cache.specs.Held.{Beside}
use Rattle.bt_ways.specs.Changes.{items_pairs}
use Rattle.bt_ways.specs.Climbs.{IsHeldWay}
use Rattle.bt_ways.specs.Ways.{Crumb, Found, Leads, back_of, row_of, rows_of}
use Rattle.bt_ways.proofs.HeldWays.{root_node}
use Rattle.bt_ways.proofs.Rows.{leaves_part}
use Rattle.bt_page.specs.Pages.{HasValue}
use Rattle.tc_base.specs.Lists.{pair}
use Rattle.bt_tree.specs.declared.tree.Tree.{Tree}
use Rattle.bt_tree.specs.Climbing.{NodesWithin, IsAmong}
use Rattle.bt_tree.specs.Finding.{LeadsTo}
use Rattle.bt_tree.specs.Inserting.{Gains, pair_key}
use Rattle.bt_tree.specs.Meaning.{IsOpen, Means}
use Rattle.bt_tree.specs.Numbers.{with_pairs}
use Rattle.bt_tree.specs.Paging.{HasLeafAt, IsShown, Shows, StaysStill}
use Rattle.bt_tree.specs.Parting.{AtLeaf, Widens, item_key}
use Rattle.bt_tree.specs.Trees.{HoldsPairs}
use Rattle.bt_tree.specs.Visits.{LooksAt, StaysTree}
use Rattle.bt_tree.proofs.Entries.{among_back, among_front}
use Rattle.bt_tree.proofs.Finds.{tree_reads}
use Rattle.bt_tree.proofs.Pages.{found_leaf}
use Rattle.bt_tree.proofs.Pagings.{leaf_given, leaf_node, looked_shows}

pub not_both : (b : Bool) → b ≡ true → b ≡ false → ⊥
not_both b e f = cc

-- ---- rows of leaves

pub last-append : (was : ℕ) (xs ys : List LeafAt) → last_id was (xs ++ ys) ≡ last_id (last_id was xs) ys
last-append was [] ys = refl
last-append was (x ∷ xs) ys = last-append x.slot.id xs ys

linked_next : (prev : ℕ) (xs : List LeafAt) (l : LeafAt) (ys : List LeafAt) → IsLinked prev (xs ++ l ∷ ys) → l.leaf.next ≡ first_id ys
linked_next prev [] l ys k = k.1
linked_next prev (x ∷ xs) l ys k = linked_next x.slot.id xs l ys k.2

-- a key of an item is held
values_held : (k : List ℕ) (vs : List (List ℕ)) → 0 < length vs → IsAmong pair_key k (map (pair k) vs)
values_held k [] lt = absurd (omega (arith, lt))
values_held k (v ∷ vs) lt = inl refl

pub item_held : (k : List ℕ) (xs : List Item) → AllByRecursion HasValue xs → IsAmong item_key k xs → IsAmong pair_key k (items_pairs xs)
item_held k [] some a = absurd a
item_held k (x ∷ xs) some (inl e) = among_front pair_key k (item_pairs x) (items_pairs xs) (subst (λ (y : List ℕ). IsAmong pair_key y (item_pairs x)) e (values_held x.key x.values some.0))
item_held k (x ∷ xs) some (inr a) = among_back pair_key k (item_pairs x) (items_pairs xs) (item_held k xs some.1 a)

-- ---- a tree and the leaf where a key belongs

module _ (before : Before) (h : TreeHead) (height : ℕ) (column : Option (List ℕ)) (m : Map) (ps : List Pair) (p : HoldsPairs before h height column (get m) ps) (key : List ℕ) (path : List (ℕ × ℕ)) (id : ℕ) (f : Found before h.root key p.tree.leaves p.tree.levels path id) where
  abbrev the_pages : PageMap
  the_pages = p.tree.pages

  all_held : LeavesHeld the_pages (f.front ++ f.leaf ∷ f.back)
  all_held = subst (λ (t : List LeafAt). LeavesHeld the_pages t) f.parts p.tree.stands.leaves_held

  pub leaf_held : the_pages id ≡ Some (leaf_page f.leaf.leaf)
  leaf_held = found_leaf before the_pages h.root key p.tree.leaves p.tree.levels path id p.tree.stands f

  pub back_held : LeavesHeld the_pages f.back
  back_held = (leaves_part the_pages f.front (f.leaf ∷ f.back) all_held).1.1

  pub next_is : f.leaf.leaf.next ≡ first_id f.back
  next_is = linked_next 0 f.front f.leaf f.back (subst (λ (t : List LeafAt). IsLinked 0 t) f.parts p.tree.stands.links)

  -- no leaf has the id 0
  back_some : (back : List LeafAt) → LeavesHeld the_pages back → first_id back ≡ 0 → back ≡ []
  back_some [] k e = refl
  back_some (l ∷ ls) k e = absurd (let g = leaf_given h m the_pages l.slot.id l.leaf p.tree.head p.tree.held k.0 in omega (arith, g.0, e))

  pub back_none : f.leaf.leaf.next ≡ 0 → f.back ≡ []
  back_none e = back_some f.back back_held (sym next_is ∙ e)

  pub behind_held : (f.leaf.leaf.next ≡ 0 → ⊥) → (l : Leaf) × (the_pages f.leaf.leaf.next ≡ Some (leaf_page l))
  behind_held some = go f.back back_held next_is
    where
      go : (back : List LeafAt) → LeavesHeld the_pages back → f.leaf.leaf.next ≡ first_id back → (l : Leaf) × (the_pages f.leaf.leaf.next ≡ Some (leaf_page l))
      go [] k e = absurd (some e)
      go (l ∷ ls) k e = (l.leaf, ap the_pages e ∙ k.0)

  pub nodes_within : NodesWithin h.node_limit the_pages
  nodes_within j n e = subst (λ (o : Option Page). IsWithin h j o) e (p.limits j)

  pub leaves_within : (j : ℕ) (l : Leaf) → the_pages j ≡ Some (leaf_page l) → LeafLimits h j l
  leaves_within j l e = subst (λ (o : Option Page). IsWithin h j o) e (p.limits j)

  root_of : (c : Crumb) (cs : List Crumb) → rows_of (c ∷ cs) ≡ p.tree.levels → (n : Node) × (the_pages h.root ≡ Some (node_page n))
  root_of c cs whole = root_node the_pages h.root (row_of c) (rows_of cs) (map leaf_slot p.tree.leaves)
      (subst (λ (t : List (List NodeAt)). LeadsUp h.root t (map leaf_slot p.tree.leaves)) (sym whole) p.tree.stands.up) (subst (λ (t : List (List NodeAt)). LevelsHeld the_pages t) (sym whole) p.tree.stands.nodes_held)

  -- where the root is a leaf it is that one, alone
  pub root_leaf : (l : Leaf) → the_pages h.root ≡ Some (leaf_page l) → f.leaf.slot.id ≡ h.root
  root_leaf l e = go f.crumbs f.leads f.whole
    where
      go : (cs : List Crumb) → Leads h.root cs f.leaf.slot → rows_of cs ≡ p.tree.levels → f.leaf.slot.id ≡ h.root
      go [] leads whole = ap (λ (s : Slot). s.id) leads
      go (c ∷ cs) leads whole = absurd (leaf_node l (root_of c cs whole).0 (sym e ∙ (root_of c cs whole).1))

  pub root_alone : (l : Leaf) → the_pages h.root ≡ Some (leaf_page l) → f.back ≡ []
  root_alone l e = go f.crumbs f.behind f.whole
    where
      nil : (ls : List LeafAt) → map leaf_slot ls ≡ [] → ls ≡ []
      nil [] z = refl
      nil (b ∷ bs) z = absurd (cc)

      go : (cs : List Crumb) → map leaf_slot f.back ≡ back_of cs → rows_of cs ≡ p.tree.levels → f.back ≡ []
      go [] behind whole = nil f.back behind
      go (c ∷ cs) behind whole = absurd (leaf_node l (root_of c cs whole).0 (sym e ∙ (root_of c cs whole).1))

  pub held_way : IsHeldWay the_pages h.root f.crumbs f.leaf.slot
  held_way = record {
    leads = f.leads;
    nodes = subst (λ (t : List (List NodeAt)). LevelsHeld the_pages t) (sym f.whole) p.tree.stands.nodes_held;
    once = λ j. subst (λ (t : List (List NodeAt)). level_times j t ≤ 1) (sym f.whole) (omega (arith, p.tree.stands.once j, held_most the_pages j));
  }

  pub at_leaf : (next : ℕ) → next ≡ f.leaf.leaf.next → AtLeaf h.node_limit h.root path id next the_pages
  at_leaf next e = record {
    was = f.leaf.leaf;
    here = leaf_held;
    behind = λ some. let k = behind_held (λ z. some (e ∙ z)) in (k.0, ap the_pages e ∙ k.1);
    way = record { crumbs = f.crumbs; place = f.leaf.slot; along = f.along; way = held_way; within = nodes_within };
  }

-- ---- the call

module _ {S V O : Type 0} (s : Ghosts S) (R : Stores V S) (o : Orders O) where
  pub means_shown : (t : Tree V O) (a : S) (ps : List Pair) → (h : Means s R o t a ps) → Shows s R t a h.1.is.tree.pages
  means_shown t a ps h = (h.0, record { records = h.1.records; store = h.1.store; same = h.1.same; head = h.1.is.tree.head; keys = h.1.is.keys; held = h.1.is.tree.held })

  pub means_looked : (t u : Tree V O) (a b : S) → LooksAt s R t u a b → StaysTree t u → (ps : List Pair) → (h : Means s R o t a ps) → Shows s R u b h.1.is.tree.pages
  means_looked t u a b looks stays ps h = looked_shows s R t u a b looks stays.head stays.column h.1.is.tree.pages (means_shown t a ps h)

  pub means_ready : (t u : Tree V O) (a b : S) → LooksAt s R t u a b → StaysTree t u → IsOpen s R o t a → IsShown s R u b
  means_ready t u a b looks stays ready = record { sound = looks.reads.sound; held = λ told. let h = ready.held told in (h.1.1.is.tree.pages, means_looked t u a b looks stays h.0 h.1) }

  -- the leaf where the key belongs is there
  pub found_there : (t u : Tree V O) (a b : S) (key : List ℕ) (path : List (ℕ × ℕ)) (id : ℕ) → LooksAt s R t u a b → StaysTree t u → IsOpen s R o t a → LeadsTo s R o.cmp (before_by o.cmp) key t a path id → HasLeafAt s R id u b
  found_there t u a b key path id looks stays ready found = λ told.
      let h = ready.held told in
      let k = h.1.1 in
      let f = found k.records k.is.tree ((told, k.store), k.same) in
      (k.is.tree.pages, f.leaf.leaf, means_looked t u a b looks stays h.0 h.1, found_leaf (before_by o.cmp) k.is.tree.pages t.head.root key k.is.tree.leaves k.is.tree.levels path id k.is.tree.stands f)

-- ---- what a call leaves, whatever it answers

pub kept_over : {S : Type 0} (s : Ghosts S) (a b : S) → StaysOver s.tells s.moment s.files_at s.left s.kept s.faults s.limit s.names a b → Keeps s a b
kept_over s a b stays = record { steady = stays.steady; same_limit = stays.follows.same_limit; same_names = stays.follows.same_names; later = stays.follows.later }

-- a space that was given up
pub given_up : {S : Type 0} (s : Ghosts S) (a b : S) → s.flag b ≡ false → StaysOver s.tells s.moment s.files_at s.left s.kept s.faults s.limit s.names a b → (s.tells → (g : ℕ) → s.now b g ≡ s.now a g) → (s.log_full a → s.log_full b) → (s.brought a → s.brought b) → GivenUp s a b
given_up s a b flag stays files log brought = record { flag = flag; keeps = kept_over s a b stays; files = files; log = log; brought = brought }

module _ {S V O : Type 0} (s : Ghosts S) (R : Stores V S) (o : Orders O) (t u v : Tree V O) (a b d : S) (looks : LooksAt s R t u a b) (stays : StaysTree t u) where
  pub put_refused : StaysStill s R u v b d → Refuses s (Beside s R) (u.cache.pages, u.store) (v.cache.pages, v.store) b d → Refuses s (Means s R o) t v a d
  put_refused still r = ⊎_elim (λ spoiled. inl spoiled)
      (λ (reads : Reads s (Beside s R) (u.cache.pages, u.store) (v.cache.pages, v.store) b d).
      inr (tree_reads s R o t v a d (reads_then s (Beside s R) (t.cache.pages, t.store) (u.cache.pages, u.store) (v.cache.pages, v.store) a b d looks.reads reads)
      (record { head = still.head ∙ stays.head; height = still.height ∙ stays.height; column = still.column ∙ stays.column }))) r

-- no pair more
pub none_more : {V O : Type 0} (v : Tree V O) → v ≡ with_pairs (v.head.pairs + 0) v
none_more v = let same : v.head.pairs ≡ v.head.pairs + 0 = omega arith in ap (λ (n : ℕ). record v { head = record v.head { pairs = n } }) same

-- a tree that was looked at gave no ids
pub gains_looked : {V O : Type 0} (t u : Tree V O) → StaysTree t u → Gains 2 t.height 1 t u
gains_looked t u stays =
    let leaves : u.head.leaf_ids ≡ t.head.leaf_ids = ap (λ (y : TreeHead). y.leaf_ids) stays.head in
    let nodes : u.head.node_ids ≡ t.head.node_ids = ap (λ (y : TreeHead). y.node_ids) stays.head in
    let rows : u.height ≡ t.height = stays.height in
    record { leaves_least = omega (arith, leaves); leaves_most = omega (arith, leaves); nodes_least = omega (arith, nodes); nodes_most = omega (arith, nodes); rows_least = omega (arith, rows); rows_most = omega (arith, rows) }

pub gains_within : {V O : Type 0} (t w : Tree V O) → Gains 0 0 0 t w → Gains 2 t.height 1 t w
gains_within t w g = record {
  leaves_least = g.leaves_least;
  leaves_most = omega (arith, g.leaves_most);
  nodes_least = g.nodes_least;
  nodes_most = omega (arith, g.nodes_most);
  rows_least = g.rows_least;
  rows_most = omega (arith, g.rows_most);
}

-- pages that come, where a leaf is parted and where not
module _ {V O : Type 0} (t u v w : Tree V O) (grown : ℕ) (stays : StaysTree t u) (noted : w ≡ with_pairs (v.head.pairs + grown) v) where
  pub gains_kept : {S : Type 0} (s : Ghosts S) (R : Stores V S) (b d : S) → StaysStill s R u v b d → Gains 0 0 0 t w
  gains_kept s R b d still =
      let leaves : w.head.leaf_ids ≡ t.head.leaf_ids = ap (λ (y : Tree V O). y.head.leaf_ids) noted ∙ ap (λ (y : TreeHead). y.leaf_ids) (still.head ∙ stays.head) in
      let nodes : w.head.node_ids ≡ t.head.node_ids = ap (λ (y : Tree V O). y.head.node_ids) noted ∙ ap (λ (y : TreeHead). y.node_ids) (still.head ∙ stays.head) in
      let rows : w.height ≡ t.height = ap (λ (y : Tree V O). y.height) noted ∙ still.height ∙ stays.height in
      record { leaves_least = omega (arith, leaves); leaves_most = omega (arith, leaves); nodes_least = omega (arith, nodes); nodes_most = omega (arith, nodes); rows_least = omega (arith, rows); rows_most = omega (arith, rows) }

  pub gains_spread : {S : Type 0} (s : Ghosts S) (R : Stores V S) (b d : S) → length u.path + 1 ≡ t.height → Widens s R (suc (length u.path)) u v b d → Gains 2 t.height 1 t w
  gains_spread s R b d deep widens =
      let leaves : w.head.leaf_ids ≡ v.head.leaf_ids = ap (λ (y : Tree V O). y.head.leaf_ids) noted in
      let nodes : w.head.node_ids ≡ v.head.node_ids = ap (λ (y : Tree V O). y.head.node_ids) noted in
      let rows : w.height ≡ v.height = ap (λ (y : Tree V O). y.height) noted in
      let leaves' : u.head.leaf_ids ≡ t.head.leaf_ids = ap (λ (y : TreeHead). y.leaf_ids) stays.head in
      let nodes' : u.head.node_ids ≡ t.head.node_ids = ap (λ (y : TreeHead). y.node_ids) stays.head in
      let rows' : u.height ≡ t.height = stays.height in
      record {
        leaves_least = omega (arith, leaves, leaves', widens.leaves_least);
        leaves_most = omega (arith, leaves, leaves', widens.leaves_most);
        nodes_least = omega (arith, nodes, nodes', widens.nodes_least);
        nodes_most = omega (arith, nodes, nodes', widens.nodes_most, deep);
        rows_least = omega (arith, rows, rows', widens.rows_least);
        rows_most = omega (arith, rows, rows', widens.rows_most);
      }
