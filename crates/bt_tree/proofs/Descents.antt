-- The way down through the store.
use Rattle.std.proofs.Common.{◌≡◌, ◌⊎◌, ℕ, zero, suc, ◌+◌, ◌-◌, ◌<◌, ◌≤◌, ◌^◌, List, [], ◌∷◌, ◌++◌, Bool, true, false, Option, Some, None, length, map, refl, sym, ap, ◌∙◌, subst, inl, inr, ⊎_elim, arith}
use Rattle.std.specs.Prelude.{Result, Err}
use Rattle.std.specs.FinMap.{get}
use Rattle.std.specs.List.{AllByRecursion}
use Rattle.std.proofs.lemmas.Grind.{flat_map-append}
use Rattle.tc_base.specs.Maps.{Map}
use Rattle.tc_base.specs.declared.order.Order.{Ghosts as Orders}
use Rattle.tc_base.specs.declared.seq.Pair.{Pair}
use Rattle.tc_space.specs.Stores.{Ticks}
use Rattle.tc_space.specs.declared.records.Records.{Ghosts as Stores}
use Rattle.tc_space.specs.declared.space.Space.{Ghosts}
use Rattle.bt_page.specs.Pages.{HasValue}
use Rattle.bt_page.specs.declared.page.Leaf.{Leaf}
use Rattle.bt_page.specs.declared.page.Node.{Node}
use Rattle.bt_page.proofs.Written.{leaf_has_values}
use Rattle.bt_rows.specs.declared.head.TreeHead.{TreeHead}
use Rattle.bt_rows.specs.declared.page.LeafAt.{LeafAt}
use Rattle.bt_rows.specs.declared.page.Page.TheVariants.{Leaf as leaf_page, Node as node_page}
use Rattle.bt_rows.specs.Between.{KeysAscend}
use Rattle.bt_rows.specs.Orders.{Before, IsOrder, before_by}
use Rattle.bt_rows.specs.Pages.{IsHeldAs}
use Rattle.bt_rows.specs.Rules.{InOrder, leaf_pairs, pairs_of}
use Rattle.bt_rows.specs.Levels.{leaf_slot}
use Rattle.bt_page.specs.Keys.{key_of}
use Rattle.bt_cache.specs.declared.cache.Cache.{Cache}
use Rattle.bt_cache.specs.Effects.{CountsPage, Looks, unless}
use Rattle.bt_cache.specs.Held.{Beside, HasPage, HoldsLeaf, IsFirst, IsThere, ReadsAs, ReadyBeside, ids}
use Rattle.bt_cache.proofs.Uses.{front_holds}
use Rattle.bt_cache.specs.Ids.{has}
use Rattle.bt_cache.specs.Shared.{IsSomeLeaf, IsSomeNode}
use Rattle.bt_tree.specs.declared.tree.Tree.{Tree}
use Rattle.bt_tree.specs.Costs.{ReadsPages, pages_refl, pages_then, looks_refl, looks_then}
use Rattle.bt_ways.specs.Items.{IsLeafFor}
use Rattle.bt_tree.specs.Finding.{FindsLeaf, LeadsTo}
use Rattle.bt_tree.specs.Meaning.{IsOpen, Means}
use Rattle.bt_tree.specs.Visits.{StaysTree, Visits, stays_then}
use Rattle.bt_ways.specs.Searches.{IsRoute, child_at}
use Rattle.bt_tree.specs.Trees.{IsTree, HoldsPairs}
use Rattle.bt_ways.specs.Ways.{Found}
use Rattle.bt_ways.proofs.Keys.{order_behind, front_below, back_above}
use Rattle.bt_tree.proofs.Pages.{has_page, found_leaf}
use Rattle.bt_ways.proofs.Rising.{keys_ascend}
use Rattle.bt_ways.proofs.Walks.{Walk, AtNode, walk_start, walk_node, walk_step, walk_end}

-- the same error
pub err_same : {T E : Type 0} (e f : E) → ◌≡◌ {A = Result T E} (Err e) (Err f) → e ≡ f
err_same e f h = cc

pub err_is : {T E : Type 0} (e f : E) → e ≡ f → ◌≡◌ {A = Result T E} (Err e) (Err f)
err_is e f same = ap Err same

-- the same error of another call
pub err_on : {T U E : Type 0} (e f : E) → ◌≡◌ {A = Result T E} (Err e) (Err f) → ◌≡◌ {A = Result U E} (Err e) (Err f)
err_on e f h = let same : e ≡ f = cc in ap Err same

-- ---- what one page costs

module _ {S V : Type 0} (R : Stores V S) where
  pub one_page : (id : ℕ) (c : Cache V) (u v : V) (s t : ℕ) → s < 2 ^ 64 → CountsPage R id c u v s t → ReadsPages R 1 u v s t
  one_page id c u v s t small k = record { ticks = ticks (has id (ids c.pages)) k.counted k.asked; within = within (has id (ids c.pages)) k.counted }
    where
      within : (b : Bool) → t ≡ unless b s → t ≤ s + 1
      within true e = omega (arith, e)
      within false e = omega (arith, e)

      ticks : (b : Bool) → t ≡ unless b s → (R.gets v ≡ R.gets u) ⊎ (R.gets v ≡ unless b (R.gets u)) → Ticks (R.gets u) (R.gets v) s t
      ticks true e (inl f) = record { rises = omega (arith, e); enough = inl (omega (arith, e, f)) }
      ticks true e (inr f) = record { rises = omega (arith, e); enough = inl (omega (arith, e, f)) }
      ticks false e (inl f) = record { rises = omega (arith, e, small); enough = inl (omega (arith, e, f, small)) }
      ticks false e (inr f) = record {
        rises = omega (arith, e, small);
        enough = ⊎_elim (λ (room : s + 1 ≤ 2 ^ 64 - 1). inl (omega (arith, e, f, room))) (λ (full : 2 ^ 64 - 1 ≤ s + 1). inr (omega (arith, e, full))) (two (s + 1) (2 ^ 64 - 1));
      }
        where
          two : (a b : ℕ) → (a ≤ b) ⊎ (b ≤ a)
          two zero b = inl (omega arith)
          two (suc a) zero = inr (omega arith)
          two (suc a) (suc b) = ⊎_elim (λ (l : a ≤ b). inl (omega (arith, l))) (λ (g : b ≤ a). inr (omega (arith, g))) (two a b)

  pub most_pages : (j k : ℕ) (u v : V) (s t : ℕ) → j ≤ k → ReadsPages R j u v s t → ReadsPages R k u v s t
  most_pages j k u v s t le r = record { ticks = r.ticks; within = omega (arith, le, r.within) }

-- ---- the walk through it

-- at the i-th row, the root's the first; `by` is the order of the keys, or what stands in its place on the way to another place than a key's
pub record Descends {S V O : Type 0} (s : Ghosts S) (R : Stores V S) (o : Orders O) (by : Before) (key : List ℕ)
    (t u : Tree V O) (path : List (ℕ × ℕ)) (old new : S) (steps steps' id i : ℕ) : Type 0 where
  pub from : 1 ≤ i
  pub deep : length path + 1 ≡ i
  pub visits : Visits s R (i - 1) t u steps steps' old new
  pub way : (m : Map) (is : IsTree (before_by o.cmp) t.head t.height (get m)) → Beside s R (t.cache.pages, t.store) old m → (todo : ℕ) → todo + i ≡ t.height
      → Walk by is.pages t.head.root key is.levels (map leaf_slot is.leaves) path id todo

module _ {S V O : Type 0} (s : Ghosts S) (R : Stores V S) (o : Orders O) (by : Before) (key : List ℕ) where
  pub descends_start : (t u : Tree V O) (path : List (ℕ × ℕ)) (space : S) (steps : ℕ) → s.sound space → StaysTree t u → u.cache ≡ t.cache → u.store ≡ t.store → path ≡ []
      → Descends s R o by key t u path space space steps steps t.head.root 1
  descends_start t u path space steps sound stays c v none = record {
    from = omega arith;
    deep = omega (arith, ap length none);
    visits = record {
      looks = subst (λ (x : Cache V). Looks s R t.cache x t.store u.store space space) (sym c) (subst (λ (x : V). Looks s R t.cache t.cache t.store x space space) (sym v) (looks_refl s R t.cache t.store space sound));
      pages = subst (λ (x : V). ReadsPages R 0 t.store x steps steps) (sym v) (pages_refl R t.store steps);
      stays = stays;
    };
    way = λ m is b todo e.
        subst (λ (p : List (ℕ × ℕ)). Walk by is.pages t.head.root key is.levels (map leaf_slot is.leaves) p t.head.root todo) (sym none)
        (subst (λ (n : ℕ). Walk by is.pages t.head.root key is.levels (map leaf_slot is.leaves) [] t.head.root n) (omega (arith, e, is.high))
        (walk_start (before_by o.cmp) by is.pages t.head.root key is.leaves is.levels is.stands));
  }

  module _ (t u : Tree V O) (path : List (ℕ × ℕ)) (old new : S) (steps steps' id i : ℕ) (d : Descends s R o by key t u path old new steps steps' id i) where
    row_left : i < t.height → (t.height - (i + 1)) + 1 + i ≡ t.height
    row_left lt = omega (arith, lt)

    at_node : (m : Map) (is : IsTree (before_by o.cmp) t.head t.height (get m)) → Beside s R (t.cache.pages, t.store) old m → i < t.height → AtNode is.pages is.levels id
    at_node m is b lt = walk_node by is.pages t.head.root key is.levels (map leaf_slot is.leaves) path id (t.height - (i + 1)) (d.way m is b (suc (t.height - (i + 1))) (omega (arith, lt)))

    pub node_there : IsOpen s R o t old → i < t.height → IsThere s R IsSomeNode id u.cache u.store new
    node_there ready lt = λ told.
        let h = ready.held told in
        let m : Map = h.1.1.records in
        let pairs : HoldsPairs (before_by o.cmp) t.head t.height t.column (get m) h.0 = h.1.1.is in
        let b : Beside s R (t.cache.pages, t.store) old m = ((told, h.1.1.store), h.1.1.same) in
        let n : AtNode pairs.tree.pages pairs.tree.levels id = at_node m pairs.tree b lt in
        (m, node_page n.at.node, d.visits.looks.reads.means m b, has_page t.head m pairs.tree.pages id (node_page n.at.node) pairs.tree.head pairs.tree.held n.is, (n.at.node, refl))

    pub store_ready : IsOpen s R o t old → ReadyBeside s R u.cache u.store new
    store_ready ready = record {
      sound = d.visits.looks.reads.sound;
      held = λ told. let h = ready.held told in (h.1.1.records, d.visits.looks.reads.means h.1.1.records ((told, h.1.1.store), h.1.1.same));
    }

    -- one row further down
    pub descends_more : (w : Tree V O) (path' : List (ℕ × ℕ)) (new' : S) (steps'' id' place : ℕ) (read : Node) → i < t.height → steps' < 2 ^ 64
        → Looks s R u.cache w.cache u.store w.store new new' → CountsPage R id u.cache u.store w.store steps' steps'' → StaysTree u w
        → ReadsAs s R node_page id u.cache u.store new read
        → (KeysAscend (before_by o.cmp) read.entries → IsRoute by read.entries key place) → path' ≡ (id, place) ∷ path → id' ≡ child_at read.heir read.entries place
        → Descends s R o by key t w path' old new' steps steps'' id' (i + 1)
    descends_more w path' new' steps'' id' place read lt small looks counts stays is_read route p c = record {
      from = omega arith;
      deep = omega (arith, ap length p, d.deep);
      visits = record {
        looks = looks_then s R _ _ _ _ _ _ _ _ _ d.visits.looks looks;
        pages = subst (λ (n : ℕ). ReadsPages R n t.store w.store steps steps'') (omega (arith, d.from)) (pages_then R (i - 1) 1 _ _ _ _ _ _ d.visits.pages (one_page R id u.cache _ _ _ _ small counts));
        stays = stays_then t u w d.visits.stays stays;
      };
      way = λ m is b todo e.
          let k : Walk by is.pages t.head.root key is.levels (map leaf_slot is.leaves) path id (suc todo) = d.way m is b (suc todo) (omega (arith, e)) in
          let n : AtNode is.pages is.levels id = walk_node by is.pages t.head.root key is.levels (map leaf_slot is.leaves) path id todo k in
          let same : read ≡ n.at.node = is_read m n.at.node (d.visits.looks.reads.means m b) (has_page t.head m is.pages id (node_page n.at.node) is.head is.held n.is) in
          let asc : KeysAscend (before_by o.cmp) read.entries = subst (λ (x : Node). KeysAscend (before_by o.cmp) x.entries) (sym same) (keys_ascend (before_by o.cmp) is.pages t.head.root is.leaves is.levels n.above n.left n.at n.right n.under is.stands n.level) in
          subst (λ (q : List (ℕ × ℕ)). Walk by is.pages t.head.root key is.levels (map leaf_slot is.leaves) q id' todo) (sym p)
          (subst (λ (j : ℕ). Walk by is.pages t.head.root key is.levels (map leaf_slot is.leaves) ((id, place) ∷ path) j todo) (sym c)
          (walk_step by is.pages t.head.root key is.levels (map leaf_slot is.leaves) path id todo k read place (n.is ∙ ap (λ (x : Node). Some (node_page x)) (sym same)) (route asc)));
    }

    -- it stops in the middle, or at the leaf: no more rows than there are were read
    pub descends_stop : (w : Tree V O) (new' : S) (steps'' : ℕ) → i < t.height → steps' < 2 ^ 64
        → Looks s R u.cache w.cache u.store w.store new new' → CountsPage R id u.cache u.store w.store steps' steps'' → StaysTree u w
        → Visits s R (t.height - 1) t w steps steps'' old new'
    descends_stop w new' steps'' lt small looks counts stays = record {
      looks = looks_then s R _ _ _ _ _ _ _ _ _ d.visits.looks looks;
      pages = most_pages R ((i - 1) + 1) (t.height - 1) _ _ _ _ (omega (arith, lt, d.from)) (pages_then R (i - 1) 1 _ _ _ _ _ _ d.visits.pages (one_page R id u.cache _ _ _ _ small counts));
      stays = stays_then t u w d.visits.stays stays;
    }

    pub descends_done : i ≤ t.height → Visits s R (t.height - 1) t u steps steps' old new
    descends_done le = record { looks = d.visits.looks; pages = most_pages R (i - 1) (t.height - 1) _ _ _ _ (omega (arith, le)) d.visits.pages; stays = d.visits.stays }

    pub descends_deep : t.height ≤ i → i ≤ t.height → length path + 1 ≡ t.height
    descends_deep ge le = omega (arith, d.deep, ge, le)

    pub descends_end : t.height ≤ i → i ≤ t.height → LeadsTo s R o.cmp by key t old path id
    descends_end ge le m is b = walk_end by is.pages t.head.root key is.leaves is.levels path id (d.way m is b 0 (omega (arith, ge, le)))

-- ---- the leaf at its end

pub leaf_values : (m : Map) (id : ℕ) (l : Leaf) → HasPage m id (leaf_page l) → AllByRecursion HasValue l.items
leaf_values m id l h = go (get m (key_of id)) h.page
  where
    go : (o : Option (List ℕ)) → IsHeldAs id o (Some (leaf_page l)) → AllByRecursion HasValue l.items
    go None x = absurd x
    go (Some bytes) x = leaf_has_values bytes l x.1

-- a leaf that was found is the one where the key belongs
pub belongs : (before : Before) → IsOrder before → (key : List ℕ) (h : TreeHead) (height : ℕ) (column : Option (List ℕ)) (m : Map) (ps : List Pair) (p : HoldsPairs before h height column (get m) ps) (path : List (ℕ × ℕ)) (id : ℕ) (f : Found before h.root key p.tree.leaves p.tree.levels path id)
    → IsLeafFor before key ps f.leaf.leaf
belongs before order key h height column m ps p path id f =
    let is = found_leaf before p.tree.pages h.root key p.tree.leaves p.tree.levels path id p.tree.stands f in
    let o : InOrder before (f.front ++ f.leaf ∷ f.back) = subst (λ (x : List LeafAt). InOrder before x) f.parts p.tree.stands.order in
    let ob : InOrder before (f.leaf ∷ f.back) = order_behind before f.front (f.leaf ∷ f.back) o in
    record {
      ascends = ob.0.ascends;
      some = leaf_values m id f.leaf.leaf (has_page h m p.tree.pages id (leaf_page f.leaf.leaf) p.tree.head p.tree.held is);
      front = pairs_of f.front;
      back = pairs_of f.back;
      are = p.are ∙ ap pairs_of f.parts ∙ flat_map-append leaf_pairs f.front (f.leaf ∷ f.back);
      low = front_below before order f.front f.back f.leaf key o f.low;
      high = back_above before order f.back key ob.2 f.high;
    }

module _ {S V O : Type 0} (s : Ghosts S) (R : Stores V S) (o : Orders O) (key : List ℕ) (t : Tree V O) (old : S) (path : List (ℕ × ℕ)) (id : ℕ) (found : LeadsTo s R o.cmp (before_by o.cmp) key t old path id) where
  pub leaf_there : (c : Cache V) (v : V) (new : S) → IsOpen s R o t old → Looks s R t.cache c t.store v old new → IsThere s R IsSomeLeaf id c v new
  leaf_there c v new ready looks = λ told.
      let h = ready.held told in
      let m : Map = h.1.1.records in
      let pairs : HoldsPairs (before_by o.cmp) t.head t.height t.column (get m) h.0 = h.1.1.is in
      let b : Beside s R (t.cache.pages, t.store) old m = ((told, h.1.1.store), h.1.1.same) in
      let f = found m pairs.tree b in
      let is = found_leaf (before_by o.cmp) pairs.tree.pages t.head.root key pairs.tree.leaves pairs.tree.levels path id pairs.tree.stands f in
      (m, leaf_page f.leaf.leaf, looks.reads.means m b, has_page t.head m pairs.tree.pages id (leaf_page f.leaf.leaf) pairs.tree.head pairs.tree.held is, (f.leaf.leaf, refl))

  pub leaf_is_for : IsOrder (before_by o.cmp) → (c : Cache V) (v : V) (new : S) (read : Leaf) → Looks s R t.cache c t.store v old new → ReadsAs s R leaf_page id c v new read → FindsLeaf s R o key t old read
  leaf_is_for order c v new read looks is_read ps means =
      let m : Map = means.1.records in
      let pairs : HoldsPairs (before_by o.cmp) t.head t.height t.column (get m) ps = means.1.is in
      let b : Beside s R (t.cache.pages, t.store) old m = ((means.0, means.1.store), means.1.same) in
      let f = found m pairs.tree b in
      let is = found_leaf (before_by o.cmp) pairs.tree.pages t.head.root key pairs.tree.leaves pairs.tree.levels path id pairs.tree.stands f in
      let page : HasPage m id (leaf_page f.leaf.leaf) = has_page t.head m pairs.tree.pages id (leaf_page f.leaf.leaf) pairs.tree.head pairs.tree.held is in
      let same : read ≡ f.leaf.leaf = is_read m f.leaf.leaf (looks.reads.means m b) page in
      subst (λ (l : Leaf). IsLeafFor (before_by o.cmp) key ps l) (sym same) (belongs (before_by o.cmp) order key t.head t.height t.column m ps pairs path id f)

  -- it is held then
  pub leaf_holds : (c d : Cache V) (v w : V) (new later : S) (read : Leaf) → Looks s R t.cache c t.store v old new → Looks s R c d v w new later → ReadsAs s R leaf_page id c v new read → IsFirst id d → (ps : List Pair) → Means s R o t old ps → HoldsLeaf id read d.pages
  leaf_holds c d v w new later read looks more is_read first ps means =
      let m : Map = means.1.records in
      let pairs : HoldsPairs (before_by o.cmp) t.head t.height t.column (get m) ps = means.1.is in
      let b : Beside s R (t.cache.pages, t.store) old m = ((means.0, means.1.store), means.1.same) in
      let b' : Beside s R (c.pages, v) new m = looks.reads.means m b in
      let f = found m pairs.tree b in
      let is = found_leaf (before_by o.cmp) pairs.tree.pages t.head.root key pairs.tree.leaves pairs.tree.levels path id pairs.tree.stands f in
      let page : HasPage m id (leaf_page f.leaf.leaf) = has_page t.head m pairs.tree.pages id (leaf_page f.leaf.leaf) pairs.tree.head pairs.tree.held is in
      let same : read ≡ f.leaf.leaf = is_read m f.leaf.leaf b' page in
      front_holds m d.pages id read first (more.reads.means m b').1 (subst (λ (l : Leaf). HasPage m id (leaf_page l)) (sym same) page)

-- ---- a descent and then its leaf

module _ {S V O : Type 0} (s : Ghosts S) (R : Stores V S) (o : Orders O) (t : Tree V O) (c : Cache V) (v : V) (old new : S) where
  pub looks_ready : Looks s R t.cache c t.store v old new → IsOpen s R o t old → ReadyBeside s R c v new
  looks_ready looks ready = record {
    sound = looks.reads.sound;
    held = λ told. let h = ready.held told in (h.1.1.records, looks.reads.means h.1.1.records ((told, h.1.1.store), h.1.1.same));
  }

module _ {S V O : Type 0} (s : Ghosts S) (R : Stores V S) (t u w : Tree V O) (steps steps' steps'' : ℕ) (old new new' : S) where
  pub visits_leaf : (id : ℕ) → 1 ≤ t.height → steps' < 2 ^ 64 → Visits s R (t.height - 1) t u steps steps' old new
      → Looks s R u.cache w.cache u.store w.store new new' → CountsPage R id u.cache u.store w.store steps' steps'' → StaysTree u w
      → Visits s R t.height t w steps steps'' old new'
  visits_leaf id some small visits looks counts stays = record {
    looks = looks_then s R _ _ _ _ _ _ _ _ _ visits.looks looks;
    pages = subst (λ (n : ℕ). ReadsPages R n t.store w.store steps steps'') (omega (arith, some)) (pages_then R (t.height - 1) 1 _ _ _ _ _ _ visits.pages (one_page R id u.cache _ _ _ _ small counts));
    stays = stays_then t u w visits.stays stays;
  }

  pub visits_all : Visits s R (t.height - 1) t u steps steps' old new → Visits s R t.height t u steps steps' old new
  visits_all visits = record { looks = visits.looks; pages = most_pages R (t.height - 1) t.height _ _ _ _ (omega arith) visits.pages; stays = visits.stays }
