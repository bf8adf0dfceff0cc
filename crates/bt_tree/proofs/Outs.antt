-- A leaf written without the pairs that went, or taken out once it has none.
use Rattle.std.proofs.Common.{◌≡◌, ◌⊎◌, ℕ, ◌+◌, ◌-◌, ◌<◌, List, [], ◌∷◌, ◌++◌, Bool, true, false, Option, Some, None, length, refl, sym, ap, ◌∙◌, subst, inl, inr, ⊎_elim, arith}
use Rattle.std.specs.FinMap.{get}
use Rattle.std.specs.Cmp.{IsTotalOrder}
use Rattle.std.specs.declared.cmp.Ordering.{Ordering}
use Rattle.std.proofs.lemmas.List.{append-nil}
use Rattle.tc_base.specs.declared.order.Order.{Ghosts as Orders}
use Rattle.tc_base.specs.declared.seq.Pair.{Pair}
use Rattle.tc_space.specs.Changes.{has_pair}
use Rattle.tc_space.specs.Frames.{Reads, Writes}
use Rattle.tc_space.specs.Stores.{TakesOut}
use Rattle.tc_space.specs.declared.records.Records.{Ghosts as Stores}
use Rattle.tc_space.specs.declared.space.Space.{Ghosts}
use Rattle.bt_page.specs.Limits.{LeafWithin}
use Rattle.bt_page.specs.declared.page.Item.{Item}
use Rattle.bt_page.specs.declared.page.Leaf.{Leaf}
use Rattle.bt_page.specs.declared.page.NodeEntry.{NodeEntry}
use Rattle.bt_rows.specs.declared.head.TreeHead.{TreeHead}
use Rattle.bt_rows.specs.declared.page.LeafAt.{LeafAt}
use Rattle.bt_rows.specs.declared.page.Page.{Page}
use Rattle.bt_rows.specs.declared.page.Page.TheVariants.{Leaf as leaf_page, Node as node_page}
use Rattle.bt_rows.specs.Levels.{Stands}
use Rattle.bt_rows.specs.Orders.{IsOrder, before_by}
use Rattle.bt_rows.specs.Pages.{PageMap}
use Rattle.bt_rows.specs.Rows.{first_id, last_id}
use Rattle.bt_rows.specs.Rules.{B5, InOrder, IsWithin, LeafLimits, pairs_of}
use Rattle.bt_ways.specs.Changes.{ItemsWithin, removed}
use Rattle.bt_ways.specs.Removals.{with_items}
use Rattle.bt_ways.specs.Ways.{Found}
use Rattle.bt_ways.specs.Writes.{put_at}
use Rattle.bt_ways.proofs.Keys.{all_map}
use Rattle.bt_ways.proofs.Parting.{leaf_changes}
use Rattle.bt_ways.proofs.Taking.{leaf_loses_pairs}
use Rattle.bt_ways.proofs.Within.{items_within, taken_within}
use Rattle.bt_tree.specs.declared.removing.Lessened.{Lessened}
use Rattle.bt_tree.specs.declared.tree.Tree.{Tree}
use Rattle.bt_tree.specs.Climbing.{IsAmong, StoodIn}
use Rattle.bt_tree.specs.Inserting.{AreItemsOf, IsPutPage, WritesPages, pair_key}
use Rattle.bt_tree.specs.Meaning.{Changes, IsOpen, Means, Meant}
use Rattle.bt_tree.specs.Paging.{IsLeafId, IsShown, LacksThis, PutsAt, Seen, Shows, Stood}
use Rattle.bt_tree.specs.Removing.{AtLast, GivesInLeaf, HasLast, IsLeftPage, IsLessPage, IsLone, IsRefusedRoom, IsRemnant, LacksLast, LowersRoot, Narrows, ShowsLast, TurnsVacated, Vacated, Vacates}
use Rattle.bt_tree.specs.Trees.{HoldsPairs}
use Rattle.bt_tree.specs.Visits.{LooksAt, StaysTree}
use Rattle.bt_tree.proofs.Entries.{put_either, put_was}
use Rattle.bt_tree.proofs.Contents.{changed_items, no_items_of, page_items}
use Rattle.bt_tree.proofs.Droppings.{SameIds, leaf_id_shown, room_after, same_shows}
use Rattle.bt_tree.proofs.Inserts.{means_looked}
use Rattle.bt_tree.proofs.Pages.{found_leaf}
use Rattle.bt_tree.proofs.Pagings.{anew_over, fills_none, lacks_after, others_at, put_all, stood_at}
use Rattle.bt_tree.proofs.Removes.{count_around, first_same, last_same, means_of}
use Rattle.bt_tree.proofs.Unlinkings.{limits_moved}

remnant_less : (h : TreeHead) (pages : PageMap) (q : Page) → IsRemnant h pages q → IsLessPage pages q
remnant_less h pages (leaf_page l) left = tt
remnant_less h pages (node_page n) left = left.2

-- nothing is taken where nothing is held
pub takes_none : {S V : Type 0} (s : Ghosts S) (own : ℕ → Type 0) (M : V → S → List Pair → Type 0) (key : List ℕ) (f : List Pair → List Pair) (v w : V) (a b : S) → ((ps : List Pair) → M v a ps → false ≡ has_pair key ps) → Reads s M v w a b
    → TakesOut s own M (has_pair key) f false v w a b
takes_none s own M key f v w a b none reads = record { held = none; out = λ e. absurd (clash e); none = λ e. reads }
  where
    clash : false ≡ true → ⊥
    clash e = cc

pub takes_some : {S V : Type 0} (s : Ghosts S) (own : ℕ → Type 0) (M : V → S → List Pair → Type 0) (key : List ℕ) (f : List Pair → List Pair) (v w : V) (a b : S) → ((ps : List Pair) → M v a ps → true ≡ has_pair key ps) → Writes s own M f v w a b
    → TakesOut s own M (has_pair key) f true v w a b
takes_some s own M key f v w a b some writes = record { held = some; out = λ e. writes; none = λ e. absurd (clash e) }
  where
    clash : true ≡ false → ⊥
    clash e = cc

-- nothing went
pub same_root : {S V O : Type 0} (s : Ghosts S) (R : Stores V S) (o : Orders O) (t u : Tree V O) (a b : S) → LooksAt s R t u a b → StaysTree t u → LowersRoot s R o t u a b
same_root s R o t u a b looks stays ps h = (h.1.is.tree.pages, means_looked s R o t u a b looks stays ps h, λ lost l. clash lost.1 (sym lost.3 ∙ lost.2))
  where
    clash : (l : Leaf) → ◌≡◌ {A = Option Page} None (Some (leaf_page l)) → ⊥
    clash l e = cc

pub same_pages : {S V O : Type 0} (s : Ghosts S) (R : Stores V S) (o : Orders O) (f : List Pair → List Pair) (t u : Tree V O) (a b : S) → LooksAt s R t u a b → StaysTree t u → WritesPages s R o f t u a b
same_pages s R o f t u a b looks stays ps h = (h.1.is.tree.pages, means_looked s R o t u a b looks stays ps h, λ id given none. none, fills_none t.head u.head h.1.is.tree.pages (ap (λ (y : TreeHead). y.leaf_ids) stays.head) (ap (λ (y : TreeHead). y.node_ids) stays.head), λ id p is. inl is)

-- t at the start, v once the values went from the leaf's items
module _ {S V O : Type 0} (s : Ghosts S) (R : Stores V S) (o : Orders O) (total : IsTotalOrder o.cmp) (order : IsOrder (before_by o.cmp)) (all : Bool) (key : List ℕ)
    (t v : Tree V O) (a b : S) (looks : LooksAt s R t v a b) (stays : StaysTree t v) (x : Lessened) (given : GivesInLeaf s R o all key t a v.path x) where
  abbrev cmp : List ℕ → List ℕ → Ordering
  cmp = o.cmp

  abbrev M : Tree V O → S → List Pair → Type 0
  M = Means s R o

  shown : (ps : List Pair) (h : M t a ps) → Shows s R v b h.1.is.tree.pages
  shown ps h = means_looked s R o t v a b looks stays ps h

  -- where the leaf stands
  module _ (ps : List Pair) (h : M t a ps) where
    abbrev p : HoldsPairs (before_by cmp) t.head t.height t.column (get h.1.records) ps
    p = h.1.is

    abbrev f : Found (before_by cmp) t.head.root key h.1.is.tree.leaves h.1.is.tree.levels v.path x.id
    f = (given ps h).found

    page_there : h.1.is.tree.pages x.id ≡ Some (leaf_page f.leaf.leaf)
    page_there = found_leaf (before_by cmp) p.tree.pages t.head.root key p.tree.leaves p.tree.levels v.path x.id p.tree.stands f

    abbrev after : List LeafAt
    after = (given ps h).found.front ++ with_items (given ps h).found.leaf x.leaf.items ∷ (given ps h).found.back

    lost : InOrder (before_by cmp) after × (pairs_of after ≡ removed cmp all key (pairs_of h.1.is.tree.leaves))
    lost = leaf_loses_pairs cmp total order all p.tree.pages t.head.root key p.tree.leaves p.tree.levels v.path x.id p.tree.stands f x.leaf.items x.count (given ps h).taken

    pairs_left : pairs_of after ≡ removed cmp all key ps
    pairs_left = lost.1 ∙ ap (removed cmp all key) (sym p.are)

    count_left : length (pairs_of after) + x.count ≡ t.head.pairs
    count_left = count_around f.front f.leaf x.leaf.items x.count f.back (given ps h).taken.count ∙ ap (λ (ls : List LeafAt). length (pairs_of ls)) (sym f.parts) ∙ sym p.count

    was_within : LeafLimits t.head x.id f.leaf.leaf
    was_within = subst (IsWithin t.head x.id) page_there (p.limits x.id)

    items_left : ItemsWithin t.head.leaf_limit x.leaf.items
    items_left = taken_within cmp all key f.leaf.leaf.items x.leaf.items x.count t.head.leaf_limit (given ps h).taken (items_within t.head.leaf_limit f.leaf.leaf was_within.within)

    left_within : LeafWithin t.head.leaf_limit x.leaf
    left_within = record { keys = items_left.keys; bytes = items_left.bytes }

    items_are : AreItemsOf cmp x.leaf.items (removed cmp all key ps)
    items_are = changed_items cmp order t.head t.height t.column h.1.records ps h.1.is f.front f.back f.leaf (with_items f.leaf x.leaf.items) (removed cmp all key ps) x.leaf.items f.parts (given ps h).taken.items.some lost.0 pairs_left
        ([], [], sym (append-nil x.leaf.items))

    leaf_left : x.leaf ≡ (with_items (given ps h).found.leaf x.leaf.items).leaf
    leaf_left = λ i. record { prev = (given ps h).prev i; next = (given ps h).next i; items = x.leaf.items }

  uncounted : (w u : Tree V O) → u ≡ record w { head = record w.head { pairs = w.head.pairs - x.count } } → SameIds w.head u.head
  uncounted w u noted = subst (λ (k : TreeHead). SameIds w.head k) (sym (ap (λ (y : Tree V O). y.head) noted)) (record { order = refl; leaf_limit = refl; node_limit = refl; leaf_ids = refl; node_ids = refl })

  pub leaf_ready : IsOpen s R o t a → IsShown s R v b
  leaf_ready ready = record { sound = looks.reads.sound; held = λ told. let h = ready.held told in (h.1.1.is.tree.pages, shown h.0 h.1) }

  pub leaf_given : IsOpen s R o t a → s.tells → IsLeafId v.head x.id
  leaf_given ready told = let h = ready.held told in leaf_id_shown s R v b h.1.1.is.tree.pages x.id (f h.0 h.1).leaf.leaf (shown h.0 h.1) (page_there h.0 h.1)

  pub leaf_full : ((ps : List Pair) → M t a ps → true ≡ has_pair key ps) → (d : S) → LacksThis s R x.id (leaf_page x.leaf) v b d → IsRefusedRoom s R o all key t a d
  leaf_full hit d l =
      inl (lacks_after s R (Seen (Shows s R v b)) (Meant s R o t a) (λ w i. i ≡ x.id) (λ w i. Stood w.1.1.is.tree.pages i) (λ w. w.0) (λ w. w.1.1.is.tree.pages) (λ w p. p ≡ leaf_page x.leaf) (IsLeftPage s R o all key t a) t v a b d looks.keeps looks.made stays.column
      (λ w. record {
        seen = (w.1.1.is.tree.pages, shown w.0 w.1);
        own = λ i e. stood_at w.1.1.is.tree.pages x.id i (leaf_page (f w.0 w.1).leaf.leaf) (page_there w.0 w.1) e;
        was = λ id p is. inl is;
        fine = λ p e. subst (λ (y : Page). IsLeftPage s R o all key t a w y) (sym e) (((left_within w.0 w.1, inr (items_are w.0 w.1)), tt), tt, sym (hit w.0 w.1));
      }) l)

  -- w once the leaf is written, u in the end
  pub leaf_less : ((0 < length x.leaf.items) ⊎ (x.id ≡ v.head.root)) → (w u : Tree V O) (d : S) → PutsAt s R x.id (leaf_page x.leaf) v w b d → w.head ≡ v.head → w.height ≡ v.height
      → u ≡ record w { head = record w.head { pairs = w.head.pairs - x.count } } → Changes s R o (removed cmp all key) t u a d
  leaf_less kept w u d put whead wheight noted = record {
    sound = put.sound;
    means = means;
    others = record { same = λ told g other. (others_at s _ _ b d looks.made.file put.others).same told g other ∙ looks.reads.now told g };
  }
    where
      head_is : u.head ≡ record t.head { pairs = t.head.pairs - x.count }
      head_is = ap (λ (y : Tree V O). y.head) noted ∙ ap (λ (k : TreeHead). record k { pairs = k.pairs - x.count }) (whead ∙ stays.head)

      ids : SameIds w.head u.head
      ids = subst (λ (k : TreeHead). SameIds w.head k) (sym (ap (λ (y : Tree V O). y.head) noted)) (record { order = refl; leaf_limit = refl; node_limit = refl; leaf_ids = refl; node_ids = refl })

      from_start : SameIds t.head u.head
      from_start = subst (λ (k : TreeHead). SameIds t.head k) (sym head_is) (record { order = refl; leaf_limit = refl; node_limit = refl; leaf_ids = refl; node_ids = refl })

      root : u.head.root ≡ t.head.root
      root = ap (λ (k : TreeHead). k.root) head_is

      means : (ps : List Pair) → M t a ps → M u d (removed cmp all key ps)
      means ps h =
          let q : HoldsPairs (before_by cmp) t.head t.height t.column (get h.1.records) ps = p ps h in
          let new : PageMap = put_at x.id (leaf_page x.leaf) q.tree.pages in
          let same : put_at x.id (leaf_page (with_items (f ps h).leaf x.leaf.items).leaf) q.tree.pages ≡ new = ap (λ (l : Leaf). put_at x.id (leaf_page l) q.tree.pages) (sym (leaf_left ps h)) in
          let st : Stands (before_by cmp) new t.head.root (after ps h) q.tree.levels =
          subst (λ (pages : PageMap). Stands (before_by cmp) pages t.head.root (after ps h) q.tree.levels) same
          (leaf_changes (before_by cmp) q.tree.pages t.head.root key q.tree.leaves q.tree.levels v.path x.id q.tree.stands (f ps h) x.leaf.items (lost ps h).0) in
          let low : B5 u.head q.tree.pages = limits_moved t.head u.head q.tree.pages q.tree.pages from_start (λ j. inl refl) (inl root) q.limits in
          let within : LeafLimits u.head x.id x.leaf = record {
            within = record { keys = omega (arith, (left_within ps h).keys, from_start.leaf_limit); bytes = (left_within ps h).bytes };
            some = λ ne. ⊎_elim (λ (some : 0 < length x.leaf.items). some) (λ (is : x.id ≡ v.head.root). absurd (ne (is ∙ ap (λ (k : TreeHead). k.root) stays.head ∙ sym root))) kept;
          } in
          means_of s R o u d new (after ps h) q.tree.levels (removed cmp all key ps)
          (same_shows s R w u d (ap (λ (y : Tree V O). y.store) noted) (ap (λ (y : Tree V O). y.cache.pages) noted) (ap (λ (y : Tree V O). y.column) noted) ids new (put.means q.tree.pages (shown ps h)))
          (ap (λ (k : TreeHead). k.order) head_is ∙ h.1.order)
          (subst (λ (r : ℕ). Stands (before_by cmp) new r (after ps h) q.tree.levels) (sym root) st)
          (ap (λ (y : Tree V O). y.height) noted ∙ wheight ∙ stays.height ∙ q.tree.high)
          (put_all (λ j o. IsWithin u.head j o) q.tree.pages x.id (leaf_page x.leaf) within (λ j other. low j))
          (record {
            first = ap (λ (k : TreeHead). k.first) head_is ∙ q.links.first ∙ ap first_id (f ps h).parts ∙ sym (first_same (f ps h).front (f ps h).leaf x.leaf.items (f ps h).back);
            last = ap (λ (k : TreeHead). k.last) head_is ∙ q.links.last ∙ ap (last_id 0) (f ps h).parts ∙ sym (last_same (f ps h).front (f ps h).leaf x.leaf.items (f ps h).back);
            links = st.links;
          })
          (omega (arith, ap (λ (k : TreeHead). k.pairs) head_is, count_left ps h))
          (sym (pairs_left ps h))

  -- no leaf went
  pub less_root : (w u : Tree V O) (d : S) → PutsAt s R x.id (leaf_page x.leaf) v w b d → u ≡ record w { head = record w.head { pairs = w.head.pairs - x.count } } → LowersRoot s R o t u a d
  less_root w u d put noted ps h =
      let new : PageMap = put_at x.id (leaf_page x.leaf) h.1.is.tree.pages in
      let ids : SameIds w.head u.head =
      subst (λ (k : TreeHead). SameIds w.head k) (sym (ap (λ (y : Tree V O). y.head) noted)) (record { order = refl; leaf_limit = refl; node_limit = refl; leaf_ids = refl; node_ids = refl }) in (
        new,
        same_shows s R w u d (ap (λ (y : Tree V O). y.store) noted) (ap (λ (y : Tree V O). y.cache.pages) noted) (ap (λ (y : Tree V O). y.column) noted) ids new (put.means h.1.is.tree.pages (shown ps h)),
        λ lost l. clash lost.1 (sym (put_was h.1.is.tree.pages x.id lost.0 (leaf_page x.leaf) lost.3) ∙ lost.2),
      )
    where
      clash : (l : Leaf) → ◌≡◌ {A = Option Page} None (Some (leaf_page l)) → ⊥
      clash l e = cc

  -- and no page came
  pub less_pages : (w u : Tree V O) (d : S) → PutsAt s R x.id (leaf_page x.leaf) v w b d → w.head ≡ v.head → u ≡ record w { head = record w.head { pairs = w.head.pairs - x.count } } → WritesPages s R o (removed cmp all key) t u a d
  less_pages w u d put whead noted ps h =
      let new : PageMap = put_at x.id (leaf_page x.leaf) h.1.is.tree.pages in (
        new,
        same_shows s R w u d (ap (λ (y : Tree V O). y.store) noted) (ap (λ (y : Tree V O). y.cache.pages) noted) (ap (λ (y : Tree V O). y.column) noted) (uncounted w u noted) new (put.means h.1.is.tree.pages (shown ps h)),
        anew_over t.head h.1.is.tree.pages x.id (leaf_page x.leaf) (leaf_page (f ps h).leaf.leaf) (page_there ps h),
        fills_none t.head u.head new (ap (λ (y : Tree V O). y.head.leaf_ids) noted ∙ ap (λ (y : TreeHead). y.leaf_ids) (whead ∙ stays.head)) (ap (λ (y : Tree V O). y.head.node_ids) noted ∙ ap (λ (y : TreeHead). y.node_ids) (whead ∙ stays.head)),
        λ id p is. ⊎_elim
            (λ (own : p ≡ leaf_page x.leaf). inr (subst (λ (q : Page). IsPutPage o.cmp t.head h.1.is.tree.pages ps (removed cmp all key ps) q) (sym own) ((left_within ps h, inr (items_are ps h)), tt)))
            (λ (old : h.1.is.tree.pages id ≡ Some p). inl old)
            (put_either h.1.is.tree.pages x.id id (leaf_page x.leaf) p is),
      )

  -- ---- the leaf has no items any more

  abbrev at_last : (ps : List Pair) (h : M t a ps) → AtLast (before_by cmp) t.head t.height v.path x.id x.leaf.prev x.leaf.next h.1.is.tree.pages
  at_last ps h = record {
    key = key;
    leaves = h.1.is.tree.leaves;
    levels = h.1.is.tree.levels;
    stands = h.1.is.tree.stands;
    high = h.1.is.tree.high;
    limits = h.1.is.limits;
    links = h.1.is.links;
    found = f ps h;
    prev_is = (given ps h).prev;
    next_is = (given ps h).next;
  }

  at_last_moved : (ps : List Pair) (h : M t a ps) → AtLast (before_by cmp) v.head v.height v.path x.id x.leaf.prev x.leaf.next h.1.is.tree.pages
  at_last_moved ps h =
      subst (λ (k : TreeHead). AtLast (before_by cmp) k v.height v.path x.id x.leaf.prev x.leaf.next h.1.is.tree.pages) (sym stays.head)
      (subst (λ (n : ℕ). AtLast (before_by cmp) t.head n v.path x.id x.leaf.prev x.leaf.next h.1.is.tree.pages) (sym stays.height) (at_last ps h))

  last_shown : (ps : List Pair) (h : M t a ps) → ShowsLast s R (before_by cmp) x.id x.leaf.prev x.leaf.next v b h.1.is.tree.pages
  last_shown ps h = (shown ps h, at_last_moved ps h)

  pub vacate_ready : IsOpen s R o t a → HasLast s R o x.id x.leaf.prev x.leaf.next v b
  vacate_ready ready = record { sound = looks.reads.sound; held = λ told. let h = ready.held told in (h.1.1.is.tree.pages, last_shown h.0 h.1) }

  remnant_put : (ps : List Pair) (h : M t a ps) (q : Page) → IsRemnant v.head h.1.is.tree.pages q → IsPutPage o.cmp t.head h.1.is.tree.pages ps (removed cmp all key ps) q
  remnant_put ps h q left = go q left
    where
      go : (q : Page) → IsRemnant v.head h.1.is.tree.pages q → IsPutPage o.cmp t.head h.1.is.tree.pages ps (removed cmp all key ps) q
      go (node_page n) w = (
        omega (arith, w.0, ap (λ (k : TreeHead). k.node_limit) stays.head),
        all_map (λ (e : NodeEntry). StoodIn h.1.is.tree.pages e.key) (λ (e : NodeEntry). IsAmong pair_key e.key (removed cmp all key ps) ⊎ StoodIn h.1.is.tree.pages e.key) n.entries (λ e stood. inr stood) w.1,
      )
      go (leaf_page l) (inl none) =
          let long : length l.items ≡ 0 = ap (λ (xs : List Item). length xs) none in
          ((record { keys = omega (arith, long); bytes = λ two. absurd (omega (arith, long, two)) }, inl (subst (λ (xs : List Item). AreItemsOf cmp xs ps) (sym none) (no_items_of cmp order t.head t.height t.column h.1.records ps h.1.is))), tt)
      go (leaf_page l) (inr r) =
          let was : LeafLimits t.head r.id r.was = subst (IsWithin t.head r.id) r.there (h.1.is.limits r.id) in
          let w : ItemsWithin t.head.leaf_limit l.items = subst (ItemsWithin t.head.leaf_limit) (sym r.same) (items_within t.head.leaf_limit r.was was.within) in
          let there : AreItemsOf cmp r.was.items ps = page_items cmp order t.head t.height t.column h.1.records ps h.1.is r.id r.was r.there in
          ((record { keys = w.keys; bytes = w.bytes }, inl (subst (λ (xs : List Item). AreItemsOf cmp xs ps) (sym r.same) there)), tt)

  pub vacate_full : ((ps : List Pair) → M t a ps → true ≡ has_pair key ps) → (d : S) → LacksLast s R o x.id x.leaf.prev x.leaf.next v b d → IsRefusedRoom s R o all key t a d
  vacate_full hit d l =
      room_after s R (Seen (ShowsLast s R (before_by cmp) x.id x.leaf.prev x.leaf.next v b)) (Meant s R o t a) (λ w i. Stood w.0 i) (λ w i. Stood w.1.1.is.tree.pages i) (λ w. w.0) (λ w. w.1.1.is.tree.pages) (λ w p. IsRemnant v.head w.0 p) (IsLeftPage s R o all key t a) t v a b d looks.keeps looks.made stays.column
      (λ w. record {
        seen = (w.1.1.is.tree.pages, last_shown w.0 w.1);
        own = λ i stood. stood;
        was = λ id p is. inl is;
        fine = λ p left. (remnant_put w.0 w.1 p left, remnant_less v.head w.1.1.is.tree.pages p left, sym (hit w.0 w.1));
      }) l

  -- one went, or is the root
  pub gone_root : (w u : Tree V O) (d : S) → TurnsVacated s R o x.id x.leaf.prev x.leaf.next v w b d → u ≡ record w { head = record w.head { pairs = w.head.pairs - x.count } } → LowersRoot s R o t u a d
  gone_root w u d gone noted ps h =
      let k = gone.means h.1.is.tree.pages (last_shown ps h) in
      let z = k.2.0 (at_last_moved ps h) in
      let ids : SameIds w.head u.head =
      subst (λ (y : TreeHead). SameIds w.head y) (sym (ap (λ (y : Tree V O). y.head) noted)) (record { order = refl; leaf_limit = refl; node_limit = refl; leaf_ids = refl; node_ids = refl }) in (
        k.0,
        same_shows s R w u d (ap (λ (y : Tree V O). y.store) noted) (ap (λ (y : Tree V O). y.cache.pages) noted) (ap (λ (y : Tree V O). y.column) noted) ids k.0 k.1,
        λ lost. subst (λ (r : ℕ). IsLone k.0 r → ⊥) (sym (ap (λ (y : Tree V O). y.head.root) noted)) z.wide,
      )

  pub gone_pages : (w u : Tree V O) (d : S) → TurnsVacated s R o x.id x.leaf.prev x.leaf.next v w b d → Narrows s R v w b d → u ≡ record w { head = record w.head { pairs = w.head.pairs - x.count } } → WritesPages s R o (removed cmp all key) t u a d
  gone_pages w u d gone narrows noted ps h =
      let k = gone.means h.1.is.tree.pages (last_shown ps h) in (
        k.0,
        same_shows s R w u d (ap (λ (y : Tree V O). y.store) noted) (ap (λ (y : Tree V O). y.cache.pages) noted) (ap (λ (y : Tree V O). y.column) noted) (uncounted w u noted) k.0 k.1,
        λ id given none. k.2.1 id none,
        fills_none t.head u.head k.0 (ap (λ (y : Tree V O). y.head.leaf_ids) noted ∙ ap (λ (y : TreeHead). y.leaf_ids) narrows.head ∙ ap (λ (y : TreeHead). y.leaf_ids) stays.head)
            (ap (λ (y : Tree V O). y.head.node_ids) noted ∙ ap (λ (y : TreeHead). y.node_ids) narrows.head ∙ ap (λ (y : TreeHead). y.node_ids) stays.head),
        λ id p is. ⊎_elim (λ (old : h.1.is.tree.pages id ≡ Some p). inl old) (λ (left : IsRemnant v.head h.1.is.tree.pages p). inr (remnant_put ps h p left)) (k.2.2 id p is),
      )

  pub leaf_gone : x.leaf.items ≡ [] → (w u : Tree V O) (d : S) → TurnsVacated s R o x.id x.leaf.prev x.leaf.next v w b d → Narrows s R v w b d
      → u ≡ record w { head = record w.head { pairs = w.head.pairs - x.count } } → Changes s R o (removed cmp all key) t u a d
  leaf_gone none w u d gone narrows noted = record {
    sound = gone.sound;
    means = means;
    others = record { same = λ told g other. (others_at s _ _ b d looks.made.file gone.others).same told g other ∙ looks.reads.now told g };
  }
    where
      head_is : u.head ≡ record w.head { pairs = w.head.pairs - x.count }
      head_is = ap (λ (y : Tree V O). y.head) noted

      ids : SameIds w.head u.head
      ids = subst (λ (k : TreeHead). SameIds w.head k) (sym head_is) (record { order = refl; leaf_limit = refl; node_limit = refl; leaf_ids = refl; node_ids = refl })

      root : u.head.root ≡ w.head.root
      root = ap (λ (k : TreeHead). k.root) head_is

      pairs : w.head.pairs ≡ t.head.pairs
      pairs = ap (λ (k : TreeHead). k.pairs) narrows.head ∙ ap (λ (k : TreeHead). k.pairs) stays.head

      from_start : (ps : List Pair) (h : M t a ps) (new : PageMap) → Vacates (before_by cmp) x.id x.leaf.prev x.leaf.next v w h.1.is.tree.pages new
          → (l : AtLast (before_by cmp) t.head t.height v.path x.id x.leaf.prev x.leaf.next h.1.is.tree.pages) → Vacated (before_by cmp) w.head w.height l.found.front l.found.leaf l.found.back new
      from_start ps h new vac =
          subst (λ (k : TreeHead). (l : AtLast (before_by cmp) k t.height v.path x.id x.leaf.prev x.leaf.next h.1.is.tree.pages) → Vacated (before_by cmp) w.head w.height l.found.front l.found.leaf l.found.back new) stays.head
          (subst (λ (n : ℕ). (l : AtLast (before_by cmp) v.head n v.path x.id x.leaf.prev x.leaf.next h.1.is.tree.pages) → Vacated (before_by cmp) w.head w.height l.found.front l.found.leaf l.found.back new) stays.height vac.0)

      means : (ps : List Pair) → M t a ps → M u d (removed cmp all key ps)
      means ps h =
          let k = gone.means h.1.is.tree.pages (last_shown ps h) in
          let z : Vacated (before_by cmp) w.head w.height (f ps h).front (f ps h).leaf (f ps h).back k.0 = from_start ps h k.0 k.2 (at_last ps h) in
          let are : pairs_of z.after ≡ pairs_of (after ps h) = z.pairs ∙ ap (λ (xs : List Item). pairs_of ((f ps h).front ++ with_items (f ps h).leaf xs ∷ (f ps h).back)) (sym none) in
          means_of s R o u d k.0 z.after z.rows (removed cmp all key ps)
          (same_shows s R w u d (ap (λ (y : Tree V O). y.store) noted) (ap (λ (y : Tree V O). y.cache.pages) noted) (ap (λ (y : Tree V O). y.column) noted) ids k.0 k.1)
          (ap (λ (y : TreeHead). y.order) head_is ∙ ap (λ (y : TreeHead). y.order) narrows.head ∙ ap (λ (y : TreeHead). y.order) stays.head ∙ h.1.order)
          (subst (λ (r : ℕ). Stands (before_by cmp) k.0 r z.after z.rows) (sym root) z.stands)
          (ap (λ (y : Tree V O). y.height) noted ∙ z.high)
          (limits_moved w.head u.head k.0 k.0 ids (λ j. inl refl) (inl root) z.limits)
          (record { first = ap (λ (y : TreeHead). y.first) head_is ∙ z.links.first; last = ap (λ (y : TreeHead). y.last) head_is ∙ z.links.last; links = z.links.links })
          (omega (arith, ap (λ (y : TreeHead). y.pairs) head_is, pairs, count_left ps h, ap (λ (qs : List Pair). length qs) are))
          (sym (are ∙ pairs_left ps h))
