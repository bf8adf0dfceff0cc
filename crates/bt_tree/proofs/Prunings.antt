-- Places and nodes that go from the rows above a leaf, page by page.
use Rattle.std.proofs.Common.{◌≡◌, ◌⊎◌, ℕ, zero, suc, ◌-◌, ◌<◌, ◌≤◌, List, [], ◌∷◌, Some, None, length, map, refl, sym, ap, ◌∙◌, subst, inl, inr, ⊎_elim, arith, Option}
use Rattle.std.specs.List.{AllByRecursion, remove}
use Rattle.std.proofs.lemmas.Bool.{cases_eq}
use Rattle.std.proofs.lemmas.List.Edits.{length-remove}
use Rattle.tc_base.specs.declared.order.Order.{Ghosts as Orders}
use Rattle.tc_space.specs.Frames.{Reads, keeps_refl, keeps_then}
use Rattle.tc_space.specs.declared.records.Records.{Ghosts as Stores}
use Rattle.tc_space.specs.declared.space.Space.{Ghosts}
use Rattle.bt_page.specs.Limits.{NodeWithin}
use Rattle.bt_page.specs.declared.page.Node.{Node}
use Rattle.bt_page.specs.declared.page.NodeEntry.{NodeEntry}
use Rattle.bt_rows.specs.declared.head.TreeHead.{TreeHead}
use Rattle.bt_rows.specs.declared.page.LeafAt.{LeafAt}
use Rattle.bt_rows.specs.declared.page.Page.{Page}
use Rattle.bt_rows.specs.declared.page.Page.TheVariants.{Leaf as leaf_page, Node as node_page}
use Rattle.bt_rows.specs.declared.page.Slot.{Slot}
use Rattle.bt_rows.specs.Levels.{LeavesHeld, NodeAt, Stands, leaf_slot}
use Rattle.bt_rows.specs.Orders.{Before, before_by}
use Rattle.bt_rows.specs.Pages.{PageMap, IsGiven}
use Rattle.bt_rows.specs.Rows.{root_slot}
use Rattle.bt_cache.specs.Effects.{SameStore, same_store_refl, same_store_then}
use Rattle.bt_ways.specs.Removals.{CutsFrom, without_place}
use Rattle.bt_ways.specs.Writes.{drop_at, put_at}
use Rattle.bt_ways.proofs.Counts.{drops}
use Rattle.bt_ways.proofs.HeldWays.{WayAbove, root_node, way_dropped, way_node}
use Rattle.bt_ways.proofs.Keys.{all_map}
use Rattle.bt_ways.proofs.Removing.{node_goes, node_loses, root_is_alone}
use Rattle.bt_ways.proofs.RemovingRoots.{root_gives_way}
use Rattle.bt_tree.specs.declared.tree.Tree.{Tree}
use Rattle.bt_tree.specs.Climbing.{CanClimb, HasWay, IsAmong, NodesWithin, ShowsWay, StoodIn, entry_key}
use Rattle.bt_tree.specs.Paging.{HasNodeAt, IsNodeId, IsPageOf, IsShown, LacksThis, Peeks, PutsAt, Rewrites, Shows, StaysStill, Stood}
use Rattle.bt_tree.specs.Removing.{HasRows, InRows, IsHeir, IsLone, IsLowered, IsRemnant, LacksCut, Narrows, ShowsHeir, ShowsRows, Sinks, StaysNumbered, TurnsCut, TurnsSunk}
use Rattle.bt_tree.proofs.Entries.{keys_in, put_either}
use Rattle.bt_tree.proofs.Droppings.{SameIds, all_same, narrows_same, node_id_shown, remnant_after, same_shows}
use Rattle.bt_tree.proofs.Pagings.{IsMoved, looked_shows, moved_column, moved_head, moved_height, moved_pages, moved_store, others_at, same_store_at, seen_still, stood_at}

none_long : {X : Type 0} (xs : List X) → length xs ≡ 0 → xs ≡ []
none_long [] e = refl
none_long (x ∷ xs) e = absurd (omega (arith, e))

pub some_long : {X : Type 0} (xs : List X) (n : ℕ) → n ≡ length xs → (n ≡ 0 → ⊥) → 0 < length xs
some_long [] n e ne = absurd (ne e)
some_long (x ∷ xs) n e ne = omega arith

pub node_some : (p : Page) → None ≡ Some p → ⊥
node_some p e = cc

-- ---- one page less

pub dropped_was : (pages : PageMap) (id j : ℕ) (p : Page) → drop_at id pages j ≡ Some p → pages j ≡ Some p
dropped_was pages id j p is = ⊎_elim
    (λ (here : j ≡ id). absurd (node_some p (sym (ap (drop_at id pages) here ∙ (drops id pages).gone) ∙ is)))
    (λ (other : j ≡ id → ⊥). sym ((drops id pages).others j (λ e. absurd (other e))) ∙ is)
    (cases_eq j id)

drop_none : (pages : PageMap) (id j : ℕ) → pages j ≡ None → drop_at id pages j ≡ None
drop_none pages id j none = ⊎_elim
    (λ (here : j ≡ id). ap (drop_at id pages) here ∙ (drops id pages).gone)
    (λ (other : j ≡ id → ⊥). (drops id pages).others j (λ e. absurd (other e)) ∙ none)
    (cases_eq j id)

pub remnant_dropped : (h k : TreeHead) (pages : PageMap) (id : ℕ) (p : Page) → k.node_limit ≡ h.node_limit → IsRemnant k (drop_at id pages) p → IsRemnant h pages p
remnant_dropped h k pages id (leaf_page l) e (inl none) = inl none
remnant_dropped h k pages id (leaf_page l) e (inr r) = inr (record { id = r.id; was = r.was; there = dropped_was pages id r.id (leaf_page r.was) r.there; same = r.same })
remnant_dropped h k pages id (node_page n) e known = (
  omega (arith, known.0, e),
  all_map (λ (x : NodeEntry). StoodIn (drop_at id pages) x.key) (λ (x : NodeEntry). StoodIn pages x.key) n.entries
      (λ x stood. record { id = stood.id; node = stood.node; is = dropped_was pages id stood.id (node_page stood.node) stood.is; among = stood.among }) known.1,
  record { id = known.2.id; place = known.2.place; was = known.2.was; there = dropped_was pages id known.2.id (node_page known.2.was) known.2.there; is = known.2.is },
)

less_within : (limit place : ℕ) (n : Node) → 0 < length n.entries → place ≤ length n.entries → NodeWithin limit n → NodeWithin limit (without_place place n)
less_within limit zero n some le within = omega (arith, within, length-remove n.entries 0 some)
less_within limit (suc i) n some le within = omega (arith, within, length-remove n.entries i (omega (arith, le)))

-- the entries that are left are among those that were there
less_among : (n : Node) (es : List NodeEntry) (i : ℕ) → AllByRecursion (λ e. IsAmong entry_key e.key n.entries) es → AllByRecursion (λ e. IsAmong entry_key e.key n.entries) (remove es i)
less_among n [] zero all = tt
less_among n [] (suc i) all = tt
less_among n (e ∷ es) zero all = all.1
less_among n (e ∷ es) (suc i) all = (all.0, less_among n es i all.1)

pub less_keys : (place : ℕ) (n : Node) → AllByRecursion (λ e. IsAmong entry_key e.key n.entries) (without_place place n).entries
less_keys zero n = less_among n n.entries 0 (keys_in [] n.entries)
less_keys (suc i) n = less_among n n.entries i (keys_in [] n.entries)

-- so a node without a place is what is left where a leaf goes
pub less_remnant : (h : TreeHead) (pages : PageMap) (id place : ℕ) (n : Node) → pages id ≡ Some (node_page n) → 0 < length n.entries → place ≤ length n.entries → NodeWithin h.node_limit n → IsRemnant h pages (node_page (without_place place n))
less_remnant h pages id place n is some le within = (
  less_within h.node_limit place n some le within,
  all_map (λ (e : NodeEntry). IsAmong entry_key e.key n.entries) (λ (e : NodeEntry). StoodIn pages e.key) (without_place place n).entries (λ e among. record { id = id; node = n; is = is; among = among }) (less_keys place n),
  record { id = id; place = place; was = n; there = is; is = refl },
)

-- ---- along the way

-- from t on some nodes have gone: what cuts the place that v's way leads to cuts that of t's, and where there is no room for the one there is none for the other
pub record IsCutting {S V O : Type 0} (s : Ghosts S) (R : Stores V S) (t v : Tree V O) (a b : S) : Type 0 where
  pub ready : HasWay s R v b
  pub rest : (u : Tree V O) (c : S) → TurnsCut s R v u b c → TurnsCut s R t u a c
  pub full : (c : S) → LacksCut s R v b c → LacksCut s R t a c
  pub narrows : Narrows s R t v a b
  pub same : StaysNumbered t v

pub cuts_begin : {S V O : Type 0} (s : Ghosts S) (R : Stores V S) (t : Tree V O) (a : S) → HasWay s R t a → IsCutting s R t t a a
cuts_begin s R t a ready = record { ready = ready; rest = λ u c cut. cut; full = λ c l. l; narrows = narrows_same s R t t a a (keeps_refl s a) (same_store_refl R t.store) refl (refl, refl); same = (refl, refl) }

module _ {S V O : Type 0} (s : Ghosts S) (R : Stores V S) where
  pub way_end : (t u : Tree V O) (a : S) → s.sound a → t.path ≡ [] → u.store ≡ t.store → u.cache.pages ≡ t.cache.pages → u.column ≡ t.column → u.head ≡ t.head → TurnsCut s R t u a a
  way_end t u a sound none store cache column head = record {
    sound = sound;
    means = λ pages h. (
      pages,
      same_shows s R t u a store cache column (all_same t.head u.head head) pages h.0,
      (subst (λ (p : List (ℕ × ℕ)). CutsFrom t.head.node_limit pages pages t.head.root p) (sym none) (root_is_alone t.head.node_limit pages t.head.root), λ j p is. inl is),
    );
    others = record { same = λ told g other. refl };
  }

  -- t at the start, r without the lowest step of its way
  module _ (t r : Tree V O) (a : S) (id place : ℕ) (rest : List (ℕ × ℕ)) (e : t.path ≡ (id, place) ∷ rest) (without : IsMoved t r rest) where
    start : (pages : PageMap) → Shows s R t a pages → Shows s R r a pages
    start pages h =
        same_shows s R t r a (moved_store t r rest without) (moved_pages t r rest without) (moved_column t r rest without) (all_same t.head r.head (moved_head t r rest without)) pages h

    pub way_ready : HasWay s R t a → IsShown s R r a
    way_ready ready = record { sound = ready.sound; held = λ told. let h = ready.held told in (h.0, start h.0 h.1.0) }

    pub lowest_there : HasWay s R t a → HasNodeAt s R id r a
    lowest_there ready = λ told.
        let h = ready.held told in
        let n = way_node h.0 t.head.root id place rest h.1.1.crumbs h.1.1.place (sym e ∙ h.1.1.along) h.1.1.way in
        (h.0, n.0, start h.0 h.1.0, n.1)

  -- v once the lowest node was read
  module _ (t r v : Tree V O) (a b : S) (id place : ℕ) (rest : List (ℕ × ℕ)) (e : t.path ≡ (id, place) ∷ rest) (without : IsMoved t r rest) (peeks : Peeks s R r v a b) (read : Node) (is_read : IsPageOf s R node_page id r a read) where
    now : (pages : PageMap) → Shows s R t a pages → Shows s R v b pages
    now pages h = looked_shows s R r v a b peeks.looks peeks.still.head peeks.still.column pages (start t r a id place rest e without pages h)

    same_made : SameStore R t.store v.store
    same_made = same_store_then R t.store r.store v.store (same_store_at s R t.store r.store (moved_store t r rest without)) peeks.still.made

    same_column : v.column ≡ t.column
    same_column = peeks.still.column ∙ moved_column t r rest without

    same_head : v.head ≡ t.head
    same_head = peeks.still.head ∙ moved_head t r rest without

    rest_left : v.path ≡ rest
    rest_left = peeks.still.path ∙ without.way

    here : (pages : PageMap) → ShowsWay s R t a pages → pages id ≡ Some (node_page read)
    here pages h =
        let n = way_node pages t.head.root id place rest h.1.crumbs h.1.place (sym e ∙ h.1.along) h.1.way in
        n.1 ∙ ap (λ (m : Node). Some (node_page m)) (sym (is_read pages n.0 (start t r a id place rest e without pages h.0) n.1))

    pub read_ready : HasWay s R t a → IsShown s R v b
    read_ready ready = record { sound = peeks.looks.reads.sound; held = λ told. let h = ready.held told in (h.0, now h.0 h.1.0) }

    pub lowest_id : HasWay s R t a → s.tells → IsNodeId v.head id
    lowest_id ready told = let h = ready.held told in node_id_shown s R v b h.0 id read (now h.0 h.1.0) (here h.0 h.1)

    pub lowest_given : HasWay s R t a → s.tells → IsGiven v.head id
    lowest_given ready told = inr (lowest_id ready told)

    -- it has other places
    module _ (some : 0 < length read.entries) (le : place ≤ length read.entries) where
      pub way_lost : (u : Tree V O) (d : S) → PutsAt s R id (node_page (without_place place read)) v u b d → TurnsCut s R t u a d
      way_lost u d writes = record {
        sound = writes.sound;
        means = λ pages h. (
          put_at id (node_page (without_place place read)) pages,
          writes.means pages (now pages h.0),
          (
            subst (λ (p : List (ℕ × ℕ)). CutsFrom t.head.node_limit pages (put_at id (node_page (without_place place read)) pages) t.head.root p) (sym e)
                (node_loses t.head.node_limit pages t.head.root id place rest read (here pages h) some (less_within t.head.node_limit place read some le (h.1.within id read (here pages h)))),
            λ j p is. ⊎_elim
                (λ (own : p ≡ node_page (without_place place read)). inr (subst (λ (q : Page). IsRemnant t.head pages q) (sym own) (less_remnant t.head pages id place read (here pages h) some le (h.1.within id read (here pages h)))))
                (λ (old : pages j ≡ Some p). inl old)
                (put_either pages id j (node_page (without_place place read)) p is),
          ),
        );
        others = record { same = λ told g other. (others_at s _ _ b d same_made.file writes.others).same told g other ∙ peeks.looks.reads.now told g };
      }

      pub lost_full : (d : S) → LacksThis s R id (node_page (without_place place read)) v b d → LacksCut s R t a d
      lost_full d l =
          inl (seen_still s R (Shows s R v b) (ShowsWay s R t a) (λ pages i. i ≡ id) Stood (λ pages p. p ≡ node_page (without_place place read)) (IsRemnant t.head) t v a b d peeks.looks.keeps same_made same_column (λ pages h. now pages h.0) (λ pages h i e. stood_at pages id i (node_page read) (here pages h) e)
          (λ p pages h is. subst (λ (q : Page). IsRemnant t.head pages q) (sym is) (less_remnant t.head pages id place read (here pages h) some le (h.1.within id read (here pages h)))) l)

    -- it has this place alone, and goes
    module _ (none : length read.entries ≡ 0) (w : Tree V O) (d : S) (out : Rewrites s R (drop_at id) v w b d) (still : StaysStill s R v w b d) where
      made_on : SameStore R t.store w.store
      made_on = same_store_then R t.store v.store w.store same_made still.made

      head_on : w.head ≡ t.head
      head_on = still.head ∙ same_head

      rest_on : w.path ≡ rest
      rest_on = still.path ∙ rest_left

      above : (pages : PageMap) → ShowsWay s R t a pages → CanClimb w.head.node_limit (drop_at id pages) w.head.root w.path
      above pages h =
          let k : WayAbove (drop_at id pages) t.head.root rest = way_dropped pages t.head.root id place rest h.1.crumbs h.1.place (sym e ∙ h.1.along) h.1.way in
          let within : NodesWithin t.head.node_limit (drop_at id pages) = λ j n is. h.1.within j n (dropped_was pages id j (node_page n) is) in
          let at : CanClimb t.head.node_limit (drop_at id pages) t.head.root rest = record { crumbs = k.crumbs; place = k.place; along = k.along; way = k.way; within = within } in
          subst (λ (x : TreeHead). CanClimb x.node_limit (drop_at id pages) x.root w.path) (sym head_on) (subst (λ (p : List (ℕ × ℕ)). CanClimb t.head.node_limit (drop_at id pages) t.head.root p) (sym rest_on) at)

      shows_above : (pages : PageMap) → ShowsWay s R t a pages → ShowsWay s R w d (drop_at id pages)
      shows_above pages h = (out.means pages (now pages h.0), above pages h)

      pub above_ready : HasWay s R t a → HasWay s R w d
      above_ready ready = record { sound = out.sound; held = λ told. let h = ready.held told in (drop_at id h.0, shows_above h.0 h.1) }

      pub way_gone : (u : Tree V O) (f : S) → TurnsCut s R w u d f → TurnsCut s R t u a f
      way_gone u f rest_cut = record {
        sound = rest_cut.sound;
        means = λ pages h.
            let k = rest_cut.means (drop_at id pages) (shows_above pages h) in
            let cut : CutsFrom t.head.node_limit (drop_at id pages) k.0 t.head.root rest =
            subst (λ (p : List (ℕ × ℕ)). CutsFrom t.head.node_limit (drop_at id pages) k.0 t.head.root p) rest_on (subst (λ (x : TreeHead). CutsFrom x.node_limit (drop_at id pages) k.0 x.root w.path) head_on k.2.0) in (
              k.0,
              k.1,
              (
                subst (λ (p : List (ℕ × ℕ)). CutsFrom t.head.node_limit pages k.0 t.head.root p) (sym e) (node_goes t.head.node_limit pages k.0 t.head.root id place rest read (here pages h) (none_long read.entries none) cut),
                λ j p is. ⊎_elim
                    (λ (old : drop_at id pages j ≡ Some p). inl (dropped_was pages id j p old))
                    (λ (left : IsRemnant w.head (drop_at id pages) p). inr (remnant_dropped t.head w.head pages id p (ap (λ (x : TreeHead). x.node_limit) head_on) left))
                    (k.2.1 j p is),
              ),
            );
        others = record {
          same = λ told g other.
              (others_at s _ _ d f made_on.file rest_cut.others).same told g other ∙ (others_at s _ _ b d same_made.file out.others).same told g other ∙ peeks.looks.reads.now told g;
        };
      }

      pub gone_full : (f : S) → LacksCut s R w d f → LacksCut s R t a f
      gone_full f l =
          remnant_after s R (ShowsWay s R) (ShowsWay s R) t w a d f (keeps_then s a b d peeks.looks.keeps still.keeps) made_on (still.column ∙ same_column)
          (λ pages h. record {
            seen = (drop_at id pages, shows_above pages h);
            own = λ i stood none. stood (drop_none pages id i none);
            was = λ j p is. inl (dropped_was pages id j p is);
            fine = λ p left. remnant_dropped t.head w.head pages id p (ap (λ (x : TreeHead). x.node_limit) head_on) left;
          }) l

      pub cuts_on : (q : Tree V O) (z : S) → IsCutting s R q t z a → IsCutting s R q w z d
      cuts_on q z g =
          let column : w.column ≡ q.column = still.column ∙ peeks.still.column ∙ moved_column t r rest without ∙ g.narrows.column in
          let same : StaysNumbered q w = (head_on ∙ g.same.0, still.height ∙ peeks.still.height ∙ moved_height t r rest without ∙ g.same.1) in
          record {
            ready = above_ready g.ready;
            rest = λ u f cut. g.rest u f (way_gone u f cut);
            full = λ f l. g.full f (gone_full f l);
            narrows = narrows_same s R q w z d (keeps_then s z a d g.narrows.keeps (keeps_then s a b d peeks.looks.keeps still.keeps)) (same_store_then R q.store t.store w.store g.narrows.made made_on) column same;
            same = same;
          }

-- ---- the root

-- where a second row is, it is a node
root_is_node : (before : Before) (pages : PageMap) (root height : ℕ) → InRows before root height pages → (height < 2 → ⊥) → (n : Node) × (pages root ≡ Some (node_page n))
root_is_node before pages root height r high = go r.leaves r.levels r.stands r.high
  where
    go : (leaves : List LeafAt) (levels : List (List NodeAt)) → Stands before pages root leaves levels → height ≡ suc (length levels) → (n : Node) × (pages root ≡ Some (node_page n))
    go leaves [] st e = absurd (high (omega (arith, e)))
    go leaves (L ∷ Ls) st e = root_node pages root L Ls (map leaf_slot leaves) st.up st.nodes_held

suc_same : (m n : ℕ) → suc m ≡ suc n → m ≡ n
suc_same m n e = omega (arith, e)

pub heir_on : (heir : Option ℕ) (d v n : Node) → d ≡ v → v ≡ n → IsHeir d heir → IsHeir n heir
heir_on heir d v n e f h = subst (λ (x : Node). IsHeir x heir) (e ∙ f) h

pub sinks_none : (before : Before) (height root : ℕ) (pages : PageMap) → (IsLone pages root → ⊥) → Sinks before height height root root pages pages
sinks_none before height root pages wide = record { fewer = λ j. inl refl; moved = inl refl; wide = wide; stands = λ leaves levels st e. (levels, st, e) }

-- the only row is a leaf
leaf_root : (before : Before) (pages : PageMap) (root height : ℕ) → height < 2 → InRows before root height pages → IsLone pages root → ⊥
leaf_root before pages root height low r l = go r.leaves r.levels r.stands r.high
  where
    one : (ls : List LeafAt) → map leaf_slot ls ≡ root_slot root ∷ [] → (k : LeafAt) × (rest : List LeafAt) × (ls ≡ k ∷ rest) × (k.slot.id ≡ root)
    one [] e = absurd (cc)
    one (k ∷ rest) e = (k, rest, refl, first (leaf_slot k) (map leaf_slot rest) e)
      where
        first : (x : Slot) (xs : List Slot) → x ∷ xs ≡ root_slot root ∷ [] → x.id ≡ root
        first x xs e = let same : x ≡ root_slot root = cc in ap (λ (y : Slot). y.id) same

    clash : (k : LeafAt) → ◌≡◌ {A = Option Page} (Some (leaf_page k.leaf)) (Some (node_page l.node)) → ⊥
    clash k e = cc

    go : (leaves : List LeafAt) (levels : List (List NodeAt)) → Stands before pages root leaves levels → height ≡ suc (length levels) → ⊥
    go leaves [] st e =
        let k = one leaves st.up in
        let held : LeavesHeld pages (k.0 ∷ k.1) = subst (λ (ls : List LeafAt). LeavesHeld pages ls) k.2 st.leaves_held in
        clash k.0 (sym held.0 ∙ ap pages k.3 ∙ l.there)
    go leaves (L ∷ Ls) st e = omega (arith, low, e)

-- it goes, and others behind it
sinks_more : (before : Before) (height below height' root root' : ℕ) (pages new : PageMap) (n : Node) → pages root ≡ Some (node_page n) → n.entries ≡ [] → height ≡ suc below → Sinks before below height' n.heir root' (drop_at root pages) new
    → Sinks before height height' root root' pages new
sinks_more before height below height' root root' pages new n is none one rest = record {
  fewer = λ j. go j (rest.fewer j);
  moved = inr (n, is);
  wide = rest.wide;
  stands = λ leaves levels st e.
      let way = root_gives_way before pages root leaves levels n st is none in
      rest.stands leaves way.0 way.1 (suc_same below (suc (length way.0)) (sym one ∙ e ∙ ap suc way.2));
}
  where
    go : (j : ℕ) → (new j ≡ drop_at root pages j) ⊎ (new j ≡ None) → (new j ≡ pages j) ⊎ (new j ≡ None)
    go j (inr e) = inr e
    go j (inl e) = ⊎_elim (λ (here : j ≡ root). inr (e ∙ ap (drop_at root pages) here ∙ (drops root pages).gone)) (λ (other : j ≡ root → ⊥). inl (e ∙ (drops root pages).others j (λ x. absurd (other x)))) (cases_eq j root)

module _ {S V O : Type 0} (s : Ghosts S) (R : Stores V S) where
  peeked_reads : (t u : Tree V O) (a b : S) → Peeks s R t u a b → Reads s (Shows s R) t u a b
  peeked_reads t u a b peeks = record {
    now = peeks.looks.reads.now;
    touched = peeks.looks.reads.touched;
    sound = peeks.looks.reads.sound;
    means = looked_shows s R t u a b peeks.looks peeks.still.head peeks.still.column;
  }

narrow_lowered : (h k m : TreeHead) (root : ℕ) → m ≡ record k { root = root } → k ≡ record h { root = k.root; first = k.first; last = k.last } → m ≡ record h { root = m.root; first = m.first; last = m.last }
narrow_lowered h k m root e narrow = subst (λ (x : TreeHead). x ≡ record h { root = x.root; first = x.first; last = x.last }) (sym e) (ap (λ (x : TreeHead). record x { root = root }) narrow)

module _ {S V O : Type 0} (s : Ghosts S) (R : Stores V S) (o : Orders O) where
  pub rows_ready : (t : Tree V O) (a : S) → HasRows s R o t a → IsShown s R t a
  rows_ready t a ready = record { sound = ready.sound; held = λ told. let h = ready.held told in (h.0, h.1.0) }

  pub root_there : (t : Tree V O) (a : S) → (t.height < 2 → ⊥) → HasRows s R o t a → HasNodeAt s R t.head.root t a
  root_there t a high ready = λ told. let h = ready.held told in let n = root_is_node (before_by o.cmp) h.0 t.head.root t.height h.1.1 high in (h.0, n.0, h.1.0, n.1)

  pub sunk_none : (t u : Tree V O) (a b : S) → Peeks s R t u a b → ShowsHeir s R t.head.root t a None → TurnsSunk s R o t u a b
  sunk_none t u a b peeks more = record {
    sound = peeks.looks.reads.sound;
    means = λ pages h. (
      pages,
      (peeked_reads s R t u a b peeks).means pages h.0,
      subst (λ (n : ℕ). Sinks (before_by o.cmp) t.height n t.head.root u.head.root pages pages) (sym peeks.still.height)
          (subst (λ (n : ℕ). Sinks (before_by o.cmp) t.height t.height t.head.root n pages pages) (sym (ap (λ (h : TreeHead). h.root) peeks.still.head)) (sinks_none (before_by o.cmp) t.height t.head.root pages (not_lone pages h.0))),
    );
    others = record { same = λ told g other. peeks.looks.reads.now told g };
  }
    where
      not_lone : (pages : PageMap) → Shows s R t a pages → IsLone pages t.head.root → ⊥
      not_lone pages h l = let some : 0 < length l.node.entries = more pages l.node h l.there in omega (arith, some, ap (λ (es : List NodeEntry). length es) l.alone)

  pub sunk_still : (t : Tree V O) (a : S) → s.sound a → t.height < 2 → TurnsSunk s R o t t a a
  sunk_still t a sound low = record {
    sound = sound;
    means = λ pages h. (pages, h.0, sinks_none (before_by o.cmp) t.height t.head.root pages (leaf_root (before_by o.cmp) pages t.head.root t.height low h.1));
    others = record { same = λ told g other. refl };
  }

  -- from t on some roots have gone: what makes v sink makes t sink
  pub record IsSinking (t v : Tree V O) (a b : S) : Type 0 where
    pub ready : HasRows s R o v b
    pub rest : (u : Tree V O) (c : S) → TurnsSunk s R o v u b c → TurnsSunk s R o t u a c
    pub narrows : Narrows s R t v a b
    pub ends : (v.head.first ≡ t.head.first) × (v.head.last ≡ t.head.last)

  pub sinks_begin : (t : Tree V O) (a : S) → HasRows s R o t a → IsSinking t t a a
  sinks_begin t a ready = record { ready = ready; rest = λ u c sunk. sunk; narrows = narrows_same s R t t a a (keeps_refl s a) (same_store_refl R t.store) refl (refl, refl); ends = (refl, refl) }

  -- t at the start, v once the root was read
  module _ (t v : Tree V O) (a b : S) (high : t.height < 2 → ⊥) (peeks : Peeks s R t v a b) (heir : ℕ) (is_heir : ShowsHeir s R t.head.root t a (Some heir)) where
    reads : Reads s (Shows s R) t v a b
    reads = peeked_reads s R t v a b peeks

    pub sink_ready : HasRows s R o t a → IsShown s R v b
    sink_ready ready = record { sound = reads.sound; held = λ told. let h = ready.held told in (h.0, reads.means h.0 h.1.0) }

    pub root_given : HasRows s R o t a → s.tells → IsGiven v.head t.head.root
    root_given ready told = let h = ready.held told in let n = root_is_node (before_by o.cmp) h.0 t.head.root t.height h.1.1 high in inr (node_id_shown s R v b h.0 t.head.root n.0 (reads.means h.0 h.1.0) n.1)

    -- w without it, x under its heir
    module _ (w x : Tree V O) (d : S) (out : Rewrites s R (drop_at t.head.root) v w b d) (still : StaysStill s R v w b d) (lowered : IsLowered heir w x) where
      store : x.store ≡ w.store
      store = lowered.store

      file : R.file_of x.store ≡ R.file_of t.store
      file = ap R.file_of store ∙ still.made.file ∙ peeks.still.made.file

      root : x.head.root ≡ heir
      root = ap (λ (h : TreeHead). h.root) lowered.head

      height : x.height ≡ t.height - 1
      height = lowered.height ∙ ap (λ (n : ℕ). n - 1) (still.height ∙ peeks.still.height)

      ids : SameIds w.head x.head
      ids = subst (λ (h : TreeHead). SameIds w.head h) (sym lowered.head) (record { order = refl; leaf_limit = refl; node_limit = refl; leaf_ids = refl; node_ids = refl })

      one : t.height ≡ suc x.height
      one = go t.height refl
        where
          go : (n : ℕ) → t.height ≡ n → t.height ≡ suc x.height
          go zero e = absurd (high (omega (arith, e)))
          go (suc n) e = omega (arith, e, height)

      below : (pages : PageMap) → ShowsRows s R (before_by o.cmp) t a pages → Shows s R x d (drop_at t.head.root pages)
      below pages h = same_shows s R w x d store (ap (λ c. c.pages) lowered.cache) lowered.column ids (drop_at t.head.root pages) (out.means pages (reads.means pages h.0))

      rows_below : (pages : PageMap) → ShowsRows s R (before_by o.cmp) t a pages → InRows (before_by o.cmp) x.head.root x.height (drop_at t.head.root pages)
      rows_below pages h =
          let n = root_is_node (before_by o.cmp) pages t.head.root t.height h.1 high in
          let heir_is = is_heir pages n.0 h.0 n.1 in
          let way = root_gives_way (before_by o.cmp) pages t.head.root h.1.leaves h.1.levels n.0 h.1.stands n.1 heir_is.0 in
          record {
            leaves = h.1.leaves;
            levels = way.0;
            stands = subst (λ (r : ℕ). Stands (before_by o.cmp) (drop_at t.head.root pages) r h.1.leaves way.0) (sym (root ∙ heir_is.1)) way.1;
            high = suc_same x.height (suc (length way.0)) (sym one ∙ h.1.high ∙ ap suc way.2);
          }

      pub below_ready : HasRows s R o t a → HasRows s R o x d
      below_ready ready = record { sound = out.sound; held = λ told. let h = ready.held told in (drop_at t.head.root h.0, (below h.0 h.1, rows_below h.0 h.1)) }

      pub sunk_more : (u : Tree V O) (f : S) → TurnsSunk s R o x u d f → TurnsSunk s R o t u a f
      sunk_more u f rest = record {
        sound = rest.sound;
        means = λ pages h.
            let n = root_is_node (before_by o.cmp) pages t.head.root t.height h.1 high in
            let heir_is = is_heir pages n.0 h.0 n.1 in
            let k = rest.means (drop_at t.head.root pages) (below pages h, rows_below pages h) in
            let sinks : Sinks (before_by o.cmp) x.height u.height n.0.heir u.head.root (drop_at t.head.root pages) k.0 = subst (λ (r : ℕ). Sinks (before_by o.cmp) x.height u.height r u.head.root (drop_at t.head.root pages) k.0) (root ∙ heir_is.1) k.2 in
            (k.0, k.1, sinks_more (before_by o.cmp) t.height x.height u.height t.head.root u.head.root pages k.0 n.0 n.1 heir_is.0 one sinks);
        others = record {
          same = λ told g other.
              (others_at s _ _ d f file rest.others).same told g other ∙ (others_at s _ _ b d peeks.still.made.file out.others).same told g other ∙ reads.now told g;
        };
      }

      pub sinks_on : (q : Tree V O) (e : S) → IsSinking q t e a → IsSinking q x e d
      sinks_on q e g = record {
        ready = below_ready g.ready;
        rest = λ u f sunk. g.rest u f (sunk_more u f sunk);
        narrows = record {
          keeps = keeps_then s e a d g.narrows.keeps (keeps_then s a b d peeks.still.keeps still.keeps);
          made = subst (λ (y : V). SameStore R q.store y) (sym store) (same_store_then R q.store v.store w.store (same_store_then R q.store t.store v.store g.narrows.made peeks.still.made) still.made);
          column = lowered.column ∙ still.column ∙ peeks.still.column ∙ g.narrows.column;
          head = narrow_lowered q.head w.head x.head heir lowered.head (subst (λ (h : TreeHead). h ≡ record q.head { root = h.root; first = h.first; last = h.last }) (sym (still.head ∙ peeks.still.head)) g.narrows.head);
          rows = omega (arith, height, g.narrows.rows);
        };
        ends = (
          ap (λ (h : TreeHead). h.first) lowered.head ∙ ap (λ (h : TreeHead). h.first) (still.head ∙ peeks.still.head) ∙ g.ends.0,
          ap (λ (h : TreeHead). h.last) lowered.head ∙ ap (λ (h : TreeHead). h.last) (still.head ∙ peeks.still.head) ∙ g.ends.1,
        );
      }
