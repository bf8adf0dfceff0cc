-- A leaf with no items, taken out of a tree page by page.
use Rattle.std.proofs.Common.{◌≡◌, ◌≢◌, ◌⊎◌, ℕ, suc, List, [], ◌∷◌, ◌++◌, Bool, true, false, Option, Some, None, length, refl, sym, ap, ◌∙◌, subst, inl, inr, ⊎_elim, arith}
use Rattle.std.specs.Prelude.{◌==◌, if◌then◌else◌, is_some}
use Rattle.std.specs.List.{AllByRecursion}
use Rattle.std.proofs.lemmas.Bool.{cases_eq}
use Rattle.tc_base.specs.declared.order.Order.{Ghosts as Orders}
use Rattle.tc_space.specs.Frames.{keeps_refl}
use Rattle.tc_space.specs.declared.records.Records.{Ghosts as Stores}
use Rattle.tc_space.specs.declared.space.Space.{Ghosts}
use Rattle.bt_page.specs.Limits.{NodeWithin}
use Rattle.bt_page.specs.declared.page.Leaf.{Leaf}
use Rattle.bt_page.specs.declared.page.Node.{Node}
use Rattle.bt_page.specs.declared.page.NodeEntry.{NodeEntry}
use Rattle.bt_rows.specs.declared.head.TreeHead.{TreeHead}
use Rattle.bt_rows.specs.declared.page.LeafAt.{LeafAt}
use Rattle.bt_rows.specs.declared.page.Page.{Page}
use Rattle.bt_rows.specs.declared.page.Page.TheVariants.{Leaf as leaf_page, Node as node_page}
use Rattle.bt_rows.specs.Levels.{NodeAt, NodesHeld, LevelsHeld, Stands}
use Rattle.bt_rows.specs.Orders.{IsOrder, before_by}
use Rattle.bt_rows.specs.Pages.{PageMap, IsGiven}
use Rattle.bt_rows.specs.Rows.{root_slot, held}
use Rattle.bt_rows.specs.Rules.{B5, IsWithin, LeafLimits, pairs_of}
use Rattle.bt_cache.specs.Effects.{same_store_refl}
use Rattle.bt_ways.specs.Climbs.{IsHeldWay}
use Rattle.bt_ways.specs.Removals.{CutsFrom, LeavesAfter, OnlyFewer, no_items, page_next, page_prev, with_items, with_next, with_prev, without_leaf, without_way}
use Rattle.bt_ways.specs.Ways.{Crumb, path_of, rows_of}
use Rattle.bt_ways.specs.Writes.{drop_at, put_at}
use Rattle.bt_ways.proofs.Climbing.{held_in_row}
use Rattle.bt_ways.proofs.Counts.{drops, puts, times_none}
use Rattle.bt_ways.proofs.HeldWays.{before_there, behind_there, found_page, found_way}
use Rattle.bt_ways.proofs.Keys.{all_map}
use Rattle.bt_ways.proofs.RemovingLeaves.{leaf_goes}
use Rattle.bt_ways.proofs.RemovingLimits.{fewer_within, without_within}
use Rattle.bt_ways.proofs.RemovingLinks.{next_zero, none_front, none_back}
use Rattle.bt_ways.proofs.RemovingRoots.{only_leaf_empties}
use Rattle.bt_tree.specs.declared.tree.Tree.{Tree}
use Rattle.bt_tree.specs.Climbing.{CanClimb, HasWay, NodesWithin, ShowsWay, StoodIn}
use Rattle.bt_tree.specs.Paging.{ComesNone, HasLeafAt, IsLeafId, IsPageOf, IsShown, LacksThis, Peeks, PutsAt, Rewrites, Shows, Stood}
use Rattle.bt_tree.specs.Removing.{AtLast, Cuts, HasLast, HasLink, HasLinks, HasRows, InRows, IsRemnant, LacksCut, LacksLast, LacksLink, LacksLinks, Narrows, ShowsLast, ShowsLink, ShowsLinks, SinksTo, StaysBeside, StaysNumbered, TurnsCut, TurnsLinked, TurnsSunk, TurnsUnlinked, TurnsVacated, Vacated, WritesRemnants, first_after, last_after, without_linked}
use Rattle.bt_tree.proofs.Entries.{put_either}
use Rattle.bt_tree.proofs.Droppings.{SameIds, given_same, leaf_id_shown, narrow_ids, node_id_shown, none_at_zero, remnant_after, same_shows}
use Rattle.bt_tree.proofs.Pagings.{looked_shows, old_or, others_at, seen_after, seen_still, stood_at, stood_was}
use Rattle.bt_tree.proofs.Prunings.{dropped_was, node_some}

-- ---- no page comes

either_none : (b : Bool) (p q : Option Page) → p ≡ None → q ≡ None → (if b then p else q) ≡ None
either_none true p q x y = x
either_none false p q x y = y

none_unlinked : (id prev next : ℕ) (pages : PageMap) → ComesNone pages (without_linked id prev next pages)
none_unlinked id prev next pages j none =
    let first : with_next prev next pages j ≡ None = next_zero prev next j pages none in
    let second : with_prev next prev (with_next prev next pages) j ≡ None = either_none (j == next) (page_prev prev (with_next prev next pages j)) (with_next prev next pages j) (ap (page_prev prev) first) first in
    either_none (j == id) None (with_prev next prev (with_next prev next pages) j) refl second

none_fewer : (limit : ℕ) (old new : PageMap) → OnlyFewer limit old new → ComesNone old new
none_fewer limit old new fewer j none = ⊎_elim
    (λ (same : new j ≡ old j). same ∙ none)
    (λ other. ⊎_elim (λ (gone : new j ≡ None). gone) (λ node. absurd (clash node.0 (sym none ∙ node.2))) other)
    (fewer j)
  where
    clash : (n : Node) → ◌≡◌ {A = Option Page} None (Some (node_page n)) → ⊥
    clash n e = cc

none_sunk : (old new : PageMap) → ((id : ℕ) → (new id ≡ old id) ⊎ (new id ≡ None)) → ComesNone old new
none_sunk old new fewer j none = ⊎_elim (λ (same : new j ≡ old j). same ∙ none) (λ (gone : new j ≡ None). gone) (fewer j)

none_way : (path : List (ℕ × ℕ)) (pages : PageMap) → ComesNone pages (without_way path pages)
none_way [] pages j none = none
none_way (step ∷ path) pages j none = none_way path (drop_at step.0 pages) j (either_none (j == step.0) None (pages j) refl none)

-- ---- pages of which one is linked otherwise

-- leaves stay leaves with their items, and nodes stay
pub record IsRelink (f : PageMap → PageMap) : Type 0 where
  pub leaf_on : (pages : PageMap) (j : ℕ) (l : Leaf) → pages j ≡ Some (leaf_page l) → (k : Leaf) × (f pages j ≡ Some (leaf_page k))
  pub leaf_was : (pages : PageMap) (j : ℕ) (k : Leaf) → f pages j ≡ Some (leaf_page k) → (l : Leaf) × (pages j ≡ Some (leaf_page l)) × (k.items ≡ l.items)
  pub node_on : (pages : PageMap) (j : ℕ) (n : Node) → pages j ≡ Some (node_page n) → f pages j ≡ Some (node_page n)
  pub node_was : (pages : PageMap) (j : ℕ) (n : Node) → f pages j ≡ Some (node_page n) → pages j ≡ Some (node_page n)

abbrev pages_at : Bool → Option Page → Option Page → Option Page
pages_at b p q = if b then p else q

pub next_relinks : (id next : ℕ) → IsRelink (with_next id next)
next_relinks id next = record {
  leaf_on = λ pages j l is. leaf (j == id) (pages j) l is;
  leaf_was = λ pages j k is. was (j == id) (pages j) k is;
  node_on = λ pages j n is. node (j == id) (pages j) n is;
  node_was = λ pages j n is. back (j == id) (pages j) n is;
}
  where
    leaf : (b : Bool) (p : Option Page) (l : Leaf) → p ≡ Some (leaf_page l) → (k : Leaf) × (pages_at b (page_next next p) p ≡ Some (leaf_page k))
    leaf false p l is = (l, is)
    leaf true p l is = (record { prev = l.prev; next = next; items = l.items }, ap (page_next next) is)

    was : (b : Bool) (p : Option Page) (k : Leaf) → pages_at b (page_next next p) p ≡ Some (leaf_page k) → (l : Leaf) × (p ≡ Some (leaf_page l)) × (k.items ≡ l.items)
    was false p k is = (k, is, refl)
    was true None k is = absurd (cc)
    was true (Some (node_page n)) k is = absurd (cc)
    was true (Some (leaf_page l)) k is = (l, refl, sym (items is))
      where
        items : ◌≡◌ {A = Option Page} (Some (leaf_page (record { prev = l.prev; next = next; items = l.items }))) (Some (leaf_page k)) → l.items ≡ k.items
        items e = let same : record { prev = l.prev; next = next; items = l.items } ≡ k = cc in ap (λ (x : Leaf). x.items) same

    node : (b : Bool) (p : Option Page) (n : Node) → p ≡ Some (node_page n) → pages_at b (page_next next p) p ≡ Some (node_page n)
    node false p n is = is
    node true p n is = ap (page_next next) is

    back : (b : Bool) (p : Option Page) (n : Node) → pages_at b (page_next next p) p ≡ Some (node_page n) → p ≡ Some (node_page n)
    back false p n is = is
    back true None n is = absurd (cc)
    back true (Some (leaf_page l)) n is = absurd (cc)
    back true (Some (node_page m)) n is = is

pub prev_relinks : (id prev : ℕ) → IsRelink (with_prev id prev)
prev_relinks id prev = record {
  leaf_on = λ pages j l is. leaf (j == id) (pages j) l is;
  leaf_was = λ pages j k is. was (j == id) (pages j) k is;
  node_on = λ pages j n is. node (j == id) (pages j) n is;
  node_was = λ pages j n is. back (j == id) (pages j) n is;
}
  where
    leaf : (b : Bool) (p : Option Page) (l : Leaf) → p ≡ Some (leaf_page l) → (k : Leaf) × (pages_at b (page_prev prev p) p ≡ Some (leaf_page k))
    leaf false p l is = (l, is)
    leaf true p l is = (record { prev = prev; next = l.next; items = l.items }, ap (page_prev prev) is)

    was : (b : Bool) (p : Option Page) (k : Leaf) → pages_at b (page_prev prev p) p ≡ Some (leaf_page k) → (l : Leaf) × (p ≡ Some (leaf_page l)) × (k.items ≡ l.items)
    was false p k is = (k, is, refl)
    was true None k is = absurd (cc)
    was true (Some (node_page n)) k is = absurd (cc)
    was true (Some (leaf_page l)) k is = (l, refl, sym (items is))
      where
        items : ◌≡◌ {A = Option Page} (Some (leaf_page (record { prev = prev; next = l.next; items = l.items }))) (Some (leaf_page k)) → l.items ≡ k.items
        items e = let same : record { prev = prev; next = l.next; items = l.items } ≡ k = cc in ap (λ (x : Leaf). x.items) same

    node : (b : Bool) (p : Option Page) (n : Node) → p ≡ Some (node_page n) → pages_at b (page_prev prev p) p ≡ Some (node_page n)
    node false p n is = is
    node true p n is = ap (page_prev prev) is

    back : (b : Bool) (p : Option Page) (n : Node) → pages_at b (page_prev prev p) p ≡ Some (node_page n) → p ≡ Some (node_page n)
    back false p n is = is
    back true None n is = absurd (cc)
    back true (Some (leaf_page l)) n is = absurd (cc)
    back true (Some (node_page m)) n is = is

-- what is left where a leaf goes is so too, as seen before such a change
seen_before : (f : PageMap → PageMap) (pages : PageMap) → ((j : ℕ) (k : Leaf) → f pages j ≡ Some (leaf_page k) → (l : Leaf) × (pages j ≡ Some (leaf_page l)) × (k.items ≡ l.items)) → ((j : ℕ) (n : Node) → f pages j ≡ Some (node_page n) → pages j ≡ Some (node_page n))
    → (h k : TreeHead) (p : Page) → k.node_limit ≡ h.node_limit → IsRemnant k (f pages) p → IsRemnant h pages p
seen_before f pages leaf_was node_was h k (leaf_page l) e (inl none) = inl none
seen_before f pages leaf_was node_was h k (leaf_page l) e (inr x) = let y = leaf_was x.id x.was x.there in inr (record { id = x.id; was = y.0; there = y.1; same = x.same ∙ y.2 })
seen_before f pages leaf_was node_was h k (node_page n) e known = (
  omega (arith, known.0, e),
  all_map (λ (x : NodeEntry). StoodIn (f pages) x.key) (λ (x : NodeEntry). StoodIn pages x.key) n.entries (λ x stood. record { id = stood.id; node = stood.node; is = node_was stood.id stood.node stood.is; among = stood.among }) known.1,
  record { id = known.2.id; place = known.2.place; was = known.2.was; there = node_was known.2.id known.2.was known.2.there; is = known.2.is },
)

remnant_relinked : (f : PageMap → PageMap) → IsRelink f → (h k : TreeHead) (pages : PageMap) (p : Page) → k.node_limit ≡ h.node_limit → IsRemnant k (f pages) p → IsRemnant h pages p
remnant_relinked f r h k pages p e known = seen_before f pages (r.leaf_was pages) (r.node_was pages) h k p e known

-- each page is an old one, or a leaf with the items of one
relinked_written : (f : PageMap → PageMap) → IsRelink f → (h : TreeHead) (pages : PageMap) → WritesRemnants h pages (f pages)
relinked_written f r h pages j (leaf_page k) is = let u = r.leaf_was pages j k is in inr (inr (record { id = j; was = u.0; there = u.1; same = u.2 }))
relinked_written f r h pages j (node_page n) is = inl (r.node_was pages j n is)

-- ---- one link

module _ {S V O : Type 0} (s : Ghosts S) (R : Stores V S) (id : ℕ) (f : PageMap → PageMap) where
  pub link_none : ((pages : PageMap) → pages id ≡ None → pages ≡ f pages) → (t u : Tree V O) (a : S) → s.sound a → id ≡ 0 → u.store ≡ t.store → u.cache.pages ≡ t.cache.pages → u.column ≡ t.column → SameIds t.head u.head → TurnsLinked s R id f t u a a
  link_none stays t u a sound zero_id store cache column ids = record {
    sound = sound;
    means = λ pages h.
        let none : pages id ≡ None = ap pages zero_id ∙ none_at_zero s R t a pages h.0 in
        (pages, same_shows s R t u a store cache column ids pages h.0, stays pages none);
    others = record { same = λ told g other. refl };
  }

  pub link_ready : (t : Tree V O) (a : S) → HasLink s R id t a → IsShown s R t a
  link_ready t a ready = record { sound = ready.sound; held = λ told. let h = ready.held told in (h.0, h.1.0) }

  pub link_there : (t : Tree V O) (a : S) → (id ≡ 0 → ⊥) → HasLink s R id t a → HasLeafAt s R id t a
  link_there t a some ready = λ told. let h = ready.held told in let l = h.1.1 some in (h.0, l.0, h.1.0, l.1)

  module _ (relink : Leaf → Leaf) (put_is : (l : Leaf) (pages : PageMap) → pages id ≡ Some (leaf_page l) → put_at id (leaf_page (relink l)) pages ≡ f pages) (items : (l : Leaf) → (relink l).items ≡ l.items)
      (t v : Tree V O) (a b : S) (some : id ≡ 0 → ⊥) (peeks : Peeks s R t v a b) (read : Leaf) (is_read : IsPageOf s R leaf_page id t a read) where
    here : (pages : PageMap) → ShowsLink s R id t a pages → pages id ≡ Some (leaf_page read)
    here pages h = let x = h.1 some in x.1 ∙ ap (λ (l : Leaf). Some (leaf_page l)) (sym (is_read pages x.0 h.0 x.1))

    now : (pages : PageMap) → ShowsLink s R id t a pages → Shows s R v b pages
    now pages h = looked_shows s R t v a b peeks.looks peeks.still.head peeks.still.column pages h.0

    pub linked_ready : HasLink s R id t a → IsShown s R v b
    linked_ready ready = record { sound = peeks.looks.reads.sound; held = λ told. let h = ready.held told in (h.0, now h.0 h.1) }

    pub linked_id : HasLink s R id t a → s.tells → IsLeafId v.head id
    linked_id ready told = let h = ready.held told in leaf_id_shown s R v b h.0 id read (now h.0 h.1) (here h.0 h.1)

    pub link_put : (u : Tree V O) (d : S) → PutsAt s R id (leaf_page (relink read)) v u b d → TurnsLinked s R id f t u a d
    link_put u d writes = record {
      sound = writes.sound;
      means = λ pages h. (put_at id (leaf_page (relink read)) pages, writes.means pages (now pages h), put_is read pages (here pages h));
      others = record { same = λ told g other. (others_at s _ _ b d peeks.still.made.file writes.others).same told g other ∙ peeks.looks.reads.now told g };
    }

    pub link_full : (d : S) → LacksThis s R id (leaf_page (relink read)) v b d → LacksLink s R id t a d
    link_full d l =
        inl (seen_still s R (Shows s R v b) (ShowsLink s R id t a) (λ pages i. i ≡ id) Stood (λ pages p. p ≡ leaf_page (relink read)) (IsRemnant t.head) t v a b d peeks.looks.keeps peeks.looks.made peeks.still.column (λ pages h. now pages h) (λ pages h i e. stood_at pages id i (leaf_page read) (here pages h) e)
        (λ p pages h is. subst (λ (q : Page). IsRemnant t.head pages q) (sym is) (inr (record { id = id; was = read; there = here pages h; same = items read }))) l)

-- ---- both links, and the page itself

module _ {S V O : Type 0} (s : Ghosts S) (R : Stores V S) (id prev next : ℕ) where
  pub first_ready : (t : Tree V O) (a : S) → HasLinks s R prev next t a → HasLink s R prev t a
  first_ready t a ready = record { sound = ready.sound; held = λ told. let h = ready.held told in (h.0, (h.1.0, h.1.1.0)) }

  pub first_full : (t : Tree V O) (a d : S) → LacksLink s R prev t a d → LacksLinks s R prev next t a d
  first_full t a d l =
      remnant_after s R (ShowsLink s R prev) (ShowsLinks s R prev next) t t a a d (keeps_refl s a) (same_store_refl R t.store) refl (λ pages h. record { seen = (pages, (h.0, h.1.0)); own = λ i own. own; was = λ j p is. inl is; fine = λ p left. left }) l

  module _ (t v : Tree V O) (a b : S) (first : TurnsLinked s R prev (with_next prev next) t v a b) (narrows : Narrows s R t v a b) where
    ids_on : SameIds t.head v.head
    ids_on = narrow_ids t.head v.head narrows.head

    one : (pages : PageMap) → ShowsLinks s R prev next t a pages → ShowsLink s R next v b (with_next prev next pages)
    one pages h =
        let k = first.means pages (h.0, h.1.0) in
        (subst (λ (p : PageMap). Shows s R v b p) k.2 k.1, λ some. let l = h.1.1 some in (next_relinks prev next).leaf_on pages next l.0 l.1)

    pub second_ready : HasLinks s R prev next t a → HasLink s R next v b
    second_ready ready = record { sound = first.sound; held = λ told. let h = ready.held told in (with_next prev next h.0, one h.0 h.1) }

    pub second_full : (d : S) → LacksLink s R next v b d → LacksLinks s R prev next t a d
    second_full d l =
        remnant_after s R (ShowsLink s R next) (ShowsLinks s R prev next) t v a b d narrows.keeps narrows.made narrows.column
        (λ pages h. record {
          seen = (with_next prev next pages, one pages h);
          own = λ i stood none. stood (next_zero prev next i pages none);
          was = λ j p is. old_or pages (Stood pages) (IsRemnant t.head pages) j p (stood_was pages (with_next prev next pages) j p (next_zero prev next j pages) is) (relinked_written (with_next prev next) (next_relinks prev next) t.head pages j p is);
          fine = λ p left. remnant_relinked (with_next prev next) (next_relinks prev next) t.head v.head pages p ids_on.node_limit left;
        }) l

    module _ (w : Tree V O) (d : S) (second : TurnsLinked s R next (with_prev next prev) v w b d) (more : Narrows s R v w b d) where
      two : (pages : PageMap) → ShowsLinks s R prev next t a pages → Shows s R w d (with_prev next prev (with_next prev next pages))
      two pages h = let k = second.means (with_next prev next pages) (one pages h) in subst (λ (p : PageMap). Shows s R w d p) k.2 k.1

      pub drop_ready : HasLinks s R prev next t a → IsShown s R w d
      drop_ready ready = record { sound = second.sound; held = λ told. let h = ready.held told in (with_prev next prev (with_next prev next h.0), two h.0 h.1) }

      pub drop_given : (s.tells → IsGiven t.head id) → s.tells → IsGiven w.head id
      drop_given given told = given_same v.head w.head id (narrow_ids v.head w.head more.head) (given_same t.head v.head id ids_on (given told))

      pub all_linked : (u : Tree V O) (e : S) → Rewrites s R (drop_at id) w u d e → TurnsUnlinked s R id prev next t u a e
      all_linked u e out = record {
        sound = out.sound;
        means = λ pages h. (without_linked id prev next pages, out.means (with_prev next prev (with_next prev next pages)) (two pages h), refl);
        others = record {
          same = λ told g other.
              (others_at s _ _ d e (more.made.file ∙ narrows.made.file) out.others).same told g other ∙ (others_at s _ _ b d narrows.made.file second.others).same told g other ∙ first.others.same told g other;
        };
      }

-- ---- what the rows keep

nodes_on : (old new : PageMap) → ((j : ℕ) (n : Node) → old j ≡ Some (node_page n) → new j ≡ Some (node_page n)) → (ns : List NodeAt) → NodesHeld old ns → NodesHeld new ns
nodes_on old new on [] h = tt
nodes_on old new on (n ∷ ns) h = (on n.slot.id n.node h.0, nodes_on old new on ns h.1)

levels_on : (old new : PageMap) → ((j : ℕ) (n : Node) → old j ≡ Some (node_page n) → new j ≡ Some (node_page n)) → (Ls : List (List NodeAt)) → LevelsHeld old Ls → LevelsHeld new Ls
levels_on old new on [] h = tt
levels_on old new on (L ∷ Ls) h = (nodes_on old new on L h.0, levels_on old new on Ls h.1)

no_node : (l : Leaf) (n : Node) → ◌≡◌ {A = Option Page} (Some (leaf_page l)) (Some (node_page n)) → ⊥
no_node l n e = cc

module _ (id prev next : ℕ) (pages : PageMap) where
  abbrev low : PageMap
  low = with_prev next prev (with_next prev next pages)

  unlinked_on : (l : Leaf) → pages id ≡ Some (leaf_page l) → (j : ℕ) (n : Node) → pages j ≡ Some (node_page n) → without_linked id prev next pages j ≡ Some (node_page n)
  unlinked_on l leaf j n is =
      (drops id low).others j (λ e. absurd (no_node l n (sym leaf ∙ ap pages (sym e) ∙ is))) ∙ (prev_relinks next prev).node_on (with_next prev next pages) j n ((next_relinks prev next).node_on pages j n is)

  unlinked_was : (j : ℕ) (n : Node) → without_linked id prev next pages j ≡ Some (node_page n) → pages j ≡ Some (node_page n)
  unlinked_was j n is = (next_relinks prev next).node_was pages j n ((prev_relinks next prev).node_was (with_next prev next pages) j n (dropped_was low id j (node_page n) is))

  unlinked_leaf : (j : ℕ) (k : Leaf) → without_linked id prev next pages j ≡ Some (leaf_page k) → (l : Leaf) × (pages j ≡ Some (leaf_page l)) × (k.items ≡ l.items)
  unlinked_leaf j k is =
      let x = (prev_relinks next prev).leaf_was (with_next prev next pages) j k (dropped_was low id j (leaf_page k) is) in
      let y = (next_relinks prev next).leaf_was pages j x.0 x.1 in
      (y.0, y.1, x.2 ∙ y.2)

  remnant_unlinked : (h k : TreeHead) (p : Page) → k.node_limit ≡ h.node_limit → IsRemnant k (without_linked id prev next pages) p → IsRemnant h pages p
  remnant_unlinked h k p e known = seen_before (without_linked id prev next) pages unlinked_leaf unlinked_was h k p e known

  -- each page is an old one, or a leaf with the items of one
  linked_written : (h : TreeHead) → WritesRemnants h pages (without_linked id prev next pages)
  linked_written h j (leaf_page k) is = let u = unlinked_leaf j k is in inr (inr (record { id = j; was = u.0; there = u.1; same = u.2 }))
  linked_written h j (node_page n) is = inl (unlinked_was j n is)

-- what is left of the pages without a way stood there
way_was : (path : List (ℕ × ℕ)) (pages : PageMap) (j : ℕ) (p : Page) → without_way path pages j ≡ Some p → pages j ≡ Some p
way_was [] pages j p is = is
way_was (step ∷ path) pages j p is = dropped_was pages step.0 j p (way_was path (drop_at step.0 pages) j p is)

within_of : (h : TreeHead) (pages : PageMap) → B5 h pages → NodesWithin h.node_limit pages
within_of h pages b j n is = subst (λ (p : Option Page). IsWithin h j p) is (b j)

-- another root, and fewer pages
pub limits_moved : (h k : TreeHead) (old new : PageMap) → SameIds h k → ((j : ℕ) → (new j ≡ old j) ⊎ (new j ≡ None)) → (k.root ≡ h.root) ⊎ ((n : Node) × (old h.root ≡ Some (node_page n))) → B5 h old → B5 k new
limits_moved h k old new same fewer moved b j = ⊎_elim (λ (e : new j ≡ old j). go (old j) refl e) (λ (e : new j ≡ None). subst (IsWithin k j) (sym e) tt) (fewer j)
  where
    root_too : (l : Leaf) → old j ≡ Some (leaf_page l) → j ≢ k.root → j ≢ h.root
    root_too l is ne e = ⊎_elim (λ (r : k.root ≡ h.root). ne (e ∙ sym r)) (λ (n : (n : Node) × (old h.root ≡ Some (node_page n))). no_node l n.0 (sym is ∙ ap old e ∙ n.1)) moved

    go : (p : Option Page) → old j ≡ p → new j ≡ old j → IsWithin k j (new j)
    go None is e = subst (IsWithin k j) (sym (e ∙ is)) tt
    go (Some (node_page n)) is e =
        let was : NodeWithin h.node_limit n = subst (IsWithin h j) is (b j) in
        subst (IsWithin k j) (sym (e ∙ is)) (omega (arith, was, same.node_limit))
    go (Some (leaf_page l)) is e =
        let was : LeafLimits h j l = subst (IsWithin h j) is (b j) in
        subst (IsWithin k j) (sym (e ∙ is)) (record { within = record { keys = omega (arith, was.within.keys, same.leaf_limit); bytes = was.within.bytes }; some = λ ne. was.some (root_too l is ne) })

-- ---- a leaf with neighbours goes

module _ {S V O : Type 0} (s : Ghosts S) (R : Stores V S) (o : Orders O) (id prev next : ℕ) where
  pub last_ready : (t : Tree V O) (a : S) → HasLast s R o id prev next t a → IsShown s R t a
  last_ready t a ready = record { sound = ready.sound; held = λ told. let h = ready.held told in (h.0, h.1.0) }

  there : (t : Tree V O) (pages : PageMap) (l : AtLast (before_by o.cmp) t.head t.height t.path id prev next pages) → pages id ≡ Some (leaf_page l.found.leaf.leaf)
  there t pages l = found_page (before_by o.cmp) pages t.head.root l.key l.leaves l.levels t.path id l.stands l.found

  pub last_given : (t : Tree V O) (a : S) → HasLast s R o id prev next t a → s.tells → IsGiven t.head id
  last_given t a ready told = let h = ready.held told in inl (leaf_id_shown s R t a h.0 id h.1.1.found.leaf.leaf h.1.0 (there t h.0 h.1.1))

  links_there : (t : Tree V O) (a : S) (pages : PageMap) → ShowsLast s R (before_by o.cmp) id prev next t a pages → ShowsLinks s R prev next t a pages
  links_there t a pages h =
      let l = h.1 in
      let none : pages 0 ≡ None = none_at_zero s R t a pages h.0 in (
        h.0,
        (
          λ some. let x = before_there (before_by o.cmp) pages t.head.root l.key l.leaves l.levels t.path id l.stands l.found none (λ e. some (l.prev_is ∙ e)) in (x.0, ap pages l.prev_is ∙ x.1),
          λ some. let x = behind_there (before_by o.cmp) pages t.head.root l.key l.leaves l.levels t.path id l.stands l.found none (λ e. some (l.next_is ∙ e)) in (x.0, ap pages l.next_is ∙ x.1),
        ),
      )

  pub links_ready : (t : Tree V O) (a : S) → HasLast s R o id prev next t a → HasLinks s R prev next t a
  links_ready t a ready = record { sound = ready.sound; held = λ told. let h = ready.held told in (h.0, links_there t a h.0 h.1) }

  pub links_full : (t : Tree V O) (a d : S) → LacksLinks s R prev next t a d → LacksLast s R o id prev next t a d
  links_full t a d l =
      remnant_after s R (ShowsLinks s R prev next) (ShowsLast s R (before_by o.cmp) id prev next) t t a a d (keeps_refl s a) (same_store_refl R t.store) refl
      (λ pages h. record { seen = (pages, links_there t a pages h); own = λ i own. own; was = λ j p is. inl is; fine = λ p left. left }) l

  -- t at the start, v without the leaf
  module _ (order : IsOrder (before_by o.cmp)) (beside : (prev ≡ 0) × (next ≡ 0) → ⊥) (t v : Tree V O) (a b : S) (cut : TurnsUnlinked s R id prev next t v a b) (narrows : Narrows s R t v a b)
      (vhead : v.head ≡ record t.head { first = first_after prev next t.head.first; last = last_after prev next t.head.last }) (vbeside : StaysBeside t v) where
    vids : SameIds t.head v.head
    vids = narrow_ids t.head v.head narrows.head

    vroot : v.head.root ≡ t.head.root
    vroot = ap (λ (h : TreeHead). h.root) vhead

    vheight : v.height ≡ t.height
    vheight = vbeside.0

    vpath : v.path ≡ t.path
    vpath = vbeside.1

    gone : (pages : PageMap) → ShowsLast s R (before_by o.cmp) id prev next t a pages → Shows s R v b (without_linked id prev next pages)
    gone pages h = let k = cut.means pages (links_there t a pages h) in subst (λ (p : PageMap). Shows s R v b p) k.2 k.1

    way_on : (pages : PageMap) → AtLast (before_by o.cmp) t.head t.height t.path id prev next pages → CanClimb t.head.node_limit (without_linked id prev next pages) t.head.root t.path
    way_on pages l =
        let way : IsHeldWay pages t.head.root l.found.crumbs l.found.leaf.slot = found_way (before_by o.cmp) pages t.head.root l.key l.leaves l.levels t.path id l.stands l.found in
        record {
          crumbs = l.found.crumbs;
          place = l.found.leaf.slot;
          along = l.found.along;
          way = record { leads = way.leads; nodes = levels_on pages (without_linked id prev next pages) (unlinked_on id prev next pages l.found.leaf.leaf (there t pages l)) (rows_of l.found.crumbs) way.nodes; once = way.once };
          within = λ j n is. within_of t.head pages l.limits j n (unlinked_was id prev next pages j n is);
        }

    gone_way : (pages : PageMap) → ShowsLast s R (before_by o.cmp) id prev next t a pages → ShowsWay s R v b (without_linked id prev next pages)
    gone_way pages h = (
      gone pages h,
      subst (λ (p : List (ℕ × ℕ)). CanClimb v.head.node_limit (without_linked id prev next pages) v.head.root p) (sym vpath)
          (subst (λ (r : ℕ). CanClimb v.head.node_limit (without_linked id prev next pages) r t.path) (sym vroot) (subst (λ (n : ℕ). CanClimb n (without_linked id prev next pages) t.head.root t.path) (sym vids.node_limit) (way_on pages h.1))),
    )

    pub prune_ready : HasLast s R o id prev next t a → HasWay s R v b
    prune_ready ready = record { sound = cut.sound; held = λ told. let h = ready.held told in (without_linked id prev next h.0, gone_way h.0 h.1) }

    pub prune_full : (d : S) → LacksCut s R v b d → LacksLast s R o id prev next t a d
    prune_full d l =
        remnant_after s R (ShowsWay s R) (ShowsLast s R (before_by o.cmp) id prev next) t v a b d narrows.keeps narrows.made narrows.column
        (λ pages h. record {
          seen = (without_linked id prev next pages, gone_way pages h);
          own = λ i stood none. stood (none_unlinked id prev next pages i none);
          was = λ j p is. old_or pages (Stood pages) (IsRemnant t.head pages) j p (stood_was pages (without_linked id prev next pages) j p (none_unlinked id prev next pages j) is) (linked_written id prev next pages t.head j p is);
          fine = λ p left. remnant_unlinked id prev next pages t.head v.head p vids.node_limit left;
        }) l

    -- w once its place went from the rows above
    module _ (w : Tree V O) (d : S) (pruned : TurnsCut s R v w b d) (more : Narrows s R v w b d) (numbered : StaysNumbered v w) where
      whead : w.head ≡ v.head
      whead = numbered.0

      wheight : w.height ≡ v.height
      wheight = numbered.1

      cuts : (pages new : PageMap) → Cuts v (without_linked id prev next pages) new → (l : AtLast (before_by o.cmp) t.head t.height t.path id prev next pages) → CutsFrom t.head.node_limit (without_leaf id l.found.leaf.leaf pages) new t.head.root t.path
      cuts pages new c l =
          subst (λ (p : PageMap). CutsFrom t.head.node_limit p new t.head.root t.path) (ap (λ (x : ℕ). without_linked id x next pages) l.prev_is ∙ ap (λ (x : ℕ). without_linked id l.found.leaf.leaf.prev x pages) l.next_is)
          (subst (λ (n : ℕ). CutsFrom n (without_linked id prev next pages) new t.head.root t.path) vids.node_limit
          (subst (λ (r : ℕ). CutsFrom v.head.node_limit (without_linked id prev next pages) new r t.path) vroot (subst (λ (p : List (ℕ × ℕ)). CutsFrom v.head.node_limit (without_linked id prev next pages) new v.head.root p) vpath c.0)))

      goes : (pages new : PageMap) → Cuts v (without_linked id prev next pages) new → pages 0 ≡ None → (l : AtLast (before_by o.cmp) t.head t.height t.path id prev next pages)
          → (after : List LeafAt) × (rows : List (List NodeAt)) × Stands (before_by o.cmp) new t.head.root after rows × (length rows ≡ length l.levels) × LeavesAfter l.leaves l.found.front l.found.leaf l.found.back after
      goes pages new c none l =
          leaf_goes (before_by o.cmp) order t.head.node_limit pages new t.head.root l.key l.leaves l.levels t.path id l.stands l.found none (λ alone. beside (l.prev_is ∙ alone.0, l.next_is ∙ alone.1)) (cuts pages new c l)

      wroot : w.head.root ≡ t.head.root
      wroot = ap (λ (h : TreeHead). h.root) whead ∙ vroot

      in_rows : (pages new : PageMap) → Cuts v (without_linked id prev next pages) new → pages 0 ≡ None → AtLast (before_by o.cmp) t.head t.height t.path id prev next pages → InRows (before_by o.cmp) w.head.root w.height new
      in_rows pages new c none l =
          let k = goes pages new c none l in
          record { leaves = k.0; levels = k.1; stands = subst (λ (r : ℕ). Stands (before_by o.cmp) new r k.0 k.1) (sym wroot) k.2; high = wheight ∙ vheight ∙ l.high ∙ ap suc (sym k.3) }

      pub sink_ready : HasLast s R o id prev next t a → HasRows s R o w d
      sink_ready ready = record {
        sound = pruned.sound;
        held = λ told.
            let h = ready.held told in
            let k = pruned.means (without_linked id prev next h.0) (gone_way h.0 h.1) in
            (k.0, (k.1, in_rows h.0 k.0 k.2 (none_at_zero s R t a h.0 h.1.0) h.1.1));
      }

      -- u under its last root
      module _ (u : Tree V O) (e : S) (sunk : TurnsSunk s R o w u d e) (last : Narrows s R w u d e) (ends_same : (u.head.first ≡ w.head.first) × (u.head.last ≡ w.head.last)) where
        same_ids : SameIds t.head u.head
        same_ids =
            let uids = narrow_ids w.head u.head last.head in
            record {
              order = uids.order ∙ ap (λ (h : TreeHead). h.order) whead ∙ vids.order;
              leaf_limit = uids.leaf_limit ∙ ap (λ (h : TreeHead). h.leaf_limit) whead ∙ vids.leaf_limit;
              node_limit = uids.node_limit ∙ ap (λ (h : TreeHead). h.node_limit) whead ∙ vids.node_limit;
              leaf_ids = uids.leaf_ids ∙ ap (λ (h : TreeHead). h.leaf_ids) whead ∙ vids.leaf_ids;
              node_ids = uids.node_ids ∙ ap (λ (h : TreeHead). h.node_ids) whead ∙ vids.node_ids;
            }

        first_is : u.head.first ≡ first_after prev next t.head.first
        first_is = ends_same.0 ∙ ap (λ (h : TreeHead). h.first) (whead ∙ vhead)

        last_is : u.head.last ≡ last_after prev next t.head.last
        last_is = ends_same.1 ∙ ap (λ (h : TreeHead). h.last) (whead ∙ vhead)

        ends : (pages mid new : PageMap) → Cuts v (without_linked id prev next pages) mid → SinksTo (before_by o.cmp) w u mid new → pages 0 ≡ None → (l : AtLast (before_by o.cmp) t.head t.height t.path id prev next pages)
            → Vacated (before_by o.cmp) u.head u.height l.found.front l.found.leaf l.found.back new
        ends pages mid new c k none l =
            let g = goes pages mid c none l in
            let r = in_rows pages mid c none l in
            let z = k.stands g.0 g.1 (subst (λ (x : ℕ). Stands (before_by o.cmp) mid x g.0 g.1) (sym wroot) g.2) (wheight ∙ vheight ∙ l.high ∙ ap suc (sym g.3)) in
            let kept : B5 t.head mid = fewer_within t.head (without_leaf id l.found.leaf.leaf pages) mid (cuts pages mid c l).limits (without_within t.head id l.found.leaf.leaf pages l.limits) in
            record {
              after = g.0;
              rows = z.0;
              stands = z.1;
              high = z.2;
              wide = k.wide;
              limits = limits_moved t.head u.head mid new same_ids k.fewer
                  (⊎_elim (λ (x : u.head.root ≡ w.head.root). inl (x ∙ wroot)) (λ (n : (n : Node) × (mid w.head.root ≡ Some (node_page n))). inr (n.0, ap mid (sym wroot) ∙ n.1)) k.moved) kept;
              links = record {
                first = first_is ∙ ap (λ (x : ℕ). if x == 0 then next else t.head.first) l.prev_is ∙ ap (λ (x : ℕ). if l.found.leaf.leaf.prev == 0 then x else t.head.first) l.next_is
                    ∙ ap (λ (x : ℕ). if l.found.leaf.leaf.prev == 0 then l.found.leaf.leaf.next else x) l.links.first ∙ sym g.4.first;
                last = last_is ∙ ap (λ (x : ℕ). if x == 0 then prev else t.head.last) l.next_is ∙ ap (λ (x : ℕ). if l.found.leaf.leaf.next == 0 then x else t.head.last) l.prev_is
                    ∙ ap (λ (x : ℕ). if l.found.leaf.leaf.next == 0 then l.found.leaf.leaf.prev else x) l.links.last ∙ sym g.4.last;
                links = z.1.links;
              };
              pairs = g.4.pairs;
            }

        written : (pages mid new : PageMap) → Cuts v (without_linked id prev next pages) mid → ((j : ℕ) → (new j ≡ mid j) ⊎ (new j ≡ None)) → WritesRemnants t.head pages new
        written pages mid new c fewer j q is = ⊎_elim
            (λ (old : without_linked id prev next pages j ≡ Some q). linked_written id prev next pages t.head j q old)
            (λ (left : IsRemnant v.head (without_linked id prev next pages) q). inr (remnant_unlinked id prev next pages t.head v.head q vids.node_limit left))
            (c.1 j q (⊎_elim (λ (same : new j ≡ mid j). sym same ∙ is) (λ (gone : new j ≡ None). absurd (node_some q (sym gone ∙ is))) (fewer j)))

        pub leaf_cut : TurnsVacated s R o id prev next t u a e
        leaf_cut = record {
          sound = sunk.sound;
          means = λ pages h.
              let none : pages 0 ≡ None = none_at_zero s R t a pages h.0 in
              let p = pruned.means (without_linked id prev next pages) (gone_way pages h) in
              let k = sunk.means p.0 (p.1, in_rows pages p.0 p.2 none h.1) in (
                k.0,
                k.1,
                (
                  λ l. ends pages p.0 k.0 p.2 k.2 none l,
                  λ j not. none_sunk p.0 k.0 k.2.fewer j (none_fewer v.head.node_limit (without_linked id prev next pages) p.0 p.2.0.limits j (none_unlinked id prev next pages j not)),
                  λ j q is. written pages p.0 k.0 p.2 k.2.fewer j q is,
                ),
              );
          others = record {
            same = λ told g other.
                (others_at s _ _ d e (more.made.file ∙ narrows.made.file) sunk.others).same told g other ∙ (others_at s _ _ b d narrows.made.file pruned.others).same told g other ∙ cut.others.same told g other;
          };
        }

-- ---- the only leaf is emptied

no_leaf : (l : Leaf) → ◌≡◌ {A = Option Page} None (Some (leaf_page l)) → ⊥
no_leaf l e = cc

not_node : (n : Node) → ◌≡◌ {A = Option Page} (Some (leaf_page no_items)) (Some (node_page n)) → ⊥
not_node n e = cc

held_zero : (pages : PageMap) (j : ℕ) → held pages j ≡ 0 → pages j ≡ None
held_zero pages j e = go (pages j) e
  where
    go : (p : Option Page) → ◌≡◌ {A = ℕ} (if is_some p then 1 else 0) 0 → p ≡ None
    go None e = refl
    go (Some p) e = absurd (omega (arith, e))

module _ {S V O : Type 0} (s : Ghosts S) (R : Stores V S) (o : Orders O) (id : ℕ) where
  ids_given : (t : Tree V O) (a : S) (pages : PageMap) → Shows s R t a pages → (cs : List Crumb) → LevelsHeld pages (rows_of cs) → AllByRecursion (λ x. IsGiven t.head x.0) (path_of cs)
  ids_given t a pages h [] held = tt
  ids_given t a pages h (c ∷ cs) held = (inr (node_id_shown s R t a pages c.node.slot.id c.node.node h (held_in_row pages c (rows_of cs) held)), ids_given t a pages h cs held.1)

  pub way_ids : (t : Tree V O) (a : S) → HasLast s R o id 0 0 t a → s.tells → AllByRecursion (λ x. IsGiven t.head x.0) t.path
  way_ids t a ready told =
      let h = ready.held told in
      let l = h.1.1 in
      subst (λ (p : List (ℕ × ℕ)). AllByRecursion (λ x. IsGiven t.head x.0) p) (sym l.found.along)
      (ids_given t a h.0 h.1.0 l.found.crumbs (found_way (before_by o.cmp) h.0 t.head.root l.key l.leaves l.levels t.path id l.stands l.found).nodes)

  -- v without the way, w with the leaf written, u with it as its root
  module _ (t v : Tree V O) (a b : S) (out : Rewrites s R (without_way t.path) t v a b) (narrows : Narrows s R t v a b) (numbered : StaysNumbered t v) where
    pub emptied_ready : HasLast s R o id 0 0 t a → IsShown s R v b
    emptied_ready ready = record { sound = out.sound; held = λ told. let h = ready.held told in (without_way t.path h.0, out.means h.0 h.1.0) }

    pub emptied_id : HasLast s R o id 0 0 t a → s.tells → IsLeafId v.head id
    emptied_id ready told = let h = ready.held told in subst (λ (k : TreeHead). IsLeafId k id) (sym numbered.0) (leaf_id_shown s R t a h.0 id h.1.1.found.leaf.leaf h.1.0 (there s R o id 0 0 t h.0 h.1.1))

    pub emptied_full : (d : S) → LacksThis s R id (leaf_page no_items) v b d → LacksLast s R o id 0 0 t a d
    emptied_full d l =
        inl (seen_after s R (Shows s R v b) (ShowsLast s R (before_by o.cmp) id 0 0 t a) (λ pages i. i ≡ id) Stood (λ pages p. p ≡ leaf_page no_items) (IsRemnant t.head) t v a b d narrows.keeps narrows.made narrows.column
        (λ pages h. record {
          seen = (without_way t.path pages, out.means pages h.0);
          own = λ i e. stood_at pages id i (leaf_page h.1.found.leaf.leaf) (there s R o id 0 0 t pages h.1) e;
          was = λ j p is. inl (way_was t.path pages j p is);
          fine = λ p is. subst (λ (q : Page). IsRemnant t.head pages q) (sym is) (inl refl);
        }) l)

    module _ (w u : Tree V O) (d : S) (put : PutsAt s R id (leaf_page no_items) v w b d) (store : u.store ≡ w.store) (cache : u.cache.pages ≡ w.cache.pages) (column : u.column ≡ w.column) (ids : SameIds w.head u.head)
        (root : u.head.root ≡ id) (first : u.head.first ≡ id) (last : u.head.last ≡ id) (height : u.height ≡ 1) where
      abbrev lone : LeafAt
      lone = record { slot = root_slot id; leaf = no_items }

      emptied : (pages : PageMap) → pages 0 ≡ None → (l : AtLast (before_by o.cmp) t.head t.height t.path id 0 0 pages) → Vacated (before_by o.cmp) u.head u.height l.found.front l.found.leaf l.found.back (put_at id (leaf_page no_items) (without_way t.path pages))
      emptied pages none l =
          let new : PageMap = put_at id (leaf_page no_items) (without_way t.path pages) in
          let st : Stands (before_by o.cmp) new id (lone ∷ []) [] = only_leaf_empties (before_by o.cmp) pages t.head.root l.key l.leaves l.levels t.path id l.stands l.found none (sym l.prev_is, sym l.next_is) in
          let were : Stands (before_by o.cmp) pages t.head.root (l.found.front ++ l.found.leaf ∷ l.found.back) l.levels = subst (λ (x : List LeafAt). Stands (before_by o.cmp) pages t.head.root x l.levels) l.found.parts l.stands in
          let no_front : l.found.front ≡ [] = none_front pages l.found.front l.found.leaf l.found.back were.leaves_held were.links none (sym l.prev_is) in
          let no_back : l.found.back ≡ [] = none_back pages l.found.front l.found.leaf l.found.back were.leaves_held were.links none (sym l.next_is) in
          record {
            after = lone ∷ [];
            rows = [];
            stands = subst (λ (r : ℕ). Stands (before_by o.cmp) new r (lone ∷ []) []) (sym root) st;
            high = height;
            wide = λ l. not_node l.node (sym ((puts id (leaf_page no_items) (without_way t.path pages)).put) ∙ ap new (sym root) ∙ l.there);
            limits = λ j. ⊎_elim
                (λ (here : j ≡ id).
                subst (λ (p : Option Page). IsWithin u.head j p) (sym (ap new here ∙ (puts id (leaf_page no_items) (without_way t.path pages)).put))
                (record { within = record { keys = omega arith; bytes = λ more. absurd (omega (arith, more)) }; some = λ ne. absurd (ne (here ∙ sym root)) }))
                (λ (other : j ≡ id → ⊥).
                let gone : new j ≡ None = held_zero new j (omega (arith, st.once j, times_none j (root_slot id) (λ e. other (sym e)))) in
                subst (λ (p : Option Page). IsWithin u.head j p) (sym gone) tt)
                (cases_eq j id);
            links = record { first = first; last = last; links = (refl, refl, tt) };
            pairs = ap (λ (xs : List LeafAt). pairs_of (xs ++ with_items l.found.leaf [] ∷ [])) (sym no_front) ∙ ap (λ (xs : List LeafAt). pairs_of (l.found.front ++ with_items l.found.leaf [] ∷ xs)) (sym no_back);
          }

      pub cleared : TurnsVacated s R o id 0 0 t u a d
      cleared = record {
        sound = put.sound;
        means = λ pages h. (
          put_at id (leaf_page no_items) (without_way t.path pages),
          same_shows s R w u d store cache column ids (put_at id (leaf_page no_items) (without_way t.path pages)) (put.means (without_way t.path pages) (out.means pages h.0)),
          (
            λ l. emptied pages (none_at_zero s R t a pages h.0) l,
            λ j not. ⊎_elim
                (λ (same : j ≡ id). absurd (no_leaf (h.1.found.leaf.leaf) (sym not ∙ ap pages same ∙ there s R o id 0 0 t pages h.1)))
                (λ (other : j ≡ id → ⊥). (puts id (leaf_page no_items) (without_way t.path pages)).others j other ∙ none_way t.path pages j not)
                (cases_eq j id),
            λ j q is. ⊎_elim
                (λ (own : q ≡ leaf_page no_items). inr (subst (λ (y : Page). IsRemnant t.head pages y) (sym own) (inl refl)))
                (λ (old : without_way t.path pages j ≡ Some q). inl (way_was t.path pages j q old))
                (put_either (without_way t.path pages) id j (leaf_page no_items) q is),
          ),
        );
        others = record { same = λ told g other. (others_at s _ _ b d narrows.made.file put.others).same told g other ∙ out.others.same told g other };
      }
