-- A leaf that is written as several.
use Rattle.std.proofs.Common.{◌≡◌, ◌⊎◌, ℕ, suc, ◌+◌, ◌-◌, ◌<◌, ◌≤◌, ◌^◌, List, [], ◌∷◌, ◌++◌, Option, Some, None, length, map, take, drop, refl, sym, ap, ◌∙◌, subst, inl, inr, ⊎_elim, arith, append_assoc}
use Rattle.std.specs.Prelude.{if◌then◌else◌, ◌==◌, slice_index_or}
use Rattle.std.specs.List.{AllByRecursion, remove}
use Rattle.std.proofs.lemmas.Bool.{cases_lt}
use Rattle.std.proofs.lemmas.List.{append-nil, length-map}
use Rattle.tc_space.specs.Frames.{keeps_refl, keeps_then, others_then}
use Rattle.tc_space.specs.Stores.{Only}
use Rattle.tc_space.specs.declared.records.Records.{Ghosts as Stores}
use Rattle.tc_space.specs.declared.space.Space.{Ghosts}
use Rattle.bt_page.specs.Keys.{node_offset}
use Rattle.bt_page.specs.declared.page.NodeEntry.{NodeEntry}
use Rattle.bt_page.specs.declared.page.Item.{Item}
use Rattle.bt_page.specs.declared.page.Leaf.{Leaf}
use Rattle.bt_page.specs.declared.page.Node.{Node}
use Rattle.bt_rows.specs.declared.head.TreeHead.{TreeHead}
use Rattle.bt_rows.specs.declared.page.Page.{Page}
use Rattle.bt_rows.specs.declared.page.Page.TheVariants.{Leaf as leaf_page, Node as node_page}
use Rattle.bt_rows.specs.Pages.{PageMap, IsGiven}
use Rattle.bt_rows.specs.Rows.{last_id}
use Rattle.bt_cache.specs.Effects.{SameStore, same_store_refl, same_store_then}
use Rattle.bt_ways.specs.Changes.{IsCut, ItemsWithin}
use Rattle.bt_ways.specs.Climbs.{ClimbsWith}
use Rattle.bt_ways.specs.Parts.{HasItems, Part, all_items, part_entry, parted, relinked, with_parts}
use Rattle.bt_ways.proofs.Keys.{all_map, all_part}
use Rattle.bt_tree.specs.declared.parting.Laid.{Laid}
use Rattle.bt_tree.specs.declared.parting.Parted.{Parted}
use Rattle.bt_tree.specs.declared.tree.Tree.{Tree}
use Rattle.bt_tree.specs.Climbing.{CanClimb, Grows, HasWay, IsAmong, IsKnownNode, IsWayOf, ShowsWay, StoodIn, TurnsClimbed, entry_key, way_most}
use Rattle.bt_tree.specs.Meaning.{file_in}
use Rattle.bt_tree.specs.Numbers.{with_last, with_leaf_ids}
use Rattle.bt_tree.specs.Paging.{FillsIds, HasLeafAt, IsLeafId, IsOwn, IsShown, LacksSeen, LacksThis, Peeks, PutsAt, Rewrites, Shows, StaysStill}
use Rattle.bt_tree.specs.Parting.{AddsAll, AddsBehind, ArePartedIn, ArePartsOf, ClimbsIn, HasLeaf, IsLaid, IsLaidId, IsPiece, LacksLaid, TurnsParted, IsStretch, item_key, ShowsLeaf, Widens, laid_parts, last_part, parts_from, put_laid}
use Rattle.bt_tree.proofs.Entries.{nodes_stay, way_more}
use Rattle.bt_tree.proofs.Pagings.{Gives, anew_then, came_own, came_stood, fills_on, fills_then, looked_shows, more_shows, leaf_fresh, leaf_given, leaf_node, next_more, old_or, others_at, same_store_at, seen_after, seen_still, shown_given, stood_at}
use Rattle.bt_tree.proofs.Pieces.{NoNode, adds_all, adds_pages, behind_away, cut_front, cut_items, cut_middle, cut_stretches, from_all, from_fresh, from_next, from_some, from_two, laid_all, laid_anew, laid_away, laid_either, laid_id, laid_was, laid_way, laid_where, laid_with, part_keys, parts_away, parts_hit, put_laid-append, way_laid}

-- ---- written one by one

pub record LaysOn {S V O : Type 0} (s : Ghosts S) (R : Stores V S) (leaves rest : List Laid) (t u : Tree V O) (old new : S) : Type 0 where
  pub front : List Laid
  pub are : leaves ≡ front ++ rest
  pub writes : Rewrites s R (put_laid front) t u old new
  pub still : StaysStill s R t u old new

still_refl : {S V O : Type 0} (s : Ghosts S) (R : Stores V S) (t : Tree V O) (a : S) → StaysStill s R t t a a
still_refl s R t a = record { keeps = keeps_refl s a; made = same_store_refl R t.store; head = refl; height = refl; column = refl; path = refl }

pub still_then : {S V O : Type 0} (s : Ghosts S) (R : Stores V S) (t u v : Tree V O) (a b d : S) → StaysStill s R t u a b → StaysStill s R u v b d → StaysStill s R t v a d
still_then s R t u v a b d first second = record {
  keeps = keeps_then s a b d first.keeps second.keeps;
  made = same_store_then R t.store u.store v.store first.made second.made;
  head = second.head ∙ first.head;
  height = second.height ∙ first.height;
  column = second.column ∙ first.column;
  path = second.path ∙ first.path;
}

-- the first of a list is taken out
taken : {X : Type 0} (xs ys : List X) (x : X) → 0 < length xs → x ≡ slice_index_or xs 0 x → ys ≡ remove xs 0 → xs ≡ x ∷ ys
taken {X} [] ys x lt e f = absurd (omega (arith, lt))
taken {X} (z ∷ zs) ys x lt e f = ap (λ (w : X). w ∷ zs) (sym e) ∙ ap (λ (t : List X). x ∷ t) (sym f)

module _ {S V O : Type 0} (s : Ghosts S) (R : Stores V S) (leaves : List Laid) (t : Tree V O) (a : S) where
  pub lays_start : (rest : List Laid) → rest ≡ leaves → s.sound a → LaysOn s R leaves rest t t a a
  lays_start rest e sound = record {
    front = [];
    are = sym e;
    writes = record { sound = sound; means = λ pages h. h; others = record { same = λ told g other. refl } };
    still = still_refl s R t a;
  }

  module _ (u : Tree V O) (b : S) (rest : List Laid) (l : LaysOn s R leaves rest t u a b) where
    pub lays_ready : IsShown s R t a → IsShown s R u b
    lays_ready ready = record { sound = l.writes.sound; held = λ told. let h = ready.held told in (put_laid l.front h.0, l.writes.means h.0 h.1) }

    module _ (laid : Laid) (rest' : List Laid) (some : 0 < length rest) (is : laid ≡ slice_index_or rest 0 laid) (less : rest' ≡ remove rest 0) where
      whole : leaves ≡ l.front ++ laid ∷ rest'
      whole = l.are ∙ ap (λ (x : List Laid). l.front ++ x) (taken rest rest' laid some is less)

      pub lays_given : (s.tells → AllByRecursion (λ k. IsLeafId t.head k.id) leaves) → s.tells → IsLeafId u.head laid.id
      lays_given given told =
          let all = subst (λ (x : List Laid). AllByRecursion (λ k. IsLeafId t.head k.id) x) whole (given told) in
          subst (λ (h : TreeHead). IsLeafId h laid.id) (sym l.still.head) (all_part (λ (k : Laid). IsLeafId t.head k.id) l.front (laid ∷ rest') all).1.0

      pub lays_more : (v : Tree V O) (d : S) → PutsAt s R laid.id (leaf_page laid.leaf) u v b d → StaysStill s R u v b d → LaysOn s R leaves rest' t v a d
      lays_more v d put still = record {
        front = l.front ++ laid ∷ [];
        are = whole ∙ sym (append_assoc l.front (laid ∷ []) rest');
        writes = record {
          sound = put.sound;
          means = λ pages h. subst (λ (x : PageMap). Shows s R v d x) (sym (put_laid-append l.front (laid ∷ []) pages)) (put.means (put_laid l.front pages) (l.writes.means pages h));
          others = others_then s (Only (file_in R t)) a b d l.writes.others (others_at s _ _ b d l.still.made.file put.others);
        };
        still = still_then s R t u v a b d l.still still;
      }

      pub lays_lacks : (d : S) → LacksThis s R laid.id (leaf_page laid.leaf) u b d → LacksLaid s R leaves t a d
      lays_lacks d lacks =
          seen_after s R (Shows s R u b) (Shows s R t a) (λ pages i. i ≡ laid.id) (λ pages i. IsLaidId leaves i) (λ pages p. p ≡ leaf_page laid.leaf) (λ pages p. IsLaid leaves p) t u a b d l.still.keeps l.still.made l.still.column
          (λ pages h. record {
            seen = (put_laid l.front pages, l.writes.means pages h);
            own = λ i e. subst (λ (x : List Laid). IsLaidId x i) (sym whole) (id_among l.front i e);
            was = λ j p is. ⊎_elim
                (λ (old : pages j ≡ Some p). inl old)
                (λ (own : IsLaidId l.front j × IsLaid l.front p). inr (subst (λ (x : List Laid). IsLaidId x j) (sym whole) (id_front l.front j own.0), subst (λ (x : List Laid). IsLaid x p) (sym whole) (in_front l.front p own.1)))
                (laid_where l.front pages j p is);
            fine = λ p e. subst (λ (x : List Laid). IsLaid x p) (sym whole) (among l.front p e);
          }) lacks
        where
          id_among : (xs : List Laid) (i : ℕ) → i ≡ laid.id → IsLaidId (xs ++ laid ∷ rest') i
          id_among [] i e = inl e
          id_among (x ∷ xs) i e = inr (id_among xs i e)

          id_front : (xs : List Laid) (i : ℕ) → IsLaidId xs i → IsLaidId (xs ++ laid ∷ rest') i
          id_front [] i own = absurd own
          id_front (x ∷ xs) i (inl e) = inl e
          id_front (x ∷ xs) i (inr more) = inr (id_front xs i more)

          in_front : (xs : List Laid) (p : Page) → IsLaid xs p → IsLaid (xs ++ laid ∷ rest') p
          in_front [] p own = absurd own
          in_front (x ∷ xs) p (inl e) = inl e
          in_front (x ∷ xs) p (inr more) = inr (in_front xs p more)

          among : (xs : List Laid) (p : Page) → p ≡ leaf_page laid.leaf → IsLaid (xs ++ laid ∷ rest') p
          among [] p e = inl e
          among (x ∷ xs) p e = inr (among xs p e)

    pub lays_end : rest ≡ [] → Rewrites s R (put_laid leaves) t u a b
    lays_end e = subst (λ (x : List Laid). Rewrites s R (put_laid x) t u a b) (sym (l.are ∙ ap (λ (x : List Laid). l.front ++ x) e ∙ append-nil l.front)) l.writes

-- ---- the whole of it

-- so many ids of leaves are given
pub gives_leaves : (h : TreeHead) (n : ℕ) → h.leaf_ids ≤ n → n < node_offset → Gives h (record h { leaf_ids = n })
gives_leaves h n more small = record { order = refl; leaf_limit = refl; node_limit = refl; leaves = more; nodes = omega arith; leaves_small = λ lt. small; nodes_small = λ lt. lt }

-- another leaf is the last
pub gives_last : (h : TreeHead) (n : ℕ) → Gives h (record h { last = n })
gives_last h n = record { order = refl; leaf_limit = refl; node_limit = refl; leaves = omega arith; nodes = omega arith; leaves_small = λ lt. lt; nodes_small = λ lt. lt }

module _ {S V O : Type 0} (s : Ghosts S) (R : Stores V S) (t u : Tree V O) (a : S) (id : ℕ) (leaf : Leaf) (ready : HasLeaf s R id leaf.next t a)
    (noted : u ≡ with_leaf_ids u.head.leaf_ids t) (more : t.head.leaf_ids ≤ u.head.leaf_ids) (small : u.head.leaf_ids < node_offset) where
  given_gives : Gives t.head u.head
  given_gives = subst (λ (x : TreeHead). Gives t.head x) (sym (ap (λ (x : Tree V O). x.head) noted)) (gives_leaves t.head u.head.leaf_ids more small)

  pub given_shows : (pages : PageMap) → Shows s R t a pages → Shows s R u a pages
  given_shows pages h = more_shows s R t u a (ap (λ (x : Tree V O). x.store) noted) (ap (λ (x : Tree V O). x.cache.pages) noted) (ap (λ (x : Tree V O). x.column) noted) given_gives pages h

  pub given_ready : IsShown s R u a
  given_ready = record { sound = ready.sound; held = λ told. let h = ready.held told in (h.0, given_shows h.0 h.1.0) }

  pub behind_there : (leaf.next ≡ 0 → ⊥) → HasLeafAt s R leaf.next u a
  behind_there some told = let h = ready.held told in let k = h.1.1.behind some in (h.0, k.0, given_shows h.0 h.1.0, k.1)

module _ {S V O : Type 0} (s : Ghosts S) (R : Stores V S) (t u v w : Tree V O) (a b : S) (id : ℕ) (leaf : Leaf) (items second third : List Item) (p : Parted) (leaves : List Laid)
    (ready : HasLeaf s R id leaf.next t a) (noted : u ≡ with_leaf_ids u.head.leaf_ids t) (given : u.head.leaf_ids ≡ t.head.leaf_ids + length (parts_from t.head.leaf_ids second third)) (small : u.head.leaf_ids < node_offset)
    (made : ArePartsOf id leaf.prev leaf.next items (parts_from t.head.leaf_ids second third) p) (adds : AddsAll s R leaf.next p.last p.leaves u a leaves)
    (peeks : Peeks s R u v a b) (follows : w ≡ with_last (if leaf.next == 0 then p.last else v.head.last) v) where
  abbrev parts : List Part
  parts = parts_from t.head.leaf_ids second third

  more_given : t.head.leaf_ids ≤ u.head.leaf_ids
  more_given = omega (arith, given)

  whead : w.head ≡ record t.head { last = (if leaf.next == 0 then p.last else t.head.last); leaf_ids = u.head.leaf_ids }
  whead =
      ap (λ (x : Tree V O). x.head) follows ∙ ap (λ (h : TreeHead). record h { last = if leaf.next == 0 then p.last else h.last }) (peeks.still.head ∙ ap (λ (x : Tree V O). x.head) noted)

  wlimit : w.head.node_limit ≡ t.head.node_limit
  wlimit = ap (λ (h : TreeHead). h.node_limit) whead

  wroot : w.head.root ≡ t.head.root
  wroot = ap (λ (h : TreeHead). h.root) whead

  wids : w.head.leaf_ids ≡ t.head.leaf_ids + length parts
  wids = ap (λ (h : TreeHead). h.leaf_ids) whead ∙ given

  wpath : w.path ≡ t.path
  wpath = ap (λ (x : Tree V O). x.path) follows ∙ peeks.still.path ∙ ap (λ (x : Tree V O). x.path) noted

  wheight : w.height ≡ t.height
  wheight = ap (λ (x : Tree V O). x.height) follows ∙ peeks.still.height ∙ ap (λ (x : Tree V O). x.height) noted

  wmade : SameStore R t.store w.store
  wmade =
      same_store_then R t.store v.store w.store
      (same_store_then R t.store u.store v.store (same_store_at s R t.store u.store (ap (λ (x : Tree V O). x.store) noted)) peeks.still.made) (same_store_at s R v.store w.store (ap (λ (x : Tree V O). x.store) follows))

  wcolumn : w.column ≡ t.column
  wcolumn = ap (λ (y : Tree V O). y.column) follows ∙ peeks.still.column ∙ ap (λ (y : Tree V O). y.column) noted

  shows_u : (pages : PageMap) → Shows s R t a pages → Shows s R u a pages
  shows_u = given_shows s R t u a id leaf ready noted more_given small

  shows_w : (pages : PageMap) → Shows s R t a pages → Shows s R w b pages
  shows_w pages h =
      more_shows s R v w b (ap (λ (x : Tree V O). x.store) follows) (ap (λ (x : Tree V O). x.cache.pages) follows) (ap (λ (x : Tree V O). x.column) follows)
      (subst (λ (x : TreeHead). Gives v.head x) (sym (ap (λ (x : Tree V O). x.head) follows)) (gives_last v.head (if leaf.next == 0 then p.last else v.head.last))) pages
      (looked_shows s R u v a b peeks.looks peeks.still.head peeks.still.column pages (shows_u pages h))

  pub lay_ready : IsShown s R w b
  lay_ready = record { sound = peeks.looks.reads.sound; held = λ told. let h = ready.held told in (h.0, shows_w h.0 h.1.0) }

  laid : (pages : PageMap) → Shows s R t a pages → AddsBehind leaf.next (last_part id parts) pages (laid_parts id leaf.prev leaf.next items parts) leaves
  laid pages h = subst (λ (x : List Laid). AddsBehind leaf.next (last_part id parts) pages x leaves) made.leaves (subst (λ (n : ℕ). AddsBehind leaf.next n pages p.leaves leaves) made.last (adds pages (shows_u pages h)))

  ids : (pages : PageMap) → ShowsLeaf s R id leaf.next t a pages → (Q : ℕ → Type 0) → ((i : ℕ) → IsLeafId t.head i → (l : Leaf) → pages i ≡ Some (leaf_page l) → Q i) → ((i : ℕ) → t.head.leaf_ids < i → i ≤ t.head.leaf_ids + length parts → Q i) → AllByRecursion (λ l. Q l.id) leaves
  ids pages h Q old new =
      adds_all Q leaf.next (last_part id parts) pages (laid_parts id leaf.prev leaf.next items parts) leaves (laid pages h.0)
      (laid_all Q id leaf.prev leaf.next items parts (old id (leaf_given t.head h.0.1.records pages id h.1.was h.0.1.head h.0.1.held h.1.here) h.1.was h.1.here)
      (from_all t.head.leaf_ids second third (λ q. Q q.id) (new (t.head.leaf_ids + 1) (omega arith) (omega (arith, (from_some t.head.leaf_ids second third).0)))
      (λ lt. new (t.head.leaf_ids + 1 + 1) (omega arith) (omega (arith, from_two t.head.leaf_ids second third lt)))))
      h.1.behind
      (λ some. let k = h.1.behind some in old leaf.next (leaf_given t.head h.0.1.records pages leaf.next k.0 h.0.1.head h.0.1.held k.1) k.0 k.1)

  pub ids_given : s.tells → AllByRecursion (λ l. IsLeafId w.head l.id) leaves
  ids_given told =
      let h = ready.held told in
      ids h.0 h.1 (λ i. IsLeafId w.head i) (λ i g l e. (g.0, omega (arith, g.1, wids))) (λ i more most. (omega (arith, more), omega (arith, most, wids)))

  no_nodes : (pages : PageMap) → ShowsLeaf s R id leaf.next t a pages → AllByRecursion (λ l. NoNode pages l.id) leaves
  no_nodes pages h = ids pages h (NoNode pages) (λ i g l e n f. leaf_node l n (sym e ∙ f))
      (λ i more most n f. none_node n (sym (leaf_fresh t.head h.0.1.records pages i h.0.1.held more (omega (arith, most, given, small))) ∙ f))
    where
      none_node : (n : Node) → ◌≡◌ {A = Option Page} None (Some (node_page n)) → ⊥
      none_node n e = cc

  laid_own : (pages : PageMap) → ShowsLeaf s R id leaf.next t a pages → AllByRecursion (λ l. IsOwn t.head 2 (suc (length t.path)) pages l.id) leaves
  laid_own pages h = ids pages h (λ i. IsOwn t.head 2 (suc (length t.path)) pages i) (λ i g l is. inl (stood_at pages i i (leaf_page l) is refl)) (λ i more most. inr (inl (more, omega (arith, most, (from_some t.head.leaf_ids second third).1))))

  laid_ids : (pages : PageMap) → ShowsLeaf s R id leaf.next t a pages → AllByRecursion (λ l. IsGiven t.head l.id → pages l.id ≡ None → ⊥) leaves
  laid_ids pages h = ids pages h (λ i. IsGiven t.head i → pages i ≡ None → ⊥) (λ i g l e given_i none. none_leaf l (sym none ∙ e)) not_given
    where
      none_leaf : (l : Leaf) → ◌≡◌ {A = Option Page} None (Some (leaf_page l)) → ⊥
      none_leaf l e = cc

      not_given : (i : ℕ) → t.head.leaf_ids < i → i ≤ t.head.leaf_ids + length parts → IsGiven t.head i → pages i ≡ None → ⊥
      not_given i more most (inl g) none = omega (arith, g.1, more)
      not_given i more most (inr g) none = omega (arith, g.0, most, given, small)

  pub added_few : length p.added ≤ 2
  added_few = omega (arith, ap length made.added, length-map parts part_entry, (from_some t.head.leaf_ids second third).1)

  parts_joined : (i j : ℕ) → items ≡ take i leaf.items → second ≡ take (j - i) (drop i leaf.items) → third ≡ drop j leaf.items → IsCut t.head.leaf_limit leaf.items i j → leaf.items ≡ all_items items parts
  parts_joined i j one two three c =
      cut_items t.head.leaf_ids i j t.head.leaf_limit leaf.items c ∙ sym (ap (λ (z : List Item). all_items items (parts_from t.head.leaf_ids z third)) two ∙ ap (λ (z : List Item). all_items z (parts_from t.head.leaf_ids (take (j - i) (drop i leaf.items)) third)) one
      ∙ ap (λ (z : List Item). all_items (take i leaf.items) (parts_from t.head.leaf_ids (take (j - i) (drop i leaf.items)) z)) three)

  parts_have : (i j : ℕ) → second ≡ take (j - i) (drop i leaf.items) → IsCut t.head.leaf_limit leaf.items i j → AllByRecursion HasItems parts
  parts_have i j two c = from_all t.head.leaf_ids second third HasItems (subst (λ (z : List Item). 0 < length z) (sym two) (cut_middle i j t.head.leaf_limit leaf.items c)) (λ lt. lt)

  laid_piece : (i j : ℕ) → items ≡ take i leaf.items → second ≡ take (j - i) (drop i leaf.items) → third ≡ drop j leaf.items → IsCut t.head.leaf_limit leaf.items i j → (pages : PageMap) → ShowsLeaf s R id leaf.next t a pages → (q : Page) → IsLaid leaves q
      → IsPiece t.head t.path leaf.items leaf.next pages q
  laid_piece i j one two three c pages h q is =
      let stretches = cut_stretches i j t.head.leaf_limit leaf.items c in
      let k = adds_pages (λ z. ItemsWithin t.head.leaf_limit z × IsStretch z leaf.items) id leaf.prev leaf.next items parts pages leaves q (laid pages h.0) h.1.behind
      (subst (λ (z : List Item). ItemsWithin t.head.leaf_limit z × IsStretch z leaf.items) (sym one) (c.first, stretches.0))
      (from_all t.head.leaf_ids second third (λ z. ItemsWithin t.head.leaf_limit z.items × IsStretch z.items leaf.items) (subst (λ (z : List Item). ItemsWithin t.head.leaf_limit z × IsStretch z leaf.items) (sym two) (c.second, stretches.1))
      (λ lt. subst (λ (z : List Item). ItemsWithin t.head.leaf_limit z × IsStretch z leaf.items) (sym three) (c.third, stretches.2))) is in
      subst (λ (z : Page). IsPiece t.head t.path leaf.items leaf.next pages z) (sym k.1) k.2

  -- once they are written, each page is an old one or one of them
  laid_old : (i j : ℕ) → items ≡ take i leaf.items → second ≡ take (j - i) (drop i leaf.items) → third ≡ drop j leaf.items → IsCut t.head.leaf_limit leaf.items i j → (pages : PageMap) → ShowsLeaf s R id leaf.next t a pages → (z : ℕ) (q : Page)
      → put_laid leaves pages z ≡ Some q → (pages z ≡ Some q) ⊎ IsPiece t.head t.path leaf.items leaf.next pages q
  laid_old i j one two three c pages h z q was =
      ⊎_elim (λ (old : pages z ≡ Some q). inl old) (λ (own : IsLaid leaves q). inr (laid_piece i j one two three c pages h q own)) (laid_either leaves pages z q was)

  module _ (x : Tree V O) (d : S) (lays : Rewrites s R (put_laid leaves) w x b d) (still_x : StaysStill s R w x b d) where
    xhead : x.head ≡ w.head
    xhead = still_x.head

    way_on : (pages : PageMap) → ShowsLeaf s R id leaf.next t a pages → ShowsWay s R x d (put_laid leaves pages)
    way_on pages h = (
      lays.means pages (shows_w pages h.0),
      subst (λ (y : TreeHead). CanClimb y.node_limit (put_laid leaves pages) y.root x.path) (sym xhead)
          (subst (λ (n : ℕ). CanClimb n (put_laid leaves pages) w.head.root x.path) (sym wlimit) (subst (λ (n : ℕ). CanClimb t.head.node_limit (put_laid leaves pages) n x.path) (sym wroot)
          (subst (λ (q : List (ℕ × ℕ)). CanClimb t.head.node_limit (put_laid leaves pages) t.head.root q) (sym (still_x.path ∙ wpath)) (laid_way leaves t.head.node_limit pages t.head.root t.path (no_nodes pages h) h.1.way)))),
    )

    pub climb_ready : HasWay s R x d
    climb_ready = record { sound = lays.sound; held = λ told. let h = ready.held told in (put_laid leaves h.0, way_on h.0 h.1) }

    pub climb_rows : t.height < 2 ^ 64 - 1 → x.height < 2 ^ 64 - 1
    climb_rows lt = omega (arith, lt, still_x.height, wheight)

    -- the keys that climb are those of items
    piece_key : (i j : ℕ) → items ≡ take i leaf.items → second ≡ take (j - i) (drop i leaf.items) → third ≡ drop j leaf.items → IsCut t.head.leaf_limit leaf.items i j → (pages : PageMap) (key : List ℕ)
        → IsAmong entry_key key p.added ⊎ StoodIn (put_laid leaves pages) key → IsAmong item_key key leaf.items ⊎ StoodIn pages key
    piece_key i j one two three c pages key k = ⊎_elim
        (λ (own : IsAmong entry_key key p.added).
        inl (subst (λ (z : List Item). IsAmong item_key key z) (sym (parts_joined i j one two three c)) (part_keys key items parts (parts_have i j two c) (subst (λ (z : List NodeEntry). IsAmong entry_key key z) made.added own))))
        (λ (stood : StoodIn (put_laid leaves pages) key). inr (record { id = stood.id; node = stood.node; is = laid_was leaves pages stood.id stood.node stood.is; among = stood.among }))
        k

    -- each new leaf has its page
    laid_filled : (pages : PageMap) → ShowsLeaf s R id leaf.next t a pages → FillsIds t.head x.head (put_laid leaves pages)
    laid_filled pages h j (inl g) not none = ⊎_elim
        (λ (more : t.head.leaf_ids < j).
        parts_hit t.head.leaf_ids second third j
        (parts_away id leaf.prev leaf.next items parts j (behind_away leaf.next (last_part id parts) pages (laid_parts id leaf.prev leaf.next items parts) leaves j (laid pages h.0) h.1.behind (laid_away leaves pages j none)))
        more (omega (arith, g.1, ap (λ (h : TreeHead). h.leaf_ids) xhead, wids)))
        (λ (le : j ≤ t.head.leaf_ids). not (inl (g.0, le)))
        (cases_lt t.head.leaf_ids j)
    laid_filled pages h j (inr g) not none = not (inr (g.0, omega (arith, g.1, ap (λ (h : TreeHead). h.node_ids) (xhead ∙ whead))))

    -- the items are in parts
    abbrev parts_in : (i j : ℕ) → items ≡ take i leaf.items → second ≡ take (j - i) (drop i leaf.items) → third ≡ drop j leaf.items → IsCut t.head.leaf_limit leaf.items i j → ArePartedIn t.head.leaf_limit leaf.items (length parts)
    parts_in i j one two three c = record {
      first = items;
      parts = parts;
      whole = parts_joined i j one two three c;
      some = subst (λ (z : List Item). 0 < length z) (sym one) (cut_front i j t.head.leaf_limit leaf.items c);
      have = parts_have i j two c;
      within = subst (λ (z : List Item). ItemsWithin t.head.leaf_limit z) (sym one) c.first;
      are_within = from_all t.head.leaf_ids second third (λ q. ItemsWithin t.head.leaf_limit q.items) (subst (λ (z : List Item). ItemsWithin t.head.leaf_limit z) (sym two) c.second) (λ lt. subst (λ (z : List Item). ItemsWithin t.head.leaf_limit z) (sym three) c.third);
      count = refl;
      few = (from_some t.head.leaf_ids second third).1;
    }

    climb_piece : (i j : ℕ) → items ≡ take i leaf.items → second ≡ take (j - i) (drop i leaf.items) → third ≡ drop j leaf.items → IsCut t.head.leaf_limit leaf.items i j → (pages : PageMap) (q : Page) → IsKnownNode x.head.node_limit (way_most x.head x.path) x.head.root x.path p.added (put_laid leaves pages) q
        → IsPiece t.head t.path leaf.items leaf.next pages q
    climb_piece i j one two three c pages q n =
        let limit : x.head.node_limit ≡ t.head.node_limit = ap (λ (y : TreeHead). y.node_limit) xhead ∙ wlimit in
        let w1 : IsWayOf x.head.node_limit (way_most x.head x.path) (put_laid leaves pages) x.head.root t.path p.added n.0 = subst (λ (z : List (ℕ × ℕ)). IsWayOf x.head.node_limit (way_most x.head x.path) (put_laid leaves pages) x.head.root z p.added n.0) (still_x.path ∙ wpath) n.4 in
        let w2 : IsWayOf x.head.node_limit (way_most x.head x.path) (put_laid leaves pages) t.head.root t.path p.added n.0 = subst (λ (r : ℕ). IsWayOf x.head.node_limit (way_most x.head x.path) (put_laid leaves pages) r t.path p.added n.0) (ap (λ (y : TreeHead). y.root) xhead ∙ wroot) w1 in
        let w3 : IsWayOf t.head.node_limit (way_most x.head x.path) (put_laid leaves pages) t.head.root t.path p.added n.0 = subst (λ (m : ℕ). IsWayOf m (way_most x.head x.path) (put_laid leaves pages) t.head.root t.path p.added n.0) limit w2 in
        let most : way_most x.head x.path ≤ way_most t.head t.path = omega (arith, ap (λ (y : TreeHead). y.node_ids) (xhead ∙ whead), ap length (still_x.path ∙ wpath)) in
        let w3' : IsWayOf t.head.node_limit (way_most t.head t.path) (put_laid leaves pages) t.head.root t.path p.added n.0 = way_more t.head.node_limit (way_most x.head x.path) (way_most t.head t.path) (put_laid leaves pages) t.head.root t.path p.added n.0 most w3 in
        let w4 : IsWayOf t.head.node_limit (way_most t.head t.path) pages t.head.root t.path (map part_entry parts) n.0 = subst (λ (es : List NodeEntry). IsWayOf t.head.node_limit (way_most t.head t.path) pages t.head.root t.path es n.0) made.added (way_laid t.head.node_limit (way_most t.head t.path) leaves pages t.head.root t.path p.added n.0 w3') in
        let climbs : ClimbsIn t.head pages t.path leaf.items n.0 = (length parts, parts_in i j one two three c, from_next t.head.leaf_ids second third, w4) in
        subst (λ (z : Page). IsPiece t.head t.path leaf.items leaf.next pages z) (sym n.1) (
          omega (arith, n.2, limit),
          all_map (λ (y : NodeEntry). IsAmong entry_key y.key p.added ⊎ StoodIn (put_laid leaves pages) y.key) (λ (y : NodeEntry). IsAmong item_key y.key leaf.items ⊎ StoodIn pages y.key) n.0.entries (λ y k. piece_key i j one two three c pages y.key k) n.3,
          climbs,
        )

    way_leaves : x.head.leaf_ids ≤ t.head.leaf_ids + 2
    way_leaves = omega (arith, ap (λ (y : TreeHead). y.leaf_ids) xhead, wids, (from_some t.head.leaf_ids second third).1)

    way_nodes : x.head.node_ids ≤ t.head.node_ids + suc (length t.path)
    way_nodes = omega (arith, ap (λ (y : TreeHead). y.node_ids) (xhead ∙ whead))

    -- what had a page or is next, once the leaves are written, did so or is
    way_own : (pages : PageMap) → ShowsLeaf s R id leaf.next t a pages → (z : ℕ) → IsOwn x.head 0 (suc (length x.path)) (put_laid leaves pages) z → IsOwn t.head 2 (suc (length t.path)) pages z
    way_own pages h z (inl stood) =
        came_stood t.head x.head pages (put_laid leaves pages) 2 (suc (length t.path)) z (laid_anew t.head leaves pages (laid_ids pages h)) (λ q is. shown_given s R x d (put_laid leaves pages) (way_on pages h).0 z q is) way_leaves way_nodes stood
    way_own pages h z (inr next) = inr (next_more t.head x.head 0 (suc (length x.path)) 2 (suc (length t.path)) z
        (omega (arith, ap (λ (y : TreeHead). y.leaf_ids) xhead, wids)) (omega (arith, ap (λ (y : TreeHead). y.leaf_ids) xhead, wids, (from_some t.head.leaf_ids second third).1))
        (omega (arith, ap (λ (y : TreeHead). y.node_ids) (xhead ∙ whead))) (omega (arith, ap (λ (y : TreeHead). y.node_ids) (xhead ∙ whead), ap length (still_x.path ∙ wpath))) next)

    pub lacks_climb : (i j : ℕ) (e : S) → items ≡ take i leaf.items → second ≡ take (j - i) (drop i leaf.items) → third ≡ drop j leaf.items → (s.tells → IsCut t.head.leaf_limit leaf.items i j)
        → LacksSeen s R (ShowsWay s R x d) (IsOwn x.head 0 (suc (length x.path))) (IsKnownNode x.head.node_limit (way_most x.head x.path) x.head.root x.path p.added) x d e
        → LacksSeen s R (ShowsLeaf s R id leaf.next t a) (IsOwn t.head 2 (suc (length t.path))) (IsPiece t.head t.path leaf.items leaf.next) t a e
    lacks_climb i j e one two three cut l =
        seen_after s R (ShowsWay s R x d) (ShowsLeaf s R id leaf.next t a) (IsOwn x.head 0 (suc (length x.path))) (IsOwn t.head 2 (suc (length t.path))) (IsKnownNode x.head.node_limit (way_most x.head x.path) x.head.root x.path p.added) (IsPiece t.head t.path leaf.items leaf.next) t x a d e
        (keeps_then s a b d peeks.still.keeps still_x.keeps) (same_store_then R t.store w.store x.store wmade still_x.made) (still_x.column ∙ wcolumn)
        (λ pages h. record {
          seen = (put_laid leaves pages, way_on pages h);
          own = λ z own. way_own pages h z own;
          was = λ z q is. old_or pages (IsOwn t.head 2 (suc (length t.path)) pages) (IsPiece t.head t.path leaf.items leaf.next pages) z q
              (came_own t.head x.head pages (put_laid leaves pages) 2 (suc (length t.path)) z q (laid_anew t.head leaves pages (laid_ids pages h)) (shown_given s R x d (put_laid leaves pages) (way_on pages h).0 z q is) way_leaves way_nodes is)
              (laid_old i j one two three (cut h.0.0) pages h z q is);
          fine = λ q known. climb_piece i j one two three (cut h.0.0) pages q known;
        }) l

    module _ (i j : ℕ) (one : items ≡ take i leaf.items) (two : second ≡ take (j - i) (drop i leaf.items)) (three : third ≡ drop j leaf.items) (cut : s.tells → IsCut t.head.leaf_limit leaf.items i j)
        (y : Tree V O) (e : S) (climb : TurnsClimbed s R p.added x y d e) (yhead : y.head ≡ record x.head { root = y.head.root; node_ids = y.head.node_ids }) where
      climbs_as : (pages new : PageMap) → ClimbsWith x.head.node_limit (put_laid leaves pages) new x.height y.height x.head.root y.head.root x.path p.added → (half : PageMap) → put_laid leaves pages ≡ half
          → ClimbsWith t.head.node_limit half new t.height y.height t.head.root y.head.root t.path (map part_entry parts)
      climbs_as pages new c half same =
          subst (λ (q : PageMap). ClimbsWith t.head.node_limit q new t.height y.height t.head.root y.head.root t.path (map part_entry parts)) same
          (subst (λ (n : ℕ). ClimbsWith n (put_laid leaves pages) new t.height y.height t.head.root y.head.root t.path (map part_entry parts)) (ap (λ (h : TreeHead). h.node_limit) xhead ∙ wlimit)
          (subst (λ (n : ℕ). ClimbsWith x.head.node_limit (put_laid leaves pages) new n y.height t.head.root y.head.root t.path (map part_entry parts)) (still_x.height ∙ wheight)
          (subst (λ (n : ℕ). ClimbsWith x.head.node_limit (put_laid leaves pages) new x.height y.height n y.head.root t.path (map part_entry parts)) (ap (λ (h : TreeHead). h.root) xhead ∙ wroot)
          (subst (λ (q : List (ℕ × ℕ)). ClimbsWith x.head.node_limit (put_laid leaves pages) new x.height y.height x.head.root y.head.root q (map part_entry parts)) (still_x.path ∙ wpath)
          (subst (λ (q : List NodeEntry). ClimbsWith x.head.node_limit (put_laid leaves pages) new x.height y.height x.head.root y.head.root x.path q) made.added c)))))

      given_on : (j : ℕ) → IsGiven t.head j → IsGiven x.head j
      given_on j (inl g) = inl (g.0, omega (arith, g.1, ap (λ (h : TreeHead). h.leaf_ids) xhead, wids))
      given_on j (inr g) = inr (g.0, omega (arith, g.1, ap (λ (h : TreeHead). h.node_ids) (xhead ∙ whead)))

      pub parts_turn : TurnsParted s R id leaf t y a e
      parts_turn = record {
        sound = climb.sound;
        means = λ pages h.
            let c : IsCut t.head.leaf_limit leaf.items i j = cut h.0.0 in
            let k = climb.means (put_laid leaves pages) (way_on pages h) in (
              k.0,
              k.1,
              record {
                items = items;
                parts = parts;
                whole = parts_joined i j one two three c;
                some = subst (λ (z : List Item). 0 < length z) (sym one) (cut_front i j t.head.leaf_limit leaf.items c);
                have = parts_have i j two c;
                within = subst (λ (z : List Item). ItemsWithin t.head.leaf_limit z) (sym one) c.first;
                are_within = from_all t.head.leaf_ids second third (λ q. ItemsWithin t.head.leaf_limit q.items) (subst (λ (z : List Item). ItemsWithin t.head.leaf_limit z) (sym two) c.second) (λ lt. subst (λ (z : List Item). ItemsWithin t.head.leaf_limit z) (sym three) c.third);
                written = λ z q is. ⊎_elim
                    (λ (was : put_laid leaves pages z ≡ Some q). laid_old i j one two three c pages h z q was)
                    (λ known. inr (climb_piece i j one two three c pages q known))
                    (k.2.2 z q is);
                filled = fills_then t.head x.head y.head k.0 (fills_on t.head x.head (put_laid leaves pages) k.0 (nodes_stay x.head.node_limit (put_laid leaves pages) k.0 k.2.0.limits) (laid_filled pages h)) k.2.3;
                anew = anew_then t.head x.head pages (put_laid leaves pages) k.0 given_on (laid_anew t.head leaves pages (laid_ids pages h)) k.2.1;
                fresh = from_fresh t.head.leaf_ids second third pages (leaf_fresh t.head h.0.1.records pages (t.head.leaf_ids + 1) h.0.1.held (omega arith) (omega (arith, given, small, (from_some t.head.leaf_ids second third).0)))
                    (λ lt. leaf_fresh t.head h.0.1.records pages (t.head.leaf_ids + 1 + 1) h.0.1.held (omega arith) (omega (arith, given, small, from_two t.head.leaf_ids second third lt)));
                given = from_all t.head.leaf_ids second third (λ q. 1 ≤ q.id) (omega arith) (λ lt. omega arith);
                last = ap (λ (h : TreeHead). h.last) (yhead) ∙ ap (λ (h : TreeHead). h.last) (xhead ∙ whead) ∙ ap (λ (n : ℕ). if leaf.next == 0 then n else t.head.last) made.last;
                climbs = λ z back same held first none. climbs_as pages k.0 k.2.0 (with_parts pages (parted z leaf.prev leaf.next items parts) (relinked (last_id 0 (parted z leaf.prev leaf.next items parts)) back))
                    (laid_with pages id leaf.prev leaf.next items parts leaves (laid pages h.0) z back same held first none);
              },
            );
        others = others_then s (Only (file_in R t)) a d e
            (others_then s (Only (file_in R t)) a b d (record { same = λ told g other. peeks.looks.reads.now told g }) (others_at s _ _ b d wmade.file lays.others))
            (others_at s _ _ d e (still_x.made.file ∙ wmade.file) climb.others);
      }

  module _ where
    pub lacks_laid : (i j : ℕ) (d : S) → items ≡ take i leaf.items → second ≡ take (j - i) (drop i leaf.items) → third ≡ drop j leaf.items → (s.tells → IsCut t.head.leaf_limit leaf.items i j)
        → LacksLaid s R leaves w b d → LacksSeen s R (ShowsLeaf s R id leaf.next t a) (IsOwn t.head 2 (suc (length t.path))) (IsPiece t.head t.path leaf.items leaf.next) t a d
    lacks_laid i j d one two three cut l =
        seen_still s R (Shows s R w b) (ShowsLeaf s R id leaf.next t a) (λ pages z. IsLaidId leaves z) (IsOwn t.head 2 (suc (length t.path))) (λ pages p. IsLaid leaves p) (IsPiece t.head t.path leaf.items leaf.next) t w a b d peeks.still.keeps wmade wcolumn (λ pages h. shows_w pages h.0)
        (λ pages h z own. laid_id (λ k. IsOwn t.head 2 (suc (length t.path)) pages k) leaves z (laid_own pages h) own)
        (λ q pages h is. laid_piece i j one two three (cut h.0.0) pages h q is) l

  -- whatever is answered
  module _ (least : t.head.leaf_ids ≤ u.head.leaf_ids) (most : u.head.leaf_ids ≤ t.head.leaf_ids + 2) (x : Tree V O) (d : S) (still_x : StaysStill s R w x b d) where
    from_head : x.head ≡ record t.head { last = (if leaf.next == 0 then p.last else t.head.last); leaf_ids = u.head.leaf_ids }
    from_head = still_x.head ∙ whead

    pub widens_lay : Widens s R (suc (length t.path)) t x a d
    widens_lay = record {
      keeps = keeps_then s a b d peeks.still.keeps still_x.keeps;
      made = same_store_then R t.store w.store x.store wmade still_x.made;
      column = still_x.column ∙ wcolumn;
      head = from_head ∙ sym (λ i. record t.head { root = (ap (λ (h : TreeHead). h.root) from_head) i; last = (ap (λ (h : TreeHead). h.last) from_head) i; leaf_ids = (ap (λ (h : TreeHead). h.leaf_ids) from_head) i; node_ids = (ap (λ (h : TreeHead). h.node_ids) from_head) i });
      leaves_least = omega (arith, least, ap (λ (h : TreeHead). h.leaf_ids) from_head);
      leaves_most = omega (arith, most, ap (λ (h : TreeHead). h.leaf_ids) from_head);
      nodes_least = omega (arith, ap (λ (h : TreeHead). h.node_ids) from_head);
      nodes_most = omega (arith, ap (λ (h : TreeHead). h.node_ids) from_head);
      rows_least = omega (arith, still_x.height, wheight);
      rows_most = omega (arith, still_x.height, wheight);
    }

    pub widens_climb : (y : Tree V O) (e : S) → Grows s R (suc (length x.path)) 1 x y d e → Widens s R (suc (length t.path)) t y a e
    widens_climb y e grows = record {
      keeps = keeps_then s a d e widens_lay.keeps grows.keeps;
      made = same_store_then R t.store x.store y.store widens_lay.made grows.made;
      column = grows.column ∙ widens_lay.column;
      head = from_climb ∙ sym (λ i. record t.head { root = y.head.root; last = (ap (λ (h : TreeHead). h.last) from_climb) i; leaf_ids = (ap (λ (h : TreeHead). h.leaf_ids) from_climb) i; node_ids = y.head.node_ids });
      leaves_least = omega (arith, least, ap (λ (h : TreeHead). h.leaf_ids) from_climb);
      leaves_most = omega (arith, most, ap (λ (h : TreeHead). h.leaf_ids) from_climb);
      nodes_least = omega (arith, nodes, grows.nodes_least);
      nodes_most = omega (arith, nodes, grows.nodes_most, ap length (still_x.path ∙ wpath));
      rows_least = omega (arith, still_x.height, wheight, grows.rows_least);
      rows_most = omega (arith, still_x.height, wheight, grows.rows_most);
    }
      where
        nodes : x.head.node_ids ≡ t.head.node_ids
        nodes = ap (λ (h : TreeHead). h.node_ids) from_head

        from_climb : y.head ≡ record t.head { root = y.head.root; last = (if leaf.next == 0 then p.last else t.head.last); leaf_ids = u.head.leaf_ids; node_ids = y.head.node_ids }
        from_climb = grows.head ∙ ap (λ (h : TreeHead). record h { root = y.head.root; node_ids = y.head.node_ids }) from_head
