-- A pair that comes into a tree.
use Rattle.std.proofs.Common.{◌≡◌, ℕ, suc, ◌+◌, List, ◌∷◌, ◌++◌, Bool, Option, length, sym, ap, ◌∙◌, subst, arith, length-append}
use Rattle.std.specs.Prelude.{if◌then◌else◌}
use Rattle.std.specs.Cmp.{IsTotalOrder}
use Rattle.std.specs.FinMap.{get}
use Rattle.std.specs.declared.cmp.Ordering.{Ordering}
use Rattle.tc_base.specs.Maps.{Map}
use Rattle.tc_base.specs.declared.order.Order.{Ghosts as Orders}
use Rattle.tc_base.specs.declared.seq.Pair.{Pair}
use Rattle.tc_space.specs.declared.records.Records.{Ghosts as Stores}
use Rattle.tc_space.specs.declared.space.Space.{Ghosts}
use Rattle.bt_page.specs.declared.page.Leaf.{Leaf}
use Rattle.bt_rows.specs.declared.head.TreeHead.{TreeHead}
use Rattle.bt_rows.specs.declared.page.LeafAt.{LeafAt}
use Rattle.bt_rows.specs.declared.page.Page.{Page}
use Rattle.bt_rows.specs.declared.page.Page.TheVariants.{Leaf as leaf_page, Node as node_page}
use Rattle.bt_rows.specs.Orders.{IsOrder, before_by}
use Rattle.bt_rows.specs.Rules.{InOrder, pairs_of}
use Rattle.bt_ways.specs.Changes.{AreItems, IsChanged, IsOver, ItemsWithin, inserted, items_pairs}
use Rattle.bt_ways.specs.Ways.{Found}
use Rattle.bt_ways.proofs.Changing.{leaf_takes_pair}
use Rattle.bt_ways.proofs.Keys.{order_behind}
use Rattle.bt_ways.proofs.Within.{items_within, over_changed}
use Rattle.bt_tree.specs.declared.inserting.Changed.{Changed}
use Rattle.bt_tree.specs.declared.tree.Tree.{Tree}
use Rattle.bt_tree.specs.Finding.{LeadsTo}
use Rattle.bt_tree.specs.Inserting.{Inserts, IsCrowded, IsMorePage, IsPutPage, IsWritten, RunsOut, TakesInLeaf, TakesPair, WritesPages}
use Rattle.bt_tree.specs.Meaning.{IsOpen, Means, Meant}
use Rattle.bt_tree.specs.Numbers.{with_pairs}
use Rattle.bt_tree.specs.Paging.{IsLeafId, IsOwn, IsPageOf, LacksPage, LacksSeen, LacksThis, PutsAt, StaysStill}
use Rattle.bt_tree.specs.Parting.{ClimbsIn, HasLeaf, IsPiece, LacksId, LacksIds, ShowsLeaf, TurnsParted}
use Rattle.bt_tree.specs.Trees.{HoldsPairs}
use Rattle.bt_tree.specs.Visits.{LooksAt, StaysTree}
use Rattle.bt_tree.proofs.Descents.{leaf_values}
use Rattle.bt_tree.proofs.Pages.{found_leaf, has_page}
use Rattle.bt_tree.proofs.Inserts.{leaf_held, leaves_within, means_looked}
use Rattle.bt_tree.proofs.Remaking.{IsRemade, made_given, made_kept, made_kept_pages, made_lacks_leaf, made_lacks_piece, made_piece, made_put, made_ready, made_shown, made_spread, made_spread_pages}
use Rattle.bt_tree.proofs.Removes.{pairs_around}
use Rattle.bt_ways.specs.Removals.{with_items}

-- ---- what becomes of the leaf

module _ (cmp : List ℕ → List ℕ → Ordering) (total : IsTotalOrder cmp) (order : IsOrder (before_by cmp)) (last : Bool) (key value : List ℕ) (h : TreeHead) (height : ℕ) (column : Option (List ℕ)) (m : Map) (ps : List Pair)
    (p : HoldsPairs (before_by cmp) h height column (get m) ps) (path : List (ℕ × ℕ)) (x : Changed) (takes : TakesPair cmp last key value p.tree path x) where
  abbrev f : Found (before_by cmp) h.root key p.tree.leaves p.tree.levels path x.id
  f = takes.found

  abbrev with_new : List LeafAt
  with_new = f.front ++ with_items f.leaf x.leaf.items ∷ f.back

  takes_both : InOrder (before_by cmp) with_new × (pairs_of with_new ≡ inserted cmp last key value (pairs_of p.tree.leaves))
  takes_both = leaf_takes_pair cmp total order last p.tree.pages h.root key value p.tree.leaves p.tree.levels path x.id p.tree.stands f x.leaf.items x.place x.grown takes.changed

  pairs_are : pairs_of with_new ≡ inserted cmp last key value ps
  pairs_are = takes_both.1 ∙ ap (inserted cmp last key value) (sym p.are)

  counted : h.pairs + (if x.grown then 1 else 0) ≡ length (inserted cmp last key value ps)
  counted =
      let new : length (pairs_of with_new) ≡ length (pairs_of f.front) + (length (items_pairs x.leaf.items) + length (pairs_of f.back)) =
      ap length (pairs_around f.front (with_items f.leaf x.leaf.items) f.back) ∙ length-append (pairs_of f.front) (items_pairs x.leaf.items ++ pairs_of f.back) ∙ ap (λ (n : ℕ). length (pairs_of f.front) + n) (length-append (items_pairs x.leaf.items) (pairs_of f.back)) in
      let old : length (pairs_of p.tree.leaves) ≡ length (pairs_of f.front) + (length (items_pairs f.leaf.leaf.items) + length (pairs_of f.back)) =
      ap (λ (t : List LeafAt). length (pairs_of t)) f.parts ∙ ap length (pairs_around f.front f.leaf f.back) ∙ length-append (pairs_of f.front) (items_pairs f.leaf.leaf.items ++ pairs_of f.back)
      ∙ ap (λ (n : ℕ). length (pairs_of f.front) + n) (length-append (items_pairs f.leaf.leaf.items) (pairs_of f.back)) in
      omega (arith, new, old, takes.changed.count, p.count, ap length pairs_are)

  remade : IsRemade cmp p.tree key path x.id x.leaf (inserted cmp last key value ps) (h.pairs + (if x.grown then 1 else 0))
  remade = record {
    found = f;
    prev = takes.prev;
    next = takes.next;
    some = omega (arith, ap length takes.changed.new_is, length-append takes.changed.front (takes.changed.item ∷ takes.changed.back));
    have = takes.changed.items.some;
    in_order = takes_both.0;
    pairs = pairs_are;
    counted = counted;
  }

  crowded : (ItemsWithin h.leaf_limit x.leaf.items → ⊥) → IsOver h.leaf_limit x.leaf.items x.place
  crowded over = over_changed cmp last key value f.leaf.leaf.items x.leaf.items x.place x.grown h.leaf_limit takes.changed
      (items_within h.leaf_limit f.leaf.leaf (leaves_within (before_by cmp) h height column m ps p key path x.id f x.id f.leaf.leaf (leaf_held (before_by cmp) h height column m ps p key path x.id f)).within) p.tree.head.leaf_limit.0 over

-- ---- the call

module _ {S V O : Type 0} (s : Ghosts S) (R : Stores V S) (o : Orders O) (last : Bool) (key value : List ℕ) (t u : Tree V O) (a b : S) where
  -- a pair came among the items of the leaf that was read
  pub takes_pair : (path path' : List (ℕ × ℕ)) → path' ≡ path → (id : ℕ) (read new : Leaf) (place : ℕ) (grown : Bool) → LooksAt s R t u a b → StaysTree t u
      → LeadsTo s R o.cmp (before_by o.cmp) key t a path id → IsPageOf s R leaf_page id u b read
      → (new.prev ≡ read.prev) × (new.next ≡ read.next)
      → (AreItems o.cmp read.items → IsChanged o.cmp last key value read.items new.items place grown)
      → TakesInLeaf s R o last key value t a path' (record { id = id; leaf = new; place = place; grown = grown })
  takes_pair path path' moved id read new place grown looks stays found is_read links changed ps h =
      let p : HoldsPairs (before_by o.cmp) t.head t.height t.column (get h.1.records) ps = h.1.is in
      let f = found h.1.records p.tree ((h.0, h.1.store), h.1.same) in
      let is = found_leaf (before_by o.cmp) p.tree.pages t.head.root key p.tree.leaves p.tree.levels path id p.tree.stands f in
      let same : read ≡ f.leaf.leaf = is_read p.tree.pages f.leaf.leaf (means_looked s R o t u a b looks stays ps h) is in
      let ob : InOrder (before_by o.cmp) (f.leaf ∷ f.back) = order_behind (before_by o.cmp) f.front (f.leaf ∷ f.back) (subst (λ (x : List LeafAt). InOrder (before_by o.cmp) x) f.parts p.tree.stands.order) in
      let are : AreItems o.cmp f.leaf.leaf.items = record { ascends = ob.0.ascends; some = leaf_values h.1.records id f.leaf.leaf (has_page t.head h.1.records p.tree.pages id (leaf_page f.leaf.leaf) p.tree.head p.tree.held is) } in
      subst (λ (q : List (ℕ × ℕ)). TakesPair o.cmp last key value p.tree q (record { id = id; leaf = new; place = place; grown = grown })) (sym moved) (record {
        found = f;
        prev = links.0 ∙ ap (λ (l : Leaf). l.prev) same;
        next = links.1 ∙ ap (λ (l : Leaf). l.next) same;
        changed = subst (λ (l : Leaf). IsChanged o.cmp last key value l.items new.items place grown) same (changed (subst (λ (l : Leaf). AreItems o.cmp l.items) (sym same) are));
      })

-- t at the start, u once the leaf was changed, v once it is written, w in the end
module _ {S V O : Type 0} (s : Ghosts S) (R : Stores V S) (o : Orders O) (total : IsTotalOrder o.cmp) (order : IsOrder (before_by o.cmp)) (last : Bool) (key value : List ℕ)
    (t u : Tree V O) (a b : S) (x : Changed) (looks : LooksAt s R t u a b) (stays : StaysTree t u) (taken : TakesInLeaf s R o last key value t a u.path x) where
  pub limit_same : u.head.leaf_limit ≡ t.head.leaf_limit
  limit_same = ap (λ (y : TreeHead). y.leaf_limit) stays.head

  pub over_there : IsOpen s R o t a → (ItemsWithin u.head.leaf_limit x.leaf.items → ⊥) → s.tells → IsOver u.head.leaf_limit x.leaf.items x.place
  over_there ready over told =
      let h = ready.held told in
      subst (λ (n : ℕ). IsOver n x.leaf.items x.place) (sym limit_same)
      (crowded o.cmp total order last key value t.head t.height t.column h.1.1.records h.0 h.1.1.is u.path x (taken h.0 h.1) (λ w. over (subst (λ (n : ℕ). ItemsWithin n x.leaf.items) (sym limit_same) w)))

  abbrev grows : ℕ → ℕ
  grows n = n + (if x.grown then 1 else 0)

  remade_of : (ps : List Pair) (h : Means s R o t a ps) → IsRemade o.cmp h.1.is.tree key u.path x.id x.leaf (inserted o.cmp last key value ps) (grows t.head.pairs)
  remade_of ps h = remade o.cmp total order last key value t.head t.height t.column h.1.records ps h.1.is u.path x (taken ps h)

  leaf_shown : (ps : List Pair) (h : Means s R o t a ps) → ShowsLeaf s R x.id x.leaf.next u b h.1.is.tree.pages
  leaf_shown = made_shown s R o order key (inserted o.cmp last key value) grows t u a b x.id x.leaf looks stays remade_of

  pub leaf_ready : IsOpen s R o t a → HasLeaf s R x.id x.leaf.next u b
  leaf_ready = made_ready s R o order key (inserted o.cmp last key value) grows t u a b x.id x.leaf looks stays remade_of

  pub id_given : IsOpen s R o t a → s.tells → IsLeafId u.head x.id
  id_given = made_given s R o order key (inserted o.cmp last key value) grows t u a b x.id x.leaf looks stays remade_of

  leaf_put : ItemsWithin u.head.leaf_limit x.leaf.items → (ps : List Pair) (h : Means s R o t a ps) → IsPutPage o.cmp t.head h.1.is.tree.pages ps (inserted o.cmp last key value ps) (leaf_page x.leaf)
  leaf_put = made_put s R o order key (inserted o.cmp last key value) grows t u a b x.id x.leaf looks stays remade_of

  piece_put : (p : Page) (ps : List Pair) (h : Means s R o t a ps) → IsPiece u.head u.path x.leaf.items x.leaf.next h.1.is.tree.pages p → IsPutPage o.cmp t.head h.1.is.tree.pages ps (inserted o.cmp last key value ps) p
  piece_put = made_piece s R o order key (inserted o.cmp last key value) grows t u a b x.id x.leaf looks stays remade_of

  -- once it is written
  module _ (v w : Tree V O) (d : S) (noted : w ≡ with_pairs (v.head.pairs + (if x.grown then 1 else 0)) v) where
    pub inserted_kept : ItemsWithin u.head.leaf_limit x.leaf.items → PutsAt s R x.id (leaf_page x.leaf) u v b d → StaysStill s R u v b d → Inserts s R o last key value t w a d
    inserted_kept = made_kept s R o order key (inserted o.cmp last key value) grows t u a b x.id x.leaf looks stays remade_of v w d noted

    pub inserted_spread : v.column ≡ u.column → v.head ≡ record u.head { root = v.head.root; last = v.head.last; leaf_ids = v.head.leaf_ids; node_ids = v.head.node_ids }
        → TurnsParted s R x.id x.leaf u v b d → Inserts s R o last key value t w a d
    inserted_spread = made_spread s R o order key (inserted o.cmp last key value) grows t u a b x.id x.leaf looks stays remade_of v w d noted

    pub kept_pages : ItemsWithin u.head.leaf_limit x.leaf.items → PutsAt s R x.id (leaf_page x.leaf) u v b d → StaysStill s R u v b d → WritesPages s R o (inserted o.cmp last key value) t w a d
    kept_pages = made_kept_pages s R o order key (inserted o.cmp last key value) grows t u a b x.id x.leaf looks stays remade_of v w d noted

    pub spread_pages : TurnsParted s R x.id x.leaf u v b d → WritesPages s R o (inserted o.cmp last key value) t w a d
    spread_pages = made_spread_pages s R o order key (inserted o.cmp last key value) grows t u a b x.id x.leaf looks stays remade_of v w d noted

  -- what a refusal says of the tree
  abbrev pub is_crowded : (ItemsWithin u.head.leaf_limit x.leaf.items → ⊥) → (ps : List Pair) (h : Means s R o t a ps) → IsCrowded o.cmp last key value h.1.is.tree
  is_crowded over ps h =
      let tk = taken ps h in
      record {
        path = u.path;
        id = x.id;
        found = tk.found;
        there = leaf_held (before_by o.cmp) t.head t.height t.column h.1.records ps h.1.is key u.path x.id tk.found;
        items = x.leaf.items;
        are = tk.changed.items;
        pairs = tk.changed.pairs;
        over = λ w. over (subst (λ (n : ℕ). ItemsWithin n x.leaf.items) (sym limit_same) w);
      }

  pub runs_out : (ItemsWithin u.head.leaf_limit x.leaf.items → ⊥) → LacksId s R x.leaf.items u b → (ps : List Pair) (h : Means s R o t a ps) → RunsOut o.cmp last key value h.1.is.tree
  runs_out over lacks ps h =
      let shown = leaf_shown ps h in (
        is_crowded over ps h,
        subst (λ (y : TreeHead). LacksIds y h.1.is.tree.pages u.path x.leaf.items) stays.head (lacks h.1.is.tree.pages (shown.0, shown.1.way)),
      )

  -- a node that comes where the leaf is parted
  piece_more : (ItemsWithin u.head.leaf_limit x.leaf.items → ⊥) → (p : Page) (ps : List Pair) (h : Means s R o t a ps) → IsPiece u.head u.path x.leaf.items x.leaf.next h.1.is.tree.pages p → IsMorePage o.cmp last key value h.1.is.tree p
  piece_more over (leaf_page l) ps h piece = tt
  piece_more over (node_page n) ps h piece = (is_crowded over ps h, subst (λ (y : TreeHead). ClimbsIn y h.1.is.tree.pages u.path x.leaf.items n) stays.head piece.2)

  abbrev LacksWritten : S → Type 0
  LacksWritten d = LacksPage s R (Meant s R o t a) (λ w i. IsOwn t.head 2 t.height w.1.1.is.tree.pages i) (λ w. w.1.1.is.tree.pages) (IsWritten s R o last key value t a) t a d

  pub lacks_leaf : (d : S) → ItemsWithin u.head.leaf_limit x.leaf.items → LacksThis s R x.id (leaf_page x.leaf) u b d → LacksWritten d
  lacks_leaf d fits l = made_lacks_leaf s R o order key (inserted o.cmp last key value) grows t u a b x.id x.leaf looks stays remade_of (IsWritten s R o last key value t a) (λ w. (leaf_put fits w.0 w.1, tt)) d l

  pub lacks_piece : length u.path + 1 ≡ t.height → (d : S) → (ItemsWithin u.head.leaf_limit x.leaf.items → ⊥)
      → LacksSeen s R (ShowsLeaf s R x.id x.leaf.next u b) (IsOwn u.head 2 (suc (length u.path))) (IsPiece u.head u.path x.leaf.items x.leaf.next) u b d → LacksWritten d
  lacks_piece deep d over l = made_lacks_piece s R o order key (inserted o.cmp last key value) grows t u a b x.id x.leaf looks stays remade_of (IsWritten s R o last key value t a) (λ w p piece. (piece_put p w.0 w.1 piece, piece_more over p w.0 w.1 piece)) deep d l
