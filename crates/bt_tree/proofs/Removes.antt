-- Pairs taken out of a tree.
use Rattle.std.proofs.Common.{◌≡◌, ℕ, zero, suc, ◌+◌, ◌<◌, List, [], ◌∷◌, ◌++◌, Bool, true, false, Some, None, length, refl, sym, ap, ◌∙◌, subst, arith, length-append}
use Rattle.std.specs.Prelude.{is_some, slice_get}
use Rattle.std.specs.FinMap.{get}
use Rattle.std.proofs.lemmas.Grind.{flat_map-append}
use Rattle.tc_base.specs.Lists.{values}
use Rattle.tc_base.specs.declared.order.Order.{Ghosts as Orders}
use Rattle.tc_base.specs.declared.seq.Pair.{Pair}
use Rattle.tc_space.specs.Changes.{has_pair}
use Rattle.tc_space.specs.declared.records.Records.{Ghosts as Stores}
use Rattle.tc_space.specs.declared.space.Space.{Ghosts}
use Rattle.bt_page.specs.declared.page.Item.{Item}
use Rattle.bt_page.specs.declared.page.Leaf.{Leaf}
use Rattle.bt_rows.specs.declared.page.LeafAt.{LeafAt}
use Rattle.bt_rows.specs.declared.page.Page.TheVariants.{Leaf as leaf_page}
use Rattle.bt_rows.specs.Levels.{NodeAt, Stands}
use Rattle.bt_rows.specs.Orders.{Before, IsOrder, before_by}
use Rattle.bt_rows.specs.Pages.{PageMap}
use Rattle.bt_rows.specs.Rows.{first_id, last_id}
use Rattle.bt_rows.specs.Rules.{B5, B7, InOrder, leaf_pairs, pairs_of}
use Rattle.bt_ways.specs.Changes.{AreItems, IsTaken, items_pairs}
use Rattle.bt_ways.specs.Items.{IsLeafFor, item_of}
use Rattle.bt_ways.specs.Removals.{with_items}
use Rattle.bt_ways.specs.Searches.{IsSpot}
use Rattle.bt_ways.proofs.Keys.{order_behind}
use Rattle.bt_tree.specs.declared.tree.Tree.{Tree}
use Rattle.bt_tree.specs.Finding.{LeadsTo}
use Rattle.bt_tree.specs.Meaning.{AnswersPairs, Means}
use Rattle.bt_tree.specs.Paging.{IsPageOf, Shows, StaysStill}
use Rattle.bt_tree.specs.Removing.{GivesInLeaf, GivesPairs, HitsIn}
use Rattle.bt_tree.specs.Trees.{HoldsPairs}
use Rattle.bt_tree.specs.Visits.{LooksAt, StaysTree}
use Rattle.bt_tree.proofs.Descents.{belongs, leaf_values}
use Rattle.bt_tree.proofs.Finds.{found_none, found_some}
use Rattle.bt_tree.proofs.Inserts.{last-append, means_looked}
use Rattle.bt_tree.proofs.Pages.{found_leaf, has_page}

-- ---- whether a key is held

item_none : (key : List ℕ) (vs : List (List ℕ)) → None ≡ item_of key vs → false ≡ is_some (slice_get vs 0)
item_none key [] e = refl
item_none key (v ∷ vs) e = absurd (cc)

item_some : (key : List ℕ) (vs : List (List ℕ)) (x : Item) → Some x ≡ item_of key vs → true ≡ is_some (slice_get vs 0)
item_some key [] x e = absurd (cc)
item_some key (v ∷ vs) x e = refl

there_at : {X : Type 0} (xs : List X) (place : ℕ) → place < length xs → (x : X) × (slice_get xs place ≡ Some x)
there_at [] place lt = absurd (omega (arith, lt))
there_at (x ∷ xs) zero lt = (x, refl)
there_at (x ∷ xs) (suc place) lt = there_at xs place (omega (arith, lt))

pub has_hit : (before : Before) → IsOrder before → (key : List ℕ) (ps : List Pair) (leaf : Leaf) (place : ℕ) (hit : Bool) → IsSpot before leaf.items key place hit → IsLeafFor before key ps leaf → hit ≡ has_pair key ps
has_hit before order key ps leaf place false s l = item_none key (values ps key) (found_none before order key ps leaf place l (λ asc. s))
has_hit before order key ps leaf place true s l = let x = there_at leaf.items place (s.inside refl) in item_some key (values ps key) x.0 (found_some before order key ps leaf place l x.0 (λ asc. s) x.1)

-- ---- rows of leaves

pub first_same : (xs : List LeafAt) (l : LeafAt) (items : List Item) (ys : List LeafAt) → first_id (xs ++ with_items l items ∷ ys) ≡ first_id (xs ++ l ∷ ys)
first_same [] l items ys = refl
first_same (x ∷ xs) l items ys = refl

pub last_same : (xs : List LeafAt) (l : LeafAt) (items : List Item) (ys : List LeafAt) → last_id 0 (xs ++ with_items l items ∷ ys) ≡ last_id 0 (xs ++ l ∷ ys)
last_same xs l items ys = last-append 0 xs (with_items l items ∷ ys) ∙ sym (last-append 0 xs (l ∷ ys))

pub pairs_around : (xs : List LeafAt) (l : LeafAt) (ys : List LeafAt) → pairs_of (xs ++ l ∷ ys) ≡ pairs_of xs ++ (items_pairs l.leaf.items ++ pairs_of ys)
pairs_around xs l ys = flat_map-append leaf_pairs xs (l ∷ ys)

long_around : (a b c : List Pair) → length (a ++ (b ++ c)) ≡ length a + (length b + length c)
long_around a b c = length-append a (b ++ c) ∙ ap (λ (n : ℕ). length a + n) (length-append b c)

-- as many pairs went from all leaves as from one
pub count_around : (xs : List LeafAt) (l : LeafAt) (items : List Item) (gone : ℕ) (ys : List LeafAt) → length (items_pairs items) + gone ≡ length (items_pairs l.leaf.items)
    → length (pairs_of (xs ++ with_items l items ∷ ys)) + gone ≡ length (pairs_of (xs ++ l ∷ ys))
count_around xs l items gone ys e =
    let now : length (pairs_of (xs ++ with_items l items ∷ ys)) ≡ length (pairs_of xs) + (length (items_pairs items) + length (pairs_of ys)) = ap length (pairs_around xs (with_items l items) ys) ∙ long_around (pairs_of xs) (items_pairs items) (pairs_of ys) in
    let was : length (pairs_of (xs ++ l ∷ ys)) ≡ length (pairs_of xs) + (length (items_pairs l.leaf.items) + length (pairs_of ys)) = ap length (pairs_around xs l ys) ∙ long_around (pairs_of xs) (items_pairs l.leaf.items) (pairs_of ys) in
    omega (arith, now, was, e)

-- ---- a tree means what its pages stand for

module _ {S V O : Type 0} (s : Ghosts S) (R : Stores V S) (o : Orders O) where
  -- whether the leaf where the key belongs has it is whether it is held
  pub hit_held : (order : IsOrder (before_by o.cmp)) (t u : Tree V O) (a b : S) (key : List ℕ) (path : List (ℕ × ℕ)) (id : ℕ) (hit : Bool) → LooksAt s R t u a b → StaysTree t u
      → LeadsTo s R o.cmp (before_by o.cmp) key t a path id → HitsIn s R (before_by o.cmp) key id u b hit → AnswersPairs s R o (has_pair key) t a hit
  hit_held order t u a b key path id hit looks stays found is_hit ps h =
      let p : HoldsPairs (before_by o.cmp) t.head t.height t.column (get h.1.records) ps = h.1.is in
      let f = found h.1.records p.tree ((h.0, h.1.store), h.1.same) in
      is_hit p.tree.pages f.leaf.leaf ps (means_looked s R o t u a b looks stays ps h) (found_leaf (before_by o.cmp) p.tree.pages t.head.root key p.tree.leaves p.tree.levels path id p.tree.stands f)
      (belongs (before_by o.cmp) order key t.head t.height t.column h.1.records ps p path id f)

  pub means_of : (u : Tree V O) (a : S) (pages : PageMap) (leaves : List LeafAt) (levels : List (List NodeAt)) (ps : List Pair) → Shows s R u a pages → u.head.order ≡ o.CODE → Stands (before_by o.cmp) pages u.head.root leaves levels → u.height ≡ suc (length levels) → B5 u.head pages
      → B7 u.head leaves → u.head.pairs ≡ length (pairs_of leaves) → ps ≡ pairs_of leaves → Means s R o u a ps
  means_of u a pages leaves levels ps h code st high limits links count are = (
    h.0,
    record {
      records = h.1.records;
      store = h.1.store;
      same = h.1.same;
      order = code;
      is = record {
        tree = record { head = h.1.head; pages = pages; held = h.1.held; leaves = leaves; levels = levels; stands = st; high = high };
        keys = h.1.keys;
        limits = limits;
        links = links;
        count = count;
        are = are;
      };
    },
  )

-- ---- values that went from the leaf where a key belongs

-- t at the start, u once the leaf was read; its path may be noted elsewhere meanwhile
module _ {S V O : Type 0} (s : Ghosts S) (R : Stores V S) (o : Orders O) (all : Bool) (key : List ℕ) (t u : Tree V O) (a b : S) where
  pub gives_pairs : (path path' : List (ℕ × ℕ)) (id : ℕ) (read new : Leaf) (count : ℕ) → path' ≡ path → LooksAt s R t u a b → StaysTree t u
      → LeadsTo s R o.cmp (before_by o.cmp) key t a path id → IsPageOf s R leaf_page id u b read
      → (new.prev ≡ read.prev) × (new.next ≡ read.next)
      → (AreItems o.cmp read.items → IsTaken o.cmp all key read.items new.items count)
      → GivesInLeaf s R o all key t a path' (record { id = id; leaf = new; count = count })
  gives_pairs path path' id read new count way looks stays found is_read links taken ps h =
      let p : HoldsPairs (before_by o.cmp) t.head t.height t.column (get h.1.records) ps = h.1.is in
      let f = found h.1.records p.tree ((h.0, h.1.store), h.1.same) in
      let is = found_leaf (before_by o.cmp) p.tree.pages t.head.root key p.tree.leaves p.tree.levels path id p.tree.stands f in
      let same : read ≡ f.leaf.leaf = is_read p.tree.pages f.leaf.leaf (means_looked s R o t u a b looks stays ps h) is in
      let ob : InOrder (before_by o.cmp) (f.leaf ∷ f.back) = order_behind (before_by o.cmp) f.front (f.leaf ∷ f.back) (subst (λ (x : List LeafAt). InOrder (before_by o.cmp) x) f.parts p.tree.stands.order) in
      let are : AreItems o.cmp f.leaf.leaf.items = record { ascends = ob.0.ascends; some = leaf_values h.1.records id f.leaf.leaf (has_page t.head h.1.records p.tree.pages id (leaf_page f.leaf.leaf) p.tree.head p.tree.held is) } in
      subst (λ (q : List (ℕ × ℕ)). GivesPairs o.cmp all key p.tree q (record { id = id; leaf = new; count = count })) (sym way)
      (record {
        found = f;
        prev = links.0 ∙ ap (λ (l : Leaf). l.prev) same;
        next = links.1 ∙ ap (λ (l : Leaf). l.next) same;
        taken = subst (λ (l : Leaf). IsTaken o.cmp all key l.items new.items count) same (taken (subst (λ (l : Leaf). AreItems o.cmp l.items) (sym same) are));
      })

pub stays_still : {S V O : Type 0} (s : Ghosts S) (R : Stores V S) (t u : Tree V O) (a b : S) → StaysStill s R t u a b → StaysTree t u
stays_still s R t u a b still = record { head = still.head; height = still.height; column = still.column }
