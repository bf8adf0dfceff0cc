-- Pages of a tree, taken out one by one.
use Rattle.std.proofs.Common.{◌≡◌, ◌⊎◌, ℕ, List, [], ◌∷◌, Bool, true, false, cond, Option, Some, None, refl, sym, ap, ◌∙◌, subst, inl, inr, ⊎_elim, arith}
use Rattle.std.specs.Prelude.{is_some}
use Rattle.std.specs.FinMap.{get, remove, get-remove}
use Rattle.std.specs.List.{AllByRecursion}
use Rattle.std.specs.Ordering.{nat_cmp, eq_by_cmp}
use Rattle.std.specs.Cmp.Lexicographic.{slice_cmp, nat_list_cmp_total}
use Rattle.std.proofs.lemmas.Bool.{cases_eq}
use Rattle.std.proofs.lemmas.Cmp.{tied_itself}
use Rattle.tc_base.specs.Maps.{Map}
use Rattle.tc_space.specs.Frames.{Keeps, Reads, keeps_refl, keeps_then}
use Rattle.tc_space.specs.Stores.{ready_reads, ready_writes}
use Rattle.tc_space.specs.declared.records.Records.{Ghosts as Stores}
use Rattle.tc_space.specs.declared.space.Space.{Ghosts}
use Rattle.bt_page.specs.Keys.{key_of}
use Rattle.bt_page.proofs.IdKeys.{key_free}
use Rattle.bt_page.specs.declared.page.Leaf.{Leaf}
use Rattle.bt_page.specs.declared.page.Node.{Node}
use Rattle.bt_rows.specs.declared.head.TreeHead.{TreeHead}
use Rattle.bt_rows.specs.declared.page.Page.{Page}
use Rattle.bt_rows.specs.declared.page.Page.TheVariants.{Leaf as leaf_page, Node as node_page}
use Rattle.bt_rows.specs.Pages.{PageMap, IsGiven, IsHeldAs, AreHeld}
use Rattle.bt_rows.specs.Rules.{B1, B2, IsPageAt, column as column_key}
use Rattle.bt_rows.proofs.Held.{column_free, given_small}
use Rattle.bt_cache.specs.Effects.{DropsPage, SameStore, same_store_refl, same_store_then}
use Rattle.bt_cache.proofs.Kept.{remove_other}
use Rattle.bt_ways.specs.Removals.{without_way}
use Rattle.bt_ways.specs.Writes.{drop_at}
use Rattle.bt_ways.proofs.Counts.{drops}
use Rattle.bt_tree.specs.declared.tree.Tree.{Tree}
use Rattle.bt_tree.specs.Meaning.{file_in}
use Rattle.bt_tree.specs.Paging.{IsLeafId, IsNodeId, IsShown, LacksRoom, Rewrites, Seen, Shows, StaysStill, Stood}
use Rattle.bt_tree.specs.Removing.{IsRemnant, LacksRemnant, Narrows, StaysNumbered}
use Rattle.bt_tree.specs.Trees.{HasKeys}
use Rattle.bt_tree.proofs.Pagings.{ComesOf, Gives, keys_moved, lacks_after, leaf_given, more_shows, node_given, shown_beside}

-- ---- a page goes

remove_here : (m : Map) (k : List ℕ) → get (remove m k) k ≡ None
remove_here m k = get-remove nat_list_cmp_total m k k ∙ ap (λ (b : Bool). cond b None (get m k)) same
  where
    same : eq_by_cmp (slice_cmp nat_cmp) k k ≡ true
    same = rw (tied_itself nat_list_cmp_total k) refl

module _ (h : TreeHead) (column : Option (List ℕ)) (m : Map) (pages : PageMap) (id : ℕ) (head : B1 h) (given : IsGiven h id) where
  rule_out : B2 h (is_some column) (get m) → B2 h (is_some column) (get (remove m (key_of id)))
  rule_out rule key bytes e = go (eq_by_cmp (slice_cmp nat_cmp) key (key_of id)) (sym (get-remove nat_list_cmp_total m (key_of id) key) ∙ e)
    where
      none_some : None ≡ Some bytes → ⊥
      none_some x = cc

      go : (b : Bool) → cond b None (get m key) ≡ Some bytes → IsPageAt h key bytes ⊎ ((is_some column ≡ true) × (key ≡ column_key))
      go true x = absurd (none_some x)
      go false x = rule key bytes x

  pub keys_out : HasKeys h column (get m) → HasKeys h column (get (remove m (key_of id)))
  keys_out keys = record { rule = rule_out keys.rule; has = remove_other m (key_of id) column_key (λ e. absurd (column_free id (given_small h id head given) e)) ∙ keys.has }

  pub held_out : AreHeld h (get m) pages → AreHeld h (get (remove m (key_of id))) (drop_at id pages)
  held_out held = record {
    given = λ j g. ⊎_elim (λ (same : j ≡ id). subst (λ (i : ℕ). IsHeldAs i (get (remove m (key_of id)) (key_of i)) (drop_at id pages i)) (sym same) here) (λ (other : j ≡ id → ⊥). there j g other) (cases_eq j id);
    others = λ j not. ⊎_elim (λ (same : j ≡ id). ap (drop_at id pages) same ∙ (drops id pages).gone) (λ (other : j ≡ id → ⊥). (drops id pages).others j other ∙ held.others j not) (cases_eq j id);
  }
    where
      here : IsHeldAs id (get (remove m (key_of id)) (key_of id)) (drop_at id pages id)
      here =
          subst (λ (o : Option (List ℕ)). IsHeldAs id o (drop_at id pages id)) (sym (remove_here m (key_of id)))
          (subst (λ (p : Option Page). IsHeldAs id None p) (sym (drops id pages).gone) tt)

      there : (j : ℕ) → IsGiven h j → (j ≡ id → ⊥) → IsHeldAs j (get (remove m (key_of id)) (key_of j)) (drop_at id pages j)
      there j g other =
          let away : key_of j ≡ key_of id → ⊥ = λ e. other (key_free j id (given_small h j head g) (given_small h id head given) e) in
          subst (λ (o : Option (List ℕ)). IsHeldAs j o (drop_at id pages j)) (sym (remove_other m (key_of id) (key_of j) (λ e. absurd (away e))))
          (subst (λ (p : Option Page). IsHeldAs j (get m (key_of j)) p) (sym ((drops id pages).others j (λ e. absurd (other e)))) (held.given j g))

-- ---- numbers that pages don't hang on

pub record SameIds (h k : TreeHead) : Type 0 where
  pub order : k.order ≡ h.order
  pub leaf_limit : k.leaf_limit ≡ h.leaf_limit
  pub node_limit : k.node_limit ≡ h.node_limit
  pub leaf_ids : k.leaf_ids ≡ h.leaf_ids
  pub node_ids : k.node_ids ≡ h.node_ids

pub gives_same : (h k : TreeHead) → SameIds h k → Gives h k
gives_same h k e = record {
  order = e.order;
  leaf_limit = e.leaf_limit;
  node_limit = e.node_limit;
  leaves = omega (arith, e.leaf_ids);
  nodes = omega (arith, e.node_ids);
  leaves_small = λ lt. omega (arith, lt, e.leaf_ids);
  nodes_small = λ lt. omega (arith, lt, e.node_ids);
}

pub all_same : (h k : TreeHead) → k ≡ h → SameIds h k
all_same h k e = record { order = ap (λ (x : TreeHead). x.order) e; leaf_limit = ap (λ (x : TreeHead). x.leaf_limit) e; node_limit = ap (λ (x : TreeHead). x.node_limit) e; leaf_ids = ap (λ (x : TreeHead). x.leaf_ids) e; node_ids = ap (λ (x : TreeHead). x.node_ids) e }

pub narrow_ids : (h k : TreeHead) → k ≡ record h { root = k.root; first = k.first; last = k.last } → SameIds h k
narrow_ids h k e = record { order = ap (λ (x : TreeHead). x.order) e; leaf_limit = ap (λ (x : TreeHead). x.leaf_limit) e; node_limit = ap (λ (x : TreeHead). x.node_limit) e; leaf_ids = ap (λ (x : TreeHead). x.leaf_ids) e; node_ids = ap (λ (x : TreeHead). x.node_ids) e }

pub given_same : (h k : TreeHead) (id : ℕ) → SameIds h k → IsGiven h id → IsGiven k id
given_same h k id e (inl g) = inl (g.0, omega (arith, g.1, e.leaf_ids))
given_same h k id e (inr g) = inr (g.0, omega (arith, g.1, e.node_ids))

-- ---- a tree that shows pages

module _ {S V O : Type 0} (s : Ghosts S) (R : Stores V S) where
  pub drop_shows : (t u : Tree V O) (a b : S) (id : ℕ) → (s.tells → IsGiven t.head id) → DropsPage s R id t.cache u.cache t.store u.store a b → u.head ≡ t.head → u.column ≡ t.column → Rewrites s R (drop_at id) t u a b
  drop_shows t u a b id given writes head column = record {
    sound = writes.sound;
    others = writes.others;
    means = λ pages h.
        let m' : Map = remove h.1.records (key_of id) in
        let beside = writes.means h.1.records (shown_beside s R t a pages h) in (
          beside.0.0,
          record {
            records = m';
            store = beside.0.1;
            same = beside.1;
            head = subst B1 (sym head) h.1.head;
            keys = keys_moved t.head u.head t.column u.column m' head column (keys_out t.head t.column h.1.records pages id h.1.head (given h.0) h.1.keys);
            held = subst (λ (k : TreeHead). AreHeld k (get m') (drop_at id pages)) (sym head) (held_out t.head t.column h.1.records pages id h.1.head (given h.0) h.1.held);
          },
        );
  }

  pub leaf_id_shown : (t : Tree V O) (a : S) (pages : PageMap) (id : ℕ) (l : Leaf) → Shows s R t a pages → pages id ≡ Some (leaf_page l) → IsLeafId t.head id
  leaf_id_shown t a pages id l h is = leaf_given t.head h.1.records pages id l h.1.head h.1.held is

  pub node_id_shown : (t : Tree V O) (a : S) (pages : PageMap) (id : ℕ) (n : Node) → Shows s R t a pages → pages id ≡ Some (node_page n) → IsNodeId t.head id
  node_id_shown t a pages id n h is = node_given t.head h.1.records pages id n h.1.head h.1.held is

  -- no page has the id 0
  pub none_at_zero : (t : Tree V O) (a : S) (pages : PageMap) → Shows s R t a pages → pages 0 ≡ None
  none_at_zero t a pages h = h.1.held.others 0 none
    where
      none : IsGiven t.head 0 → ⊥
      none (inl g) = omega (arith, g.0)
      none (inr g) = omega (arith, g.0)

-- ---- no room

module _ {S V O : Type 0} (s : Ghosts S) (R : Stores V S) where
  -- later on, of what is seen at first and of pages of a wider sort
  pub room_after : (W X : Type 0) (F : W → ℕ → Type 0) (G : X → ℕ → Type 0) (A : W → PageMap) (B : X → PageMap) (P : W → Page → Type 0) (Q : X → Page → Type 0) (t u : Tree V O) (old mid new : S) → Keeps s old mid → SameStore R t.store u.store → u.column ≡ t.column
      → ((x : X) → ComesOf W F A P (G x) (B x) (Q x)) → LacksRoom s R W F A P u mid new → LacksRoom s R X G B Q t old new
  room_after W X F G A B P Q t u old mid new keeps made column comes (inl l) = inl (lacks_after s R W X F G A B P Q t u old mid new keeps made column comes l)
  room_after W X F G A B P Q t u old mid new keeps made column comes (inr log) = inr log

  -- of what is left of pages where a leaf goes
  pub remnant_after : (C D : Tree V O → S → PageMap → Type 0) (t u : Tree V O) (old mid new : S) → Keeps s old mid → SameStore R t.store u.store → u.column ≡ t.column
      → ((pages : PageMap) → D t old pages → ComesOf (Seen (C u mid)) (λ w i. Stood w.0 i) (λ w. w.0) (λ w p. IsRemnant u.head w.0 p) (Stood pages) pages (IsRemnant t.head pages)) → LacksRemnant s R C u mid new → LacksRemnant s R D t old new
  remnant_after C D t u old mid new keeps made column comes l =
      room_after (Seen (C u mid)) (Seen (D t old)) (λ w i. Stood w.0 i) (λ w i. Stood w.0 i) (λ w. w.0) (λ w. w.0) (λ w p. IsRemnant u.head w.0 p) (λ w p. IsRemnant t.head w.0 p) t u old mid new keeps made column (λ x. comes x.0 x.1) l

-- ---- the nodes on a way go

pub ids_rest : (h k : TreeHead) (path rest : List (ℕ × ℕ)) (step : ℕ × ℕ) → path ≡ step ∷ rest → k ≡ h → AllByRecursion (λ s. IsGiven h s.0) path → AllByRecursion (λ s. IsGiven k s.0) rest
ids_rest h k path rest step e same all =
    subst (λ (x : TreeHead). AllByRecursion (λ s. IsGiven x s.0) rest) (sym same) (subst (λ (p : List (ℕ × ℕ)). AllByRecursion (λ s. IsGiven h s.0) p) e all).1

module _ {S V O : Type 0} (s : Ghosts S) (R : Stores V S) where
  -- the tree has another way, or another root, first or last leaf
  pub same_shows : (t u : Tree V O) (a : S) → u.store ≡ t.store → u.cache.pages ≡ t.cache.pages → u.column ≡ t.column → SameIds t.head u.head → (pages : PageMap) → Shows s R t a pages → Shows s R u a pages
  same_shows t u a store cache column ids = more_shows s R t u a store cache column (gives_same t.head u.head ids)

  pub same_reads : (t u : Tree V O) (a : S) → s.sound a → u.store ≡ t.store → u.cache.pages ≡ t.cache.pages → u.column ≡ t.column → SameIds t.head u.head → Reads s (Shows s R) t u a a
  same_reads t u a sound store cache column ids = record { now = λ told g. refl; touched = refl; sound = sound; means = same_shows t u a store cache column ids }

  pub same_ready : (t u : Tree V O) (a : S) → u.store ≡ t.store → u.cache.pages ≡ t.cache.pages → u.column ≡ t.column → SameIds t.head u.head → IsShown s R t a → IsShown s R u a
  same_ready t u a store cache column ids ready = ready_reads s (Shows s R) t u a a (same_reads t u a ready.sound store cache column ids) ready

  pub way_none : (t u : Tree V O) (a : S) → s.sound a → t.path ≡ [] → u.store ≡ t.store → u.cache.pages ≡ t.cache.pages → u.column ≡ t.column → u.head ≡ t.head → Rewrites s R (without_way t.path) t u a a
  way_none t u a sound none store cache column head =
      let reads : Reads s (Shows s R) t u a a = same_reads t u a sound store cache column (all_same t.head u.head head) in
      record {
        sound = sound;
        means = λ pages h. subst (λ (p : List (ℕ × ℕ)). Shows s R u a (without_way p pages)) (sym none) (reads.means pages h);
        others = record { same = λ told g other. refl };
      }

  pub way_more : (t r v u : Tree V O) (a b c : S) (step : ℕ × ℕ) (rest : List (ℕ × ℕ)) → t.path ≡ step ∷ rest → v.path ≡ rest → s.sound a → r.store ≡ t.store → r.cache.pages ≡ t.cache.pages → r.column ≡ t.column → r.head ≡ t.head
      → Rewrites s R (drop_at step.0) r v a b → R.file_of v.store ≡ R.file_of r.store → Rewrites s R (without_way v.path) v u b c → Rewrites s R (without_way t.path) t u a c
  way_more t r v u a b c step rest e f sound store cache column head first file second =
      let start : Reads s (Shows s R) t r a a = same_reads t r a sound store cache column (all_same t.head r.head head) in
      let same_file : file_in R r ≡ file_in R t = ap R.file_of store in
      record {
        sound = second.sound;
        means = λ pages h. subst (λ (p : List (ℕ × ℕ)). Shows s R u c (without_way p pages)) (sym (e ∙ ap (λ (q : List (ℕ × ℕ)). step ∷ q) (sym f))) (second.means (drop_at step.0 pages) (first.means pages (start.means pages h)));
        others = record {
          same = λ told g other. second.others.same told g (λ is. absurd (other (is ∙ file ∙ same_file))) ∙ first.others.same told g (λ is. absurd (other (is ∙ same_file)));
        };
      }

  -- from t on some nodes have gone: what makes of v the tree without the nodes that are left on its way makes of t that without all
  pub record IsDropping (t v : Tree V O) (a b : S) : Type 0 where
    pub ready : IsShown s R v b
    pub ids : s.tells → AllByRecursion (λ s. IsGiven v.head s.0) v.path
    pub rest : (u : Tree V O) (c : S) → Rewrites s R (without_way v.path) v u b c → Rewrites s R (without_way t.path) t u a c
    pub narrows : Narrows s R t v a b
    pub same : StaysNumbered t v

  pub narrows_same : (t v : Tree V O) (a b : S) → Keeps s a b → SameStore R t.store v.store → v.column ≡ t.column → StaysNumbered t v → Narrows s R t v a b
  narrows_same t v a b keeps made column same = record {
    keeps = keeps;
    made = made;
    column = column;
    head = subst (λ (h : TreeHead). h ≡ record t.head { root = h.root; first = h.first; last = h.last }) (sym same.0) refl;
    rows = omega (arith, same.1);
  }

  pub drops_begin : (t : Tree V O) (a : S) → IsShown s R t a → (s.tells → AllByRecursion (λ s. IsGiven t.head s.0) t.path) → IsDropping t t a a
  drops_begin t a ready ids = record { ready = ready; ids = ids; rest = λ u c w. w; narrows = narrows_same t t a a (keeps_refl s a) (same_store_refl R t.store) refl (refl, refl); same = (refl, refl) }

  -- r without the lowest step of v's way, w after its page is asked to go
  module _ (t v r w : Tree V O) (a b c : S) (step : ℕ × ℕ) (rest : List (ℕ × ℕ)) (g : IsDropping t v a b) (path : r.path ≡ rest) (store : r.store ≡ v.store) (column : r.column ≡ v.column) (head : r.head ≡ v.head) (height : r.height ≡ v.height) (still : StaysStill s R r w b c) where
    pub drops_same : StaysNumbered t w
    drops_same = (still.head ∙ head ∙ g.same.0, still.height ∙ height ∙ g.same.1)

    pub drops_narrows : Narrows s R t w a c
    drops_narrows = narrows_same t w a c (keeps_then s a b c g.narrows.keeps still.keeps) (same_store_then R t.store v.store w.store g.narrows.made (subst (λ (x : V). SameStore R x w.store) store still.made)) (still.column ∙ column ∙ g.narrows.column) drops_same

    pub drops_on : v.path ≡ step ∷ rest → r.cache.pages ≡ v.cache.pages → Rewrites s R (drop_at step.0) r w b c → IsDropping t w a c
    drops_on e cache out = record {
      ready = ready_writes s (Shows s R) _ _ _ _ _ _ out (same_ready v r b store cache column (all_same _ _ head) g.ready);
      ids = λ told. subst (λ (p : List (ℕ × ℕ)). AllByRecursion (λ s. IsGiven w.head s.0) p) (sym (still.path ∙ path)) (ids_rest v.head w.head v.path rest step e (still.head ∙ head) (g.ids told));
      rest = λ u d second. g.rest u d (way_more v r w u b c d step rest e (still.path ∙ path) g.ready.sound store cache column head out still.made.file second);
      narrows = drops_narrows;
      same = drops_same;
    }
