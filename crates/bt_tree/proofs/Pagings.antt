-- Pages of a tree, read and written one by one.
use Rattle.std.proofs.Common.{◌≡◌, ◌≢◌, ◌⊎◌, ℕ, ◌+◌, ◌<◌, ◌≤◌, ◌^◌, List, [], ◌∷◌, Bool, true, false, Option, Some, None, refl, sym, ap, ◌∙◌, subst, inl, inr, ⊎_elim, arith}
use Rattle.std.specs.Prelude.{◌==◌, is_some}
use Rattle.std.specs.FinMap.{get, insert}
use Rattle.std.specs.List.{AllByRecursion}
use Rattle.std.proofs.lemmas.Bool.{cases_eq, cases_lt}
use Rattle.std.proofs.lemmas.Bool.Decides.{nat_tests}
use Rattle.std.proofs.lemmas.Slice.Eq.{bytes_eq-Decides}
use Rattle.tc_base.specs.Maps.{Map}
use Rattle.tc_base.specs.Texts.{is_text}
use Rattle.tc_space.specs.Frames.{Keeps, Others, keeps_refl, keeps_then}
use Rattle.tc_space.specs.Stores.{IsReady, Only}
use Rattle.tc_space.specs.declared.records.Records.{Ghosts as Stores}
use Rattle.tc_space.specs.declared.space.Space.{Ghosts}
use Rattle.bt_page.specs.Keys.{node_offset, key_of}
use Rattle.bt_page.specs.declared.page.Leaf.{Leaf}
use Rattle.bt_page.specs.declared.page.Node.{Node}
use Rattle.bt_page.proofs.IdKeys.{key_free}
use Rattle.bt_rows.specs.declared.head.TreeHead.{TreeHead}
use Rattle.bt_rows.specs.declared.page.LeafAt.{LeafAt}
use Rattle.bt_rows.specs.declared.page.Page.{Page}
use Rattle.bt_rows.specs.declared.page.Page.TheVariants.{Leaf as leaf_page, Node as node_page}
use Rattle.bt_rows.specs.Pages.{PageMap, IsGiven, IsPage, IsHeldAs, AreHeld}
use Rattle.bt_rows.specs.Rules.{B1, B2, IsPageAt, column as column_key}
use Rattle.bt_rows.proofs.Held.{given_small, decided, column_free}
use Rattle.bt_cache.specs.Effects.{LacksKey, Looks, PutsPage, SameStore, same_store_refl, same_store_then}
use Rattle.bt_cache.specs.Held.{Pages, AreSame, Beside, IsThere, ReadsAs, ReadyBeside}
use Rattle.bt_cache.specs.declared.cache.Cache.{Cache}
use Rattle.bt_cache.specs.Shared.{IsSomeLeaf, IsSomeNode}
use Rattle.bt_cache.proofs.Kept.{insert_here, insert_other}
use Rattle.bt_ways.specs.Writes.{put_at, put_leaves}
use Rattle.bt_tree.specs.declared.tree.Tree.{Tree}
use Rattle.bt_tree.specs.Paging.{ComesAnew, ComesFrom, FillsIds, Shows, HasLeafAt, HasNodeAt, HoldsOnly, IsFinePage, IsLeafId, IsNext, IsNodeId, IsOwn, IsPageOf, IsShown, LacksPage, LacksSeen, LacksThis, OldOr, Peeks, PutsAt, Seen, Stood, page_bytes}
use Rattle.bt_tree.specs.Trees.{HasKeys}
use Rattle.bt_tree.proofs.Pages.{has_page}

pub put_here : (pages : PageMap) (id : ℕ) (page : Page) → put_at id page pages id ≡ Some page
put_here pages id page = let same : (id == id) ≡ true = grind (arith, nat_tests) in rw same refl

pub put_other : (pages : PageMap) (id : ℕ) (page : Page) (other : ℕ) → (other ≡ id → ⊥) → put_at id page pages other ≡ pages other
put_other pages id page other ne = let no : (other == id) ≡ false = grind (arith, nat_tests) in rw no refl

pub some_leaf : (k l : Leaf) → ◌≡◌ {A = Option Page} (Some (leaf_page k)) (Some (leaf_page l)) → k ≡ l
some_leaf k l e = cc

pub some_node : (m n : Node) → ◌≡◌ {A = Option Page} (Some (node_page m)) (Some (node_page n)) → m ≡ n
some_node m n e = cc

pub leaf_node : (l : Leaf) (n : Node) → ◌≡◌ {A = Option Page} (Some (leaf_page l)) (Some (node_page n)) → ⊥
leaf_node l n e = cc

none_some : {X : Type 0} (x : X) → None ≡ Some x → ⊥
none_some x e = cc

pub put_all : (Q : ℕ → Option Page → Type 0) (pages : PageMap) (id : ℕ) (page : Page) → Q id (Some page) → ((j : ℕ) → (j ≡ id → ⊥) → Q j (pages j)) → (j : ℕ) → Q j (put_at id page pages j)
put_all Q pages id page q all j = ⊎_elim
    (λ (same : j ≡ id). subst (λ (i : ℕ). Q i (put_at id page pages i)) (sym same) (subst (λ (o : Option Page). Q id o) (sym (put_here pages id page)) q))
    (λ (other : j ≡ id → ⊥). subst (λ (o : Option Page). Q j o) (sym (put_other pages id page j other)) (all j other))
    (cases_eq j id)

-- what holds of leaves that are put, and of all else, holds of each page
puts_all : (Q : ℕ → Option Page → Type 0) (ls : List LeafAt) (pages : PageMap) → AllByRecursion (λ l. Q l.slot.id (Some (leaf_page l.leaf))) ls → ((j : ℕ) → Q j (pages j)) → (j : ℕ) → Q j (put_leaves ls pages j)
puts_all Q [] pages a all j = all j
puts_all Q (l ∷ ls) pages a all j = puts_all Q ls (put_at l.slot.id (leaf_page l.leaf) pages) a.1 (put_all Q pages l.slot.id (leaf_page l.leaf) a.0 (λ i other. all i)) j

-- the first of them over what held of all else
pub puts_over : (Q : ℕ → Option Page → Type 0) (pages : PageMap) (l : LeafAt) (ls : List LeafAt) → Q l.slot.id (Some (leaf_page l.leaf)) → AllByRecursion (λ l. Q l.slot.id (Some (leaf_page l.leaf))) ls → ((j : ℕ) → (j ≡ l.slot.id → ⊥) → Q j (pages j))
    → (j : ℕ) → Q j (put_leaves (l ∷ ls) pages j)
puts_over Q pages l ls q a all = puts_all Q ls (put_at l.slot.id (leaf_page l.leaf) pages) a (put_all Q pages l.slot.id (leaf_page l.leaf) q all)

-- ---- pages that come have ids that weren't given

pub anew_refl : (h : TreeHead) (pages : PageMap) → ComesAnew h pages pages
anew_refl h pages id given none = none

pub anew_then : (h k : TreeHead) (a b c : PageMap) → ((id : ℕ) → IsGiven h id → IsGiven k id) → ComesAnew h a b → ComesAnew k b c → ComesAnew h a c
anew_then h k a b c more first second id given none = second id (more id given) (first id given none)

-- one comes over another, or under an id that wasn't given
pub anew_put : (h : TreeHead) (pages : PageMap) (id : ℕ) (page : Page) → (IsGiven h id → pages id ≡ None → ⊥) → ComesAnew h pages (put_at id page pages)
anew_put h pages id page away j given none = ⊎_elim
    (λ (same : j ≡ id). absurd (away (subst (IsGiven h) same given) (ap pages (sym same) ∙ none)))
    (λ (other : j ≡ id → ⊥). put_other pages id page j other ∙ none)
    (cases_eq j id)

pub anew_over : (h : TreeHead) (pages : PageMap) (id : ℕ) (page was : Page) → pages id ≡ Some was → ComesAnew h pages (put_at id page pages)
anew_over h pages id page was is = anew_put h pages id page (λ given none. none_some was (sym none ∙ is))

-- ---- ids that are given

-- none is
pub fills_none : (h k : TreeHead) (pages : PageMap) → k.leaf_ids ≡ h.leaf_ids → k.node_ids ≡ h.node_ids → FillsIds h k pages
fills_none h k pages leaves nodes id (inl g) not none = not (inl (g.0, omega (arith, g.1, leaves)))
fills_none h k pages leaves nodes id (inr g) not none = not (inr (g.0, omega (arith, g.1, nodes)))

-- the next one of a node, which gets a page
pub fills_node : (h k : TreeHead) (pages : PageMap) (id : ℕ) (page : Page) → k.leaf_ids ≡ h.leaf_ids → k.node_ids ≡ h.node_ids + 1 → id ≡ node_offset + (h.node_ids + 1) → FillsIds h k (put_at id page pages)
fills_node h k pages id page leaves nodes is j (inl g) not none = not (inl (g.0, omega (arith, g.1, leaves)))
fills_node h k pages id page leaves nodes is j (inr g) not none = ⊎_elim
    (λ (old : j < id). not (inr (g.0, omega (arith, old, is))))
    (λ (new : id ≤ j). let same : j ≡ id = omega (arith, g.1, nodes, is, new) in none_some page (sym none ∙ ap (put_at id page pages) same ∙ put_here pages id page))
    (cases_lt j id)

-- pages that are there stay there
pub fills_on : (h k : TreeHead) (old new : PageMap) → ComesFrom old new → FillsIds h k old → FillsIds h k new
fills_on h k old new was fills j given not none = fills j given not (was j none)

pub fills_then : (h k m : TreeHead) (pages : PageMap) → FillsIds h k pages → FillsIds k m pages → FillsIds h m pages
fills_then h k m pages first second j given not none = ⊎_elim (λ (g : IsGiven k j). first j g not none) (λ (away : IsGiven k j → ⊥). second j given away none) (decided k j)

-- the ids are the same
pub fills_same : (h k m : TreeHead) (pages : PageMap) → m.leaf_ids ≡ k.leaf_ids → m.node_ids ≡ k.node_ids → FillsIds h k pages → FillsIds h m pages
fills_same h k m pages leaves nodes fills j (inl g) not none = fills j (inl (g.0, omega (arith, g.1, leaves))) not none
fills_same h k m pages leaves nodes fills j (inr g) not none = fills j (inr (g.0, omega (arith, g.1, nodes))) not none

-- ---- a page comes under an id that was given

module _ (h : TreeHead) (column : Option (List ℕ)) (m : Map) (pages : PageMap) (id : ℕ) (page : Page) (bytes : List ℕ) (head : B1 h) (given : IsGiven h id) (is : IsPage id bytes page) where
  rule_put : B2 h (is_some column) (get m) → B2 h (is_some column) (get (insert m (key_of id) bytes))
  rule_put rule key value e = go (is_text key (key_of id)) refl
    where
      some_same : (x y : List ℕ) → Some x ≡ Some y → x ≡ y
      some_same x y e = cc

      clash : (b : Bool) → b ≡ true → b ≡ false → ⊥
      clash b e f = cc

      go : (b : Bool) → is_text key (key_of id) ≡ b → IsPageAt h key value ⊎ ((is_some column ≡ true) × (key ≡ column_key))
      go true t =
          let same : key ≡ key_of id = (bytes_eq-Decides key (key_of id)).0 t in
          let here : Some bytes ≡ Some value = sym (insert_here m (key_of id) bytes) ∙ ap (get (insert m (key_of id) bytes)) (sym same) ∙ e in
          inl (record { id = id; given = given; key_is = same; page = page; is = subst (λ (b : List ℕ). IsPage id b page) (some_same bytes value here) is })
      go false f = rule key value (sym (insert_other m (key_of id) bytes key (λ same. absurd (clash (is_text key (key_of id)) ((bytes_eq-Decides key (key_of id)).1 same) f))) ∙ e)

  pub keys_put : HasKeys h column (get m) → HasKeys h column (get (insert m (key_of id) bytes))
  keys_put keys = record { rule = rule_put keys.rule; has = insert_other m (key_of id) bytes column_key (λ e. absurd (column_free id (given_small h id head given) e)) ∙ keys.has }

  pub held_put : AreHeld h (get m) pages → AreHeld h (get (insert m (key_of id) bytes)) (put_at id page pages)
  held_put held = record {
    given = λ j g. ⊎_elim (λ (same : j ≡ id). subst (λ (i : ℕ). IsHeldAs i (get (insert m (key_of id) bytes) (key_of i)) (put_at id page pages i)) (sym same) here) (λ (other : j ≡ id → ⊥). there j g other) (cases_eq j id);
    others = λ j not. put_other pages id page j (λ same. absurd (not (subst (IsGiven h) (sym same) given))) ∙ held.others j not;
  }
    where
      here : IsHeldAs id (get (insert m (key_of id) bytes) (key_of id)) (put_at id page pages id)
      here =
          subst (λ (o : Option (List ℕ)). IsHeldAs id o (put_at id page pages id)) (sym (insert_here m (key_of id) bytes))
          (subst (λ (p : Option Page). IsHeldAs id (Some bytes) p) (sym (put_here pages id page)) is)

      there : (j : ℕ) → IsGiven h j → (j ≡ id → ⊥) → IsHeldAs j (get (insert m (key_of id) bytes) (key_of j)) (put_at id page pages j)
      there j g other =
          let apart : key_of j ≢ key_of id = λ e. absurd (other (key_free j id (given_small h j head g) (given_small h id head given) e)) in
          subst (λ (o : Option (List ℕ)). IsHeldAs j o (put_at id page pages j)) (sym (insert_other m (key_of id) bytes (key_of j) apart))
          (subst (λ (p : Option Page). IsHeldAs j (get m (key_of j)) p) (sym (put_other pages id page j other)) (held.given j g))

-- ---- further ids are given

pub record Gives (h k : TreeHead) : Type 0 where
  pub order : k.order ≡ h.order
  pub leaf_limit : k.leaf_limit ≡ h.leaf_limit
  pub node_limit : k.node_limit ≡ h.node_limit
  pub leaves : h.leaf_ids ≤ k.leaf_ids
  pub nodes : h.node_ids ≤ k.node_ids
  pub leaves_small : h.leaf_ids < node_offset → k.leaf_ids < node_offset
  pub nodes_small : h.node_ids < node_offset → k.node_ids < node_offset

module _ (h k : TreeHead) (gives : Gives h k) where
  pub given_more : (id : ℕ) → IsGiven h id → IsGiven k id
  given_more id (inl g) = inl (g.0, omega (arith, g.1, gives.leaves))
  given_more id (inr g) = inr (g.0, omega (arith, g.1, gives.nodes))

  pub head_more : B1 h → B1 k
  head_more b = record {
    order = omega (arith, b.order, gives.order);
    leaf_limit = (omega (arith, b.leaf_limit.0, gives.leaf_limit), omega (arith, b.leaf_limit.1, gives.leaf_limit));
    node_limit = (omega (arith, b.node_limit.0, gives.node_limit), omega (arith, b.node_limit.1, gives.node_limit));
    leaf_ids = gives.leaves_small b.leaf_ids;
    node_ids = gives.nodes_small b.node_ids;
  }

  page_more : (key bytes : List ℕ) → IsPageAt h key bytes → IsPageAt k key bytes
  page_more key bytes p = record { id = p.id; given = given_more p.id p.given; key_is = p.key_is; page = p.page; is = p.is }

  module _ (column : Option (List ℕ)) (m : Map) (keys : HasKeys h column (get m)) where
    rule_more : B2 k (is_some column) (get m)
    rule_more key bytes e = ⊎_elim (λ (p : IsPageAt h key bytes). inl (page_more key bytes p)) (λ (col : (is_some column ≡ true) × (key ≡ column_key)). inr col) (keys.rule key bytes e)

    pub keys_more : HasKeys k column (get m)
    keys_more = record { rule = rule_more; has = keys.has }

    -- the key of an id that wasn't given isn't held
    none_there : B1 h → (id : ℕ) → id < 2 ^ 49 → (IsGiven h id → ⊥) → (o : Option (List ℕ)) → get m (key_of id) ≡ o → o ≡ None
    none_there b id small not None e = refl
    none_there b id small not (Some bytes) e = absurd (⊎_elim
        (λ (p : IsPageAt h (key_of id) bytes). not (subst (IsGiven h) (key_free p.id id (given_small h p.id b p.given) small (sym p.key_is)) p.given))
        (λ (col : (is_some column ≡ true) × (key_of id ≡ column_key)). column_free id small (sym col.1))
        (keys.rule (key_of id) bytes e))

    pub held_more : B1 h → (pages : PageMap) → AreHeld h (get m) pages → AreHeld k (get m) pages
    held_more b pages held = record {
      given = λ id g. ⊎_elim (λ (was : IsGiven h id). held.given id was)
          (λ (not : IsGiven h id → ⊥).
          let none : get m (key_of id) ≡ None = none_there b id (given_small k id (head_more b) g) not (get m (key_of id)) refl in
          subst (λ (o : Option (List ℕ)). IsHeldAs id o (pages id)) (sym none) (subst (λ (p : Option Page). IsHeldAs id None p) (sym (held.others id not)) tt))
          (decided h id);
      others = λ id not. held.others id (λ was. not (given_more id was));
    }

-- the same numbers and record
pub keys_moved : (h k : TreeHead) (c d : Option (List ℕ)) (m : Map) → k ≡ h → d ≡ c → HasKeys h c (get m) → HasKeys k d (get m)
keys_moved h k c d m same column keys = subst (λ (x : TreeHead). HasKeys x d (get m)) (sym same) (subst (λ (x : Option (List ℕ)). HasKeys h x (get m)) (sym column) keys)

-- ---- a tree that shows pages

-- what is told of a tree beside its way
abbrev pub told : {V O : Type 0} → Tree V O → V × Pages × Option (List ℕ) × TreeHead × ℕ
told t = (t.store, t.cache.pages, t.column, t.head, t.height)

-- it has another way, and all else stays
pub record IsMoved {V O : Type 0} (t u : Tree V O) (path : List (ℕ × ℕ)) : Type 0 where
  pub all : told u ≡ told t
  pub way : u.path ≡ path

module _ {V O : Type 0} (t u : Tree V O) (path : List (ℕ × ℕ)) (moved : IsMoved t u path) where
  pub moved_store : u.store ≡ t.store
  moved_store = ap (λ x. x.0) moved.all

  pub moved_pages : u.cache.pages ≡ t.cache.pages
  moved_pages = ap (λ x. x.1) moved.all

  pub moved_column : u.column ≡ t.column
  moved_column = ap (λ x. x.2) moved.all

  pub moved_head : u.head ≡ t.head
  moved_head = ap (λ x. x.3) moved.all

  pub moved_height : u.height ≡ t.height
  moved_height = ap (λ x. x.4) moved.all

module _ {S V O : Type 0} (s : Ghosts S) (R : Stores V S) where
  pub shown_beside : (t : Tree V O) (a : S) (pages : PageMap) → (h : Shows s R t a pages) → Beside s R (t.cache.pages, t.store) a h.1.records
  shown_beside t a pages h = ((h.0, h.1.store), h.1.same)

  pub ready_beside : (t : Tree V O) (a : S) → IsShown s R t a → ReadyBeside s R t.cache t.store a
  ready_beside t a ready = record { sound = ready.sound; held = λ told. let h = ready.held told in (h.1.1.records, shown_beside t a h.0 h.1) }

  -- pages were looked at
  pub looked_shows : (t u : Tree V O) (a b : S) → Looks s R t.cache u.cache t.store u.store a b → u.head ≡ t.head → u.column ≡ t.column
      → (pages : PageMap) → Shows s R t a pages → Shows s R u b pages
  looked_shows t u a b looks head column pages h =
      let beside = looks.reads.means h.1.records (shown_beside t a pages h) in (
        beside.0.0,
        record {
          records = h.1.records;
          store = beside.0.1;
          same = beside.1;
          head = subst B1 (sym head) h.1.head;
          keys = keys_moved t.head u.head t.column u.column h.1.records head column h.1.keys;
          held = subst (λ (k : TreeHead). AreHeld k (get h.1.records) pages) (sym head) h.1.held;
        },
      )

  pub looked_ready : (t u : Tree V O) (a b : S) → Looks s R t.cache u.cache t.store u.store a b → u.head ≡ t.head → u.column ≡ t.column
      → IsReady s (Shows s R) t a → IsReady s (Shows s R) u b
  looked_ready t u a b looks head column ready = record { sound = looks.reads.sound; held = λ told. let h = ready.held told in (h.0, looked_shows t u a b looks head column h.0 h.1) }

  -- the tree has other numbers, and all else stays
  pub more_shows : (t u : Tree V O) (a : S) → u.store ≡ t.store → u.cache.pages ≡ t.cache.pages → u.column ≡ t.column → Gives t.head u.head
      → (pages : PageMap) → Shows s R t a pages → Shows s R u a pages
  more_shows t u a store cache column gives pages h = (
    h.0,
    record {
      records = h.1.records;
      store = subst (λ (v : V). R.holds v (s.now a (R.file_of v)) h.1.records) (sym store) h.1.store;
      same = subst (λ (c : Pages). AreSame h.1.records c.entries) (sym cache) h.1.same;
      head = head_more t.head u.head gives h.1.head;
      keys = subst (λ (c : Option (List ℕ)). HasKeys u.head c (get h.1.records)) (sym column) (keys_more t.head u.head gives t.column h.1.records h.1.keys);
      held = held_more t.head u.head gives t.column h.1.records h.1.keys h.1.head pages h.1.held;
    },
  )

  pub more_ready : (t u : Tree V O) (a : S) → u.store ≡ t.store → u.cache.pages ≡ t.cache.pages → u.column ≡ t.column → Gives t.head u.head
      → IsReady s (Shows s R) t a → IsReady s (Shows s R) u a
  more_ready t u a store cache column gives ready = record { sound = ready.sound; held = λ told. let h = ready.held told in (h.0, more_shows t u a store cache column gives h.0 h.1) }

  pub noted_shows : (t u : Tree V O) (a : S) {k : TreeHead} → u ≡ record t { head = k } → Gives t.head k → (pages : PageMap) → Shows s R t a pages → Shows s R u a pages
  noted_shows t u a {k} noted gives pages h =
      more_shows t u a (ap (λ (x : Tree V O). x.store) noted) (ap (λ (x : Tree V O). x.cache.pages) noted) (ap (λ (x : Tree V O). x.column) noted) (subst (λ (x : TreeHead). Gives t.head x) (sym (ap (λ (x : Tree V O). x.head) noted)) gives) pages h

  pub noted_ready : (t u : Tree V O) (a : S) (k : TreeHead) → u ≡ record t { head = k } → Gives t.head k → IsReady s (Shows s R) t a → IsReady s (Shows s R) u a
  noted_ready t u a k noted gives ready =
      more_ready t u a (ap (λ (x : Tree V O). x.store) noted) (ap (λ (x : Tree V O). x.cache.pages) noted) (ap (λ (x : Tree V O). x.column) noted) (subst (λ (x : TreeHead). Gives t.head x) (sym (ap (λ (x : Tree V O). x.head) noted)) gives) ready

  -- a page was written
  pub put_shows : (t u : Tree V O) (a b : S) (id : ℕ) (page : Page) → (s.tells → IsGiven t.head id) → IsPage id (page_bytes page) page
      → PutsPage s R id (page_bytes page) t.cache u.cache t.store u.store a b → u.head ≡ t.head → u.column ≡ t.column → PutsAt s R id page t u a b
  put_shows t u a b id page given is writes head column = record {
    sound = writes.sound;
    others = writes.others;
    means = λ pages h.
        let m' : Map = insert h.1.records (key_of id) (page_bytes page) in
        let beside = writes.means h.1.records (shown_beside t a pages h) in (
          beside.0.0,
          record {
            records = m';
            store = beside.0.1;
            same = beside.1;
            head = subst B1 (sym head) h.1.head;
            keys = keys_moved t.head u.head t.column u.column m' head column (keys_put t.head t.column h.1.records pages id page (page_bytes page) h.1.head (given h.0) is h.1.keys);
            held = subst (λ (k : TreeHead). AreHeld k (get m') (put_at id page pages)) (sym head) (held_put t.head t.column h.1.records pages id page (page_bytes page) h.1.head (given h.0) is h.1.held);
          },
        );
  }

-- ---- no room for a page

module _ {S V O : Type 0} (s : Ghosts S) (R : Stores V S) where
  pub shown_given : (t : Tree V O) (a : S) (pages : PageMap) → Shows s R t a pages → (i : ℕ) (p : Page) → pages i ≡ Some p → IsGiven t.head i
  shown_given t a pages h i p is = ⊎_elim (λ (g : IsGiven t.head i). g) (λ (not : IsGiven t.head i → ⊥). absurd (none_some p (sym (h.1.held.others i not) ∙ is))) (decided t.head i)

  -- a tree that shows pages holds these and `column`, and nothing else
  shown_only : (t : Tree V O) (a : S) (pages : PageMap) (h : Shows s R t a pages) (Fine : ℕ → Page → Type 0) → ((id : ℕ) (p : Page) → pages id ≡ Some p → Fine id p) → HoldsOnly t.column Fine h.1.records
  shown_only t a pages h Fine fine key bytes e = ⊎_elim (λ (p : IsPageAt t.head key bytes). inr (page_at p)) (λ (col : (is_some t.column ≡ true) × (key ≡ column_key)). inl (col.1, column_at col.1)) (h.1.keys.rule key bytes e)
    where
      column_at : key ≡ column_key → t.column ≡ Some bytes
      column_at same = sym h.1.keys.has ∙ ap (get h.1.records) (sym same) ∙ e

      page_at : IsPageAt t.head key bytes → IsFinePage Fine key bytes
      page_at p =
          let there : get h.1.records (key_of p.id) ≡ Some bytes = ap (get h.1.records) (sym p.key_is) ∙ e in
          go (pages p.id) refl (subst (λ (o : Option (List ℕ)). IsHeldAs p.id o (pages p.id)) there (h.1.held.given p.id p.given))
        where
          go : (o : Option Page) → pages p.id ≡ o → IsHeldAs p.id (Some bytes) o → IsFinePage Fine key bytes
          go None same is = absurd is
          go (Some q) same is = record { id = p.id; page = q; key_is = p.key_is; is = is; fine = fine p.id q same }

  pub lacks_now : (t : Tree V O) (a b : S) (id : ℕ) (page : Page) → IsPage id (page_bytes page) page → Keeps s a b → LacksKey s R id (page_bytes page) t.store a b → LacksThis s R id page t a b
  lacks_now t a b id page spelled keeps full = record {
    store = t.store;
    moment = a;
    id = id;
    page = page;
    made = same_store_refl R t.store;
    since = keeps_refl s a;
    until = keeps;
    held = λ w. (w.1.1.records, (w.1.0, w.1.1.store), shown_only t a w.0 w.1 (OldOr w.0 (λ i. i ≡ id) (λ p. p ≡ page)) (λ i p is. inl is));
    own = λ w. refl;
    fine = λ w. refl;
    spelled = spelled;
    by = full;
  }

-- ids that have a page, and the next ones
pub stood_at : (pages : PageMap) (id i : ℕ) (p : Page) → pages id ≡ Some p → i ≡ id → Stood pages i
stood_at pages id i p is e none = none_some p (sym none ∙ ap pages e ∙ is)

pub stood_was : (old new : PageMap) (i : ℕ) (p : Page) → (old i ≡ None → new i ≡ None) → new i ≡ Some p → Stood old i
stood_was old new i p stays is none = none_some p (sym (stays none) ∙ is)

-- from one head to one of as many ids or fewer
pub next_more : (h k : TreeHead) (a b m n i : ℕ) → h.leaf_ids ≤ k.leaf_ids → k.leaf_ids + a ≤ h.leaf_ids + m → h.node_ids ≤ k.node_ids → k.node_ids + b ≤ h.node_ids + n → IsNext k a b i → IsNext h m n i
next_more h k a b m n i leaves leaves_most nodes nodes_most (inl g) = inl (omega (arith, g.0, leaves), omega (arith, g.1, leaves_most))
next_more h k a b m n i leaves leaves_most nodes nodes_most (inr g) = inr (omega (arith, g.0, nodes), omega (arith, g.1, nodes_most))

pub own_more : (h k : TreeHead) (a b m n i : ℕ) (pages : PageMap) → h.leaf_ids ≤ k.leaf_ids → k.leaf_ids + a ≤ h.leaf_ids + m → h.node_ids ≤ k.node_ids → k.node_ids + b ≤ h.node_ids + n → IsOwn k a b pages i → IsOwn h m n pages i
own_more h k a b m n i pages leaves leaves_most nodes nodes_most (inl stood) = inl stood
own_more h k a b m n i pages leaves leaves_most nodes nodes_most (inr next) = inr (next_more h k a b m n i leaves leaves_most nodes nodes_most next)

-- a page that came has one of the next ids, where so many are given
pub came_own : (h k : TreeHead) (old new : PageMap) (m n i : ℕ) (p : Page) → ComesAnew h old new → IsGiven k i → k.leaf_ids ≤ h.leaf_ids + m → k.node_ids ≤ h.node_ids + n → new i ≡ Some p → IsOwn h m n old i
came_own h k old new m n i p anew given leaves nodes is = go (old i) refl
  where
    away : old i ≡ None → IsGiven h i → ⊥
    away none g = none_some p (sym (anew i g none) ∙ is)

    next : old i ≡ None → IsGiven k i → IsNext h m n i
    next none (inl g) = ⊎_elim (λ (more : h.leaf_ids < i). inl (more, omega (arith, g.1, leaves))) (λ (le : i ≤ h.leaf_ids). absurd (away none (inl (g.0, le)))) (cases_lt h.leaf_ids i)
    next none (inr g) = ⊎_elim (λ (more : node_offset + h.node_ids < i). inr (more, omega (arith, g.1, nodes))) (λ (le : i ≤ node_offset + h.node_ids). absurd (away none (inr (g.0, le)))) (cases_lt (node_offset + h.node_ids) i)

    go : (o : Option Page) → old i ≡ o → IsOwn h m n old i
    go None none = inr (next none given)
    go (Some q) was = inl (stood_at old i i q was refl)

-- what has a page afterwards had one, or has one of the next ids
pub came_stood : (h k : TreeHead) (old new : PageMap) (m n i : ℕ) → ComesAnew h old new → ((p : Page) → new i ≡ Some p → IsGiven k i) → k.leaf_ids ≤ h.leaf_ids + m → k.node_ids ≤ h.node_ids + n → Stood new i → IsOwn h m n old i
came_stood h k old new m n i anew given leaves nodes stood = go (new i) refl
  where
    go : (o : Option Page) → new i ≡ o → IsOwn h m n old i
    go None none = absurd (stood none)
    go (Some p) is = came_own h k old new m n i p anew (given p is) leaves nodes is

pub old_or : (old : PageMap) (Own : ℕ → Type 0) (Q : Page → Type 0) (id : ℕ) (p : Page) → Own id → (old id ≡ Some p) ⊎ Q p → OldOr old Own Q id p
old_or old Own Q id p own (inl is) = inl is
old_or old Own Q id p own (inr fine) = inr (own, fine)

-- what is seen later on, of which each page is one of these or of this sort, as are those that are asked for then, under ids of this sort
pub record ComesOf (W : Type 0) (F : W → ℕ → Type 0) (A : W → PageMap) (P : W → Page → Type 0) (G : ℕ → Type 0) (old : PageMap) (Q : Page → Type 0) : Type 0 where
  pub seen : W
  pub own : (i : ℕ) → F seen i → G i
  pub was : (id : ℕ) (p : Page) → A seen id ≡ Some p → OldOr old G Q id p
  pub fine : (p : Page) → P seen p → Q p

comes_either : (W : Type 0) (F : W → ℕ → Type 0) (A : W → PageMap) (P : W → Page → Type 0) (G : ℕ → Type 0) (old : PageMap) (Q : Page → Type 0) (c : ComesOf W F A P G old Q) (id : ℕ) (p : Page) → OldOr (A c.seen) (F c.seen) (P c.seen) id p → OldOr old G Q id p
comes_either W F A P G old Q c id p (inl is) = c.was id p is
comes_either W F A P G old Q c id p (inr asked) = inr (c.own id asked.0, c.fine p asked.1)

only_wider : (c d : Option (List ℕ)) (P Q : ℕ → Page → Type 0) (m : Map) → d ≡ c → ((id : ℕ) (p : Page) → P id p → Q id p) → HoldsOnly d P m → HoldsOnly c Q m
only_wider c d P Q m same wider only key bytes e = ⊎_elim
    (λ (col : (key ≡ column_key) × (d ≡ Some bytes)). inl (col.0, sym same ∙ col.1))
    (λ (at : IsFinePage P key bytes). inr (record { id = at.id; page = at.page; key_is = at.key_is; is = at.is; fine = wider at.id at.page at.fine }))
    (only key bytes e)

module _ {S V O : Type 0} (s : Ghosts S) (R : Stores V S) where
  -- later on, of what is seen at first and of pages of a wider sort
  pub lacks_after : (W X : Type 0) (F : W → ℕ → Type 0) (G : X → ℕ → Type 0) (A : W → PageMap) (B : X → PageMap) (P : W → Page → Type 0) (Q : X → Page → Type 0) (t u : Tree V O) (old mid new : S) → Keeps s old mid → SameStore R t.store u.store → u.column ≡ t.column
      → ((x : X) → ComesOf W F A P (G x) (B x) (Q x)) → LacksPage s R W F A P u mid new → LacksPage s R X G B Q t old new
  lacks_after W X F G A B P Q t u old mid new keeps made column comes l = record {
    store = l.store;
    moment = l.moment;
    id = l.id;
    page = l.page;
    made = same_store_then R t.store u.store l.store made l.made;
    since = keeps_then s old mid l.moment keeps l.since;
    until = l.until;
    held = λ x.
        let h = l.held (comes x).seen in
        (h.0, h.1, only_wider t.column u.column (OldOr (A (comes x).seen) (F (comes x).seen) (P (comes x).seen)) (OldOr (B x) (G x) (Q x)) h.0 column (comes_either W F A P (G x) (B x) (Q x) (comes x)) h.2);
    own = λ x. (comes x).own l.id (l.own (comes x).seen);
    fine = λ x. (comes x).fine l.page (l.fine (comes x).seen);
    spelled = l.spelled;
    by = l.by;
  }

  -- of pages that are seen
  pub seen_after : (C D : PageMap → Type 0) (F G : PageMap → ℕ → Type 0) (P Q : PageMap → Page → Type 0) (t u : Tree V O) (old mid new : S) → Keeps s old mid → SameStore R t.store u.store → u.column ≡ t.column
      → ((pages : PageMap) → D pages → ComesOf (Seen C) (λ w i. F w.0 i) (λ w. w.0) (λ w p. P w.0 p) (G pages) pages (Q pages)) → LacksSeen s R C F P u mid new → LacksSeen s R D G Q t old new
  seen_after C D F G P Q t u old mid new keeps made column comes l = lacks_after (Seen C) (Seen D) (λ w i. F w.0 i) (λ w i. G w.0 i) (λ w. w.0) (λ w. w.0) (λ w p. P w.0 p) (λ w p. Q w.0 p) t u old mid new keeps made column (λ x. comes x.0 x.1) l

  -- and nothing was written
  pub seen_still : (C D : PageMap → Type 0) (F G : PageMap → ℕ → Type 0) (P Q : PageMap → Page → Type 0) (t u : Tree V O) (old mid new : S) → Keeps s old mid → SameStore R t.store u.store → u.column ≡ t.column
      → ((pages : PageMap) → D pages → C pages) → ((pages : PageMap) → D pages → (i : ℕ) → F pages i → G pages i) → ((p : Page) (pages : PageMap) → D pages → P pages p → Q pages p) → LacksSeen s R C F P u mid new → LacksSeen s R D G Q t old new
  seen_still C D F G P Q t u old mid new keeps made column on ids wider l =
      seen_after C D F G P Q t u old mid new keeps made column (λ pages d. record { seen = (pages, on pages d); own = ids pages d; was = λ id p is. inl is; fine = λ p fine. wider p pages d fine }) l

module _ {S V : Type 0} (s : Ghosts S) (R : Stores V S) where
  -- the same store
  pub same_store_at : (v w : V) → w ≡ v → SameStore R v w
  same_store_at v w e = subst (λ (x : V). SameStore R v x) (sym e) (same_store_refl R v)

-- ---- a page by value

module _ {S V : Type 0} (s : Ghosts S) (R : Stores V S) where
  forget_looks : (c d e : Cache V) (v w : V) (a b : S) → Looks s R c d v w a b → ((m : Map) → AreSame m d.pages.entries → AreSame m e.pages.entries) → e.pages.cap ≡ d.pages.cap → Looks s R c e v w a b
  forget_looks c d e v w a b looks same room = record {
    reads = record {
      now = looks.reads.now;
      touched = looks.reads.touched;
      sound = looks.reads.sound;
      means = λ m h. let k = looks.reads.means m h in (k.0, same m k.1);
    };
    keeps = looks.keeps;
    room = room ∙ looks.room;
    made = looks.made;
    tight = looks.tight;
  }

  pub forget_peeks : {O : Type 0} (t u : Tree V O) (d : Cache V) (a b : S) → Looks s R t.cache d t.store u.store a b → ((m : Map) → AreSame m d.pages.entries → AreSame m u.cache.pages.entries) → u.cache.pages.cap ≡ d.pages.cap
      → u.head ≡ t.head → u.height ≡ t.height → u.column ≡ t.column → u.path ≡ t.path → Peeks s R t u a b
  forget_peeks t u d a b looks same room head height column path = record {
    looks = forget_looks t.cache d u.cache t.store u.store a b looks same room;
    still = record { keeps = looks.keeps; made = looks.made; head = head; height = height; column = column; path = path };
  }

module _ {S V O : Type 0} (s : Ghosts S) (R : Stores V S) (t : Tree V O) (a : S) (id : ℕ) where
  pub leaf_is_there : HasLeafAt s R id t a → IsThere s R IsSomeLeaf id t.cache t.store a
  leaf_is_there there = λ told.
      let h = there told in
      (h.2.1.records, leaf_page h.1, shown_beside s R t a h.0 h.2, has_page t.head h.2.1.records h.0 id (leaf_page h.1) h.2.1.head h.2.1.held h.3, (h.1, refl))

  pub node_is_there : HasNodeAt s R id t a → IsThere s R IsSomeNode id t.cache t.store a
  node_is_there there = λ told.
      let h = there told in
      (h.2.1.records, node_page h.1, shown_beside s R t a h.0 h.2, has_page t.head h.2.1.records h.0 id (node_page h.1) h.2.1.head h.2.1.held h.3, (h.1, refl))

  pub leaf_read : (read : Leaf) → ReadsAs s R leaf_page id t.cache t.store a read → IsPageOf s R leaf_page id t a read
  leaf_read read is pages l h e = is h.1.records l (shown_beside s R t a pages h) (has_page t.head h.1.records pages id (leaf_page l) h.1.head h.1.held e)

  pub node_read : (read : Node) → ReadsAs s R node_page id t.cache t.store a read → IsPageOf s R node_page id t a read
  node_read read is pages n h e = is h.1.records n (shown_beside s R t a pages h) (has_page t.head h.1.records pages id (node_page n) h.1.head h.1.held e)

-- the sort of a page is that of its id
pub leaf_given : (h : TreeHead) (m : Map) (pages : PageMap) (id : ℕ) (l : Leaf) → B1 h → AreHeld h (get m) pages → pages id ≡ Some (leaf_page l) → IsLeafId h id
leaf_given h m pages id l head held is = ⊎_elim
    (λ (g : IsGiven h id). go g (get m (key_of id)) (subst (λ (p : Option Page). IsHeldAs id (get m (key_of id)) p) is (held.given id g)))
    (λ (not : IsGiven h id → ⊥). absurd (none_some (leaf_page l) (sym (held.others id not) ∙ is)))
    (decided h id)
  where
    go : IsGiven h id → (o : Option (List ℕ)) → IsHeldAs id o (Some (leaf_page l)) → IsLeafId h id
    go g None x = absurd x
    go (inl g) (Some bytes) x = g
    go (inr g) (Some bytes) x = absurd (omega (arith, g.0, x.0))

pub node_given : (h : TreeHead) (m : Map) (pages : PageMap) (id : ℕ) (n : Node) → B1 h → AreHeld h (get m) pages → pages id ≡ Some (node_page n) → IsNodeId h id
node_given h m pages id n head held is = ⊎_elim
    (λ (g : IsGiven h id). go g (get m (key_of id)) (subst (λ (p : Option Page). IsHeldAs id (get m (key_of id)) p) is (held.given id g)))
    (λ (not : IsGiven h id → ⊥). absurd (none_some (node_page n) (sym (held.others id not) ∙ is)))
    (decided h id)
  where
    go : IsGiven h id → (o : Option (List ℕ)) → IsHeldAs id o (Some (node_page n)) → IsNodeId h id
    go g None x = absurd x
    go (inl g) (Some bytes) x = absurd (omega (arith, g.1, x.0, head.leaf_ids))
    go (inr g) (Some bytes) x = g

-- the next ids have no page
pub leaf_fresh : (h : TreeHead) (m : Map) (pages : PageMap) (id : ℕ) → AreHeld h (get m) pages → h.leaf_ids < id → id < node_offset → pages id ≡ None
leaf_fresh h m pages id held more small = held.others id (go)
  where
    go : IsGiven h id → ⊥
    go (inl g) = omega (arith, g.1, more)
    go (inr g) = omega (arith, g.0, small)

pub node_fresh : (h : TreeHead) (m : Map) (pages : PageMap) (id : ℕ) → B1 h → AreHeld h (get m) pages → node_offset + h.node_ids < id → pages id ≡ None
node_fresh h m pages id head held more = held.others id (go)
  where
    go : IsGiven h id → ⊥
    go (inl g) = omega (arith, g.1, more, head.leaf_ids)
    go (inr g) = omega (arith, g.1, more)

pub others_at : {S : Type 0} (s : Ghosts S) (f g : ℕ) (a b : S) → f ≡ g → Others s (Only f) a b → Others s (Only g) a b
others_at s f g a b e o = subst (λ (x : ℕ). Others s (Only x) a b) e o
