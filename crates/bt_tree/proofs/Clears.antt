-- A tree that was emptied is one leaf with no keys.
use Rattle.std.proofs.Common.{◌≡◌, ◌⊎◌, ℕ, ◌^◌, ◌<◌, List, [], ◌∷◌, Bool, true, false, Option, Some, None, refl, sym, ap, ◌∙◌, subst, inl, inr, ⊎_elim, arith}
use Rattle.std.specs.FinMap.{empty, get, get-empty, insert}
use Rattle.std.specs.Ordering.{nat_cmp}
use Rattle.std.specs.Cmp.Lexicographic.{slice_cmp}
use Rattle.std.proofs.lemmas.Bool.{cases_eq}
use Rattle.std.proofs.lemmas.Slice.Eq.{bytes_eq-Decides}
use Rattle.tc_base.specs.Maps.{Map}
use Rattle.tc_base.specs.Texts.{is_text}
use Rattle.tc_base.specs.declared.kind.Mode.TheVariants.{Over}
use Rattle.tc_base.specs.declared.order.Order.{Ghosts as Orders}
use Rattle.tc_base.specs.declared.seq.Pair.{Pair}
use Rattle.tc_space.specs.Changes.{put_in, value_in}
use Rattle.tc_space.specs.Frames.{GivenUp, Keeps, Reads, Refuses, keeps_then}
use Rattle.tc_space.specs.Stores.{FillsMore, FullPutIn, PutsIn, ReadyIn, WritesIn}
use Rattle.tc_space.specs.declared.records.Records.{Ghosts as Stores}
use Rattle.tc_space.specs.declared.space.Space.{Ghosts}
use Rattle.bt_page.specs.Keys.{key_of, node_offset}
use Rattle.bt_page.specs.Pages.{leaf_bytes}
use Rattle.bt_page.specs.declared.page.Leaf.{Leaf}
use Rattle.bt_rows.specs.declared.head.TreeHead.{TreeHead}
use Rattle.bt_rows.specs.declared.page.LeafAt.{LeafAt}
use Rattle.bt_rows.specs.declared.page.Page.{Page}
use Rattle.bt_rows.specs.declared.page.Page.TheVariants.{Leaf as leaf_page}
use Rattle.bt_rows.specs.declared.page.Slot.{Slot}
use Rattle.bt_rows.specs.Levels.{LeadsUp, NodeAt, Stands}
use Rattle.bt_rows.specs.Orders.{Before, before_by}
use Rattle.bt_rows.specs.Pages.{PageMap, IsGiven, IsHeldAs, IsPage, AreHeld}
use Rattle.bt_rows.specs.Rows.{first_id, held, root_slot}
use Rattle.bt_rows.specs.Rules.{B1, B2, B5, IsPageAt, IsWithin, column as column_key}
use Rattle.bt_rows.proofs.Held.{column_free, given_small}
use Rattle.bt_cache.specs.Effects.{LacksKey, PutsPage, SameStore, WritesBeside}
use Rattle.bt_cache.specs.Held.{AreSame, Beside, Holds, ReadyBeside}
use Rattle.bt_cache.specs.declared.cache.Cache.{Cache}
use Rattle.bt_cache.specs.declared.shared.SharedPage.{SharedPage}
use Rattle.bt_cache.proofs.Kept.{insert_here, insert_other}
use Rattle.bt_ways.specs.Removals.{no_items}
use Rattle.bt_ways.specs.Writes.{put_at}
use Rattle.bt_ways.proofs.Counts.{held_none, held_some, puts, times_none, times_one}
use Rattle.bt_tree.specs.declared.tree.Tree.{Tree}
use Rattle.bt_tree.specs.Clearing.{FillsColumn, LacksCleared, LacksColumn, Strips, StripsFile, column_pairs, no_pages, with_column}
use Rattle.bt_tree.specs.Inserting.{AddsAnew}
use Rattle.bt_tree.specs.Meaning.{Changes, IsOpen, Means}
use Rattle.bt_tree.specs.Paging.{IsShown, Shows, StaysStill}
use Rattle.bt_tree.specs.Trees.{HasKeys}
use Rattle.bt_tree.proofs.Droppings.{SameIds, given_same, gives_same}
use Rattle.bt_tree.proofs.Finds.{tree_reads}
use Rattle.bt_tree.proofs.Inserts.{means_shown}
use Rattle.bt_tree.proofs.Pagings.{head_more, held_put, keys_put, leaf_given, others_at}
use Rattle.bt_tree.proofs.Removes.{means_of}

-- ---- the record `column`

module _ {S V : Type 0} (s : Ghosts S) (R : Stores V S) where
  pub column_none : (column : Option (List ℕ)) (v : V) (a : S) → column ≡ None → s.sound a → WritesIn s R.file_of R.holds (with_column column) v v a a
  column_none column v a is sound = subst (λ (c : Option (List ℕ)). WritesIn s R.file_of R.holds (with_column c) v v a a) (sym is) (record { sound = sound; means = λ m h. h; others = record { same = λ told g other. refl } })

  pub column_some : (column : Option (List ℕ)) (bytes : List ℕ) (v w : V) (a b : S) → column ≡ Some bytes → PutsIn s R.file_of R.holds Over (value_in column_key) (put_in Over column_key bytes) v w a b → WritesIn s R.file_of R.holds (with_column column) v w a b
  column_some column bytes v w a b is put = subst (λ (c : Option (List ℕ)). WritesIn s R.file_of R.holds (with_column c) v w a b) (sym is) put.writes

  pub fills_none : (column : Option (List ℕ)) (v : V) (a : S) → column ≡ None → FillsColumn s R column v v a
  fills_none column v a is h filled = subst (λ (c : Option (List ℕ)). R.filled v (column_pairs c)) (sym is) filled

  pub fills_some : (column : Option (List ℕ)) (bytes : List ℕ) (v w : V) (a : S) → column ≡ Some bytes → FillsMore s R.file_of R.holds R.filled column_key bytes v w a → FillsColumn s R column v w a
  fills_some column bytes v w a is more h filled = subst (λ (c : Option (List ℕ)). R.filled w (column_pairs c)) (sym is) (more empty [] h (get-empty (slice_cmp nat_cmp) column_key) filled)

module _ {S V : Type 0} (s : Ghosts S) (R : Stores V S) (still : (v : V) (a b c : S) (key value : List ℕ) → GivenUp s b c → R.lacks v a b key value → R.lacks v a c key value) where
  -- a lack stays once the space was given up
  lacks_on : (key bytes : List ℕ) (v : V) (a b c : S) → GivenUp s b c → FullPutIn s R.file_of R.holds R.lacks Over key bytes v a b → FullPutIn s R.file_of R.holds R.lacks Over key bytes v a c
  lacks_on key bytes v a b c given full = record { free = full.free; by = λ m h. ⊎_elim (λ log. inl (given.log log)) (λ lacks. inr (still v a b c key _ given lacks)) (full.by m h) }

-- ---- what a store holds that was emptied

abbrev no_records : Map
no_records = empty

nothing : (key bytes : List ℕ) → get no_records key ≡ Some bytes → ⊥
nothing key bytes e = clash (sym (get-empty (slice_cmp nat_cmp) key) ∙ e)
  where
    clash : None ≡ Some bytes → ⊥
    clash x = cc

bare_keys : (h : TreeHead) (column : Option (List ℕ)) → HasKeys h column (get (with_column column empty))
bare_keys h None = record { rule = λ key bytes e. absurd (nothing key bytes e); has = get-empty (slice_cmp nat_cmp) column_key }
bare_keys h (Some c) = record { rule = rule; has = insert_here empty column_key c }
  where
    clash : (b : Bool) → b ≡ true → b ≡ false → ⊥
    clash b e f = cc

    rule : B2 h true (get (insert no_records column_key c))
    rule key bytes e = go (is_text key column_key) refl
      where
        go : (b : Bool) → is_text key column_key ≡ b → IsPageAt h key bytes ⊎ ((true ≡ true) × (key ≡ column_key))
        go true t = inr (refl, (bytes_eq-Decides key column_key).0 t)
        go false t = absurd (nothing key bytes (sym (insert_other no_records column_key c key (λ same. absurd (clash (is_text key column_key) ((bytes_eq-Decides key column_key).1 same) t))) ∙ e))

bare_none : (column : Option (List ℕ)) (id : ℕ) → id < 2 ^ 49 → get (with_column column empty) (key_of id) ≡ None
bare_none None id small = get-empty (slice_cmp nat_cmp) (key_of id)
bare_none (Some c) id small = insert_other empty column_key c (key_of id) (λ e. absurd (column_free id small (sym e))) ∙ get-empty (slice_cmp nat_cmp) (key_of id)

bare_held : (h : TreeHead) → B1 h → (column : Option (List ℕ)) → AreHeld h (get (with_column column empty)) no_pages
bare_held h b column = record {
  given = λ id g. subst (λ (o : Option (List ℕ)). IsHeldAs id o None) (sym (bare_none column id (given_small h id b g))) tt;
  others = λ id not. refl;
}

-- ---- there is a first leaf

pub none_up : (root : ℕ) (Ls : List (List NodeAt)) → LeadsUp root Ls [] → ⊥
none_up root [] e = clash e
  where
    clash : ◌≡◌ {A = List Slot} [] (root_slot root ∷ []) → ⊥
    clash x = cc
none_up root ([] ∷ Ls) e = none_up root Ls e.1
none_up root ((n ∷ ns) ∷ Ls) e = clash _ _ e.0
  where
    clash : (x : Slot) (xs : List Slot) → ◌≡◌ {A = List Slot} [] (x ∷ xs) → ⊥
    clash x xs e = cc

record HasFirst (pages : PageMap) (leaves : List LeafAt) : Type 0 where
  leaf : Leaf
  there : pages (first_id leaves) ≡ Some (leaf_page leaf)

has_first : (before : Before) (pages : PageMap) (root : ℕ) (leaves : List LeafAt) (levels : List (List NodeAt)) → Stands before pages root leaves levels → HasFirst pages leaves
has_first before pages root [] levels st = absurd (none_up root levels st.up)
has_first before pages root (l ∷ ls) levels st = record { leaf = l.leaf; there = st.leaves_held.0 }

-- ---- one leaf

module _ (id : ℕ) where
  abbrev lone_pages : PageMap
  lone_pages = put_at id (leaf_page no_items) no_pages

  abbrev lone_place : LeafAt
  lone_place = record { slot = root_slot id; leaf = no_items }

  lone_spelled : id < node_offset → IsPage id (leaf_bytes no_items) (leaf_page no_items)
  lone_spelled small = (small, record { fits = record { prev = omega arith; next = omega arith; items = tt }; is = refl })

  lone_stands : (before : Before) → Stands before lone_pages id (lone_place ∷ []) []
  lone_stands before = let P = puts id (leaf_page no_items) no_pages in record {
    up = refl;
    leaves_held = (P.put, tt);
    nodes_held = tt;
    once = λ j. ⊎_elim
        (λ (e : j ≡ id). omega (arith, times_one j (root_slot id) (sym e), ap (λ (k : ℕ). held lone_pages k) e, held_some lone_pages id (leaf_page no_items) P.put))
        (λ (ne : j ≡ id → ⊥). omega (arith, times_none j (root_slot id) (λ e. ne (sym e)), held_none lone_pages j (P.others j ne)))
        (cases_eq j id);
    order = (record { ascends = tt; above = tt }, tt, tt);
    links = (refl, refl, tt);
  }

  lone_within : (h : TreeHead) → h.root ≡ id → B5 h lone_pages
  lone_within h root j = let P = puts id (leaf_page no_items) no_pages in ⊎_elim
      (λ (here : j ≡ id). subst (λ (p : Option Page). IsWithin h j p) (sym (ap lone_pages here ∙ P.put)) (record { within = record { keys = omega arith; bytes = λ more. absurd (omega (arith, more)) }; some = λ ne. absurd (ne (here ∙ sym root)) }))
      (λ (other : j ≡ id → ⊥). subst (λ (p : Option Page). IsWithin h j p) (sym (P.others j other)) tt)
      (cases_eq j id)

-- ---- the store is emptied

module _ {S V O : Type 0} (s : Ghosts S) (R : Stores V S) where
  pub strip_ready : (t : Tree V O) (a : S) → IsShown s R t a → ReadyIn s R.file_of R.holds t.store a
  strip_ready t a ready = record { sound = ready.sound; held = λ told. let h = ready.held told in (h.1.1.records, (told, h.1.1.store)) }

  pub strip_on : (t : Tree V O) (v : V) (a b : S) → WritesIn s R.file_of R.holds (λ m. empty) t.store v a b → IsShown s R t a → ReadyIn s R.file_of R.holds v b
  strip_on t v a b clear ready = record { sound = clear.sound; held = λ told. let h = ready.held told in (empty, clear.means h.1.1.records (told, h.1.1.store)) }

  pub strip_refused : (t : Tree V O) (v : V) (a b : S) → Refuses s (Holds s R) t.store v a b → Refuses s (Beside s R) (t.cache.pages, t.store) (t.cache.pages, v) a b
  strip_refused t v a b r = ⊎_elim (λ spoiled. inl spoiled)
      (λ (reads : Reads s (Holds s R) t.store v a b). inr (record { now = reads.now; touched = reads.touched; sound = reads.sound; means = λ m h. (reads.means m h.0, h.1) }))
      r

  pub stripped : (t : Tree V O) (c : Cache V) (v w : V) (a b d : S) → c.pages.entries ≡ [] → R.file_of v ≡ R.file_of t.store → WritesIn s R.file_of R.holds (λ m. empty) t.store v a b → WritesIn s R.file_of R.holds (with_column t.column) v w b d
      → WritesBeside s R (λ m. with_column t.column empty) t.cache c t.store w a d
  stripped t c v w a b d none file clear put = record {
    sound = put.sound;
    means = λ m h. (put.means empty (clear.means m h.0), subst (λ (es : List (ℕ × SharedPage)). AreSame (with_column t.column empty) es) (sym none) tt);
    others = record { same = λ told g other. put.others.same told g (λ is. other (is ∙ file)) ∙ clear.others.same told g other };
  }

  pub strip_fills : (t : Tree V O) (v w : V) (a b : S) → IsShown s R t a → WritesIn s R.file_of R.holds (λ m. empty) t.store v a b → R.filled v [] → FillsColumn s R t.column v w b → s.tells → R.filled w (column_pairs t.column)
  strip_fills t v w a b ready clear bare fills told = let h = ready.held told in fills (clear.means h.1.1.records (told, h.1.1.store)) bare

  module _ (still : (v : V) (a b c : S) (key value : List ℕ) → GivenUp s b c → R.lacks v a b key value → R.lacks v a c key value) where
    pub lacks_column : (t : Tree V O) (v : V) (a b d e : S) → IsShown s R t a → WritesIn s R.file_of R.holds (λ m. empty) t.store v a b → R.filled v [] → SameStore R t.store v → Keeps s a b → Keeps s b d → GivenUp s d e → LacksColumn s R t.column v b d → LacksCleared s R t a e
    lacks_column t v a b d e ready clear bare made since put given lacks = inl (record {
      store = v;
      moment = b;
      made = made;
      since = since;
      until = keeps_then s b d e put given.keeps;
      held = empty;
      pairs = [];
      key = column_key;
      bytes = lacks.0;
      first = inl (refl, refl, refl, lacks.1);
      holds = λ told. let h = ready.held told in clear.means h.1.1.records (told, h.1.1.store);
      filled = λ told. bare;
      by = lacks_on s R still column_key lacks.0 v b d e given lacks.2;
    })

-- ---- the call

-- x once the store was emptied
module _ {S V O : Type 0} (s : Ghosts S) (R : Stores V S) (o : Orders O) (t x : Tree V O) (a b : S) where
  pub unstripped : StaysStill s R t x a b → Refuses s (Beside s R) (t.cache.pages, t.store) (x.cache.pages, x.store) a b → Refuses s (Means s R o) t x a b
  unstripped still r = ⊎_elim (λ spoiled. inl spoiled)
      (λ (reads : Reads s (Beside s R) (t.cache.pages, t.store) (x.cache.pages, x.store) a b). inr (tree_reads s R o t x a b reads (record { head = still.head; height = still.height; column = still.column })))
      r

  pub clear_shown : IsOpen s R o t a → IsShown s R t a
  clear_shown ready = record { sound = ready.sound; held = λ told. let h = ready.held told in (h.1.1.is.tree.pages, means_shown s R o t a h.0 h.1) }

  module _ (strips : Strips s R t x a b) (still : StaysStill s R t x a b) where
    pub leaf_ready : IsOpen s R o t a → ReadyBeside s R x.cache x.store b
    leaf_ready ready = record { sound = strips.sound; held = λ told. let h = ready.held told in (with_column t.column empty, strips.means h.1.1.records ((told, h.1.1.store), h.1.1.same)) }

    pub lacks_lone : ((v : V) (p q r : S) (key value : List ℕ) → GivenUp s q r → R.lacks v p q key value → R.lacks v p r key value) → StripsFile s R t x → IsOpen s R o t a → (d e : S) → Keeps s b d → GivenUp s d e → LacksKey s R t.head.first (leaf_bytes no_items) x.store b d → LacksCleared s R t a e
    lacks_lone stays fills ready d e put given lacks = inl (record {
      store = x.store;
      moment = b;
      made = still.made;
      since = still.keeps;
      until = keeps_then s b d e put given.keeps;
      held = with_column t.column empty;
      pairs = column_pairs t.column;
      key = key_of t.head.first;
      bytes = leaf_bytes no_items;
      first = inr (refl, refl, refl, refl);
      holds = λ told. let h = ready.held told in (strips.means h.1.1.records ((told, h.1.1.store), h.1.1.same)).0;
      filled = fills;
      by = lacks_on s R stays (key_of t.head.first) (leaf_bytes no_items) x.store b d e given lacks;
    })

    -- u once its leaf is written
    module _ (u : Tree V O) (d : S) (small : t.head.first < node_offset) (put : PutsPage s R t.head.first (leaf_bytes no_items) x.cache u.cache x.store u.store b d)
        (noted : u.head ≡ record x.head { root = t.head.first; last = t.head.first; pairs = 0 }) (column : u.column ≡ x.column) (height : u.height ≡ 1) where
      head_is : u.head ≡ record t.head { root = t.head.first; last = t.head.first; pairs = 0 }
      head_is = noted ∙ ap (λ (k : TreeHead). record k { root = t.head.first; last = t.head.first; pairs = 0 }) still.head

      ids : SameIds t.head u.head
      ids = subst (λ (k : TreeHead). SameIds t.head k) (sym head_is) (record { order = refl; leaf_limit = refl; node_limit = refl; leaf_ids = refl; node_ids = refl })

      root : u.head.root ≡ t.head.first
      root = ap (λ (k : TreeHead). k.root) head_is

      first_there : (ps : List Pair) (h : Means s R o t a ps) → HasFirst h.1.is.tree.pages h.1.is.tree.leaves
      first_there ps h = has_first (before_by o.cmp) h.1.is.tree.pages t.head.root h.1.is.tree.leaves h.1.is.tree.levels h.1.is.tree.stands

      first_page : (ps : List Pair) (h : Means s R o t a ps) → h.1.is.tree.pages t.head.first ≡ Some (leaf_page (first_there ps h).leaf)
      first_page ps h = ap h.1.is.tree.pages h.1.is.links.first ∙ (first_there ps h).there

      given : (ps : List Pair) (h : Means s R o t a ps) → IsGiven u.head t.head.first
      given ps h = given_same t.head u.head t.head.first ids (inl (leaf_given t.head h.1.records h.1.is.tree.pages t.head.first (first_there ps h).leaf h.1.is.tree.head h.1.is.tree.held (first_page ps h)))

      shown : (ps : List Pair) → Means s R o t a ps → Shows s R u d (lone_pages t.head.first)
      shown ps h =
          let m : Map = with_column t.column empty in
          let m' : Map = insert m (key_of t.head.first) (leaf_bytes no_items) in
          let b1 : B1 u.head = head_more t.head u.head (gives_same t.head u.head ids) h.1.is.tree.head in
          let k = put.means m (strips.means h.1.records ((h.0, h.1.store), h.1.same)) in
          let page : IsPage t.head.first (leaf_bytes no_items) (leaf_page no_items) = lone_spelled t.head.first small in (
            h.0,
            record {
              records = m';
              store = k.0.1;
              same = k.1;
              head = b1;
              keys = subst (λ (c : Option (List ℕ)). HasKeys u.head c (get m')) (sym (column ∙ still.column)) (keys_put u.head t.column m no_pages t.head.first (leaf_page no_items) (leaf_bytes no_items) b1 (given ps h) page (bare_keys u.head t.column));
              held = held_put u.head t.column m no_pages t.head.first (leaf_page no_items) (leaf_bytes no_items) b1 (given ps h) page (bare_held u.head b1 t.column);
            },
          )

      pub clears : Changes s R o (λ ps. []) t u a d
      clears = record {
        sound = put.sound;
        means = λ ps h. means_of s R o u d (lone_pages t.head.first) (lone_place t.head.first ∷ []) [] [] (shown ps h)
            (ids.order ∙ h.1.order)
            (subst (λ (r : ℕ). Stands (before_by o.cmp) (lone_pages t.head.first) r (lone_place t.head.first ∷ []) []) (sym root) (lone_stands t.head.first (before_by o.cmp)))
            height
            (lone_within t.head.first u.head root)
            (record { first = ap (λ (k : TreeHead). k.first) head_is; last = ap (λ (k : TreeHead). k.last) head_is; links = (refl, refl, tt) })
            (ap (λ (k : TreeHead). k.pairs) head_is)
            refl;
        others = record { same = λ told g other. (others_at s _ _ b d still.made.file put.others).same told g other ∙ strips.others.same told g other };
      }

      pub clears_anew : AddsAnew s R o t u a d
      clears_anew ps h = (
        lone_pages t.head.first,
        shown ps h,
        λ id old none. ⊎_elim
            (λ (same : id ≡ t.head.first). absurd (no_page (first_there ps h).leaf (sym none ∙ ap h.1.is.tree.pages same ∙ first_page ps h)))
            (λ (other : id ≡ t.head.first → ⊥). (puts t.head.first (leaf_page no_items) no_pages).others id other)
            (cases_eq id t.head.first),
      )
        where
          no_page : (l : Leaf) → ◌≡◌ {A = Option Page} None (Some (leaf_page l)) → ⊥
          no_page l e = cc
