-- A limit that a tree met is one of the file.
use Rattle.std.proofs.Common.{◌≡◌, ◌∙◌, ◌⊎◌, inl, inr, ⊎_elim, ℕ, ◌+◌, Bool, List, [], refl, sym, ap, subst, arith}
use Rattle.std.specs.Prelude.{Option, Some, None, take}
use Rattle.std.specs.FinMap.{empty, get, get-empty}
use Rattle.std.specs.Cmp.Lexicographic.{slice_cmp}
use Rattle.std.specs.Ordering.{nat_cmp}
use Rattle.std.specs.declared.cmp.Ordering.{Ordering}
use Rattle.tc_base.specs.Maps.{Map}
use Rattle.tc_base.specs.Orders.{order}
use Rattle.tc_base.specs.declared.kind.Mode.TheVariants.{Over}
use Rattle.tc_base.specs.declared.order.Order.{Ghosts as Orders}
use Rattle.tc_base.specs.declared.seq.Pair.{Pair}
use Rattle.tc_space.specs.Changes.{put_value}
use Rattle.tc_space.specs.Frames.{In}
use Rattle.tc_space.specs.declared.records.Records.{Ghosts as Stores}
use Rattle.tc_space.specs.declared.space.Space.{Ghosts}
use Rattle.hf_head.specs.declared.head.Head.{Head}
use Rattle.hf_head.specs.Heads.{head_in}
use Rattle.hf_pool.specs.declared.pool.Pool.{Pool}
use Rattle.hf_pool.specs.Pools.{frees}
use Rattle.bt_cache.specs.Held.{Beside, Holds}
use Rattle.bt_page.specs.Keys.{key_of}
use Rattle.bt_page.specs.Pages.{leaf_bytes}
use Rattle.bt_rows.specs.Heads.{head_of}
use Rattle.bt_rows.specs.declared.page.Page.{Page}
use Rattle.bt_rows.specs.Orders.{before_by}
use Rattle.bt_rows.specs.Rules.{column as column_key}
use Rattle.bt_ways.specs.Changes.{inserted}
use Rattle.bt_ways.specs.Removals.{no_items}
use Rattle.bt_tree.specs.Clearing.{LacksBare, LacksCleared, column_pairs, with_column}
use Rattle.bt_tree.specs.Inserting.{RunsOut, StaysMade}
use Rattle.bt_tree.specs.Meaning.{Means}
use Rattle.bt_tree.specs.Paging.{HoldsOnly, IsFinePage, IsOwn, LacksPage, OldOr, page_bytes}
use Rattle.bt_tree.specs.Trees.{HoldsPairs as HoldsTree, IsTree}
use Rattle.bt_tree.specs.declared.tree.Tree.{Tree}
use Rattle.tc_btree.specs.Filling.{IsListPage, IsParted}
use Rattle.tc_hash.specs.declared.hash.Hash.{Hash}
use Rattle.tc_hash.proofs.OneMap.{one_map}
use Rattle.tc_hash.specs.Keeping.{LacksIts, LacksRecordOf, file_of, holds, size_for}
use Rattle.tc_hash.specs.Packing.{IsFilledWith}
use Rattle.tc_hash.specs.Standing.{StandsAs}
use Rattle.tc_hash.proofs.Stored.{its_fresh}
use Rattle.tc_hashdb.proofs.Filled.{wants_key}
use Rattle.tc_treedb.specs.Between.{IsBetween}
use Rattle.tc_treedb.specs.Changing.{FillsOn, FillsPairs}
use Rattle.tc_treedb.specs.Filling.{FillsLists, HasTree, IsTreeOf, IsWanted, IsWritten, LacksLeafAt, UsesIds, WantsLeaf, WantsPage, nothing}
use Rattle.tc_treedb.specs.Trees.{IsOrderOf, IsStore}

-- ---- hash files

first_end : (end first : ℕ) → end ≡ first + 0 → end ≡ first
first_end end first is = omega (arith, is)

module _ {S : Type 0} (s : Ghosts S) where
  -- a file with nothing in it has no room for a leaf with no keys behind its sections
  leaf_lacks : (h : Hash S) (a b : S) (id : ℕ) (m : Map) → h.body.file ≡ 0 → IsFilledWith h [] → LacksIts s h (key_of id) m a b (size_for h (key_of id) (leaf_bytes no_items)) → m ≡ nothing → LacksLeafAt (s.limit b 0) (s.now b 0) id
  leaf_lacks h a b id m file filled lacks none =
      let own = its_fresh s h (key_of id) m a b (size_for h (key_of id) (leaf_bytes no_items)) lacks (ap (λ (x : Map). get x (key_of id)) none ∙ get-empty (slice_cmp nat_cmp) (key_of id)) in
      let here : LacksLeafAt (s.limit b h.body.file) (s.now b h.body.file) id = record {
        head = h.body.head;
        fields = h.body.valid;
        least = filled.least;
        held = lacks.held;
        kept = inl (own.map ∙ none);
        none = lacks.none;
        ends = ap (λ (p : Pool). p.size) own.pool ∙ first_end h.body.pool.size h.body.head.first filled.ends;
        free = λ q. ap (λ (p : Pool). frees p q) own.pool ∙ filled.nothing q;
      } in subst (λ (f : ℕ). LacksLeafAt (s.limit b f) (s.now b f) id) file here

-- the head of a file that stands for a map tells its region
region_there : (kind : ℕ) (numbers bytes : List ℕ) (m : Map) (region : List ℕ) → StandsAs kind numbers bytes m region → (head_in (take 256 bytes)).opaque ≡ region
region_there kind numbers bytes m region stands = ap (λ (h : Head). h.opaque) stands.file.is.opens.spells.fields ∙ stands.file.region_is

-- ---- a tree in one of them

module _ {S O : Type 0} (s : Ghosts S) (R : Stores (Hash S) S) (store : IsStore s R) (o : Orders O) (decimal : Bool) (of : IsOrderOf decimal o) where
  -- whose file is file 0, and which has no record `column`
  pub record InMain (t : Tree (Hash S) O) : Type 0 where
    pub file : t.store.body.file ≡ 0
    pub column : t.column ≡ None

  -- what its store holds the hash file does
  hash_means : (h : Hash S) (a : S) (m : Map) → Holds s R h a m → In s file_of holds h a m
  hash_means h a m held = (held.0, subst (λ (f : ℕ). holds h (s.now a f) m) (store.file h) (store.into h (s.now a (R.file_of h)) m held.1))

  module _ (at : S) (t : Tree (Hash S) O) (main : InMain t) (ps : List Pair) (held : Means s R o t at ps) where
    abbrev records : Map
    records = held.1.records

    -- what is said of the tree that is meant is so under the order that is told, and without the record `column`
    carried : (P : (cmp : List ℕ → List ℕ → Ordering) (m : List ℕ → Option (List ℕ)) → IsTree (before_by cmp) t.head t.height m → Type 0) → P o.cmp (get records) held.1.is.tree
        → (k : HoldsTree (before_by (order decimal)) t.head t.height None (get records) ps) × P (order decimal) (get records) k.tree
    carried P p =
        subst (λ (c : Option (List ℕ)). (k : HoldsTree (before_by (order decimal)) t.head t.height c (get records) ps) × P (order decimal) (get records) k.tree) main.column
        (subst (λ (cmp : List ℕ → List ℕ → Ordering). (k : HoldsTree (before_by cmp) t.head t.height t.column (get records) ps) × P cmp (get records) k.tree) of.cmp (held.1.is, p))

    -- and of one of these pairs
    had_as : (P : (cmp : List ℕ → List ℕ → Ordering) (m : List ℕ → Option (List ℕ)) → IsTree (before_by cmp) t.head t.height m → Type 0) → P o.cmp (get records) held.1.is.tree → (had : IsTreeOf decimal ps t.head t.height) × P (order decimal) (get had.held) had.is.tree
    had_as P p = let k = carried P p in (record { held = records; code = held.1.order ∙ of.code; is = k.0 }, k.1)

    -- in a file that a store holds them in
    had_in : (bytes : List ℕ) (h : Hash S) → holds h bytes records → (P : (cmp : List ℕ → List ℕ → Ordering) (m : List ℕ → Option (List ℕ)) → IsTree (before_by cmp) t.head t.height m → Type 0) → P o.cmp (get records) held.1.is.tree
        → (had : HasTree decimal ps t.head t.height bytes) × P (order decimal) (get had.held) had.is.tree
    had_in bytes h it P p = let k = carried P p in (record { head = h.body.head; told = it.numbers; own = h.body.pool; held = records; has = it.map.has; code = held.1.order ∙ of.code; is = k.0 }, k.1)

    had_tree : IsTreeOf decimal ps t.head t.height
    had_tree = (had_as (λ cmp m is. Unit {0}) tt).0

  -- on the way from some pairs to others
  module _ (at now : S) (told : s.tells) (t : Tree (Hash S) O) (main : InMain t) (before ps next after : List Pair) (was_between : IsBetween before ps after) (on : IsBetween ps next after) where
    abbrev Uses : Type 0
    Uses = UsesIds (s.now now 0) decimal before after

    abbrev Wants : Type 0
    Wants = WantsPage (s.limit now 0) (s.now now 0) decimal before after

    abbrev IsNext : List Pair → Type 0
    IsNext qs = IsBetween ps qs after

    parted_ids : IsParted s R o t at now ps next → s.brought now × Uses
    parted_ids p =
        let file : R.file_of t.store ≡ 0 = store.file t.store ∙ main.file in
        let tells = p.tells.1 in
        let m : Map = p.means.1.records in
        let beside : Beside s R (t.cache.pages, t.store) at m = ((p.means.0, p.means.1.store), p.means.1.same) in
        let bytes : List ℕ = s.now now (R.file_of t.store) in
        let x = had_in at t main ps p.means bytes tells.store (store.into tells.store bytes m (tells.holds m beside)) (λ cmp n is. IsNext (inserted cmp p.last p.key p.value ps) × RunsOut cmp p.last p.key p.value is) (subst (λ (qs : List Pair). IsNext qs) (sym p.makes) on, p.used) in
        let shown : (head_in (take 256 bytes)).opaque ≡ tells.region = region_there (R.sort t.store) (R.numbers t.store) bytes m tells.region (store.stands (R.sort t.store) (R.numbers t.store) bytes m tells.region (tells.stands m beside)) in
        let here : UsesIds bytes decimal before after = record {
          was = ps;
          was_between = was_between;
          numbers = t.head;
          told = ap head_of shown ∙ tells.numbers;
          rows = t.height;
          had = x.0;
          last = p.last;
          key = p.key;
          value = p.value;
          on = x.1.0;
          used = x.1.1;
        } in (p.tells.0, subst (λ (f : ℕ). UsesIds (s.now now f) decimal before after) file here)

    module _ (held : Means s R o t at ps) where
      -- a page that a list wants is one that is written in the tree that is meant
      written : (p : Page) → IsListPage s R o t at ps next held p → IsWritten o.cmp held.1.is.tree ps next p
      written p is = (
        is.0,
        ⊎_elim
            (λ below. inl (record { all = below.all; key = below.key; makes = below.makes; held = below.held; less = below.less }))
            (λ above. inr (record { last = above.last; key = above.key; value = above.value; makes = above.makes; more = above.more }))
            is.1,
      )

      -- and so are those that were held
      only_written : (m : Map) → HoldsOnly t.column (OldOr held.1.is.tree.pages (IsOwn t.head 2 t.height held.1.is.tree.pages) (IsListPage s R o t at ps next held)) m
          → HoldsOnly None (OldOr held.1.is.tree.pages (IsOwn t.head 2 t.height held.1.is.tree.pages) (IsWritten o.cmp held.1.is.tree ps next)) m
      only_written m only key bytes e = ⊎_elim
          (λ (col : (key ≡ column_key) × (t.column ≡ Some bytes)). inl (col.0, sym main.column ∙ col.1))
          (λ (is : IsFinePage (OldOr held.1.is.tree.pages (IsOwn t.head 2 t.height held.1.is.tree.pages) (IsListPage s R o t at ps next held)) key bytes). inr (record {
            id = is.id;
            page = is.page;
            key_is = is.key_is;
            is = is.is;
            fine = ⊎_elim (λ was. inl was) (λ new. inr (new.0, written is.page new.1)) is.fine;
          }))
          (only key bytes e)

      wants_page : LacksPage s R (Means s R o t at ps) (λ h i. IsOwn t.head 2 t.height h.1.is.tree.pages i) (λ h. h.1.is.tree.pages) (IsListPage s R o t at ps next) t at now → s.log_full now ⊎ (s.brought now × Wants)
      wants_page l =
          let m = l.held held in
          let file : l.store.body.file ≡ 0 = sym (store.file l.store) ∙ (l.made.file ∙ (store.file t.store ∙ main.file)) in
          let build : R.lacks l.store l.moment now (key_of l.id) (page_bytes l.page) → s.brought now × Wants = λ lacks.
          let w = store.lacks l.store l.moment now (key_of l.id) (page_bytes l.page) lacks in
          let one : m.0 ≡ w.held = one_map s l.store l.moment m.0 w.held (hash_means l.store l.moment m.0 m.1) w.means in
          let x = had_as at t main ps held (λ cmp n is. IsWanted cmp is ps next l.id l.page w.held)
          (record {
            own = l.own held;
            fine = written l.page (l.fine held);
            only = subst (λ (k : Map). HoldsOnly None (OldOr held.1.is.tree.pages (IsOwn t.head 2 t.height held.1.is.tree.pages) (IsWritten o.cmp held.1.is.tree ps next)) k) one (only_written m.0 m.2);
          }) in (
            w.wants.brought,
            record {
              was = ps;
              was_between = was_between;
              numbers = t.head;
              rows = t.height;
              had = x.0;
              next = next;
              on = on;
              id = l.id;
              page = l.page;
              spelled = l.spelled;
              held = w.held;
              wanted = x.1;
              wants = wants_key s l.store l.moment now w.held (key_of l.id) (page_bytes l.page) file w.wants;
            },
          ) in
          ⊎_elim (λ log. inl log) (λ lacks. inr (build lacks)) (l.by.by m.0 m.1)

    pub fills_lists : FillsPairs s R o t at now ps next → FillsLists (s.limit now 0) (s.log_full now) (s.brought now) (s.now now 0) decimal before after
    fills_lists fills = ⊎_elim
        (λ parted. let ids = parted_ids parted in inr (ids.0, inr (inl ids.1)))
        (λ room. ⊎_elim (λ l. ⊎_elim (λ log. inl log) (λ w. inr (w.0, inl w.1)) (wants_page room.0 l)) (λ log. inl (log told)) room.1)
        fills

  -- one of the tree on the way
  module _ (from now : S) (told : s.tells) (t : Tree (Hash S) O) (main : InMain t) (f : List Pair → List Pair) (ps : List Pair) where
    pub main_made : (u : Tree (Hash S) O) → StaysMade R t u → InMain u
    main_made u made = record { file = sym (store.file u.store) ∙ (made.made.file ∙ (store.file t.store ∙ main.file)); column = made.column ∙ main.column }

    pub fills_on : FillsOn s R o f t from now ps → FillsLists (s.limit now 0) (s.log_full now) (s.brought now) (s.now now 0) decimal ps (f ps)
    fills_on w = fills_lists w.moment now told w.tree (main_made w.tree w.made) ps w.mid w.next (f ps) w.mid_between w.on w.fills

  -- a tree that was emptied had no room for its one leaf
  module _ (from now : S) (told : s.tells) (t : Tree (Hash S) O) (main : InMain t) (ps : List Pair) (held : Means s R o t from ps) where
    no_column : (bytes : List ℕ) → t.column ≡ Some bytes → ⊥
    no_column bytes is = absurd (let bad : None ≡ Some bytes = sym main.column ∙ is in cc)

    abbrev Ends : Type 0
    Ends = FillsLists (s.limit now 0) (s.log_full now) (s.brought now) (s.now now 0) decimal ps []

    abbrev Leaf : Type 0
    Leaf = s.brought now × WantsLeaf (s.limit now 0) (s.now now 0) decimal ps []

    bare_fills : LacksBare s R t from now → Ends
    bare_fills l = ⊎_elim
        (λ column. absurd (no_column l.bytes column.3))
        (λ leaf. ⊎_elim (λ log. inl log) (λ lacks. let w = build leaf.0 leaf.1 leaf.2 leaf.3 lacks in inr (w.0, inr (inr w.1))) (l.by.by l.held (l.holds told)))
        l.first
      where
        file : l.store.body.file ≡ 0
        file = sym (store.file l.store) ∙ (l.made.file ∙ (store.file t.store ∙ main.file))

        build : l.held ≡ with_column t.column empty → l.pairs ≡ column_pairs t.column → l.key ≡ key_of t.head.first → l.bytes ≡ leaf_bytes no_items → R.lacks l.store l.moment now l.key (put_value Over (get l.held l.key) l.bytes) → Leaf
        build held_is pairs_are key_is bytes_is lacks =
            let w : LacksRecordOf s l.store l.moment now (key_of t.head.first) (leaf_bytes no_items) = subst (λ (k : List ℕ). LacksRecordOf s l.store l.moment now k (leaf_bytes no_items)) key_is
            (subst (λ (b : List ℕ). LacksRecordOf s l.store l.moment now l.key b) bytes_is (store.lacks l.store l.moment now l.key l.bytes lacks)) in
            let filled : IsFilledWith l.store [] = subst (λ (qs : List Pair). IsFilledWith l.store qs) (pairs_are ∙ ap (λ (c : Option (List ℕ)). column_pairs c) main.column) (store.filled l.store l.pairs (l.filled told)) in
            let one : w.held ≡ nothing = one_map s l.store l.moment w.held l.held w.means (hash_means l.store l.moment l.held (l.holds told)) ∙ (held_is ∙ ap (λ (c : Option (List ℕ)). with_column c nothing) main.column) in (
              w.wants.brought,
              record {
                none = refl;
                numbers = t.head;
                rows = t.height;
                had = had_tree from t main ps held;
                lacks = leaf_lacks s l.store l.moment now t.head.first w.held file filled w.wants one;
              },
            )

    pub fills_cleared : LacksCleared s R t from now → Ends
    fills_cleared full = ⊎_elim bare_fills (λ log. inl (log told)) full
