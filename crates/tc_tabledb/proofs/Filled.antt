-- A limit that the tree of an index met is one of its file.
use Rattle.std.proofs.Common.{◌≡◌, ◌∙◌, ◌⊎◌, inl, inr, ⊎_elim, ℕ, ◌+◌, ◌<◌, ◌≤◌, ◌^◌, Bool, List, [], ◌∷◌, ◌++◌, refl, sym, ap, subst, arith}
use Rattle.std.specs.Prelude.{Option, Some, None, take}
use Rattle.std.specs.FinMap.{empty, get, get-empty, insert}
use Rattle.std.specs.Cmp.Lexicographic.{slice_cmp}
use Rattle.std.specs.Ordering.{nat_cmp}
use Rattle.std.specs.declared.cmp.Ordering.{Ordering}
use Rattle.tc_base.specs.Maps.{Map}
use Rattle.tc_base.specs.Orders.{order}
use Rattle.tc_base.specs.declared.order.Order.{Ghosts as Orders}
use Rattle.tc_base.specs.declared.seq.Pair.{Pair}
use Rattle.tc_space.specs.Frames.{In}
use Rattle.tc_space.specs.Lists.{Made, StaysList}
use Rattle.tc_space.specs.declared.multi.Multi as multi
use Rattle.tc_space.specs.declared.records.Records.{Ghosts as Stores}
use Rattle.tc_space.specs.declared.space.Space.{Ghosts}
use Rattle.hf_head.specs.Heads.{head_in}
use Rattle.hf_head.specs.declared.head.Head.{Head}
use Rattle.hf_pool.specs.declared.pool.Pool.{Pool}
use Rattle.hf_pool.specs.Pools.{frees}
use Rattle.hf_record.proofs.Maps.{insert_other}
use Rattle.bt_cache.specs.Held.{Beside, Holds}
use Rattle.bt_page.specs.Keys.{key_of}
use Rattle.bt_page.specs.Pages.{leaf_bytes}
use Rattle.bt_rows.specs.Heads.{head_of}
use Rattle.bt_rows.specs.Levels.{NodeAt, Stands}
use Rattle.bt_rows.specs.Orders.{Before, before_by}
use Rattle.bt_rows.specs.Pages.{IsGiven, PageMap}
use Rattle.bt_rows.specs.Rows.{first_id}
use Rattle.bt_rows.specs.Rules.{column as column_key}
use Rattle.bt_rows.specs.declared.page.LeafAt.{LeafAt}
use Rattle.bt_rows.specs.declared.page.Page.{Page}
use Rattle.bt_rows.specs.declared.page.Page.TheVariants.{Leaf as leaf_page}
use Rattle.bt_rows.proofs.Held.{column_free, decided, given_small}
use Rattle.bt_ways.specs.Changes.{inserted}
use Rattle.bt_ways.specs.Removals.{no_items}
use Rattle.bt_tree.specs.Clearing.{LacksBare as LacksFirstOf, LacksCleared, column_pairs, with_column}
use Rattle.bt_tree.specs.Inserting.{RunsOut}
use Rattle.bt_tree.specs.Meaning.{Means}
use Rattle.bt_tree.specs.Paging.{HoldsOnly, IsFinePage, IsOwn, LacksPage, OldOr, page_bytes}
use Rattle.bt_tree.specs.Trees.{HoldsPairs as HoldsTree, IsTree}
use Rattle.bt_tree.specs.declared.tree.Tree.{Tree}
use Rattle.bt_tree.proofs.Clears.{none_up}
use Rattle.tc_btree.specs.Filling.{IsListPage, IsParted}
use Rattle.tc_btree.specs.declared.btree.Btree.{Btree}
use Rattle.tc_hash.specs.declared.hash.Hash.{Hash}
use Rattle.tc_hash.specs.Keeping.{LacksIts, LacksRecordOf, file_of, holds, size_for}
use Rattle.tc_hash.specs.Packing.{IsFilledWith}
use Rattle.tc_hash.proofs.OneMap.{one_map}
use Rattle.tc_hash.proofs.Stored.{its_fresh}
use Rattle.tc_hashdb.proofs.Filled.{wants_own}
use Rattle.tc_model.specs.declared.query.IndexKind.{IndexKind}
use Rattle.tc_model.specs.declared.query.IndexKind.TheVariants as kinds
use Rattle.td_index.specs.Entries.{Firsts}
use Rattle.tc_table.specs.Sides.{asks_decimal}
use Rattle.tc_treedb.specs.Filling.{IsWritten}
use Rattle.tc_treedb.specs.Holding.{code_of}
use Rattle.tc_treedb.specs.Trees.{IsStore}
use Rattle.tc_tabledb.specs.Files.{column_bytes, order_code}
use Rattle.tc_tabledb.specs.Filling.{AreMid, HasTree, IsFirst, first_column, first_leaf, IsTreeOf, IsWanted, LacksBare, LacksFirst, UsesIds, WantsBare, WantsPage, column_pair, nothing}
use Rattle.tc_tabledb.specs.Members.{IsTreeList}

code_kind : (kind : IndexKind) → code_of (asks_decimal kind) ≡ order_code kind
code_kind kinds.Lexical = refl
code_kind kinds.Decimal = refl
code_kind kinds.Token = refl

-- a tree has a first leaf
first_there : (before : Before) (pages : PageMap) (root : ℕ) (leaves : List LeafAt) (levels : List (List NodeAt)) → Stands before pages root leaves levels → pages (first_id leaves) ≡ None → ⊥
first_there before pages root [] levels st none = absurd (none_up root levels st.up)
first_there before pages root (l ∷ ls) levels st none = let bad : None ≡ Some (leaf_page l.leaf) = sym none ∙ st.leaves_held.0 in cc

-- at one of the files of indexes, as the space stands
pub record FillsSide (limit : ℕ) (log_is_full brought : Type 0) (bytes : List ℕ) (kind : IndexKind) (name : List ℕ) (before after : Firsts) : Type 0 where
  pub ends : log_is_full ⊎ (brought × (WantsPage limit bytes kind name before after ⊎ (UsesIds bytes kind name before after ⊎ WantsBare limit bytes kind name before after)))

module _ {S O : Type 0} (s : Ghosts S) (R : Stores (Hash S) S) (store : IsStore s R) (o : Orders O) (decimal : Bool) (m : multi.Ghosts (Btree (Hash S) O) S O) (list : IsTreeList s R o decimal m) (kind : IndexKind) (name : List ℕ) (fits : decimal ≡ asks_decimal kind) (file : ℕ) where
  -- a list whose file is this one, with the record of the index
  pub record InSide (t : Btree (Hash S) O) : Type 0 where
    pub file_is : m.file_of t ≡ file
    pub column_is : (m.made t).column ≡ Some (column_bytes kind name)

  pub side_stays : (t u : Btree (Hash S) O) → StaysList m.file_of m.made m.lead t u → InSide t → InSide u
  side_stays t u stays side = record { file_is = stays.file ∙ side.file_is; column_is = ap (λ (x : Made). x.column) stays.made_same ∙ side.column_is }

  cmp_is : o.cmp ≡ order (asks_decimal kind)
  cmp_is = list.of.cmp ∙ ap order fits

  code_is : o.CODE ≡ order_code kind
  code_is = list.of.code ∙ (ap code_of fits ∙ code_kind kind)

  hash_means : (h : Hash S) (a : S) (x : Map) → Holds s R h a x → In s file_of holds h a x
  hash_means h a x held = (held.0, subst (λ (f : ℕ). holds h (s.now a f) x) (store.file h) (store.into h (s.now a (R.file_of h)) x held.1))

  module _ (t : Btree (Hash S) O) (side : InSide t) where
    abbrev tree : Tree (Hash S) O
    tree = t.tree

    own_file : tree.store.body.file ≡ file
    own_file = sym (store.file tree.store) ∙ (sym (list.file t) ∙ side.file_is)

    own_column : tree.column ≡ Some (column_bytes kind name)
    own_column = ap (λ (x : Made). x.column) (sym (list.made t)) ∙ side.column_is

    module _ (at : S) (ps : List Pair) (held : Means s R o tree at ps) where
      carried : (P : (cmp : List ℕ → List ℕ → Ordering) (x : List ℕ → Option (List ℕ)) → IsTree (before_by cmp) tree.head tree.height x → Type 0) → P o.cmp (get held.1.records) held.1.is.tree
          → (k : HoldsTree (before_by (order (asks_decimal kind))) tree.head tree.height (Some (column_bytes kind name)) (get held.1.records) ps) × P (order (asks_decimal kind)) (get held.1.records) k.tree
      carried P p =
          subst (λ (c : Option (List ℕ)). (k : HoldsTree (before_by (order (asks_decimal kind))) tree.head tree.height c (get held.1.records) ps) × P (order (asks_decimal kind)) (get held.1.records) k.tree) own_column
          (subst (λ (cmp : List ℕ → List ℕ → Ordering). (k : HoldsTree (before_by cmp) tree.head tree.height tree.column (get held.1.records) ps) × P cmp (get held.1.records) k.tree) cmp_is (held.1.is, p))

      -- what is said of the tree that is meant is said of one of these pairs
      had_as : (P : (cmp : List ℕ → List ℕ → Ordering) (x : List ℕ → Option (List ℕ)) → IsTree (before_by cmp) tree.head tree.height x → Type 0) → P o.cmp (get held.1.records) held.1.is.tree
          → (had : IsTreeOf kind name ps tree.head tree.height) × P (order (asks_decimal kind)) (get had.held) had.is.tree
      had_as P p = let k = carried P p in (record { held = held.1.records; code = held.1.order ∙ code_is; is = k.0 }, k.1)

      had_in : (bytes : List ℕ) (h : Hash S) → holds h bytes held.1.records → (P : (cmp : List ℕ → List ℕ → Ordering) (x : List ℕ → Option (List ℕ)) → IsTree (before_by cmp) tree.head tree.height x → Type 0) → P o.cmp (get held.1.records) held.1.is.tree
          → (had : HasTree kind name ps tree.head tree.height bytes) × P (order (asks_decimal kind)) (get had.held) had.is.tree
      had_in bytes h it P p = let k = carried P p in (record { head = h.body.head; told = it.numbers; own = h.body.pool; held = held.1.records; has = it.map.has; code = held.1.order ∙ code_is; is = k.0 }, k.1)

      had_tree : IsTreeOf kind name ps tree.head tree.height
      had_tree = (had_as (λ cmp x is. Unit {0}) tt).0

      first_small : tree.head.first < 2 ^ 49
      first_small = ⊎_elim (λ given. given_small tree.head tree.head.first held.1.is.tree.head given) (λ not. absurd (none not)) (decided tree.head tree.head.first)
        where
          none : (IsGiven tree.head tree.head.first → ⊥) → ⊥
          none not = first_there (before_by o.cmp) held.1.is.tree.pages tree.head.root held.1.is.tree.leaves held.1.is.tree.levels held.1.is.tree.stands (ap held.1.is.tree.pages (sym held.1.is.links.first) ∙ held.1.is.tree.held.others tree.head.first not)

    -- ---- on the way from some rows to others

    module _ (at now : S) (told : s.tells) (before after : Firsts) (key : List ℕ) (ps next : List Pair) (was_mid : AreMid before after key ps) (next_mid : AreMid before after key next) where
      abbrev Uses : Type 0
      Uses = UsesIds (s.now now file) kind name before after

      abbrev Wants : Type 0
      Wants = WantsPage (s.limit now file) (s.now now file) kind name before after

      abbrev IsNext : List Pair → Type 0
      IsNext qs = AreMid before after key qs

      parted_ids : IsParted s R o tree at now ps next → s.brought now × Uses
      parted_ids p =
          let here : R.file_of tree.store ≡ file = store.file tree.store ∙ own_file in
          let tells = p.tells.1 in
          let x : Map = p.means.1.records in
          let beside : Beside s R (tree.cache.pages, tree.store) at x = ((p.means.0, p.means.1.store), p.means.1.same) in
          let bytes : List ℕ = s.now now (R.file_of tree.store) in
          let y = had_in at ps p.means bytes tells.store (store.into tells.store bytes x (tells.holds x beside)) (λ cmp n is. IsNext (inserted cmp p.last p.key p.value ps) × RunsOut cmp p.last p.key p.value is) (subst (λ (qs : List Pair). IsNext qs) (sym p.makes) next_mid, p.used) in
          let stands = store.stands (R.sort tree.store) (R.numbers tree.store) bytes x tells.region (tells.stands x beside) in
          let shown : (head_in (take 256 bytes)).opaque ≡ tells.region = ap (λ (h : Head). h.opaque) stands.file.is.opens.spells.fields ∙ stands.file.region_is in
          let uses : UsesIds bytes kind name before after = record {
            key = key;
            was = ps;
            was_mid = was_mid;
            numbers = tree.head;
            told = ap head_of shown ∙ tells.numbers;
            rows = tree.height;
            had = y.0;
            last = p.last;
            new = p.key;
            value = p.value;
            next_mid = y.1.0;
            used = y.1.1;
          } in (p.tells.0, subst (λ (f : ℕ). UsesIds (s.now now f) kind name before after) here uses)

      module _ (held : Means s R o tree at ps) where
        -- a page that a list wants is one that is written in the tree that is meant
        written : (p : Page) → IsListPage s R o tree at ps next held p → IsWritten o.cmp held.1.is.tree ps next p
        written p is = (
          is.0,
          ⊎_elim
              (λ below. inl (record { all = below.all; key = below.key; makes = below.makes; held = below.held; less = below.less }))
              (λ above. inr (record { last = above.last; key = above.key; value = above.value; makes = above.makes; more = above.more }))
              is.1,
        )

        only_written : (x : Map) → HoldsOnly tree.column (OldOr held.1.is.tree.pages (IsOwn tree.head 2 tree.height held.1.is.tree.pages) (IsListPage s R o tree at ps next held)) x
            → HoldsOnly (Some (column_bytes kind name)) (OldOr held.1.is.tree.pages (IsOwn tree.head 2 tree.height held.1.is.tree.pages) (IsWritten o.cmp held.1.is.tree ps next)) x
        only_written x only k bytes e = ⊎_elim
            (λ (col : (k ≡ column_key) × (tree.column ≡ Some bytes)). inl (col.0, sym own_column ∙ col.1))
            (λ (is : IsFinePage (OldOr held.1.is.tree.pages (IsOwn tree.head 2 tree.height held.1.is.tree.pages) (IsListPage s R o tree at ps next held)) k bytes). inr (record {
              id = is.id;
              page = is.page;
              key_is = is.key_is;
              is = is.is;
              fine = ⊎_elim (λ was. inl was) (λ new. inr (new.0, written is.page new.1)) is.fine;
            }))
            (only k bytes e)

        wants_page : LacksPage s R (Means s R o tree at ps) (λ h i. IsOwn tree.head 2 tree.height h.1.is.tree.pages i) (λ h. h.1.is.tree.pages) (IsListPage s R o tree at ps next) tree at now → s.log_full now ⊎ (s.brought now × Wants)
        wants_page l =
            let x = l.held held in
            let here : l.store.body.file ≡ file = sym (store.file l.store) ∙ (l.made.file ∙ (store.file tree.store ∙ own_file)) in
            let build : R.lacks l.store l.moment now (key_of l.id) (page_bytes l.page) → s.brought now × Wants = λ lacks.
            let w = store.lacks l.store l.moment now (key_of l.id) (page_bytes l.page) lacks in
            let one : x.0 ≡ w.held = one_map s l.store l.moment x.0 w.held (hash_means l.store l.moment x.0 x.1) w.means in
            let y = had_as at ps held (λ cmp n is. IsWanted cmp (column_bytes kind name) is ps next l.id l.page w.held)
            (record {
              own = l.own held;
              fine = written l.page (l.fine held);
              only = subst (λ (k : Map). HoldsOnly (Some (column_bytes kind name)) (OldOr held.1.is.tree.pages (IsOwn tree.head 2 tree.height held.1.is.tree.pages) (IsWritten o.cmp held.1.is.tree ps next)) k) one (only_written x.0 x.2);
            }) in
            let wants : WantsPage (s.limit now l.store.body.file) (s.now now l.store.body.file) kind name before after = record {
              key = key;
              was = ps;
              was_mid = was_mid;
              numbers = tree.head;
              rows = tree.height;
              had = y.0;
              next = next;
              next_mid = next_mid;
              id = l.id;
              page = l.page;
              spelled = l.spelled;
              held = w.held;
              wanted = y.1;
              wants = wants_own s l.store l.moment now w.held (key_of l.id) (page_bytes l.page) w.wants;
            } in (w.wants.brought, subst (λ (f : ℕ). WantsPage (s.limit now f) (s.now now f) kind name before after) here wants) in
            ⊎_elim (λ log. inl log) (λ lacks. inr (build lacks)) (l.by.by x.0 x.1)

      pub fills_tree : m.fills t at now ps next → FillsSide (s.limit now file) (s.log_full now) (s.brought now) (s.now now file) kind name before after
      fills_tree fills = record {
        ends = ⊎_elim
            (λ parted. let ids = parted_ids parted in inr (ids.0, inr (inl ids.1)))
            (λ room. ⊎_elim (λ l. ⊎_elim (λ log. inl log) (λ w. inr (w.0, inl w.1)) (wants_page room.0 l)) (λ log. inl (log told)) room.1)
            (list.fills t at now ps next fills);
      }

    -- ---- an index that was emptied

    module _ (from now : S) (told : s.tells) (before after : Firsts) (none : (k : List ℕ) → after k ≡ []) (ps : List Pair) (held : Means s R o tree from ps) where
      abbrev Lacks : ℕ → Type 0
      Lacks f = LacksBare (s.limit now f) (s.now now f) kind name tree.head.first

      bare : (h : Hash S) (moment : S) (pairs : List Pair) (records : Map) (pair : Pair) → IsFirst kind name tree.head.first pairs records pair → IsFilledWith h pairs → get records pair.key ≡ None → h.body.file ≡ file
          → (w : LacksRecordOf s h moment now pair.key pair.value) → w.held ≡ records → Lacks file
      bare h moment pairs records pair first filled free here w is =
          let lacks = w.wants in
          let own = its_fresh s h pair.key w.held moment now (size_for h pair.key pair.value) lacks (ap (λ (x : Map). get x pair.key) is ∙ free) in
          let lacks_first : LacksFirst (s.limit now h.body.file) (s.now now h.body.file) kind name tree.head.first = record {
            head = h.body.head;
            fields = h.body.valid;
            least = filled.least;
            pairs = pairs;
            records = records;
            pair = pair;
            first = first;
            held = lacks.held;
            kept = inl (own.map ∙ is);
            none = lacks.none;
          } in
          let all : Lacks h.body.file = record {
            lacks = lacks_first;
            ends = ap (λ (p : Pool). p.size) own.pool ∙ filled.ends;
            free = λ q. ap (λ (p : Pool). frees p q) own.pool ∙ filled.nothing q;
          } in subst Lacks here all

      wants : Lacks file → WantsBare (s.limit now file) (s.now now file) kind name before after
      wants lacks = record { none = none; was = ps; numbers = tree.head; rows = tree.height; had = had_tree from ps held; lacks = lacks }

      some_same : (b c : List ℕ) → ◌≡◌ {A = Option (List ℕ)} (Some b) (Some c) → b ≡ c
      some_same b c e = cc

      bare_fills : (start : S) → LacksFirstOf s R tree start now → FillsSide (s.limit now file) (s.log_full now) (s.brought now) (s.now now file) kind name before after
      bare_fills start l = record {
        ends = ⊎_elim
            (λ column. at_pair [] nothing (column_pair kind name) first_column column.0 column.1 column.2 (some_same l.bytes (column_bytes kind name) (sym column.3 ∙ own_column)) (get-empty (slice_cmp nat_cmp) column_key))
            (λ leaf. at_pair (column_pair kind name ∷ []) (insert nothing column_key (column_bytes kind name)) (record { key = key_of tree.head.first; value = leaf_bytes no_items }) first_leaf
            (leaf.0 ∙ ap (λ (c : Option (List ℕ)). with_column c nothing) own_column)
            (leaf.1 ∙ ap column_pairs own_column)
            leaf.2
            leaf.3
            (insert_other nothing column_key (column_bytes kind name) (key_of tree.head.first) (λ e. absurd (column_free tree.head.first (first_small from ps held) (sym e))) ∙ get-empty (slice_cmp nat_cmp) (key_of tree.head.first)))
            l.first;
      }
        where
          here : l.store.body.file ≡ file
          here = sym (store.file l.store) ∙ (l.made.file ∙ (store.file tree.store ∙ own_file))

          Ends : Type 0
          Ends = s.log_full now ⊎ (s.brought now × (WantsPage (s.limit now file) (s.now now file) kind name before after ⊎ (UsesIds (s.now now file) kind name before after ⊎ WantsBare (s.limit now file) (s.now now file) kind name before after)))

          at_pair : (pairs : List Pair) (records : Map) (pair : Pair) → IsFirst kind name tree.head.first pairs records pair → l.held ≡ records → l.pairs ≡ pairs → l.key ≡ pair.key → l.bytes ≡ pair.value → get records pair.key ≡ None → Ends
          at_pair pairs records pair first held_is pairs_are key_is bytes_is free = ⊎_elim
              (λ log. inl log)
              (λ lacks.
              let w : LacksRecordOf s l.store l.moment now pair.key pair.value = subst (λ (k : List ℕ). LacksRecordOf s l.store l.moment now k pair.value) key_is
              (subst (λ (b : List ℕ). LacksRecordOf s l.store l.moment now l.key b) bytes_is (store.lacks l.store l.moment now l.key l.bytes lacks)) in
              let filled : IsFilledWith l.store pairs = subst (λ (qs : List Pair). IsFilledWith l.store qs) pairs_are (store.filled l.store l.pairs (l.filled told)) in
              let one : w.held ≡ records = one_map s l.store l.moment w.held l.held w.means (hash_means l.store l.moment l.held (l.holds told)) ∙ held_is in
              inr (w.wants.brought, inr (inr (wants (bare l.store l.moment pairs records pair first filled free here w one)))))
              (l.by.by l.held (l.holds told))

      pub fills_bare : (start : S) → LacksCleared s R tree start now → FillsSide (s.limit now file) (s.log_full now) (s.brought now) (s.now now file) kind name before after
      fills_bare start full = ⊎_elim (bare_fills start) (λ log. record { ends = inl (log told) }) full
