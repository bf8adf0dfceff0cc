-- Calls on a tree as calls on what an engine keeps, whichever order it has.
use Rattle.std.proofs.Common.{◌≡◌, ◌∙◌, inl, inr, ⊎_elim, ℕ, ◌+◌, ◌<◌, ◌≤◌, Bool, false, List, [], length, take, refl, sym, ap, subst, arith}
use Rattle.std.specs.Prelude.{◌⊎◌, Option, Some, None, IfOk, IfSome, OnErr, OnOk, Result, Ok, Err, is_some}
use Rattle.std.specs.FinMap.{get, keys}
use Rattle.std.specs.declared.cmp.Ordering.{Ordering}
use Rattle.tc_base.specs.Maps.{Map}
use Rattle.tc_base.specs.Orders.{order}
use Rattle.tc_base.specs.declared.kind.Form.{Form}
use Rattle.tc_base.specs.declared.order.Order.{Ghosts as Orders}
use Rattle.tc_base.specs.declared.seq.Pair.{Pair}
use Rattle.tc_space.specs.Changes.{same}
use Rattle.tc_space.specs.Frames.{Reads, Refuses, Writes}
use Rattle.tc_space.specs.Stores.{FullPack, IsReady, Only, in_form}
use Rattle.tc_space.specs.declared.records.Records.{Ghosts as Stores}
use Rattle.tc_space.specs.declared.space.Space.{Ghosts}
use Rattle.hf_block.specs.Written.{block_len}
use Rattle.hf_head.specs.declared.head.Head.{Head}
use Rattle.hf_head.specs.Heads.{head_in, unit}
use Rattle.hf_record.specs.Moves.{IsRefusedFor}
use Rattle.hf_tree.specs.Links.{width}
use Rattle.bt_page.specs.Keys.{key_of}
use Rattle.bt_rows.specs.Heads.{head_of}
use Rattle.bt_rows.specs.Orders.{Before, before_by}
use Rattle.bt_rows.specs.Pages.{IsGiven, IsHeldAs}
use Rattle.bt_rows.specs.Standing.{TreeStands, tree_pairs}
use Rattle.bt_rows.specs.declared.head.TreeHead.{TreeHead}
use Rattle.bt_rows.specs.declared.page.Page.{Page}
use Rattle.bt_tree.specs.Clearing.{LacksCleared}
use Rattle.bt_tree.specs.Inserting.{StaysMade}
use Rattle.bt_tree.specs.Meaning.{AnswersPairs, Changes, HoldsIn, IsOpen, Means as MeansTree, RefusesPairs, file_in}
use Rattle.bt_tree.specs.Removing.{AddsNone}
use Rattle.bt_tree.specs.Settling.{BringsPacked, BringsPairs, StaysFormed, StaysSettled, TightTree}
use Rattle.bt_tree.specs.Standing.{FileStands, region_bytes}
use Rattle.bt_tree.specs.Trees.{HoldsPairs as HoldsTree}
use Rattle.bt_tree.specs.Visits.{StaysTree}
use Rattle.bt_tree.specs.declared.tree.Tree.{Tree}
use Rattle.tc_hash.specs.declared.hash.Hash.{Hash}
use Rattle.tc_hash.proofs.OneMap.{one_map}
use Rattle.tc_hash.proofs.Stored.{from_done}
use Rattle.tc_hash.specs.Ending.{slack_in}
use Rattle.tc_hash.specs.Keeping.{holds, lead_of, numbers_of}
use Rattle.tc_hash.specs.Packing.{ArePairs, LacksLarge as LacksIts, LacksOne, blocks_long}
use Rattle.tc_hash.specs.Repacking.{IsPackedFrom, WasPacked}
use Rattle.tc_hash.specs.Standing.{StandsAs}
use Rattle.tc_hashdb.specs.Filling.{LacksLargeAt, LacksOne as LacksOneOf}
use Rattle.tc_treedb.specs.Changing.{CountsTo, FillsAlong, GivesPages, StaysGrown, Step, Takes}
use Rattle.tc_treedb.specs.Filling.{FillsLists, LacksLargeLists}
use Rattle.tc_treedb.specs.Holding.{Held, HoldsKept, Means, code_of}
use Rattle.tc_treedb.specs.Kept.{BringsKept, BringsTight, CountsKept, FewMore, FillsTo, Finds, FormsKept, GivesRecords, GrowsKept, KeepsHead, LacksFormed, LessKept, LooksKept, Makes, NoneMore, OfTrees, PacksKept, SameLimits, SameTree, StaysKept, TrimsKept, head_kept, height_of, lead_kept}
use Rattle.tc_treedb.specs.Laying.{kept_layout, slack_layout}
use Rattle.tc_treedb.specs.Reading.{LooksAt, bytes_in}
use Rattle.tc_treedb.specs.declared.kept.Kept.{Kept}
use Rattle.tc_treedb.specs.Trees.{IsTreeFile}
use Rattle.tc_treedb.proofs.Filled.{InMain, fills_cleared, fills_on}
use Rattle.tc_treedb.proofs.Stored.{made_looked}

pub leads_by : (r r' h h' k k' : ℕ) → r' ≤ r → r ≡ h → r' ≡ h' → k ≡ h → k' ≡ h' → k' ≤ k
leads_by r r' h h' k k' less was now kept kept' = omega (arith, less, was, now, kept, kept')

-- where no record is held no page is
no_page : (id : ℕ) (bytes : Option (List ℕ)) (p : Option Page) → IsHeldAs id bytes p → bytes ≡ None → p ≡ None
no_page id None None held none = refl
no_page id None (Some p) held none = absurd held
no_page id (Some x) p held none = absurd cc

-- ---- a file written anew in the large form

module _ {S : Type 0} (s : Ghosts S) where
  lacks_one : (limit long f : ℕ) (b : S) (head : Head) (m : Map) (pairs : List Pair) → s.limit b f ≡ limit → length (s.now b f) ≡ long → ArePairs m (keys m) pairs → LacksOne s head f head.first b pairs → LacksOneOf limit long head m
  lacks_one limit long f b head m pairs is_limit is_long are one = record {
    pairs = pairs;
    are = are;
    before = one.before;
    pair = one.pair;
    after = one.after;
    parts = one.are;
    free = one.lacks.free;
    nothing = one.lacks.nothing;
    refused = subst (λ (n : ℕ). IsRefusedFor head (head.first + blocks_long head one.before) one.lacks.free n long (block_len (width head) one.pair.key one.pair.value (unit head))) is_limit
        (subst (λ (n : ℕ). IsRefusedFor head (head.first + blocks_long head one.before) one.lacks.free (s.limit b f) n (block_len (width head) one.pair.key one.pair.value (unit head))) is_long one.lacks.refused);
  }

  pub large_up : (h : Hash S) (a b : S) (m : Map) → s.tells → h.body.file ≡ 0 → holds h (s.now a 0) m → LacksIts s h a b → LacksLargeAt (s.limit b 0) (length (s.now b 0)) (s.brought b) (s.now a 0) m
  large_up h a b m told file held lacks =
      let here : holds h (s.now a h.body.file) m = subst (λ (n : ℕ). holds h (s.now a n) m) (sym file) held in
      ⊎_elim
      (λ x. record { own = h.body.head; numbers = held.numbers; small = lacks.small; pool = h.body.pool; has = held.map.has; head = x.head; is_new = x.is_new; lacks = ⊎_elim (λ less. inl (subst (λ (n : ℕ). s.limit b n < x.head.first) file less)) (λ wide. inr (inl wide)) x.lacks })
      (λ x. record {
        own = h.body.head;
        numbers = held.numbers;
        small = lacks.small;
        pool = h.body.pool;
        has = held.map.has;
        head = x.head;
        is_new = x.is_new;
        lacks = inr (inr (x.one.lacks.brought, lacks_one (s.limit b 0) (length (s.now b 0)) h.body.file b x.head m x.pairs (ap (λ (n : ℕ). s.limit b n) file) (ap (λ (n : ℕ). length (s.now b n)) file) (x.are m (told, here)) x.one));
      })
      lacks.anew

module _ {S O : Type 0} (s : Ghosts S) (R : Stores (Hash S) S) (o : Orders O) (decimal : Bool) (wrap : Tree (Hash S) O → Kept S) (f : IsTreeFile s R o decimal wrap) where
  abbrev T : Type 0
  T = Tree (Hash S) O

  abbrev Pairs : T → S → List Pair → Type 0
  Pairs = MeansTree s R o

  -- the store's file and its type stay, and the record `column`
  pub record Same (t u : T) : Type 0 where
    pub file : R.file_of u.store ≡ R.file_of t.store
    pub sort : R.sort u.store ≡ R.sort t.store
    pub column : u.column ≡ t.column

  of_made : (t u : T) → StaysMade R t u → Same t u
  of_made t u made = record { file = made.made.file; sort = made.made.sort; column = made.column }

  of_settled : (t u : T) → StaysSettled R t u → Same t u
  of_settled t u st = record { file = st.file; sort = st.sort; column = st.stays.column }

  of_formed : {A E : Type 0} (form : Form) (r : Result A E) (t u : T) (b : S) → StaysFormed s R form r t u b → Same t u
  of_formed form r t u b st = record { file = st.store.file; sort = st.store.sort_same; column = st.stays.column }

  main_of : (t : T) (a : S) (m : Held) → Means s (wrap t) a m → InMain s R f.store o decimal f.of t
  main_of t a m h = let k = f.kind.out t (s.now a 0) m h.1 in record { file = k.1.file; column = k.1.column }

  in_bytes : (t : T) (bytes : List ℕ) (m : Held) → HoldsKept (wrap t) bytes m → HoldsIn R o t bytes m.1
  in_bytes t bytes m h =
      let k = (f.kind.out t bytes m h).1 in
      record {
        records = k.records;
        store = f.store.from t.store bytes k.records k.store;
        same = k.same;
        order = k.code ∙ sym f.of.code;
        is = subst (λ (cmp : List ℕ → List ℕ → Ordering). HoldsTree (before_by cmp) t.head t.height t.column (get k.records) m.1) (sym f.of.cmp)
            (subst (λ (c : Option (List ℕ)). HoldsTree (before_by (order decimal)) t.head t.height c (get k.records) m.1) (sym k.column) k.is);
      }

  in_tree : (t : T) (a : S) (m : Held) → Means s (wrap t) a m → Pairs t a m.1
  in_tree t a m h =
      let k = (f.kind.out t (s.now a 0) m h.1).1 in
      (h.0, subst (λ (n : ℕ). HoldsIn R o t (s.now a n) m.1) (sym (f.store.file t.store ∙ k.file)) (in_bytes t (s.now a 0) m h.1))

  -- what is told of the pairs that a tree holds is so of those that are kept
  pub counts_pairs : (t : T) (n : ℕ) → ((bytes : List ℕ) (ps : List Pair) → HoldsIn R o t bytes ps → n ≡ length ps) → (bytes : List ℕ) (m : Held) → HoldsKept (wrap t) bytes m → n ≡ length m.1
  counts_pairs t n counts bytes m h = counts bytes m.1 (in_bytes t bytes m h)

  -- pairs that a tree in file 0 means are held
  pub means_up : (u : T) (b : S) (d : Bool) (qs : List Pair) → d ≡ decimal → u.store.body.file ≡ 0 → u.store.body.head.kind ≡ 1 → u.column ≡ None → Pairs u b qs → Means s (wrap u) b (d, qs)
  means_up u b d qs d_is file kind column p =
      let bytes : s.now b (R.file_of u.store) ≡ s.now b 0 = ap (λ (n : ℕ). s.now b n) (f.store.file u.store ∙ file) in (
        p.0,
        f.kind.back u (s.now b 0) (d, qs) (
          d_is,
          record {
            file = file;
            kind = kind;
            column = column;
            records = p.1.records;
            store = subst (λ (l : List ℕ). holds u.store l p.1.records) bytes (f.store.into u.store (s.now b (R.file_of u.store)) p.1.records p.1.store);
            same = p.1.same;
            code = p.1.order ∙ f.of.code;
            is = subst (λ (c : Option (List ℕ)). HoldsTree (before_by (order decimal)) u.head u.height c (get p.1.records) qs) column
                (subst (λ (cmp : List ℕ → List ℕ → Ordering). HoldsTree (before_by cmp) u.head u.height u.column (get p.1.records) qs) f.of.cmp p.1.is);
          },
        ),
      )

  out_tree : (t u : T) (a b : S) (m : Held) (qs : List Pair) → Means s (wrap t) a m → Same t u → Pairs u b qs → Means s (wrap u) b (m.0, qs)
  out_tree t u a b m qs h made p =
      let k = f.kind.out t (s.now a 0) m h.1 in
      means_up u b m.0 qs k.0 (sym (f.store.file u.store) ∙ (made.file ∙ (f.store.file t.store ∙ k.1.file))) (sym (f.store.sort u.store) ∙ (made.sort ∙ (f.store.sort t.store ∙ k.1.kind))) (made.column ∙ k.1.column) p

  pub ready_tree : (t : T) (a : S) → IsReady s (Means s) (wrap t) a → IsOpen s R o t a
  ready_tree t a ready = record { sound = ready.sound; held = λ told. let h = ready.held told in (h.0.1, in_tree t a h.0 h.1) }

  file_is : (t : T) (a : S) → IsReady s (Means s) (wrap t) a → s.tells → file_in R t ≡ 0
  file_is t a ready told = let h = ready.held told in f.store.file t.store ∙ (f.kind.out t (s.now a 0) h.0 h.1.1).1.file

  -- ---- what is read

  pub reads_as : (t u : T) (a b : S) → Same t u → Reads s Pairs t u a b → Reads s (Means s) (wrap t) (wrap u) a b
  reads_as t u a b made reads = record { now = reads.now; touched = reads.touched; sound = reads.sound; means = λ m h. out_tree t u a b m m.1 h made (reads.means m.1 (in_tree t a m h)) }

  decimal_is : (t : T) (a : S) (m : Held) → Means s (wrap t) a m → m.0 ≡ decimal
  decimal_is t a m h = (f.kind.out t (s.now a 0) m h.1).0

  pub finds_kept : {A E : Type 0} (r : Result A E) (g : List Pair → A) (t : T) (a : S) → IfOk r (AnswersPairs s R o g t a) → Finds s r (λ m. g m.1) (wrap t) a
  finds_kept (Ok x) g t a found = λ m h. found m.1 (in_tree t a m h)
  finds_kept (Err e) g t a found = tt

  -- of whatever pairs are held, in the order that they have
  pub of_kept : (P : Bool → List Pair → Type 0) (t : T) (a : S) → ((ps : List Pair) → Pairs t a ps → P decimal ps) → (m : Held) → Means s (wrap t) a m → P m.0 m.1
  of_kept P t a are m h = subst (λ (d : Bool). P d m.1) (sym (decimal_is t a m h)) (are m.1 (in_tree t a m h))

  -- ---- what is changed

  -- no more lies free in front of the first block of the file
  leads_kept : (t u : T) → R.lead u.store ≤ R.lead t.store → lead_kept (wrap u) ≤ lead_kept (wrap t)
  leads_kept t u less = leads_by (R.lead t.store) (R.lead u.store) (lead_of t.store) (lead_of u.store) (lead_kept (wrap t)) (lead_kept (wrap u)) less (f.store.lead t.store) (f.store.lead u.store) (f.kind.lead t) (f.kind.lead u)

  -- what is said of the numbers and the rows of two trees is so of those that are kept
  as_kept : (P : TreeHead → TreeHead → ℕ → ℕ → Type 0) (t u : T) → P t.head u.head t.height u.height → OfTrees P (wrap t) (wrap u)
  as_kept P t u p =
      subst (λ (h : TreeHead). P h (head_kept (wrap u)) (height_of (wrap t)) (height_of (wrap u))) (sym (f.kind.head t))
      (subst (λ (k : TreeHead). P t.head k (height_of (wrap t)) (height_of (wrap u))) (sym (f.kind.head u))
      (subst (λ (n : ℕ). P t.head u.head n (height_of (wrap u))) (sym (f.kind.high t))
      (subst (λ (n : ℕ). P t.head u.head t.height n) (sym (f.kind.high u)) p)))

  pub keeps_head : (t u : T) → StaysMade R t u → KeepsHead (wrap t) (wrap u)
  keeps_head t u made = record {
    same = f.kind.numbers u ∙ (sym (f.store.numbers u.store) ∙ (made.made.numbers ∙ (f.store.numbers t.store ∙ sym (f.kind.numbers t))));
    lead = leads_kept t u made.made.lead;
    limits = as_kept (λ h k n m. SameLimits h k) t u (record { order = made.order; leaf = made.leaf_limit; node = made.node_limit });
  }

  pub same_kept : (t u : T) → StaysTree t u → OfTrees SameTree (wrap t) (wrap u)
  same_kept t u st = as_kept SameTree t u (record { head = st.head; high = st.height })

  pub less_kept : (t u : T) → StaysMade R t u → AddsNone t u → LessKept (wrap t) (wrap u)
  less_kept t u made ids = record { head = keeps_head t u made; ids = as_kept NoneMore t u (record { leaf_ids = ids.leaf_ids; node_ids = ids.node_ids; rows_most = ids.rows }) }

  -- each id that a put gave is that of a record
  pages_kept : (t u : T) (a b : S) → IsReady s (Means s) (wrap t) a → StaysMade R t u → GivesPages s R o t u a b → GivesRecords s (wrap t) (wrap u) b
  pages_kept t u a b ready made gives told id now was m has none =
      let h = ready.held told in
      let k = (f.kind.out t (s.now a 0) h.0 h.1.1).1 in
      let file : u.store.body.file ≡ 0 = sym (f.store.file u.store) ∙ (made.made.file ∙ (f.store.file t.store ∙ k.file)) in
      let w = gives h.0.1 (in_tree t a h.0 h.1) in
      let held : holds u.store (s.now b u.store.body.file) w.1.1.records = subst (λ (n : ℕ). holds u.store (s.now b n) w.1.1.records) (f.store.file u.store) (f.store.into u.store (s.now b (R.file_of u.store)) w.1.1.records w.1.1.store) in
      let here : holds u.store (s.now b u.store.body.file) m = subst (λ (n : ℕ). holds u.store (s.now b n) m) (sym file) (f.kind.records u (s.now b 0) m has) in
      let one : m ≡ w.1.1.records = one_map s u.store b m w.1.1.records (told, here) (told, held) in
      let given : IsGiven u.head id = subst (λ (x : TreeHead). IsGiven x id) (f.kind.head u) now in
      w.2 id given (λ before. was (subst (λ (x : TreeHead). IsGiven x id) (sym (f.kind.head t)) before))
      (no_page id (get w.1.1.records (key_of id)) (w.0 id) (w.1.1.held.given id given) (ap (λ (x : Map). get x (key_of id)) (sym one) ∙ none))

  pub grows_kept : {A E : Type 0} (r : Result A E) (t u : T) (a b : S) → IsReady s (Means s) (wrap t) a → StaysGrown s R o r t u a b → GrowsKept s r (wrap t) (wrap u) b
  grows_kept r t u a b ready g = record {
    head = keeps_head t u g.made;
    ids = let more = g.ids.most in as_kept FewMore t u (record { leaves_least = more.leaves_least; leaves_most = more.leaves_most; nodes_least = more.nodes_least; nodes_most = more.nodes_most; rows_least = more.rows_least; rows_most = more.rows_most });
    none = none_kept r g.ids.kept;
    pages = from_done r g.pages (λ gives. pages_kept t u a b ready g.made gives);
  }
    where
      none_kept : {A E : Type 0} (r : Result A E) → OnErr r ((s.flag b ≡ false) ⊎ ((u.head ≡ t.head) × (u.height ≡ t.height))) → OnErr r ((s.flag b ≡ false) ⊎ OfTrees SameTree (wrap t) (wrap u))
      none_kept (Ok x) kept = tt
      none_kept (Err e) kept = ⊎_elim (λ spoiled. inl spoiled) (λ same. inr (as_kept SameTree t u (record { head = same.0; high = same.1 }))) kept

  pub looks_kept : (t u : T) (a b : S) → LooksAt s R o t u a b → LooksKept s (wrap t) (wrap u) a b
  looks_kept t u a b l = record {
    reads = reads_as t u a b (of_made t u (made_looked s R o t u a b l)) l.reads;
    keeps = l.keeps;
    stays = record { head = keeps_head t u (made_looked s R o t u a b l); same = same_kept t u l.stays };
    tight = λ from form bytes was. f.kind.packs u from form bytes (f.store.tight u.store from form bytes (l.tight from form bytes (f.store.packs t.store from form bytes (f.kind.tight t from form bytes was))));
  }

  pub makes_kept : (step : Bool → Step) (done : Bool) (t u : T) (a b : S) → IsReady s (Means s) (wrap t) a → StaysMade R t u → Takes s R o (step decimal) done t u a b → Makes s (λ m. step m.0 m.1) done (wrap t) (wrap u) a b
  makes_kept step done t u a b ready made takes = record {
    sound = takes.sound;
    others = record { same = λ told g other. takes.others.same told g (λ is. other (is ∙ file_is t a ready told)) };
    numbers = keeps_head t u made;
    made = λ yes m h.
        let w = takes.made yes m.1 (in_tree t a m h) in
        (w.0, ap (λ (d : Bool). step d m.1) (decimal_is t a m h) ∙ w.1, out_tree t u a b m w.0 h (of_made t u made) w.2);
    fails = λ none m h. ap (λ (d : Bool). step d m.1) (decimal_is t a m h) ∙ takes.fails none m.1 (in_tree t a m h);
    same = λ none. reads_as t u a b (of_made t u made) (takes.same none);
  }

  writes_as : (g : Bool → List Pair → List Pair) (t u : T) (a b : S) → IsReady s (Means s) (wrap t) a → Same t u → Changes s R o (g decimal) t u a b → Writes s (Only 0) (Means s) (λ m. (m.0, g m.0 m.1)) (wrap t) (wrap u) a b
  writes_as g t u a b ready made writes = record {
    sound = writes.sound;
    means = λ m h. subst (λ (d : Bool). Means s (wrap u) b (m.0, g d m.1)) (sym (decimal_is t a m h)) (out_tree t u a b m (g decimal m.1) h made (writes.means m.1 (in_tree t a m h)));
    others = record { same = λ told g other. writes.others.same told g (λ is. other (is ∙ file_is t a ready told)) };
  }

  pub writes_kept : (g : Bool → List Pair → List Pair) (t u : T) (a b : S) → IsReady s (Means s) (wrap t) a → StaysMade R t u → Changes s R o (g decimal) t u a b → Writes s (Only 0) (Means s) (λ m. (m.0, g m.0 m.1)) (wrap t) (wrap u) a b
  writes_kept g t u a b ready made writes = writes_as g t u a b ready (of_made t u made) writes

  refuses_as : (t u : T) (a b : S) → Same t u → Refuses s Pairs t u a b → Refuses s (Means s) (wrap t) (wrap u) a b
  refuses_as t u a b made refused = ⊎_elim (λ spoiled. inl spoiled) (λ reads. inr (reads_as t u a b made reads)) refused

  pub refused_kept : {A E : Type 0} (r : Result A E) (t u : T) (a b : S) → StaysMade R t u → RefusesPairs s R o r t u a b → OnErr r (Refuses s (Means s) (wrap t) (wrap u) a b)
  refused_kept (Ok x) t u a b made refused = tt
  refused_kept (Err e) t u a b made refused = refuses_as t u a b (of_made t u made) refused

  pub counts_kept : (g : Bool → List Pair → List Pair) (total : Option ℕ) (t : T) (a : S) (now : Option ℕ) → IfSome now (CountsTo s R o (g decimal) total t a) → IfSome now (CountsKept s (λ m. g m.0 m.1) total (wrap t) a)
  counts_kept g total t a None counted = tt
  counts_kept g total t a (Some n) counted = (counted.0, counted.1, (λ m h k. counted.2 m.1 (in_tree t a m h) k ∙ ap (λ (d : Bool). bytes_in (g d m.1)) (sym (decimal_is t a m h))))

  -- ---- limits

  pub fills_kept : (g : Bool → List Pair → List Pair) (t : T) (a b : S) → FillsAlong s R o (g decimal) t a b → FillsTo s (λ m. g m.0 m.1) (wrap t) a b
  fills_kept g t a b fills m h =
      subst (λ (d : Bool). FillsLists (s.limit b 0) (s.log_full b) (s.brought b) (s.now b 0) d m.1 (g d m.1)) (sym (decimal_is t a m h))
      (fills_on s R f.store o decimal f.of a b h.0 t (main_of t a m h) (g decimal) m.1 (fills m.1 (in_tree t a m h)))

  pub cleared_kept : (t : T) (a b : S) → LacksCleared s R t a b → FillsTo s (λ m. []) (wrap t) a b
  cleared_kept t a b full m h =
      subst (λ (d : Bool). FillsLists (s.limit b 0) (s.log_full b) (s.brought b) (s.now b 0) d m.1 []) (sym (decimal_is t a m h))
      (fills_cleared s R f.store o decimal f.of a b h.0 t (main_of t a m h) m.1 (in_tree t a m h) full)

  -- ---- settled

  stands_as : (t : T) (a b : S) (m : Held) → Means s (wrap t) a m → BringsPairs s R o t a b → FileStands R o (R.sort t.store) (R.numbers t.store) t.head t.height t.column (s.now b 0) m.1
  stands_as t a b m h brings =
      let k = (f.kind.out t (s.now a 0) m h.1).1 in
      subst (λ (n : ℕ). FileStands R o (R.sort t.store) (R.numbers t.store) t.head t.height t.column (s.now b n) m.1) (f.store.file t.store ∙ k.file) (brings m.1 (in_tree t a m h))

  -- a file that stands for pairs under the numbers of a tree
  record Stood (before : Before) (h : TreeHead) (index : Bool) (m : Map) (ps : List Pair) : Type 0 where
    tree : TreeStands before h index (get m)
    are : ps ≡ tree_pairs tree

  stood_of : (t : T) (a : S) (m : Held) (bytes : List ℕ) → Means s (wrap t) a m → (x : FileStands R o (R.sort t.store) (R.numbers t.store) t.head t.height t.column bytes m.1) → Stood (before_by (order m.0)) (head_of x.region) false x.records m.1
  stood_of t a m bytes h x =
      let k = (f.kind.out t (s.now a 0) m h.1).1 in
      subst (λ (d : Bool). Stood (before_by (order d)) (head_of x.region) false x.records m.1) (sym (decimal_is t a m h))
      (subst (λ (cmp : List ℕ → List ℕ → Ordering). Stood (before_by cmp) (head_of x.region) false x.records m.1) f.of.cmp
      (subst (λ (n : TreeHead). Stood (before_by o.cmp) n false x.records m.1) (sym x.numbers)
      (subst (λ (c : Option (List ℕ)). Stood (before_by o.cmp) t.head (is_some c) x.records m.1) k.column (record { tree = x.tree; are = x.are }))))

  file_as : (t : T) (a : S) (m : Held) (bytes : List ℕ) → Means s (wrap t) a m → (x : FileStands R o (R.sort t.store) (R.numbers t.store) t.head t.height t.column bytes m.1) → StandsAs 1 (numbers_of t.store) bytes x.records x.region
  file_as t a m bytes h x =
      let k = (f.kind.out t (s.now a 0) m h.1).1 in
      f.store.stands 1 (numbers_of t.store) bytes x.records x.region
      (subst (λ (n : ℕ). R.stands n (numbers_of t.store) bytes x.records x.region) (f.store.sort t.store ∙ k.kind) (subst (λ (ns : List ℕ). R.stands (R.sort t.store) ns bytes x.records x.region) (f.store.numbers t.store) x.file))

  pub brings_kept : (t : T) (a b : S) → BringsPairs s R o t a b → BringsKept s (wrap t) a b
  brings_kept t a b brings m h =
      let x = stands_as t a b m h brings in
      let k = (f.kind.out t (s.now a 0) m h.1).1 in
      let stood = stood_of t a m (s.now b 0) h x in
      let file = (file_as t a m (s.now b 0) h x).file in
      let shown : (head_in (take 256 (s.now b 0))).opaque ≡ x.region = ap (λ (n : Head). n.opaque) file.is.opens.spells.fields ∙ file.region_is in
      record {
        stands = record {
          records = x.records;
          region = x.region;
          file = file;
          code = ap (λ (n : TreeHead). n.order) x.numbers ∙ (k.code ∙ sym (ap code_of (decimal_is t a m h)));
          stands = stood.tree;
          are = stood.are;
        };
        numbers = ap head_of shown ∙ (x.numbers ∙ sym (f.kind.head t));
        region = shown ∙ (x.spelled ∙ ap region_bytes (sym (f.kind.head t)));
      }

  -- its file is file 0
  in_main : (t : T) (a b : S) (m : Held) → Means s (wrap t) a m → s.now b (file_in R t) ≡ s.now b 0
  in_main t a b m h = ap (λ (n : ℕ). s.now b n) (f.store.file t.store ∙ (f.kind.out t (s.now a 0) m h.1).1.file)

  pub packs_kept : (t : T) (a b : S) → BringsPacked s R o t a b → BringsTight s (wrap t) a b
  packs_kept t a b brings from form m tight h =
      let was : WasPacked t.store from form (s.now a (file_in R t)) = subst (λ (bytes : List ℕ). WasPacked t.store from form bytes) (sym (in_main t a a m h)) (f.kind.tight t from form (s.now a 0) tight) in
      let is = brings.packs from form m.1 (f.store.packs t.store from form (s.now a (file_in R t)) was) (in_tree t a m h) in
      subst (λ (bytes : List ℕ). IsPackedFrom from form bytes) (in_main t a b m h) (f.store.packed from form (s.now b (file_in R t)) is)

  as_same : (t u : T) (a b : S) → Writes s (Only 0) (Means s) (λ m. (m.0, same m.1)) (wrap t) (wrap u) a b → Writes s (Only 0) (Means s) same (wrap t) (wrap u) a b
  as_same t u a b w = record { sound = w.sound; means = λ m h. w.means m h; others = w.others }

  settled_head : (t u : T) → StaysSettled R t u → KeepsHead (wrap t) (wrap u)
  settled_head t u st = record {
    same = f.kind.numbers u ∙ (sym (f.store.numbers u.store) ∙ (st.fixed ∙ (f.store.numbers t.store ∙ sym (f.kind.numbers t))));
    lead = leads_kept t u st.lead;
    limits = as_kept (λ h k n m. SameLimits h k) t u (record { order = ap (λ (h : TreeHead). h.order) st.stays.head; leaf = ap (λ (h : TreeHead). h.leaf_limit) st.stays.head; node = ap (λ (h : TreeHead). h.node_limit) st.stays.head });
  }

  pub settled_stays : (t u : T) → StaysSettled R t u → StaysKept (wrap t) (wrap u)
  settled_stays t u st = record { head = settled_head t u st; same = same_kept t u st.stays }

  pub settled_kept : (t u : T) (a b : S) → IsReady s (Means s) (wrap t) a → StaysSettled R t u → Changes s R o same t u a b → Writes s (Only 0) (Means s) same (wrap t) (wrap u) a b
  settled_kept t u a b ready stays writes = as_same t u a b (writes_as (λ d ps. ps) t u a b ready (of_settled t u stays) writes)

  pub settled_refused : {A E : Type 0} (r : Result A E) (t u : T) (a b : S) → StaysSettled R t u → RefusesPairs s R o r t u a b → OnErr r (Refuses s (Means s) (wrap t) (wrap u) a b)
  settled_refused (Ok x) t u a b stays refused = tt
  settled_refused (Err e) t u a b stays refused = refuses_as t u a b (of_settled t u stays) refused

  pub trims_kept : (t u : T) (a b : S) → IsReady s (Means s) (wrap t) a → StaysSettled R t u → Changes s R o same t u a b → BringsPacked s R o t a b → TrimsKept s (wrap t) a b
  trims_kept t u a b ready stays writes packs m h =
      let now : Means s (wrap u) b m = (settled_kept t u a b ready stays writes).means m h in
      let none : slack_in (s.now b 0) ≡ 0 = subst (λ (bytes : List ℕ). slack_in bytes ≡ 0) (in_main t a b m h) (sym (f.store.slack (s.now b (file_in R t))) ∙ packs.trims m.1 (in_tree t a m h)) in
      record {
        numbers = kept_layout (wrap t) (wrap u) (s.now a 0) (s.now b 0) m m h.1 now.1 (settled_head t u stays);
        none = slack_layout (s.now b 0) ∙ none;
      }

  -- ---- packed

  pub packed_kept : {A E : Type 0} (form : Form) (r : Result A E) (t u : T) (a b : S) → IsReady s (Means s) (wrap t) a → StaysFormed s R form r t u b → Changes s R o same t u a b → Writes s (Only 0) (Means s) same (wrap t) (wrap u) a b
  packed_kept form r t u a b ready stays writes = as_same t u a b (writes_as (λ d ps. ps) t u a b ready (of_formed form r t u b stays) writes)

  pub packed_refused : {A E C D : Type 0} (form : Form) (q : Result C D) (r : Result A E) (t u : T) (a b : S) → StaysFormed s R form q t u b → RefusesPairs s R o r t u a b → OnErr r (Refuses s (Means s) (wrap t) (wrap u) a b)
  packed_refused form q (Ok x) t u a b stays refused = tt
  packed_refused form q (Err e) t u a b stays refused = refuses_as t u a b (of_formed form q t u b stays) refused

  -- from the bytes that its file had
  pub tight_packed : (form : Form) (t u : T) (a b : S) → TightTree s R o form t u a b → PacksKept s form (wrap t) (wrap u) a b
  tight_packed form t u a b tight m h =
      let is : WasPacked u.store (s.now a (file_in R t)) form (s.now b (file_in R t)) = f.store.tight u.store (s.now a (file_in R t)) form (s.now b (file_in R t)) (tight m.1 (in_tree t a m h)) in
      f.kind.packs u (s.now a 0) form (s.now b 0) (subst (λ (bytes : List ℕ). WasPacked u.store (s.now a 0) form bytes) (in_main t a b m h) (subst (λ (bytes : List ℕ). WasPacked u.store bytes form (s.now b (file_in R t))) (in_main t a a m h) is))

  pub formed_kept : {A E : Type 0} (form : Form) (r : Result A E) (t u : T) (b : S) → StaysFormed s R form r t u b → OnOk r (FormsKept form (wrap t) (wrap u))
  formed_kept form (Ok x) t u b stays = record {
    numbers = f.kind.numbers u ∙ (sym (f.store.numbers u.store) ∙ (stays.store.formed ∙ ap (in_form form) (f.store.numbers t.store ∙ sym (f.kind.numbers t))));
    lead = leads_kept t u stays.store.leads;
  }
  formed_kept form (Err e) t u b stays = tt

  -- written anew in the large form it had no room
  pub lacks_formed : (form : Form) (t : T) (a b : S) → FullPack s R.lacks_large form t.store a b → LacksFormed s form (wrap t) a b
  lacks_formed form t a b full m h =
      let k = (f.kind.out t (s.now a 0) m h.1).1 in
      let lists : LacksIts s t.store a b → LacksLargeLists (s.limit b 0) (length (s.now b 0)) (s.brought b) (s.now a 0) m.0 m.1 = λ lacks. record {
        held = k.records;
        pages = record { head = t.head; height = t.height; holds = subst (λ (d : Bool). HoldsTree (before_by (order d)) t.head t.height None (get k.records) m.1) (sym (decimal_is t a m h)) k.is };
        lacks = large_up s t.store a b k.records h.0 k.file k.store lacks;
      } in
      ⊎_elim (λ log. inl log) (λ large. inr (large.0, lists (f.store.large t.store a b large.1))) (full h.0)
