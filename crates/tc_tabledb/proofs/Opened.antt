-- The files of a table that are opened.
use Rattle.std.proofs.Common.{◌≡◌, ◌≢◌, ◌∙◌, ◌⊎◌, inl, inr, ⊎_elim, ℕ, ◌≤◌, ◌<◌, ◌==◌, Bool, true, false, List, [], ◌∷◌, ◌++◌, length, refl, sym, ap, subst, append_assoc, rules, arith}
use Rattle.std.specs.Prelude.{Option, Some, None, Result, Err, IsErrOf, IsTrue, MatchOption}
use Rattle.std.specs.Result.{IsErrAnd}
use Rattle.std.proofs.lemmas.Result.{err_from_is_err_and}
use Rattle.std.specs.FinMap.{get, keys}
use Rattle.std.specs.declared.cmp.Ordering.{Ordering}
use Rattle.std.proofs.lemmas.Bool.{cases_eq, ne_eqb}
use Rattle.std.proofs.lemmas.List.{append-nil, map-append}
use Rattle.tc_base.specs.Files.{Files}
use Rattle.tc_base.specs.Maps.{Map}
use Rattle.tc_base.specs.Orders.{order}
use Rattle.tc_base.specs.declared.kind.Rule.{Rule}
use Rattle.tc_base.specs.declared.order.Decimal.{Decimal as ByNumbers}
use Rattle.tc_base.specs.declared.order.Lexical.{Lexical as ByBytes}
use Rattle.tc_base.specs.declared.order.Order.{Ghosts as Orders}
use Rattle.tc_base.specs.declared.seq.Pair.{Pair}
use Rattle.tc_space.specs.Frames.{In, Keeps, OnlyReads}
use Rattle.tc_space.specs.Lists.{Made}
use Rattle.tc_space.specs.Ranges.{IsDataFile}
use Rattle.tc_space.specs.Stores.{IsReady, ReadyIn}
use Rattle.tc_space.specs.declared.errors.OpenErr.{OpenErr}
use Rattle.tc_space.specs.declared.errors.OpenErr.TheVariants as open_err
use Rattle.tc_space.specs.declared.multi.Multi as multi
use Rattle.tc_space.specs.declared.records.Records.{Ghosts as Stores}
use Rattle.tc_space.specs.declared.space.Space.{Ghosts}
use Rattle.hf_tree.specs.Standing.{StandsFor}
use Rattle.bt_check.specs.Looks.{MayLook}
use Rattle.bt_check.specs.Verdicts.{IsFirstBroken}
use Rattle.bt_rows.proofs.Held.{records_give_pairs}
use Rattle.bt_rows.specs.Heads.{head_of}
use Rattle.bt_rows.specs.Orders.{Before, before_by}
use Rattle.bt_rows.specs.Rules.{column as column_key}
use Rattle.bt_rows.specs.Standing.{TreeStands, tree_pairs}
use Rattle.bt_rows.specs.declared.head.TreeHead.{TreeHead}
use Rattle.bt_tree.specs.Meaning.{HoldsIn, Means as MeansTree}
use Rattle.bt_tree.specs.Opening.{BreaksIn, IsOpened, IsOrdered}
use Rattle.tc_btree.specs.declared.btree.Btree.{Btree}
use Rattle.tc_hash.specs.declared.hash.Hash.{Hash}
use Rattle.hf_record.specs.declared.body.Body.{Body}
use Rattle.tc_hash.specs.Keeping.{CanCall, Looks, Means, holds}
use Rattle.tc_hash.specs.Opening.{Breaks as BreaksHash}
use Rattle.tc_hash.specs.Standing.{StandsWith}
use Rattle.tc_hash.proofs.OneMap.{one_map}
use Rattle.tc_model.specs.Contents.{Rows}
use Rattle.tc_model.specs.Texts.{is_among, not_empty}
use Rattle.tc_model.specs.declared.query.IndexKind.{IndexKind}
use Rattle.td_index.specs.Entries.{AreOwed}
use Rattle.td_index.specs.declared.index.Index.{Index}
use Rattle.td_index.proofs.Keeping.{rows_stay, rows_then}
use Rattle.tc_table.specs.Opening.{JudgesRows, TreeHolds, rows_in}
use Rattle.tc_table.specs.Over.{HoldsOver}
use Rattle.tc_table.specs.Parts.{AreSpelled, parts_of}
use Rattle.tc_table.specs.Sides.{IsAway, asks_decimal, files as side_files, name_of, tree_file}
use Rattle.tc_table.specs.Tables.{Admits, Holds, JudgesSide, OpensRows, files_of}
use Rattle.tc_table.specs.declared.side.Side.{Side}
use Rattle.tc_table.specs.declared.side.Sorted.{Sorted}
use Rattle.tc_table.specs.declared.side.Sorted.TheVariants.{Lexical, Decimal}
use Rattle.tc_table.specs.declared.table.Table.{Table}
use Rattle.tc_table.proofs.Overs.{law}
use Rattle.tc_table.proofs.Spelled.{read_rows, read_spelled}
use Rattle.tc_treedb.specs.Holding.{code_of}
use Rattle.tc_treedb.specs.OneTree.{one_region}
use Rattle.tc_treedb.specs.Trees.{IsStore}
use Rattle.ty_base.specs.Opening.{Breaks, any_of_open}
use Rattle.ty_base.proofs.Refusals.{cause_is}
use Rattle.ty_base.specs.declared.errors.AnyErr.{AnyErr}
use Rattle.ty_base.specs.declared.errors.AnyErr.TheVariants as any
use Rattle.tc_tabledb.specs.declared.opening.Named.{Named}
use Rattle.tc_tabledb.specs.Files.{type_code, HaveIndexes, IsIndexFile, IsIndexOf, IsIndexPlace, column_bytes, order_code}
use Rattle.tc_tabledb.specs.Holding.{AreDistinct, DecimalList, IsMade, LexicalList, indexes_of, names}
use Rattle.tc_tabledb.specs.Indexing.{IsFreePlace}
use Rattle.tc_tabledb.specs.Members.{AreTableStores, IsTreeList}
use Rattle.tc_tabledb.specs.OneTable.{one_rows, one_type, order_told}
use Rattle.tc_tabledb.specs.Opened.{AreFree, BreaksBefore, BreaksSide, BreaksSome, BreaksTree, CanOpenIndex, IsListed, IsNamedBy, IsNewName, NamesBy, NamesNone, OpensFile, OpensMain, OpensSide, OpensSides, OpensTree, TakesSide, told_order}
use Rattle.tc_tabledb.specs.Opening.{BreaksFrom, BreaksIndex, BreaksTable, IsNamed, in_file, in_main, in_tree, no_name, no_row, other_pairs, rule_c, tells_numbers}
use Rattle.tc_tabledb.proofs.Admitted.{distinct_push}
use Rattle.tc_tabledb.proofs.Lifting.{made_still}
use Rattle.tc_tabledb.proofs.Made.{other_is, store_in, store_out}

abbrev head_is : List ℕ → ℕ
head_is [] = 0
head_is (b ∷ bytes) = b

abbrev tail_is : List ℕ → List ℕ
tail_is [] = []
tail_is (b ∷ bytes) = bytes

some_is : {A : Type 0} (a b : A) → Some a ≡ Some b → a ≡ b
some_is a b e = cc

-- ---- refusals

pub named_breaks : (e : AnyErr) (file : ℕ) (rule : Rule) (P : ℕ → Rule → Type 0) → e ≡ any.Broken file rule → P file rule → Breaks e P
named_breaks e file rule P is p = subst (λ (x : AnyErr). Breaks x P) (sym is) p

pub breaks_each : (e : AnyErr) (P Q : ℕ → Rule → Type 0) → ((f : ℕ) (rule : Rule) → P f rule → Q f rule) → Breaks e P → Breaks e Q
breaks_each (any.Broken file rule) P Q more breaks = more file rule breaks
breaks_each any.Full P Q more breaks = tt
breaks_each any.Fault P Q more breaks = tt
breaks_each any.Memory P Q more breaks = tt

-- it is no limit, and no fault
pub never_full : {T : Type 0} (e : AnyErr) (file : ℕ) (rule : Rule) → e ≡ any.Broken file rule → IsErrOf {T = T} (Err e) any.Full → ⊥
never_full {T} e file rule is full = absurd (let bad : any.Broken file rule ≡ any.Full = sym is ∙ cause_is e any.Full full in cc)

pub never_fault : {T : Type 0} (e : AnyErr) (file : ℕ) (rule : Rule) → e ≡ any.Broken file rule → IsErrOf {T = T} (Err e) any.Fault → ⊥
never_fault {T} e file rule is fault = absurd (let bad : any.Broken file rule ≡ any.Fault = sym is ∙ cause_is e any.Fault fault in cc)

open_full : (e : OpenErr) → any_of_open e ≡ any.Full → ⊥
open_full (open_err.Broken file rule) is = absurd (let bad : any.Broken file rule ≡ any.Full = is in cc)
open_full open_err.Fault is = absurd (let bad : any.Fault ≡ any.Full = is in cc)
open_full open_err.Memory is = absurd (let bad : any.Memory ≡ any.Full = is in cc)

pub open_never_full : {T : Type 0} (r : Result T AnyErr) (e : OpenErr) → IsErrAnd r (λ a. a ≡ any_of_open e) → IsErrOf r any.Full → ⊥
open_never_full {T} r e is full = let x = err_from_is_err_and r is in open_full e (sym x.2 ∙ cause_is x.0 any.Full (sym x.1 ∙ full))

-- what is found, where there is something, and where there is nothing
pub match_none : {A : Type 0} (P : A → Type 0) (N : Type 0) (o : Option A) → o ≡ None → MatchOption o N P → N
match_none {A} P N o is fact = subst (λ (x : Option A). MatchOption x N P) is fact

pub match_some : {A : Type 0} (P : A → Type 0) (N : Type 0) (o : Option A) (x : A) → o ≡ Some x → MatchOption o N P → P x
match_some {A} P N o x is fact = subst (λ (y : Option A). MatchOption y N P) is fact

-- ---- the main file

module _ {S : Type 0} (s : Ghosts S) (r : Stores (Hash S) S) (store : IsStore s r) where
  main_held : (h : Hash S) (b : S) (m : Map) → h.body.file ≡ 0 → s.tells → holds h (s.now b 0) m → In s r.file_of r.holds h b m
  main_held h b m at t is = (t, subst (λ (n : ℕ). r.holds h (s.now b n) m) (sym (store.file h ∙ at)) (store.from h (s.now b 0) m is))

  module _ (h : Hash S) (a b : S) (at : h.body.file ≡ 0) (kind : h.body.head.kind ≡ 3) (stands : s.tells → (m : Map) × StandsWith 3 (s.now a 0) m h.region) (held : s.tells → (m : Map) → StandsFor 3 (s.now a 0) (get m) → holds h (s.now b 0) m) where
    pub main_ready : s.sound b → ReadyIn s r.file_of r.holds h b
    main_ready sound = record { sound = sound; held = λ t. let m = stands t in (m.0, main_held h b m.0 at t (held t m.0 m.1.is)) }

    pub main_opens : {L OL D OD : Type 0} (l : multi.Ghosts L S OL) (d : multi.Ghosts D S OD) (t : Table (Hash S) L D) (ks : List (List ℕ)) (c : S) → OpensRows s r l d h t ks b c → OpensMain s r l d t ks a c
    main_opens l d t ks c opens = record {
      file = opens.stays.file ∙ (store.file h ∙ at);
      sort = opens.stays.sort ∙ (store.sort h ∙ kind);
      none = opens.none;
      holds = λ told rows is.
          let here = main_held h b is.records at told (held told is.records is.file.is) in
          let x = opens.rows is.records here in
          let same : rows_in is.records ≡ rows = one_rows is.records (rows_in is.records) rows (read_spelled is.records x.0) (read_rows is.records x.0) is.spelled is.are in
          (subst (λ (m : Rows). Holds s r l d t c m) same x.1, opens.keys_are is.records here ∙ ap (λ (m : Rows). keys m) same);
      some = λ told.
          let m = stands told in
          let x = opens.rows m.0 (main_held h b m.0 at told (held told m.0 m.1.is)) in
          (rows_in m.0, record { records = m.0; region = h.region; file = m.1; spelled = read_spelled m.0 x.0; are = read_rows m.0 x.0 });
    }

    -- a record is no row's
    pub main_no_row : s.tells → ((m : Map) → In s r.file_of r.holds h b m → JudgesRows m false) → BreaksTable (s.now a) 0 (rule_c 1)
    main_no_row told bad = let m = stands told in no_row m.0 h.region m.1 (bad m.0 (main_held h b m.0 at told (held told m.0 m.1.is)))

pub main_breaks : (files : Files) (f : ℕ) (rule : Rule) (tells : Type 0) (e : OpenErr) → tells → (tells → files 0 ≢ []) → BreaksHash tells 3 0 (files 0) e → e ≡ open_err.Broken f rule → BreaksTable files f rule
main_breaks files f rule tells e t some breaks named = let b = breaks f rule named in subst (λ (n : ℕ). BreaksTable files n rule) (sym b.0) (in_main rule (some t) (b.1 t))

-- ---- the tree of an index

one_is : (n : ℕ) → (n == 1) ≡ true → n ≡ 1
one_is n is = ⊎_elim (λ (same : n ≡ 1). same) (λ other. absurd (let bad : true ≡ false = sym is ∙ ne_eqb n 1 other in cc)) (cases_eq n 1)

ordered : (decimal : Bool) (n : ℕ) → (n == 1) ≡ decimal → (n ≡ code_of decimal) ⊎ (1 < n)
ordered true n is = inl (one_is n is)
ordered false n is = other_is n is

module _ {S O : Type 0} (s : Ghosts S) (R : Stores (Hash S) S) (store : IsStore s R) (o : Orders O) (decimal : Bool) (m : multi.Ghosts (Btree (Hash S) O) S O) (list : IsTreeList s R o decimal m) (hash : Hash S) (a : S) (can : CanOpenIndex s hash a) (region : R.region hash ≡ hash.region) (told : tells_numbers hash.region ≡ decimal) where
  pub index_ready : MayLook s R hash a
  index_ready = record { sound = can.sound; held = λ t. let h = can.held t in (h.0, store_in s R store hash a h.0 h.1) }

  pub index_ordered : IsOrdered R o hash
  index_ordered = ⊎_elim
      (λ is. inl (ap (λ (x : List ℕ). (head_of x).order) region ∙ (is ∙ sym list.of.code)))
      (λ more. inr (subst (λ (x : List ℕ). 1 < (head_of x).order) (sym region) more))
      (ordered decimal (head_of hash.region).order told)

  -- a rule that is named is the first of trees that what is held breaks
  pub index_breaks : (e : OpenErr) → BreaksIn s R o true hash a e → BreaksTree s hash a e
  index_breaks e breaks f rule is =
      let b = breaks f rule is in (
        b.0 ∙ store.file hash,
        (λ k h. subst (λ (x : List ℕ). IsFirstBroken (told_order s hash) (head_of x) true (get k) rule) region
            (subst (λ (q : Bool). IsFirstBroken (before_by (order q)) (head_of (R.region hash)) true (get k) rule) (sym told)
            (subst (λ (cmp : List ℕ → List ℕ → Ordering). IsFirstBroken (before_by cmp) (head_of (R.region hash)) true (get k) rule) list.of.cmp (b.1 k (store_in s R store hash a k h))))),
      )

  module _ (t : Btree (Hash S) O) (b : S) (opened : IsOpened s R o true hash t.tree a b) where
    -- the pairs that stand there in an order, under numbers, are the tree's
    record Reached (before : Before) (numbers : TreeHead) (k : Map) : Type 0 where
      stands : TreeStands before numbers true (get k)
      means : MeansTree s R o t.tree b (tree_pairs stands)

    pub index_pairs : (k : Map) → Means s hash a k → (st : TreeStands (told_order s hash) (head_of hash.region) true (get k)) × In s m.file_of m.holds t b (tree_pairs st)
    index_pairs k h =
        let x = opened.opens k (store_in s R store hash a k h) in
        let y : Reached (told_order s hash) (head_of hash.region) k =
        subst (λ (g : List ℕ). Reached (told_order s hash) (head_of g) k) region
        (subst (λ (q : Bool). Reached (before_by (order q)) (head_of (R.region hash)) k) (sym told)
        (subst (λ (cmp : List ℕ → List ℕ → Ordering). Reached (before_by cmp) (head_of (R.region hash)) k) list.of.cmp (record { stands = x.stands; means = x.means }))) in
        (y.stands, (y.means.0, list.from t (s.now b (m.file_of t)) (tree_pairs y.stands) (subst (λ (n : ℕ). HoldsIn R o t.tree (s.now b n) (tree_pairs y.stands)) (sym (list.file t)) y.means.1)))

    pub index_held : s.sound b → ReadyIn s m.file_of m.holds t b
    index_held sound = record { sound = sound; held = λ tells. let h = can.held tells in let x = index_pairs h.0 h.1 in (tree_pairs x.0, x.1) }

    pub index_file_is : m.file_of t ≡ hash.body.file
    index_file_is = list.file t ∙ (opened.made.file ∙ store.file hash)

    pub index_sort : (m.made t).sort ≡ 1
    index_sort = ap (λ (x : Made). x.sort) (list.made t) ∙ (opened.made.sort ∙ (store.sort hash ∙ can.kind))

    pub index_code : (m.made t).code ≡ (head_of hash.region).order
    index_code = ap (λ (x : Made). x.code) (list.made t) ∙ (ap (λ (h : TreeHead). h.order) opened.head_is ∙ ap (λ (x : List ℕ). (head_of x).order) region)

    pub index_column : (k : Map) → Means s hash a k → (m.made t).column ≡ get k column_key
    index_column k h = ap (λ (x : Made). x.column) (list.made t) ∙ (opened.opens k (store_in s R store hash a k h)).column_is

module _ {S : Type 0} (s : Ghosts S) (r : Stores (Hash S) S) (ol : Orders ByBytes) (od : Orders ByNumbers) (l : multi.Ghosts (LexicalList S) S ByBytes) (d : multi.Ghosts (DecimalList S) S ByNumbers) (stores : AreTableStores s r ol od l d) (hash : Hash S) (a : S) (can : CanOpenIndex s hash a) (region : r.region hash ≡ hash.region) where
  pub lexical_opened : (i : Index (LexicalList S)) (b : S) → tells_numbers hash.region ≡ false → s.sound b → IsOpened s r ol true hash i.tree.tree a b → OpensTree s r l d hash i.name (Lexical i) a b
  lexical_opened i b told sound opened = record {
    ready = index_held s r stores.store ol false l stores.lexical hash a can region told i.tree b opened sound;
    name_is = refl;
    file_is = index_file_is s r stores.store ol false l stores.lexical hash a can region told i.tree b opened;
    order = sym told;
    sort = index_sort s r stores.store ol false l stores.lexical hash a can region told i.tree b opened;
    code = index_code s r stores.store ol false l stores.lexical hash a can region told i.tree b opened;
    column = index_column s r stores.store ol false l stores.lexical hash a can region told i.tree b opened;
    opens = index_pairs s r stores.store ol false l stores.lexical hash a can region told i.tree b opened;
  }

  pub decimal_opened : (i : Index (DecimalList S)) (b : S) → tells_numbers hash.region ≡ true → s.sound b → IsOpened s r od true hash i.tree.tree a b → OpensTree s r l d hash i.name (Decimal i) a b
  decimal_opened i b told sound opened = record {
    ready = index_held s r stores.store od true d stores.decimal hash a can region told i.tree b opened sound;
    name_is = refl;
    file_is = index_file_is s r stores.store od true d stores.decimal hash a can region told i.tree b opened;
    order = sym told;
    sort = index_sort s r stores.store od true d stores.decimal hash a can region told i.tree b opened;
    code = index_code s r stores.store od true d stores.decimal hash a can region told i.tree b opened;
    column = index_column s r stores.store od true d stores.decimal hash a can region told i.tree b opened;
    opens = index_pairs s r stores.store od true d stores.decimal hash a can region told i.tree b opened;
  }

-- ---- the file of an index

-- the pairs of a tree in an order, under a region
record TreeAt (decimal : Bool) (region : List ℕ) (m : Map) (ps : List Pair) : Type 0 where
  stands : TreeStands (before_by (order decimal)) (head_of region) true (get m)
  are : ps ≡ tree_pairs stands

-- a hash file of trees that was opened in a file, and read since
pub record IsOpenIn {S : Type 0} (s : Ghosts S) (file : ℕ) (hash : Hash S) (a c : S) : Type 0 where
  pub file_is : hash.body.file ≡ file
  pub kind_is : hash.body.head.kind ≡ 1
  pub stands : s.tells → (m : Map) × StandsWith 1 (s.now a file) m hash.region
  pub means : s.tells → (m : Map) → StandsFor 1 (s.now a file) (get m) → Means s hash c m

-- as it was opened, and once it was looked at
module _ {S : Type 0} (s : Ghosts S) (file : ℕ) where
  pub was_opened : (h : Hash S) (a b : S) → h.body.file ≡ file → h.body.head.kind ≡ 1 → (s.tells → (m : Map) × StandsWith 1 (s.now a file) m h.region) → (s.tells → (m : Map) → StandsFor 1 (s.now a file) (get m) → holds h (s.now b file) m) → IsOpenIn s file h a b
  was_opened h a b at kind stands held = record { file_is = at; kind_is = kind; stands = stands; means = λ t m is. (t, subst (λ (n : ℕ). holds h (s.now b n) m) (sym at) (held t m is)) }

  pub was_looked : (h g : Hash S) (a b c : S) → IsOpenIn s file h a b → Looks s h g b c → g.body ≡ h.body → g.region ≡ h.region → IsOpenIn s file g a c
  was_looked h g a b c open_in looks body region = record {
    file_is = ap (λ (x : Body). x.file) body ∙ open_in.file_is;
    kind_is = ap (λ (x : Body). x.head.kind) body ∙ open_in.kind_is;
    stands = λ t. let m = open_in.stands t in (m.0, subst (λ (q : List ℕ). StandsWith 1 (s.now a file) m.0 q) (sym region) m.1);
    means = λ t m is. looks.means m (open_in.means t m is);
  }

  pub may_look : (h : Hash S) (a b : S) → s.sound b → IsOpenIn s file h a b → CanCall s h b
  may_look h a b sound open_in = record { sound = sound; held = λ t. let m = open_in.stands t in (m.0, open_in.means t m.0 m.1.is) }

pub place_data : (file : ℕ) → IsIndexPlace file → IsDataFile file
place_data file place = inr (let low = place.0 in omega (arith, low), place.1)

-- ---- the record `column`

some_text : (name : List ℕ) → (length name ≡ 0 → ⊥) → not_empty name ≡ true
some_text name some = let long : 1 ≤ length name = omega (arith, some) in search (rules, long)

pub none_text : (name : List ℕ) → length name ≡ 0 → not_empty name ≡ true → ⊥
none_text [] none some = absurd (let bad : false ≡ true = some in cc)
none_text (b ∷ name) none some = absurd (omega (arith, none))

module _ (order : ℕ) (seen : List (List ℕ)) where
  abbrev pub Names : List ℕ → Option Named → Type 0
  Names bytes o = MatchOption o (NamesNone bytes order seen) (λ x. IsNamedBy bytes order seen x.kind x.name)

  pub names_nil : (bytes : List ℕ) → length bytes ≡ 0 → NamesNone bytes order seen
  names_nil bytes none kind name named = let long : length bytes ≡ length (column_bytes kind name) = ap length named.is in absurd (omega (arith, none, long))

  pub names_at : (bytes rest : List ℕ) (code : ℕ) (o : Option Named) → bytes ≡ code ∷ rest → Names (code ∷ rest) o → Names bytes o
  names_at bytes rest code o parted names = subst (λ (bs : List ℕ). Names bs o) (sym parted) names

  pub names_other : (code : ℕ) (name : List ℕ) → ((k : IndexKind) → type_code k ≢ code) → NamesNone (code ∷ name) order seen
  names_other code name never kind n named = never kind (sym (ap head_is named.is))

  pub names_old : (kind : IndexKind) (code : ℕ) (name : List ℕ) → type_code kind ≡ code → (IsNewName order seen kind name → ⊥) → NamesNone (code ∷ name) order seen
  names_old kind code name is old k n named =
      let same : k ≡ kind = one_type k kind (sym (ap head_is named.is) ∙ sym is) in
      let name_is : n ≡ name = sym (ap tail_is named.is) in
      old (subst (λ (m : List ℕ). IsNewName order seen kind m) name_is (subst (λ (j : IndexKind). IsNewName order seen j n) same (record { fits = named.fits; some = named.some; new = named.new })))

  pub names_new : (kind : IndexKind) (code : ℕ) (name kept : List ℕ) → type_code kind ≡ code → kept ≡ name → IsNewName order seen kind name → IsNamedBy (code ∷ name) order seen kind kept
  names_new kind code name kept is same new = subst (λ (n : List ℕ). IsNamedBy (code ∷ name) order seen kind n) (sym same) (record { is = λ i. sym is i ∷ name; fits = new.fits; some = new.some; new = new.new })

  pub new_so : (kind : IndexKind) (name : List ℕ) (told : ℕ) (was : Bool) → told ≡ order_code kind → told ≡ order → (length name ≡ 0 → ⊥) → was ≡ is_among name seen → was ≡ false → IsNewName order seen kind name
  new_so kind name told was told_is same some is other = record { fits = sym same ∙ told_is; some = some_text name some; new = sym is ∙ other }

  pub seen_so : (kind : IndexKind) (name : List ℕ) (was : Bool) → was ≡ is_among name seen → was ≡ true → IsNewName order seen kind name → ⊥
  seen_so kind name was is there new = absurd (let bad : true ≡ false = sym there ∙ (is ∙ new.new) in cc)

pub none_named : (m : Map) (region : List ℕ) (seen : List (List ℕ)) (key : List ℕ) (found : Option (List ℕ)) → key ≡ column_key → found ≡ get m key → found ≡ None → NamesBy m region seen None
none_named m region seen key found is value none kind name named =
    absurd (let bad : None ≡ Some (column_bytes kind name) = sym none ∙ (value ∙ (ap (get m) is ∙ named.is)) in cc)

pub named_so : (m : Map) (region : List ℕ) (seen : List (List ℕ)) (key record_bytes bytes : List ℕ) (order : ℕ) (o : Option Named) → key ≡ column_key → Some record_bytes ≡ get m key → bytes ≡ record_bytes → order ≡ (head_of region).order
    → MatchOption o (NamesNone bytes order seen) (λ x. IsNamedBy bytes order seen x.kind x.name) → NamesBy m region seen o
named_so m region seen key record_bytes bytes told None is value same tells none = λ kind name named.
    none kind name (record { is = same ∙ some_is record_bytes (column_bytes kind name) (value ∙ (ap (get m) is ∙ named.is)); fits = tells ∙ named.order; some = named.some; new = named.new })
named_so m region seen key record_bytes bytes told (Some x) is value same tells named =
    record { is = ap (get m) (sym is) ∙ (sym value ∙ ap (λ (b : List ℕ). Some b) (sym same ∙ named.is)); order = sym tells ∙ named.fits; some = named.some; new = named.new }

-- what was named by it as it was opened
module _ {S : Type 0} (s : Ghosts S) (file : ℕ) (h g : Hash S) (a b : S) (open_in : IsOpenIn s file h a b) (region : g.region ≡ h.region) (seen : List (List ℕ)) (o : Option Named) (named : (m : Map) → Means s h b m → NamesBy m h.region seen o) where
  named_all : s.tells → (m : Map) → StandsWith 1 (s.now a file) m g.region → NamesBy m g.region seen o
  named_all t m stands = subst (λ (q : List ℕ). NamesBy m q seen o) (sym region) (named m (open_in.means t m stands.is))

  pub none_here : o ≡ None → s.tells → (m : Map) → StandsWith 1 (s.now a file) m g.region → NamesBy m g.region seen None
  none_here is t m stands = subst (λ (x : Option Named). NamesBy m g.region seen x) is (named_all t m stands)

  pub named_here : (x : Named) → o ≡ Some x → s.tells → (m : Map) → StandsWith 1 (s.now a file) m g.region → IsNamed m g.region seen x.kind x.name
  named_here x is t m stands = subst (λ (y : Option Named). NamesBy m g.region seen y) is (named_all t m stands)

module _ {S : Type 0} (s : Ghosts S) (file : ℕ) (hash : Hash S) (a c : S) (open_in : IsOpenIn s file hash a c) where
  pub index_can : s.sound c → IsIndexPlace file → CanOpenIndex s hash c
  index_can sound place = record {
    sound = sound;
    place = subst IsIndexPlace (sym open_in.file_is) place;
    kind = open_in.kind_is;
    held = λ t. let m = open_in.stands t in (m.0, open_in.means t m.0 m.1.is);
  }

  -- the rules of its tree, and those that are looked at behind them
  pub tree_first : (seen : List (List ℕ)) (e : OpenErr) → BreaksTree s hash c e → (f : ℕ) (rule : Rule) → e ≡ open_err.Broken f rule → (f ≡ file) × (s.tells → BreaksBefore seen (s.now a file) rule)
  tree_first seen e breaks f rule is =
      let b = breaks f rule is in (
        b.0 ∙ open_in.file_is,
        (λ t. record { breaks = λ rows. let m = open_in.stands t in in_tree m.0 hash.region rule m.1 (b.1 m.0 (open_in.means t m.0 m.1.is)) }),
      )

  module _ {R L OL D OD : Type 0} (r : Stores R S) (l : multi.Ghosts L S OL) (d : multi.Ghosts D S OD) (name : List ℕ) (x : Sorted L D) (e : S) (opens : OpensTree s r l d hash name x c e) where
    pub name_first : (seen : List (List ℕ)) → (s.tells → (m : Map) → StandsWith 1 (s.now a file) m hash.region → NamesBy m hash.region seen None) → s.tells → BreaksBefore seen (s.now a file) (rule_c 2)
    name_first seen none t = record {
      breaks = λ rows.
          let m = open_in.stands t in
          let held = open_in.means t m.0 m.1.is in
          no_name m.0 hash.region (record { file = m.1; tree = (opens.opens m.0 held).0 }) (none t m.0 m.1);
    }

    -- the index that it is
    module _ (seen : List (List ℕ)) (kind : IndexKind) (place : IsIndexPlace file) (named : s.tells → (m : Map) → StandsWith 1 (s.now a file) m hash.region → IsNamed m hash.region seen kind name) where
      -- its name, where its files are told
      here : (t : s.tells) → IsNamed (open_in.stands t).0 hash.region seen kind name
      here t = let m = open_in.stands t in named t m.0 m.1

      told_is : s.tells → tells_numbers hash.region ≡ asks_decimal kind
      told_is t = ap (λ (n : ℕ). n == 1) (here t).order ∙ order_told kind

      made_here : s.tells → IsMade r l d (record { kind = kind; tree = x })
      made_here t =
          let m = open_in.stands t in record {
            sort = opens.sort;
            code = opens.code ∙ (here t).order;
            column = opens.column m.0 (open_in.means t m.0 m.1.is) ∙ ((here t).is ∙ ap (λ (n : List ℕ). Some (column_bytes kind n)) (sym opens.name_is));
            named = subst (λ (n : List ℕ). not_empty n ≡ true) (sym opens.name_is) (here t).some;
            file = subst IsIndexPlace (sym (opens.file_is ∙ open_in.file_is)) place;
          }

      index_at : s.tells → (ps : List Pair) × IsIndexFile (s.now a file) kind (name_of x) ps
      index_at t =
          let m = open_in.stands t in
          let st = opens.opens m.0 (open_in.means t m.0 m.1.is) in
          let y : TreeAt (asks_decimal kind) hash.region m.0 (tree_pairs st.0) = subst (λ (q : Bool). TreeAt q hash.region m.0 (tree_pairs st.0)) (told_is t) (record { stands = st.0; are = refl }) in (
            tree_pairs st.0,
            record {
              records = m.0;
              region = hash.region;
              file = m.1;
              code = (here t).order;
              tree = y.stands;
              column = (here t).is ∙ ap (λ (n : List ℕ). Some (column_bytes kind n)) (sym opens.name_is);
              named = subst (λ (n : List ℕ). not_empty n ≡ true) (sym opens.name_is) (here t).some;
              are = y.are;
            },
          )

      -- whichever index its bytes are, the tree has its pairs
      pairs_at : s.tells → (ps : List Pair) → IsIndexFile (s.now a file) kind (name_of x) ps → TreeHolds s l d x e ps
      pairs_at t ps is =
          let stood = open_in.stands t in
          let regions : is.region ≡ hash.region = one_region 1 (s.now a file) is.records stood.0 is.region hash.region is.file stood.1 in
          let st = opens.opens is.records (open_in.means t is.records is.file.is) in
          let y : TreeAt (tells_numbers hash.region) hash.region is.records ps =
          subst (λ (q : Bool). TreeAt q hash.region is.records ps) (sym (told_is t))
          (subst (λ (g : List ℕ). TreeAt (asks_decimal kind) g is.records ps) regions (record { stands = is.tree; are = is.are })) in
          subst (λ (qs : List Pair). TreeHolds s l d x e qs) (sym (y.are ∙ records_give_pairs (told_order s hash) (head_of hash.region) true (get is.records) y.stands st.0)) st.1

      pub side_opened : OpensSide s r l d file seen (record { kind = kind; tree = x }) a e
      side_opened = record {
        ready = opens.ready;
        file_is = opens.file_is ∙ open_in.file_is;
        order = λ t. opens.order ∙ told_is t;
        made = made_here;
        first = λ t. subst (λ (n : List ℕ). is_among n seen ≡ false) (sym opens.name_is) (here t).new;
        pairs = pairs_at;
        some = index_at;
      }

pub file_first : (files : Files) (file : ℕ) (seen : List (List ℕ)) (tells : Type 0) (e : OpenErr) → BreaksHash tells 1 file (files file) e → (f : ℕ) (rule : Rule) → e ≡ open_err.Broken f rule → (f ≡ file) × (tells → BreaksBefore seen (files file) rule)
file_first files file seen tells e breaks f rule named = let b = breaks f rule named in (b.0, (λ t. record { breaks = λ rows. in_file rule (b.1 t) }))

-- ---- an index is taken in

module _ {S : Type 0} (s : Ghosts S) (r : Stores (Hash S) S) (store : IsStore s r) (l : multi.Ghosts (LexicalList S) S ByBytes) (d : multi.Ghosts (DecimalList S) S ByNumbers) where
  abbrev pub OneSide : Type 0
  OneSide = Side (LexicalList S) (DecimalList S)

  abbrev pub OneTable : Type 0
  OneTable = Table (Hash S) (LexicalList S) (DecimalList S)

  -- over files that stay
  held_still : (t : OneTable) (a b : S) (m : Rows) → (s.tells → (g : ℕ) → s.now b g ≡ s.now a g) → Holds s r l d t a m → Holds s r l d t b m
  held_still t a b m same h =
      let x = (law s r l d t a m).0 h in
      (law s r l d t b m).1 (x.0, subst (λ (f : Files). HoldsOver r l d t f m) (λ i n. sym (same x.0 n) i) x.1)

  -- it holds one table
  held_one : (t : OneTable) (a : S) (m n : Rows) → Holds s r l d t a m → Holds s r l d t a n → m ≡ n
  held_one t a m n h k =
      let same : h.store ≡ k.store = one_map s t.rows a h.store k.store (store_out s r store t.rows a h.store h.held) (store_out s r store t.rows a k.store k.held) in
      one_rows k.store m n (subst (λ (x : Map). AreSpelled x m) same h.spelled) h.are k.spelled k.are

  keys_are : (t : OneTable) (ks : List (List ℕ)) (a : S) (m : Rows) → IsListed s r l d t ks a → Holds s r l d t a m → ks ≡ keys m
  keys_are t ks a m listed h =
      let x = listed.held h.held.0 in
      x.2 ∙ ap (λ (n : Rows). keys n) (held_one t a x.0 m x.1 h)

  pub listed_ready : (t : OneTable) (ks : List (List ℕ)) (a b : S) → IsListed s r l d t ks a → OnlyReads s a b → IsReady s (Holds s r l d) t b
  listed_ready t ks a b listed reads = record { sound = reads.is_sound; held = λ told. let x = listed.held told in (x.0, held_still t a b x.0 reads.files x.1) }

  module _ (file : ℕ) (x : OneSide) (ks : List (List ℕ)) (t t' : OneTable) (fits : Bool) (a b c : S) (place : IsIndexPlace file) (free : IsFreePlace l d t.sides.items file) (listed : IsListed s r l d t ks a) (reads : OnlyReads s a b) (opens : OpensSide s r l d file (names t.sides.items) x a b)
      (judges : JudgesSide s r l d x ks t b fits) (admits : Admits s r l d x ks fits t t' b c) where
    away : IsAway (tree_file l d x.tree) (files_of r l d t)
    away = subst (λ (n : ℕ). IsAway n (files_of r l d t)) (sym opens.file_is) ((λ e. let low = place.0 in let main = listed.file in absurd (omega (arith, low, e, main))), free)

    judged : (m : Rows) → Holds s r l d t a m → (ps : List Pair) → IsIndexFile (s.now a file) x.kind (name_of x.tree) ps → IsTrue fits → AreOwed (parts_of x.kind (name_of x.tree) m) ps
    judged m h ps is holds_so = (judges m ps (keys_are t ks a m listed h) (held_still t a b m reads.files h) (opens.pairs h.held.0 ps is)).0 holds_so

    -- it has the pairs of the rows
    pub side_taken : fits ≡ true → TakesSide s r l d file t t' a c
    side_taken is =
        let y = admits.taken is in record {
          side = y.0;
          parted = y.2;
          rows = admits.rows;
          file_is = y.1.tree.file ∙ opens.file_is;
          made = λ told. made_still s l d r x y.0 y.1 (opens.made told);
          first = λ told. subst (λ (n : List ℕ). is_among n (names t.sides.items) ≡ false) (sym y.1.tree.name) (opens.first told);
          holds = λ m h.
              let ps = opens.some h.held.0 in
              admits.means is m ps.0 (keys_are t ks a m listed h) (held_still t a b m reads.files h) (opens.pairs h.held.0 ps.0 ps.1) away (opens.order h.held.0);
          index = λ m h.
              let ps = opens.some h.held.0 in
              let own : IsIndexOf m (names t.sides.items) (s.now a file) x.kind (name_of x.tree) = record { pairs = ps.0; file = ps.1; new = opens.first h.held.0; owed = judged m h ps.0 ps.1 is } in
              subst (λ (n : List ℕ). IsIndexOf m (names t.sides.items) (s.now a file) y.0.kind n) (sym y.1.tree.name)
              (subst (λ (k : IndexKind). IsIndexOf m (names t.sides.items) (s.now a file) k (name_of x.tree)) (sym y.1.kind) own);
        }

    -- or it hasn't
    pub side_left : fits ≡ false → s.now a file ≢ [] → s.tells → BreaksSide s r l d file t a (rule_c 3)
    side_left is some told = record {
      some = some;
      breaks = λ m h.
          let ps = opens.some told in
          other_pairs x.kind (name_of x.tree) ps.0 ps.1 (opens.first told)
          (λ owed. let holds_so : fits ≡ true = (judges m ps.0 (keys_are t ks a m listed h) (held_still t a b m reads.files h) (opens.pairs told ps.0 ps.1)).1 owed in absurd (let bad : false ≡ true = sym is ∙ holds_so in cc));
    }

  pub opens_at : (file : ℕ) (xs ys : List OneSide) (x : OneSide) (a b : S) → xs ≡ ys → OpensSide s r l d file (names xs) x a b → OpensSide s r l d file (names ys) x a b
  opens_at file xs ys x a b same opens = subst (λ (zs : List OneSide). OpensSide s r l d file (names zs) x a b) same opens

  pub admits_reads : (x : OneSide) (ks : List (List ℕ)) (fits : Bool) (t t' : OneTable) (b c : S) → Admits s r l d x ks fits t t' b c → Keeps s b c → OnlyReads s b c
  admits_reads x ks fits t t' b c admits keeps = record { keeps = keeps; files = admits.now; untouched = admits.touched; is_sound = admits.sound }

  -- a rule that is looked at before the pairs are
  pub before_breaks : (file : ℕ) (t : OneTable) (xs : List OneSide) (a : S) (e : AnyErr) → xs ≡ t.sides.items → (s.tells → s.now a file ≢ []) → Breaks e (λ f rule. (f ≡ file) × (s.tells → BreaksBefore (names xs) (s.now a file) rule)) → Breaks e (λ f rule. (f ≡ file) × (s.tells → BreaksSide s r l d file t a rule))
  before_breaks file t xs a e same some breaks = breaks_each e (λ f rule. (f ≡ file) × (s.tells → BreaksBefore (names xs) (s.now a file) rule)) (λ f rule. (f ≡ file) × (s.tells → BreaksSide s r l d file t a rule))
      (λ f rule b. (b.0, (λ told. record { some = some told; breaks = λ m h. subst (λ (ys : List OneSide). BreaksIndex m (names ys) (s.now a file) rule) same ((b.1 told).breaks m) }))) breaks

  -- ---- file by file

  away_more : (f : ℕ) (xs ys : List OneSide) → IsAway f (side_files l d xs) → IsAway f (side_files l d ys) → IsAway f (side_files l d (xs ++ ys))
  away_more f [] ys first second = second
  away_more f (x ∷ xs) ys first second = (first.0, away_more f xs ys first.1 second)

  pub none_opened : (t : OneTable) (a : S) → OpensSides s r l d [] t t a a
  none_opened t a = record {
    more = [];
    parted = sym (append-nil t.sides.items);
    rows = rows_stay r t.rows;
    made = λ told. tt;
    distinct = λ told distinct. distinct;
    holds = λ m h. h;
    have = λ m h. refl;
    within = λ f away. tt;
    rest = λ told f among. absurd among;
  }

  -- the first is empty
  pub skip_opened : (f : ℕ) (fs : List ℕ) (t u : OneTable) (a b : S) → (s.tells → s.now a f ≡ []) → OpensSides s r l d fs t u a b → OpensSides s r l d (f ∷ fs) t u a b
  skip_opened f fs t u a b none opens = record {
    more = opens.more;
    parted = opens.parted;
    rows = opens.rows;
    made = opens.made;
    distinct = opens.distinct;
    holds = opens.holds;
    have = λ m h. inl (none h.held.0, opens.have m h);
    within = λ g away. opens.within g away.1;
    rest = λ told g among away. ⊎_elim (λ (here : g ≡ f). ap (s.now a) here ∙ none told) (λ later. opens.rest told g later away) among;
  }

  -- or its index came in
  pub more_opened : (f : ℕ) (fs : List ℕ) (t u v : OneTable) (a b c : S) → (s.tells → (g : ℕ) → s.now b g ≡ s.now a g) → TakesSide s r l d f t u a b → OpensSides s r l d fs u v b c → OpensSides s r l d (f ∷ fs) t v a c
  more_opened f fs t u v a b c same takes opens = record {
    more = takes.side ∷ opens.more;
    parted = opens.parted ∙ (ap (λ (xs : List OneSide). xs ++ opens.more) takes.parted ∙ append_assoc t.sides.items (takes.side ∷ []) opens.more);
    rows = rows_then r t.rows u.rows v.rows takes.rows opens.rows;
    made = λ told. (takes.made told, opens.made told);
    distinct = λ told distinct. opens.distinct told (subst (λ (xs : List OneSide). AreDistinct (names xs)) (sym takes.parted) (distinct_push t.sides.items takes.side distinct (takes.first told)));
    holds = λ m h. opens.holds m (takes.holds m h);
    have = λ m h. inr (
      takes.side.kind,
      name_of takes.side.tree,
      indexes_of opens.more,
      takes.index m h,
      subst (λ (now : Files). HaveIndexes m now fs (names t.sides.items ++ name_of takes.side.tree ∷ []) (indexes_of opens.more)) (λ i n. same h.held.0 n i)
          (subst (λ (seen : List (List ℕ)). HaveIndexes m (s.now b) fs seen (indexes_of opens.more)) named (opens.have m (takes.holds m h))),
      refl,
    );
    within = λ g away. ((λ (e : g ≡ tree_file l d takes.side.tree). away.0 (e ∙ takes.file_is)), opens.within g away.1);
    rest = λ told g among away. ⊎_elim
        (λ (here : g ≡ f). absurd (away.0 (here ∙ sym takes.file_is)))
        (λ later. sym (same told g) ∙ opens.rest told g later away.1)
        among;
  }
    where
      named : names u.sides.items ≡ names t.sides.items ++ name_of takes.side.tree ∷ []
      named = ap names takes.parted ∙ map-append (λ (x : OneSide). name_of x.tree) t.sides.items (takes.side ∷ [])

  -- the same from files that stayed
  opens_before : (fs : List ℕ) (t v : OneTable) (a b c : S) → (s.tells → (g : ℕ) → s.now b g ≡ s.now a g) → OpensSides s r l d fs t v b c → OpensSides s r l d fs t v a c
  opens_before fs t v a b c same opens = record {
    more = opens.more;
    parted = opens.parted;
    rows = opens.rows;
    made = opens.made;
    distinct = opens.distinct;
    holds = λ m h. opens.holds m (held_still t a b m same h);
    have = λ m h. subst (λ (now : Files). HaveIndexes m now fs (names t.sides.items) (indexes_of opens.more)) (λ i n. same h.held.0 n i) (opens.have m (held_still t a b m same h));
    within = opens.within;
    rest = λ told g among away. sym (same told g) ∙ opens.rest told g among away;
  }

  pub file_opened : (f : ℕ) (fs : List ℕ) (t u v : OneTable) (a b c : S) → (s.tells → (g : ℕ) → s.now b g ≡ s.now a g) → OpensFile s r l d f t u a b → OpensSides s r l d fs u v b c → OpensSides s r l d (f ∷ fs) t v a c
  file_opened f fs t u v a b c same first opens = ⊎_elim
      (λ none. skip_opened f fs t v a c none.0 (opens_before fs t v a b c same (subst (λ (w : OneTable). OpensSides s r l d fs w v b c) none.1 opens)))
      (λ takes. more_opened f fs t u v a b c same takes opens)
      first

  pub all_opened : (files fs : List ℕ) (t v : OneTable) (a c : S) → files ≡ fs → OpensSides s r l d fs t v a c → OpensSides s r l d files t v a c
  all_opened files fs t v a c is opens = subst (λ (gs : List ℕ). OpensSides s r l d gs t v a c) (sym is) opens

  -- what the others ask for
  pub listed_on : (f : ℕ) (t u : OneTable) (ks : List (List ℕ)) (a b : S) → s.sound b → TakesSide s r l d f t u a b → IsListed s r l d t ks a → IsListed s r l d u ks b
  listed_on f t u ks a b sound takes listed = record {
    file = takes.rows.file ∙ listed.file;
    sound = sound;
    held = λ told. let x = listed.held told in (x.0, takes.holds x.0 x.1, x.2);
  }

  pub free_on : (f : ℕ) (fs : List ℕ) (t u : OneTable) (a b : S) → TakesSide s r l d f t u a b → IsAway f fs → AreFree l d t.sides.items fs → AreFree l d u.sides.items fs
  free_on f [] t u a b takes apart free = tt
  free_on f (g ∷ fs) t u a b takes apart free = (
    subst (λ (xs : List OneSide). IsAway g (side_files l d xs)) (sym takes.parted) (away_more g t.sides.items (takes.side ∷ []) free.0 ((λ (e : g ≡ tree_file l d takes.side.tree). apart.0 (sym (e ∙ takes.file_is))), tt)),
    (free.1.0, free_on f fs t u a b takes apart.1 free.1.1),
  )

  pub listed_file : (f : ℕ) (t u : OneTable) (ks : List (List ℕ)) (a b : S) → OnlyReads s a b → OpensFile s r l d f t u a b → IsListed s r l d t ks a → IsListed s r l d u ks b
  listed_file f t u ks a b reads first listed = ⊎_elim
      (λ none. subst (λ (w : OneTable). IsListed s r l d w ks b) (sym none.1) (record { file = listed.file; sound = reads.is_sound; held = λ told. let x = listed.held told in (x.0, held_still t a b x.0 reads.files x.1, x.2) }))
      (λ takes. listed_on f t u ks a b reads.is_sound takes listed)
      first

  pub free_file : (f : ℕ) (fs : List ℕ) (t u : OneTable) (a b : S) → OpensFile s r l d f t u a b → IsAway f fs → AreFree l d t.sides.items fs → AreFree l d u.sides.items fs
  free_file f fs t u a b first away free = ⊎_elim
      (λ none. subst (λ (w : OneTable). AreFree l d w.sides.items fs) (sym none.1) free)
      (λ takes. free_on f fs t u a b takes away free)
      first

  -- a rule that one of them breaks
  pub here_breaks : (f g : ℕ) (fs : List ℕ) (t : OneTable) (a : S) (rule : Rule) → g ≡ f → BreaksSide s r l d f t a rule → BreaksSome s r l d (f ∷ fs) g t a rule
  here_breaks f g fs t a rule is breaks = record { breaks = λ m h. inl (is, breaks.some, breaks.breaks m h) }

  pub some_breaks : (f : ℕ) (fs files : List ℕ) (t : OneTable) (a : S) (e : AnyErr) → files ≡ f ∷ fs → Breaks e (λ g rule. (g ≡ f) × (s.tells → BreaksSide s r l d f t a rule)) → Breaks e (λ g rule. s.tells → BreaksSome s r l d files g t a rule)
  some_breaks f fs files t a e is breaks = breaks_each e (λ g rule. (g ≡ f) × (s.tells → BreaksSide s r l d f t a rule)) (λ g rule. s.tells → BreaksSome s r l d files g t a rule)
      (λ g rule b told. subst (λ (gs : List ℕ). BreaksSome s r l d gs g t a rule) (sym is) (here_breaks f g fs t a rule b.0 (b.1 told))) breaks

  pub skip_breaks : (f g : ℕ) (fs : List ℕ) (t : OneTable) (a : S) (rule : Rule) → s.now a f ≡ [] → BreaksSome s r l d fs g t a rule → BreaksSome s r l d (f ∷ fs) g t a rule
  skip_breaks f g fs t a rule none breaks = record { breaks = λ m h. inr (inl (none, breaks.breaks m h)) }

  pub later_breaks : (f g : ℕ) (fs : List ℕ) (t u : OneTable) (a b : S) (rule : Rule) → (s.tells → (n : ℕ) → s.now b n ≡ s.now a n) → TakesSide s r l d f t u a b → BreaksSome s r l d fs g u b rule → BreaksSome s r l d (f ∷ fs) g t a rule
  later_breaks f g fs t u a b rule same takes breaks = record {
    breaks = λ m h. inr (inr (
      takes.side.kind,
      name_of takes.side.tree,
      takes.index m h,
      subst (λ (now : Files). BreaksFrom m now fs (names t.sides.items ++ name_of takes.side.tree ∷ []) g rule) (λ i n. same h.held.0 n i)
          (subst (λ (seen : List (List ℕ)). BreaksFrom m (s.now b) fs seen g rule) (ap names takes.parted ∙ map-append (λ (x : OneSide). name_of x.tree) t.sides.items (takes.side ∷ [])) (breaks.breaks m (takes.holds m h))),
    ));
  }

  breaks_before : (fs : List ℕ) (g : ℕ) (t : OneTable) (a b : S) (rule : Rule) → (s.tells → (n : ℕ) → s.now b n ≡ s.now a n) → BreaksSome s r l d fs g t b rule → BreaksSome s r l d fs g t a rule
  breaks_before fs g t a b rule same breaks = record {
    breaks = λ m h. subst (λ (now : Files). BreaksFrom m now fs (names t.sides.items) g rule) (λ i n. same h.held.0 n i) (breaks.breaks m (held_still t a b m same h));
  }

  pub rest_breaks : (f : ℕ) (fs files : List ℕ) (t u : OneTable) (a b : S) (e : AnyErr) → files ≡ f ∷ fs → (s.tells → (n : ℕ) → s.now b n ≡ s.now a n) → OpensFile s r l d f t u a b → Breaks e (λ g rule. s.tells → BreaksSome s r l d fs g u b rule) → Breaks e (λ g rule. s.tells → BreaksSome s r l d files g t a rule)
  rest_breaks f fs files t u a b e is same first breaks = breaks_each e (λ g rule. s.tells → BreaksSome s r l d fs g u b rule) (λ g rule. s.tells → BreaksSome s r l d files g t a rule)
      (λ g rule some told. subst (λ (gs : List ℕ). BreaksSome s r l d gs g t a rule) (sym is)
      (⊎_elim
      (λ none. skip_breaks f g fs t a rule (none.0 told) (breaks_before fs g t a b rule same (subst (λ (w : OneTable). BreaksSome s r l d fs g w b rule) none.1 (some told))))
      (λ takes. later_breaks f g fs t u a b rule same takes (some told))
      first))
      breaks

-- ---- files that are free

module _ {S OL OD : Type 0} (s : Ghosts S) (r : Stores (Hash S) S) (ol : Orders OL) (od : Orders OD) (l : multi.Ghosts (Btree (Hash S) OL) S OL) (d : multi.Ghosts (Btree (Hash S) OD) S OD) (stores : AreTableStores s r ol od l d)
    (xs : List (Side (Btree (Hash S) OL) (Btree (Hash S) OD))) (fs rest : List ℕ) (f : ℕ) (parted : fs ≡ f ∷ rest) (free : AreFree l d xs fs) where
  parts : AreFree l d xs (f ∷ rest)
  parts = subst (λ (gs : List ℕ). AreFree l d xs gs) parted free

  pub first_free : IsFreePlace l d xs f
  first_free = parts.0

  pub rest_away : IsAway f rest
  rest_away = parts.1.0

  pub rest_free : AreFree l d xs rest
  rest_free = parts.1.1
