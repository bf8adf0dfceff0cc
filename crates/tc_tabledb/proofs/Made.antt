-- The file of an index that is made.
use Rattle.std.proofs.Common.{◌≡◌, ◌∙◌, ◌⊎◌, inl, inr, ⊎_elim, ℕ, ◌+◌, ◌-◌, ◌≤◌, ◌<◌, ◌==◌, Bool, true, false, cond, List, [], ◌∷◌, refl, sym, ap, subst, arith}
use Rattle.std.specs.Prelude.{◌*◌, ◌/◌, ◌^◌, IfOk, Option, Some, None, Result, Ok, Err}
use Rattle.std.proofs.Math.Nat.{div-lt_iff_lt-mul}
use Rattle.std.proofs.lemmas.Bool.{cases_eq}
use Rattle.std.specs.Cmp.Lexicographic.{nat_list_cmp_total, slice_cmp, texts_ties}
use Rattle.std.specs.FinMap.{empty, get, get-empty, get-insert, insert}
use Rattle.std.specs.Ordering.{nat_cmp}
use Rattle.tc_base.specs.Maps.{Map}
use Rattle.tc_base.specs.Texts.{is_text}
use Rattle.tc_base.specs.declared.kind.Mode.TheVariants.{Over}
use Rattle.tc_base.specs.declared.order.Decimal.{Decimal as ByNumbers}
use Rattle.tc_base.specs.declared.order.Lexical.{Lexical as ByBytes}
use Rattle.tc_base.specs.declared.order.Order.{Ghosts as Orders}
use Rattle.tc_base.specs.declared.seq.Pair.{Pair}
use Rattle.tc_space.specs.Frames.{In, Others}
use Rattle.tc_space.specs.Lists.{Made}
use Rattle.tc_space.specs.Stores.{Only}
use Rattle.tc_space.specs.declared.multi.Multi as multi
use Rattle.tc_space.specs.declared.records.Records.{Ghosts as Stores}
use Rattle.tc_space.specs.declared.space.Space.{Ghosts}
use Rattle.hf_head.specs.declared.head.Head.{Head}
use Rattle.hf_head.specs.Heads.{sections, unit}
use Rattle.hf_record.proofs.Bytes.{unit_some}
use Rattle.bt_page.specs.Keys.{key_of}
use Rattle.bt_page.specs.Pages.{leaf_bytes}
use Rattle.bt_rows.proofs.Held.{column_free}
use Rattle.bt_rows.specs.Rules.{column as column_key}
use Rattle.bt_rows.specs.declared.head.TreeHead.{TreeHead}
use Rattle.bt_ways.specs.Removals.{no_items}
use Rattle.bt_check.specs.Looks.{Holds, MayLook}
use Rattle.bt_tree.specs.Making.{HoldsBare, IsNew, LacksFirst as LacksLeaf, MayBe, lone_leaf}
use Rattle.bt_tree.specs.Meaning.{HoldsIn}
use Rattle.tc_btree.specs.declared.btree.Btree.{Btree}
use Rattle.tc_hash.specs.declared.hash.Hash.{Hash}
use Rattle.tc_hash.specs.Creating.{Creates, HasNoRoom}
use Rattle.tc_hash.specs.Keeping.{CanCall, HasNoBlock, Means, StaysOpen, Turns, holds, lead_of, size_for}
use Rattle.tc_hash.specs.Putting.{LacksFor, PutsValue}
use Rattle.tc_hash.specs.Standing.{numbers_in}
use Rattle.tc_hash.proofs.Numbered.{anew_leads}
use Rattle.tc_hash.proofs.OneMap.{one_map}
use Rattle.tc_hash.proofs.Stored.{its_fresh}
use Rattle.tc_model.specs.Contents.{Rows}
use Rattle.tc_model.specs.Rows.{Row}
use Rattle.tc_model.specs.Texts.{not_empty}
use Rattle.tc_model.specs.declared.query.IndexKind.{IndexKind}
use Rattle.td_index.specs.Entries.{AreOwed, owed_parts, parted, times}
use Rattle.td_index.specs.declared.index.Index.{Index}
use Rattle.td_index.proofs.Counting.{either, text_is, text_refl}
use Rattle.tc_table.specs.Adding.{Adds}
use Rattle.tc_table.specs.Parts.{parts_of, parts_of_row}
use Rattle.tc_table.specs.Sides.{IsAway, asks_decimal, files, tree_file}
use Rattle.tc_table.specs.declared.side.Side.{Side}
use Rattle.tc_table.specs.declared.side.Sorted.TheVariants.{Lexical, Decimal}
use Rattle.tc_table.specs.declared.table.Table.{Table}
use Rattle.tc_table.proofs.Turning.{files_stay}
use Rattle.tc_treedb.specs.Holding.{code_of}
use Rattle.tc_treedb.specs.Trees.{IsStore}
use Rattle.tc_tabledb.specs.Files.{IsIndexPlace, column_bytes, order_code}
use Rattle.tc_tabledb.specs.Filling.{IsIndexHead, LacksFirst, column_pair, first_column, first_leaf, index_numbers, nothing}
use Rattle.tc_tabledb.specs.Holding.{DecimalList, LexicalList}
use Rattle.tc_tabledb.specs.Indexing.{EndsNew, HoldsColumn, IsFreePlace, IsSet, IsSetAs, IsSetBy, LacksSide, MakesFile, MakesSide, PutsColumn}
use Rattle.tc_tabledb.specs.Members.{AreTableStores, IsTreeList}
use Rattle.tc_tabledb.proofs.Standing.{code_kind}

-- ---- the record `column` alone

abbrev records : IndexKind → List ℕ → Map
records kind name = insert nothing column_key (column_bytes kind name)

record_at : (kind : IndexKind) (name key : List ℕ) → get (records kind name) key ≡ cond (is_text key column_key) (Some (column_bytes kind name)) None
record_at kind name key =
    get-insert nat_list_cmp_total nothing column_key (column_bytes kind name) key
    ∙ (ap (λ (t : Bool). cond t (Some (column_bytes kind name)) (get nothing key)) (sym (texts_ties key column_key))
    ∙ ap (cond (is_text key column_key) (Some (column_bytes kind name))) (get-empty (slice_cmp nat_cmp) key))

column_at : (kind : IndexKind) (name : List ℕ) → get (records kind name) column_key ≡ Some (column_bytes kind name)
column_at kind name = record_at kind name column_key ∙ ap (λ (t : Bool). cond t (Some (column_bytes kind name)) None) (text_refl column_key)

other_at : (kind : IndexKind) (name key : List ℕ) → is_text key column_key ≡ false → get (records kind name) key ≡ None
other_at kind name key other = record_at kind name key ∙ ap (λ (t : Bool). cond t (Some (column_bytes kind name)) None) other

leaf_free : (kind : IndexKind) (name : List ℕ) → get (records kind name) (key_of 1) ≡ None
leaf_free kind name = other_at kind name (key_of 1) (⊎_elim (λ same. absurd (column_free 1 (omega arith) (sym (text_is (key_of 1) column_key same)))) (λ other. other) (either (is_text (key_of 1) column_key)))

only_column : (kind : IndexKind) (name key bytes : List ℕ) → get (records kind name) key ≡ Some bytes → key ≡ column_key
only_column kind name key bytes is = ⊎_elim
    (λ same. text_is key column_key same)
    (λ other. absurd (let bad : None ≡ Some bytes = sym (other_at kind name key other) ∙ is in cc))
    (either (is_text key column_key))

none_at : (key : List ℕ) → get nothing key ≡ None
none_at key = get-empty (slice_cmp nat_cmp) key

-- ---- the numbers of its head

pub other_is : (n : ℕ) → (n == 1) ≡ false → (n ≡ 0) ⊎ (1 < n)
other_is n is = ⊎_elim
    (λ (same : n ≡ 1). absurd (let bad : true ≡ false = subst (λ (k : ℕ). (k == 1) ≡ false) same is in cc))
    (λ other. ⊎_elim (λ (none : n ≡ 0). inl none) (λ some. inr (omega (arith, other, some))) (cases_eq n 0))
    (cases_eq n 1)

pub option_none : (n : ℕ) → n ≤ 1 → (n == 1) ≡ false → n ≡ 0
option_none n most other = ⊎_elim (λ (none : n ≡ 0). none) (λ more. absurd (omega (arith, most, more))) (other_is n other)

head_numbers : (h : Head) → IsIndexHead h → numbers_in h ≡ index_numbers
head_numbers h new i = option_none h.options new.options_most new.form i ∷ new.apow_is i ∷ new.fpow_is i ∷ new.buckets_is i ∷ []

-- ---- the hash file

module _ {S : Type 0} (s : Ghosts S) (R : Stores (Hash S) S) (store : IsStore s R) (h : Hash S) (a : S) (k : Map) where
  pub store_in : Means s h a k → Holds s R h a k
  store_in held = (held.0, subst (λ (n : ℕ). R.holds h (s.now a n) k) (sym (store.file h)) (store.from h (s.now a h.body.file) k held.1))

  pub store_out : Holds s R h a k → Means s h a k
  store_out held = (held.0, subst (λ (n : ℕ). holds h (s.now a n) k) (store.file h) (store.into h (s.now a (R.file_of h)) k held.1))

module _ {S : Type 0} (s : Ghosts S) where
  made_holds : (file : ℕ) (h : Hash S) (a b : S) → h.body.file ≡ file → Creates s file h a b → s.tells → Means s h b nothing
  made_holds file h a b at creates t = (t, subst (λ (n : ℕ). holds h (s.now b n) nothing) (sym at) (creates.held t))

  pub file_ready : (file : ℕ) (h : Hash S) (a b : S) → h.body.file ≡ file → Creates s file h a b → CanCall s h b
  file_ready file h a b at creates = record { sound = creates.sound; held = λ t. (nothing, made_holds file h a b at creates t) }

  pub file_made : (file : ℕ) (kind : IndexKind) (name bytes : List ℕ) (h g : Hash S) (a b c : S) → h.body.file ≡ file → IsIndexHead h.body.head → Creates s file h a b → bytes ≡ column_bytes kind name → PutsColumn s bytes h g b c → StaysOpen h g → MakesFile s file kind name g a c
  file_made file kind name bytes h g a b c at new creates is puts stays = record {
    column = record {
      sound = puts.sound;
      held = λ t. subst (λ (v : List ℕ). Means s g c (insert nothing column_key v)) is (puts.means nothing (made_holds file h a b at creates t));
      head = subst IsIndexHead (sym stays.head) new;
    };
    file_is = stays.map.file ∙ at;
    others = record { same = λ t n other. puts.others.same t n (λ (e : n ≡ h.body.file). other (e ∙ at)) ∙ creates.others.same t n other };
  }

  -- the record that was given to it, and that which had no room
  pub column_put : (key bytes : List ℕ) (h g : Hash S) (a b : S) → key ≡ column_key → PutsValue s Over key bytes h g a b → PutsColumn s bytes h g a b
  column_put key bytes h g a b is puts = subst (λ (k : List ℕ). Turns s (λ m. insert m k bytes) h g a b) is puts.0.writes

  pub column_full : (key bytes : List ℕ) (h : Hash S) (a b : S) → key ≡ column_key → LacksFor s Over key bytes h a b → LacksFor s Over column_key bytes h a b
  column_full key bytes h a b is lacks = subst (λ (k : List ℕ). LacksFor s Over k bytes h a b) is lacks

  -- the record had no room
  pub column_lacks : (file : ℕ) (kind : IndexKind) (name bytes : List ℕ) (h : Hash S) (a b c : S) → h.body.file ≡ file → IsIndexHead h.body.head → Creates s file h a b → bytes ≡ column_bytes kind name → LacksFor s Over column_key bytes h b c → s.tells → LacksSide s file kind name c
  column_lacks file kind name bytes h a b c at new creates is lacks t = ⊎_elim
      (λ log. inl log)
      (λ wants. inr (inr (
        wants.brought,
        let own = its_fresh s h column_key nothing b c (size_for h column_key bytes) wants (none_at column_key) in
            let first : LacksFirst (s.limit c file) (s.now c file) kind name 1 = record {
              head = h.body.head;
              fields = h.body.valid;
              least = new.least;
              pairs = [];
              records = nothing;
              pair = column_pair kind name;
              first = first_column;
              held = wants.held;
              kept = inl own.map;
              none = subst (λ (v : List ℕ). HasNoBlock (s.limit c file) (s.now c file) h.body.head wants.held (size_for h column_key v)) is
                  (subst (λ (n : ℕ). HasNoBlock (s.limit c n) (s.now c n) h.body.head wants.held (size_for h column_key bytes)) at wants.none);
            } in
            record { lacks = first; sort = new.kind_is; numbers = head_numbers h.body.head new },
      )))
      (lacks.block.wants nothing (made_holds file h a b at creates t))

  -- or the sections
  pub sections_lack : (file : ℕ) (kind : IndexKind) (name : List ℕ) (a b : S) → s.limit b ≡ s.limit a → (h : Head) × IsIndexHead h × HasNoRoom (s.limit a file) (s.log_full b) h.first → LacksSide s file kind name b
  sections_lack file kind name a b same full = ⊎_elim
      (λ more. inr (inl (full.0, full.1, inl (subst (λ (n : ℕ). n < full.0.first) (sym (ap (λ (f : ℕ → ℕ). f file) same)) more))))
      (λ rest. ⊎_elim (λ past. inr (inl (full.0, full.1, inr past))) (λ log. inl log) rest)
      full.2

-- ---- the tree

leads_none : (r q h g : ℕ) → q ≤ r → r ≡ h → q ≡ g → h ≤ 0 → g ≤ 0
leads_none r q h g less was now none = omega (arith, less, was, now, none)

under_one : (a : ℕ) → a ≤ 0 → a < 1
under_one a none = omega (arith, none)

-- where no whole unit lies between
within_one : (first behind u : ℕ) → 0 < u → (first - behind) / u ≤ 0 → first < behind + u
within_one first behind u some none = let less = (div-lt_iff_lt-mul {k = u} {x = first - behind} {y = 1} some).0 (under_one ((first - behind) / u) none) in omega (arith, less)

most_one : (decimal : Bool) → code_of decimal ≤ 1
most_one false = omega arith
most_one true = omega arith

-- of no rows there is nothing
none_owed : (kind : IndexKind) (name : List ℕ) (rows : Rows) → rows ≡ empty → AreOwed (parts_of kind name rows) []
none_owed kind name rows none x = go (parted x)
  where
    go : (o : Option (List ℕ × List ℕ)) → 0 ≡ owed_parts (parts_of kind name rows) o
    go None = refl
    go (Some p) = sym (ap (λ (o : Option Row). times p.0 (parts_of_row kind name o)) (ap (λ (m : Rows). get m p.1) none ∙ get-empty (slice_cmp nat_cmp) p.1))

module _ {S O : Type 0} (s : Ghosts S) (R : Stores (Hash S) S) (store : IsStore s R) (o : Orders O) (decimal : Bool) (m : multi.Ghosts (Btree (Hash S) O) S O) (list : IsTreeList s R o decimal m) (hash : Hash S) (kind : IndexKind) (name : List ℕ) (a : S) (column : HoldsColumn s kind name hash a) where
  held_now : s.tells → Holds s R hash a (records kind name)
  held_now t = store_in s R store hash a (records kind name) (column.held t)

  pub tree_ready : MayLook s R hash a
  tree_ready = record { sound = column.sound; held = λ t. (records kind name, held_now t) }

  pub tree_bare : HoldsBare s R hash a
  tree_bare k h key bytes is =
      let one : k ≡ records kind name = one_map s hash a k (records kind name) (store_out s R store hash a k h) (column.held h.0) in
      only_column kind name key bytes (ap (λ (n : Map). get n key) (sym one) ∙ is)

  pub tree_numbers : MayBe 128 256 o.CODE
  tree_numbers = record { leaf = (omega arith, omega arith); node = (omega arith, omega arith); order = subst (λ (n : ℕ). n ≤ 1) (sym list.of.code) (most_one decimal) }

  hash_numbers : R.numbers hash ≡ index_numbers
  hash_numbers = store.numbers hash ∙ head_numbers hash.body.head column.head

  -- it was made
  module _ (fits : decimal ≡ asks_decimal kind) (t : Btree (Hash S) O) (b : S) (new : IsNew s R o hash 128 256 t.tree a b) where
    pub new_file : m.file_of t ≡ hash.body.file
    new_file = list.file t ∙ (new.made.file ∙ store.file hash)

    pub new_held : s.tells → In s m.file_of m.holds t b []
    new_held told = let h = new.means told in (told, list.from t (s.now b (m.file_of t)) [] (subst (λ (n : ℕ). HoldsIn R o t.tree (s.now b n) []) (sym (list.file t)) h.1))

    pub new_sort : (m.made t).sort ≡ 1
    new_sort = ap (λ (x : Made). x.sort) (list.made t) ∙ (new.made.sort ∙ (store.sort hash ∙ column.head.kind_is))

    pub new_code : (m.made t).code ≡ order_code kind
    new_code = ap (λ (x : Made). x.code) (list.made t) ∙ (ap (λ (h : TreeHead). h.order) new.head ∙ (list.of.code ∙ (ap code_of fits ∙ code_kind kind)))

    pub new_column : s.tells → (m.made t).column ≡ Some (column_bytes kind name)
    new_column told = ap (λ (x : Made). x.column) (list.made t) ∙ (new.column_is (records kind name) (held_now told) ∙ column_at kind name)

    pub new_numbers : (m.made t).numbers ≡ index_numbers
    new_numbers = ap (λ (x : Made). x.numbers) (list.made t) ∙ (new.made.numbers ∙ hash_numbers)

    pub new_leaf : (m.made t).leaf ≡ 128
    new_leaf = ap (λ (x : Made). x.leaf) (list.made t) ∙ ap (λ (h : TreeHead). h.leaf_limit) new.head

    pub new_node : (m.made t).node ≡ 256
    new_node = ap (λ (x : Made). x.node) (list.made t) ∙ ap (λ (h : TreeHead). h.node_limit) new.head

    pub new_others : Others s (Only hash.body.file) a b
    new_others = record { same = λ told n other. new.others.same told n (λ (e : n ≡ R.file_of hash). other (e ∙ store.file hash)) }

  -- its leaf had no room
  pub leaf_lacks : (b : S) → s.tells → LacksLeaf s R hash a b → LacksSide s hash.body.file kind name b
  leaf_lacks b told l = ⊎_elim
      (λ log. inl log)
      (λ lacks. inr (inr (
      let w = store.lacks l.store l.moment b (key_of 1) (leaf_bytes lone_leaf) lacks in
      let here = subst (λ (n : ℕ). holds l.store (s.now l.moment n) (records kind name)) (store.file l.store) (store.into l.store (s.now l.moment (R.file_of l.store)) (records kind name) now.1) in
      let none : w.held ≡ records kind name = one_map s l.store l.moment w.held (records kind name) w.means (now.0, here) in
      let own = its_fresh s l.store (key_of 1) w.held l.moment b (size_for l.store (key_of 1) (leaf_bytes lone_leaf)) w.wants (ap (λ (k : Map). get k (key_of 1)) none ∙ leaf_free kind name) in (
        w.wants.brought,
        let first : LacksFirst (s.limit b hash.body.file) (s.now b hash.body.file) kind name 1 = record {
          head = l.store.body.head;
          fields = l.store.body.valid;
          least = within_one l.store.body.head.first (sections l.store.body.head) (unit l.store.body.head) (unit_some l.store.body.head)
              (leads_none (R.lead hash) (R.lead l.store) (lead_of hash) (lead_of l.store) l.looks.leads (store.lead hash) (store.lead l.store) (anew_leads hash.body.head 0 column.head));
          pairs = column_pair kind name ∷ [];
          records = records kind name;
          pair = record { key = key_of 1; value = leaf_bytes no_items };
          first = first_leaf;
          held = w.wants.held;
          kept = inl (own.map ∙ none);
          none = subst (λ (n : ℕ). HasNoBlock (s.limit b n) (s.now b n) l.store.body.head w.wants.held (size_for l.store (key_of 1) (leaf_bytes lone_leaf))) file w.wants.none;
        } in
            record {
              lacks = first;
              sort = sym (store.sort l.store) ∙ (l.looks.sort_same ∙ (store.sort hash ∙ column.head.kind_is));
              numbers = sym (store.numbers l.store) ∙ (l.looks.numbers_same ∙ hash_numbers);
            },
      )
      )))
      (l.by.by (records kind name) now)
    where
      now : Holds s R l.store l.moment (records kind name)
      now = l.looks.reads.means (records kind name) (held_now told)

      file : l.store.body.file ≡ hash.body.file
      file = sym (store.file l.store) ∙ (l.looks.file ∙ store.file hash)

-- ---- the index

module _ {S : Type 0} (s : Ghosts S) (r : Stores (Hash S) S) (ol : Orders ByBytes) (od : Orders ByNumbers) (l : multi.Ghosts (LexicalList S) S ByBytes) (d : multi.Ghosts (DecimalList S) S ByNumbers) (stores : AreTableStores s r ol od l d) where
  pub lexical_made : (hash : Hash S) (kind : IndexKind) (i : Index (LexicalList S)) (a b : S) → HoldsColumn s kind i.name hash a → IsIndexPlace hash.body.file → not_empty i.name ≡ true → asks_decimal kind ≡ false → IsNew s r ol hash 128 256 i.tree.tree a b → MakesSide s r l d hash.body.file kind i.name (record { kind = kind; tree = Lexical i }) a b
  lexical_made hash kind i a b column place named order new = record {
    sound = new.sound;
    ready = record { sound = new.sound; held = λ t. ([], new_held s r stores.store ol false l stores.lexical hash kind i.name a column (sym order) i.tree b new t) };
    none = λ t. record { fits = sym order; stands = record { pairs = []; held = new_held s r stores.store ol false l stores.lexical hash kind i.name a column (sym order) i.tree b new t; exact = none_owed kind i.name empty refl } };
    kind_is = refl;
    name_is = refl;
    file_is = new_file s r stores.store ol false l stores.lexical hash kind i.name a column (sym order) i.tree b new;
    made = λ t. record {
      sort = new_sort s r stores.store ol false l stores.lexical hash kind i.name a column (sym order) i.tree b new;
      code = new_code s r stores.store ol false l stores.lexical hash kind i.name a column (sym order) i.tree b new;
      column = new_column s r stores.store ol false l stores.lexical hash kind i.name a column (sym order) i.tree b new t;
      named = named;
      file = subst IsIndexPlace (sym (new_file s r stores.store ol false l stores.lexical hash kind i.name a column (sym order) i.tree b new)) place;
    };
    usual = record {
      numbers = new_numbers s r stores.store ol false l stores.lexical hash kind i.name a column (sym order) i.tree b new;
      leaf = new_leaf s r stores.store ol false l stores.lexical hash kind i.name a column (sym order) i.tree b new;
      node = new_node s r stores.store ol false l stores.lexical hash kind i.name a column (sym order) i.tree b new;
    };
    others = new_others s r stores.store ol false l stores.lexical hash kind i.name a column (sym order) i.tree b new;
  }

  pub decimal_made : (hash : Hash S) (kind : IndexKind) (i : Index (DecimalList S)) (a b : S) → HoldsColumn s kind i.name hash a → IsIndexPlace hash.body.file → not_empty i.name ≡ true → asks_decimal kind ≡ true → IsNew s r od hash 128 256 i.tree.tree a b → MakesSide s r l d hash.body.file kind i.name (record { kind = kind; tree = Decimal i }) a b
  decimal_made hash kind i a b column place named order new = record {
    sound = new.sound;
    ready = record { sound = new.sound; held = λ t. ([], new_held s r stores.store od true d stores.decimal hash kind i.name a column (sym order) i.tree b new t) };
    none = λ t. record { fits = sym order; stands = record { pairs = []; held = new_held s r stores.store od true d stores.decimal hash kind i.name a column (sym order) i.tree b new t; exact = none_owed kind i.name empty refl } };
    kind_is = refl;
    name_is = refl;
    file_is = new_file s r stores.store od true d stores.decimal hash kind i.name a column (sym order) i.tree b new;
    made = λ t. record {
      sort = new_sort s r stores.store od true d stores.decimal hash kind i.name a column (sym order) i.tree b new;
      code = new_code s r stores.store od true d stores.decimal hash kind i.name a column (sym order) i.tree b new;
      column = new_column s r stores.store od true d stores.decimal hash kind i.name a column (sym order) i.tree b new t;
      named = named;
      file = subst IsIndexPlace (sym (new_file s r stores.store od true d stores.decimal hash kind i.name a column (sym order) i.tree b new)) place;
    };
    usual = record {
      numbers = new_numbers s r stores.store od true d stores.decimal hash kind i.name a column (sym order) i.tree b new;
      leaf = new_leaf s r stores.store od true d stores.decimal hash kind i.name a column (sym order) i.tree b new;
      node = new_node s r stores.store od true d stores.decimal hash kind i.name a column (sym order) i.tree b new;
    };
    others = new_others s r stores.store od true d stores.decimal hash kind i.name a column (sym order) i.tree b new;
  }

-- in the file that was made for it
module _ {S : Type 0} (s : Ghosts S) (r : Stores (Hash S) S) (l : multi.Ghosts (LexicalList S) S ByBytes) (d : multi.Ghosts (DecimalList S) S ByNumbers) where
  pub side_made : (file : ℕ) (kind : IndexKind) (name : List ℕ) (hash : Hash S) (x : Side (LexicalList S) (DecimalList S)) (a b c : S) → MakesFile s file kind name hash a b → MakesSide s r l d hash.body.file kind name x b c → MakesSide s r l d file kind name x a c
  side_made file kind name hash x a b c first second = record {
    sound = second.sound;
    ready = second.ready;
    none = second.none;
    kind_is = second.kind_is;
    name_is = second.name_is;
    file_is = second.file_is ∙ first.file_is;
    made = second.made;
    usual = second.usual;
    others = record { same = λ t n other. second.others.same t n (λ (e : n ≡ hash.body.file). other (e ∙ first.file_is)) ∙ first.others.same t n other };
  }

  -- it came to a table behind its indexes, in the lowest file that was free
  pub side_comes : (kind : IndexKind) (name : List ℕ) (file : ℕ) (x : Side (LexicalList S) (DecimalList S)) (t t' : Table (Hash S) (LexicalList S) (DecimalList S)) (xs : List (Side (LexicalList S) (DecimalList S))) (a b c : S) → xs ≡ t.sides.items → IsIndexPlace file → IsFreePlace l d xs file
      → ((n : ℕ) → IsIndexPlace n → n < file → IsFreePlace l d xs n → ⊥) → MakesSide s r l d file kind name x a b → Adds s r l d x t t' b c → EndsNew l d kind name t'.sides.items
  side_comes kind name file x t t' xs a b c same place free least made adds =
      let here : file ≡ tree_file l d adds.side.tree = sym (adds.stays.tree.file ∙ made.file_is) in
      let filed : files l d xs ≡ files l d adds.front = ap (λ (zs : List (Side (LexicalList S) (DecimalList S))). files l d zs) same ∙ sym (files_stay s l d t.sides.items adds.front adds.stay) in
      record {
        front = adds.front;
        side = adds.side;
        parted = adds.parted;
        kind_is = adds.stays.kind ∙ made.kind_is;
        name_is = adds.stays.tree.name ∙ made.name_is;
        usual = record {
          numbers = ap (λ (m : Made). m.numbers) adds.stays.tree.made ∙ made.usual.numbers;
          leaf = ap (λ (m : Made). m.leaf) adds.stays.tree.made ∙ made.usual.leaf;
          node = ap (λ (m : Made). m.node) adds.stays.tree.made ∙ made.usual.node;
        };
        place = subst IsIndexPlace here place;
        free = subst (λ (n : ℕ). IsAway n (files l d adds.front)) here (subst (λ (fs : List ℕ). IsAway file fs) filed free);
        lowest = λ n at less away. least n at (subst (λ (k : ℕ). n < k) (sym here) less) (subst (λ (fs : List ℕ). IsAway n fs) (sym filed) away);
      }

-- ---- what is asked for

abbrev taken : {A : Type 0} → A → Option A → A
taken a None = a
taken a (Some x) = x

one_of : {A : Type 0} (a b : A) → Some a ≡ Some b → a ≡ b
one_of a b same = ap (taken a) same

module _ {S L OL D OD : Type 0} (l : multi.Ghosts L S OL) (d : multi.Ghosts D S OD) (name : List ℕ) (old new : List (Side L D)) where
  pub set_none : {E : Type 0} (x : Result Bool E) (wanted : Option IndexKind) → wanted ≡ None → IfOk x (λ done. done ≡ true → IsSetAs l d name old new wanted)
  set_none (Ok done) wanted none = λ told kind some. absurd (let bad : None ≡ Some kind = sym none ∙ some in cc)
  set_none (Err e) wanted none = tt

  pub set_some : {E : Type 0} (x : Result Bool E) (wanted : Option IndexKind) (kind : IndexKind) → wanted ≡ Some kind → IfOk x (λ done. done ≡ true → IsSet l d kind name old new) → IfOk x (λ done. done ≡ true → IsSetAs l d name old new wanted)
  set_some (Ok done) wanted kind is set = λ told other some. subst (λ (k : IndexKind). IsSet l d k name old new) (one_of kind other (sym is ∙ some)) (set told)
  set_some (Err e) wanted kind is set = tt

  pub set_by : {E : Type 0} (x : Result Bool E) (asked : Option (Option IndexKind)) (wanted : Option IndexKind) → asked ≡ Some wanted → IfOk x (λ done. done ≡ true → IsSetAs l d name old new wanted) → IfOk x (λ done. done ≡ true → IsSetBy l d name old new asked)
  set_by (Ok done) asked wanted is set = λ told kind some. set told kind (one_of wanted (Some kind) (sym is ∙ some))
  set_by (Err e) asked wanted is set = tt
