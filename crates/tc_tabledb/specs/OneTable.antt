-- The files of a table stand for one table, and break no rule.
use Rattle.std.proofs.Common.{◌≡◌, ◌≢◌, ◌∙◌, ◌⊎◌, inl, inr, ⊎_elim, ℕ, ◌≤◌, ◌==◌, Bool, true, false, List, [], ◌∷◌, ◌++◌, length, Option, Some, None, refl, sym, ap, subst, arith}
use Rattle.std.specs.Prelude.{option_map, unwrap_or}
use Rattle.std.specs.Cmp.Lexicographic.{nat_list_cmp_total}
use Rattle.std.specs.FinMap.{empty, get, insert, same_map}
use Rattle.std.proofs.lemmas.Map.Lookups.{exact_bytes}
use Rattle.tc_base.specs.Files.{Files}
use Rattle.tc_base.specs.Maps.{Map}
use Rattle.tc_base.specs.Orders.{order}
use Rattle.tc_base.specs.declared.kind.Rule.{Rule}
use Rattle.tc_base.specs.declared.seq.Pair.{Pair}
use Rattle.bt_check.proofs.Unbroken.{trees_break_no_rule}
use Rattle.bt_check.specs.Verdicts.{IsFirstBroken}
use Rattle.bt_rows.proofs.Held.{records_give_pairs}
use Rattle.bt_rows.specs.Heads.{head_of}
use Rattle.bt_rows.specs.Orders.{before_by}
use Rattle.bt_rows.specs.Rules.{column as column_key}
use Rattle.bt_rows.specs.Standing.{TreeStands, tree_pairs}
use Rattle.tc_hash.proofs.Unbroken.{stands_unbroken}
use Rattle.tc_hash.specs.Opening.{IsBroken}
use Rattle.tc_hash.specs.Standing.{StandsWith}
use Rattle.tc_model.specs.Contents.{Contents, Indexes, Rows}
use Rattle.tc_model.specs.Rows.{Row}
use Rattle.tc_model.specs.Well.{AreRows}
use Rattle.tc_model.specs.Texts.{is_among}
use Rattle.tc_model.specs.declared.query.IndexKind.{IndexKind}
use Rattle.tc_model.specs.declared.query.IndexKind.TheVariants as kinds
use Rattle.td_index.specs.Entries.{AreOwed}
use Rattle.td_row.specs.Spelling.{row_bytes}
use Rattle.tc_table.proofs.Spelled.{row_again}
use Rattle.tc_table.specs.Opening.{JudgesRows}
use Rattle.tc_table.specs.Parts.{AreSpelled, parts_of, row_in}
use Rattle.tc_table.specs.Sides.{asks_decimal}
use Rattle.tc_treedb.specs.OneTree.{one_file, one_region}
use Rattle.tc_tabledb.specs.Files.{AreEmpty, AreFilesOf, AreNone, HaveIndexes, IsIndexFile, IsIndexOf, IsRowsFile, Reopens, column_bytes, index_files, order_code, type_code}
use Rattle.tc_tabledb.specs.Opening.{BreaksFrom, BreaksIndex, BreaksNew, BreaksTable, IsLowest, IsNamed, in_file, in_index, in_main, in_tree, no_name, no_row, other_pairs, rule_c, tells_numbers, unmade}

-- a file that stands for a map has bytes
pub stands_some : (kind : ℕ) (bytes : List ℕ) (m : Map) (region : List ℕ) → StandsWith kind bytes m region → bytes ≡ [] → ⊥
stands_some kind bytes m region stands none =
    let long : 256 ≤ length bytes = stands.is.opens.long in
    let short : length bytes ≡ 0 = ap length none in
    absurd (omega (arith, long, short))

-- ---- rows

bytes_of_row : (o : Option Row) (bytes : List ℕ) → option_map row_bytes o ≡ Some bytes → (row : Row) × (o ≡ Some row) × (bytes ≡ row_bytes row)
bytes_of_row None bytes is = absurd (let bad : None ≡ Some bytes = is in cc)
bytes_of_row (Some row) bytes is = (row, refl, sym (ap (λ (x : Option (List ℕ)). unwrap_or x bytes) is))

-- the row of a key is read from the bytes of its record
read_back : (rows : Rows) (key : List ℕ) (o : Option Row) → AreRows rows → get rows key ≡ o → option_map row_in (option_map row_bytes o) ≡ o
read_back rows key None are is = refl
read_back rows key (Some row) are is = ap (λ (r : Row). Some r) (row_again (row_bytes row) row (record { is_row = are key row is; is = refl }))

rows_at : (m : Map) (rows : Rows) (key : List ℕ) → AreSpelled m rows → AreRows rows → get rows key ≡ option_map row_in (get m key)
rows_at m rows key spelled are = sym (ap (option_map row_in) (spelled key) ∙ read_back rows key (get rows key) are refl)

pub one_rows : (m : Map) (rows more : Rows) → AreSpelled m rows → AreRows rows → AreSpelled m more → AreRows more → rows ≡ more
one_rows m rows more spelled are as_well too = same_map nat_list_cmp_total exact_bytes rows more (λ key. rows_at m rows key spelled are ∙ sym (rows_at m more key as_well too))

pub one_main : (bytes : List ℕ) (rows more : Rows) → IsRowsFile bytes rows → IsRowsFile bytes more → rows ≡ more
one_main bytes rows more a b = one_rows b.records rows more (subst (λ (m : Map). AreSpelled m rows) (one_file 3 bytes a.records b.records a.file.is b.file.is) a.spelled) a.are b.spelled b.are

-- ---- an index

pub order_told : (kind : IndexKind) → (order_code kind == 1) ≡ asks_decimal kind
order_told kinds.Lexical = refl
order_told kinds.Decimal = refl
order_told kinds.Token = refl

pub one_type : (a b : IndexKind) → type_code a ≡ type_code b → a ≡ b
one_type kinds.Lexical kinds.Lexical same = refl
one_type kinds.Decimal kinds.Decimal same = refl
one_type kinds.Token kinds.Token same = refl
one_type kinds.Lexical kinds.Decimal same = absurd (omega (arith, same))
one_type kinds.Lexical kinds.Token same = absurd (omega (arith, same))
one_type kinds.Decimal kinds.Lexical same = absurd (omega (arith, same))
one_type kinds.Decimal kinds.Token same = absurd (omega (arith, same))
one_type kinds.Token kinds.Lexical same = absurd (omega (arith, same))
one_type kinds.Token kinds.Decimal same = absurd (omega (arith, same))

abbrev first_is : List ℕ → ℕ
first_is [] = 0
first_is (b ∷ bytes) = b

abbrev rest_is : List ℕ → List ℕ
rest_is [] = []
rest_is (b ∷ bytes) = bytes

some_same : (a b : List ℕ) (o : Option (List ℕ)) → o ≡ Some a → o ≡ Some b → a ≡ b
some_same a b o left right = ap (λ (x : Option (List ℕ)). unwrap_or x a) (sym left ∙ right)

pub record IsOne (kind more : IndexKind) (name other : List ℕ) (ps qs : List Pair) : Type 0 where
  pub kinds_same : kind ≡ more
  pub names_same : name ≡ other
  pub pairs_same : ps ≡ qs

-- the pairs of a tree in an order, under a region
record Told (kind : IndexKind) (region : List ℕ) (m : Map) (ps : List Pair) : Type 0 where
  stands : TreeStands (before_by (order (asks_decimal kind))) (head_of region) true (get m)
  are : ps ≡ tree_pairs stands

module _ (bytes : List ℕ) where
  maps_same : (m n : Map) (r q : List ℕ) → StandsWith 1 bytes m r → StandsWith 1 bytes n q → m ≡ n
  maps_same m n r q a b = one_file 1 bytes m n a.is b.is

  pub one_index : (kind more : IndexKind) (name other : List ℕ) (ps qs : List Pair) → IsIndexFile bytes kind name ps → IsIndexFile bytes more other qs → IsOne kind more name other ps qs
  one_index kind more name other ps qs a b =
      let maps : a.records ≡ b.records = maps_same a.records b.records a.region b.region a.file b.file in
      let regions : a.region ≡ b.region = one_region 1 bytes a.records b.records a.region b.region a.file b.file in
      let columns : column_bytes kind name ≡ column_bytes more other = some_same (column_bytes kind name) (column_bytes more other) (get b.records column_key) (ap (λ (m : Map). get m column_key) (sym maps) ∙ a.column) b.column in
      let types : kind ≡ more = one_type kind more (ap first_is columns) in
      let told : Told more b.region b.records ps =
      subst (λ (r : List ℕ). Told more r b.records ps) regions
      (subst (λ (m : Map). Told more a.region m ps) maps
      (subst (λ (k : IndexKind). Told k a.region a.records ps) types (record { stands = a.tree; are = a.are }))) in
      record {
        kinds_same = types;
        names_same = ap rest_is columns;
        pairs_same = told.are ∙ (records_give_pairs (before_by (order (asks_decimal more))) (head_of b.region) true (get b.records) told.stands b.tree ∙ sym b.are);
      }

  -- an index file with the pairs of the rows breaks no rule
  index_unbroken : (rows : Rows) (seen : List (List ℕ)) (kind : IndexKind) (name : List ℕ) (rule : Rule) → IsIndexOf rows seen bytes kind name → BreaksIndex rows seen bytes rule → ⊥
  index_unbroken rows seen kind name _ is (in_file rule broken) = stands_unbroken 1 bytes (get is.file.records) rule is.file.file.is broken
  index_unbroken rows seen kind name _ is (in_tree records region rule stands broken) =
      let maps : records ≡ is.file.records = maps_same records is.file.records region is.file.region stands is.file.file in
      let regions : region ≡ is.file.region = one_region 1 bytes records is.file.records region is.file.region stands is.file.file in
      let told : tells_numbers is.file.region ≡ asks_decimal kind = ap (λ (n : ℕ). n == 1) is.file.code ∙ order_told kind in
      trees_break_no_rule (before_by (order (asks_decimal kind))) (head_of is.file.region) true (get is.file.records) rule is.file.tree
      (subst (λ (decimal : Bool). IsFirstBroken (before_by (order decimal)) (head_of is.file.region) true (get is.file.records) rule) told
      (subst (λ (m : Map). IsFirstBroken (before_by (order (tells_numbers is.file.region))) (head_of is.file.region) true (get m) rule) maps
      (subst (λ (r : List ℕ). IsFirstBroken (before_by (order (tells_numbers r))) (head_of r) true (get records) rule) regions broken)))
  index_unbroken rows seen kind name _ is (no_name records region tree none) =
      let maps : records ≡ is.file.records = maps_same records is.file.records region is.file.region tree.file is.file.file in
      let regions : region ≡ is.file.region = one_region 1 bytes records is.file.records region is.file.region tree.file is.file.file in
      none kind name (record { is = ap (λ (m : Map). get m column_key) maps ∙ is.file.column; order = ap (λ (r : List ℕ). (head_of r).order) regions ∙ is.file.code; some = is.file.named; new = is.new })
  index_unbroken rows seen kind name _ is (other_pairs more other qs file new other_than) =
      let one = one_index kind more name other is.pairs qs is.file file in
      other_than (subst (λ (xs : List Pair). AreOwed (parts_of more other rows) xs) one.pairs_same
      (subst (λ (n : List ℕ). AreOwed (parts_of more n rows) is.pairs) one.names_same
      (subst (λ (k : IndexKind). AreOwed (parts_of k name rows) is.pairs) one.kinds_same is.owed)))

index_some : (rows : Rows) (seen : List (List ℕ)) (bytes : List ℕ) (kind : IndexKind) (name : List ℕ) → IsIndexOf rows seen bytes kind name → bytes ≡ [] → ⊥
index_some rows seen bytes kind name is none = stands_some 1 bytes is.file.records is.file.region is.file.file none

have_unbroken : (rows : Rows) (files : Files) (fs : List ℕ) (seen : List (List ℕ)) (indexes : Indexes) (file : ℕ) (rule : Rule) → HaveIndexes rows files fs seen indexes → BreaksFrom rows files fs seen file rule → ⊥
have_unbroken rows files [] seen indexes file rule have breaks = breaks
have_unbroken rows files (f ∷ fs) seen indexes file rule have breaks = ⊎_elim
    (λ none. ⊎_elim
    (λ here. here.1 none.0)
    (λ later. ⊎_elim (λ on. have_unbroken rows files fs seen indexes file rule none.1 on.1) (λ on. index_some rows seen (files f) on.0 on.1 on.2 none.0) later)
    breaks)
    (λ some. ⊎_elim
    (λ here. index_unbroken (files f) rows seen some.0 some.1 rule some.3 here.2)
    (λ later. ⊎_elim
    (λ on. index_some rows seen (files f) some.0 some.1 some.3 on.0)
    (λ on.
    let one = one_index (files f) on.0 some.0 on.1 some.1 on.2.pairs some.3.pairs on.2.file some.3.file in
    have_unbroken rows files fs (seen ++ some.1 ∷ []) some.2 file rule some.4 (subst (λ (n : List ℕ). BreaksFrom rows files fs (seen ++ n ∷ []) file rule) one.names_same on.3))
    later)
    breaks)
    have

-- each key and type comes once
pub one_have : (rows : Rows) (files : Files) (fs : List ℕ) (seen : List (List ℕ)) (i j : Indexes) → HaveIndexes rows files fs seen i → HaveIndexes rows files fs seen j → i ≡ j
one_have rows files [] seen i j a b = a ∙ sym b
one_have rows files (f ∷ fs) seen i j a b = ⊎_elim
    (λ none. ⊎_elim (λ as_well. one_have rows files fs seen i j none.1 as_well.1) (λ some. absurd (index_some rows seen (files f) some.0 some.1 some.3 none.0)) b)
    (λ some. ⊎_elim
    (λ none. absurd (index_some rows seen (files f) some.0 some.1 some.3 none.0))
    (λ more.
    let one = one_index (files f) some.0 more.0 some.1 more.1 some.3.pairs more.3.pairs some.3.file more.3.file in
    let rest : some.2 ≡ more.2 = one_have rows files fs (seen ++ more.1 ∷ []) some.2 more.2 (subst (λ (n : List ℕ). HaveIndexes rows files fs (seen ++ n ∷ []) some.2) one.names_same some.4) more.4 in
    some.5 ∙ ((λ k. insert (rest k) (one.names_same k) (one.kinds_same k)) ∙ sym more.5))
    b)
    a

-- ---- a table

none_lowest : (files : Files) (fs : List ℕ) (file : ℕ) → AreEmpty files fs → IsLowest files fs file → ⊥
none_lowest files [] file none lowest = lowest
none_lowest files (f ∷ fs) file none lowest = ⊎_elim (λ here. here.1 none.0) (λ later. none_lowest files fs file none.1 later.1) lowest

main_some : (files : Files) (c : Contents) → AreFilesOf files c → files 0 ≡ [] → ⊥
main_some files c are none = stands_some 3 (files 0) are.main.records are.main.region are.main.file none

rows_unbroken : (bytes : List ℕ) (rows : Rows) (records : Map) (region : List ℕ) → IsRowsFile bytes rows → StandsWith 3 bytes records region → JudgesRows records false → ⊥
rows_unbroken bytes rows records region is stands bad =
    let maps : records ≡ is.records = one_file 3 bytes records is.records stands.is is.file.is in
    let there : option_map row_bytes (get rows bad.0) ≡ Some bad.1.0 = sym (is.spelled bad.0) ∙ (ap (λ (m : Map). get m bad.0) (sym maps) ∙ bad.1.1) in
    let row = bytes_of_row (get rows bad.0) bad.1.0 there in
    bad.1.2 row.0 (record { is_row = is.are bad.0 row.0 row.1; is = row.2 })

files_unbroken : (files : Files) (c : Contents) (file : ℕ) (rule : Rule) → AreFilesOf files c → BreaksTable files file rule → ⊥
files_unbroken files c _ _ are (unmade f rule none new) = main_some files c are none
files_unbroken files c _ _ are (in_main rule some broken) = stands_unbroken 3 (files 0) (get are.main.records) rule are.main.file.is broken
files_unbroken files c _ _ are (no_row records region stands bad) = rows_unbroken (files 0) are.rows records region are.main stands bad
files_unbroken files c _ _ are (in_index rows f rule main breaks) =
    have_unbroken are.rows files index_files [] are.indexes f rule are.have (subst (λ (m : Rows). BreaksFrom m files index_files [] f rule) (one_main (files 0) rows are.rows main are.main) breaks)

none_unbroken : (files : Files) (c : Contents) (file : ℕ) (rule : Rule) → AreNone files c → BreaksTable files file rule → ⊥
none_unbroken files c _ _ none (unmade f rule empty_main new) = none_lowest files index_files f none.indexes new.1
none_unbroken files c _ _ none (in_main rule some broken) = some none.main
none_unbroken files c _ _ none (no_row records region stands bad) = stands_some 3 (files 0) records region stands none.main
none_unbroken files c _ _ none (in_index rows f rule main breaks) = stands_some 3 (files 0) main.records main.region main.file none.main

pub table_unbroken : (files : Files) (c : Contents) (file : ℕ) (rule : Rule) → Reopens files c → BreaksTable files file rule → ⊥
table_unbroken files c file rule stand breaks = ⊎_elim (λ (none : AreNone files c). none_unbroken files c file rule none breaks) (λ (are : AreFilesOf files c). files_unbroken files c file rule are breaks) stand
