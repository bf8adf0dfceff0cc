-- Rows and the records of their bytes.
use Rattle.std.proofs.Common.{◌≡◌, ◌∙◌, ℕ, zero, suc, ◌≤◌, Bool, true, false, cond, List, [], ◌∷◌, length, Option, Some, None, refl, sym, ap, subst, arith}
use Rattle.std.specs.Prelude.{is_some, nat_le, option_and_then, option_map, filter, not}
use Rattle.std.specs.List.{list_all}
use Rattle.std.specs.declared.cmp.Ordering.{Ordering}
use Rattle.std.specs.Ordering.{nat_cmp, eq_by_cmp}
use Rattle.std.specs.Cmp.Lexicographic.{slice_cmp, nat_list_cmp_total, texts_ties}
use Rattle.std.specs.FinMap.{get, get-insert, get-remove, insert, keys, len, remove, same_map}
use Rattle.std.proofs.lemmas.Bool.{and_parts}
use Rattle.std.proofs.lemmas.Map.Lookups.{exact_bytes}
use Rattle.tc_base.specs.Maps.{Map}
use Rattle.tc_base.specs.declared.kind.Mode.{Mode}
use Rattle.tc_base.specs.declared.kind.Mode.TheVariants.{Over, Keep, Cat}
use Rattle.tc_base.specs.declared.seq.Pair.{Pair}
use Rattle.tc_space.specs.Changes.{out_of, put_in}
use Rattle.tc_model.specs.Contents.{Rows}
use Rattle.tc_model.specs.Rows.{Row, has, is_column, row_text, with_lacking}
use Rattle.tc_model.specs.Stores.{put_row, with_row}
use Rattle.tc_model.specs.Well.{AreRows, IsRow}
use Rattle.tc_model.specs.declared.query.IndexKind.{IndexKind}
use Rattle.td_index.specs.Checks.{firsts_by}
use Rattle.td_row.specs.Spelling.{AtFront, SpellsRow, row_bytes}
use Rattle.td_row.proofs.Reading.{column_again, shorter}
use Rattle.tc_table.specs.Parts.{AreSpelled, IsNext, behind_column, columns_in, parts_in, parts_of, parts_of_row, row_in}
use Rattle.tc_table.specs.Opening.{AreAllRows, rows_in}
use Rattle.tc_table.specs.Tables.{row_allowed, row_made, row_put}
use Rattle.tc_table.specs.Valued.{got_valued, keys_valued, len_valued, with_values}

abbrev R : List ℕ → List ℕ → Ordering
R = slice_cmp nat_cmp

-- ---- a row read again

columns_none : (n : ℕ) → columns_in n [] ≡ []
columns_none zero = refl
columns_none (suc n) = refl

columns_back : (row : Row) (n : ℕ) (bytes : List ℕ) → list_all is_column row ≡ true → bytes ≡ row_bytes row → length bytes ≤ n → columns_in n bytes ≡ row
columns_back [] n bytes h is less = ap (columns_in n) is ∙ columns_none n
columns_back (p ∷ row) n bytes h is less =
    let both = and_parts (is_column p) (list_all is_column row) h in
    let front : AtFront bytes p (row_bytes row) = record { column = both.0; is = is } in
    go n bytes front less (λ m fewer. columns_back row m (row_bytes row) both.1 refl fewer)
  where
    go : (n : ℕ) (bytes : List ℕ) → AtFront bytes p (row_bytes row) → length bytes ≤ n → ((m : ℕ) → length (row_bytes row) ≤ m → columns_in m (row_bytes row) ≡ row) → columns_in n bytes ≡ p ∷ row
    go zero bytes front less rest = absurd (omega (arith, less, shorter bytes p (row_bytes row) front))
    go (suc n) [] front less rest = absurd (omega (arith, shorter [] p (row_bytes row) front))
    go (suc n) (b ∷ bytes) front less rest =
        ap (behind_column (columns_in n)) (column_again (b ∷ bytes) p (row_bytes row) front)
        ∙ ap (λ (l : List Pair). p ∷ l) (rest n (omega (arith, less, shorter (b ∷ bytes) p (row_bytes row) front)))

pub row_again : (bytes : List ℕ) (row : Row) → SpellsRow bytes row → row_in bytes ≡ row
row_again bytes row s = columns_back row (length bytes) bytes s.is_row.columns s.is (omega arith)

-- what an index has of the bytes is what it has of the row
pub parts_again : (kind : IndexKind) (name bytes : List ℕ) (row : Row) → SpellsRow bytes row → parts_in kind name bytes ≡ parts_of_row kind name (Some row)
parts_again kind name bytes row s =
    ap (λ (r : Row). cond (list_all is_column r) (parts_of_row kind name (Some r)) []) (row_again bytes row s)
    ∙ ap (λ (t : Bool). cond t (parts_of_row kind name (Some row)) []) s.is_row.columns

spells : (row : Row) → IsRow row → SpellsRow (row_bytes row) row
spells row is = record { is_row = is; is = refl }

-- ---- what a record tells of a row

some_is : {A : Type 0} (a b : A) → Some a ≡ Some b → a ≡ b
some_is a b e = cc

module _ (m : Map) (rows : Rows) (spelled : AreSpelled m rows) (are : AreRows rows) where
  pub parts_same : (kind : IndexKind) (name k : List ℕ) → firsts_by (parts_in kind name) m k ≡ parts_of kind name rows k
  parts_same kind name k = ap (λ (o : Option (List ℕ)). given o) (spelled k) ∙ go (get rows k) refl
    where
      given : Option (List ℕ) → List (List ℕ)
      given None = []
      given (Some bytes) = parts_in kind name bytes

      go : (o : Option Row) → get rows k ≡ o → given (option_map row_bytes o) ≡ parts_of_row kind name o
      go None e = refl
      go (Some row) e = parts_again kind name (row_bytes row) row (spells row (are k row e))

  pub row_none : (key : List ℕ) → None ≡ get m key → None ≡ get rows key
  row_none key none = go (get rows key) (none ∙ spelled key)
    where
      go : (o : Option Row) → None ≡ option_map row_bytes o → None ≡ o
      go None e = refl
      go (Some row) e = absurd (let f : Some (row_bytes row) ≡ None = sym e in cc)

  pub row_some : (key bytes : List ℕ) (row : Row) → Some bytes ≡ get m key → ((r : Row) → SpellsRow bytes r → r ≡ row) → Some row ≡ get rows key
  row_some key bytes row some only = go (get rows key) refl (some ∙ spelled key)
    where
      go : (o : Option Row) → get rows key ≡ o → Some bytes ≡ option_map row_bytes o → Some row ≡ o
      go None is e = absurd (let f : Some bytes ≡ None = e in cc)
      go (Some r) is e = ap Some (sym (only r (record { is_row = are key r is; is = some_is bytes (row_bytes r) e })))

  -- whether a record is there
  pub row_there : (key : List ℕ) → is_some (get m key) ≡ is_some (get rows key)
  row_there key = ap is_some (spelled key) ∙ go (get rows key)
    where
      go : (o : Option Row) → is_some (option_map row_bytes o) ≡ is_some o
      go None = refl
      go (Some row) = refl

-- ---- all records

all_spelled : (m : Map) (rows : Rows) → AreSpelled m rows → m ≡ with_values row_bytes rows
all_spelled m rows spelled = same_map nat_list_cmp_total exact_bytes m (with_values row_bytes rows) (λ k. spelled k ∙ sym (got_valued row_bytes rows k))

pub keys_same : (m : Map) (rows : Rows) → AreSpelled m rows → keys m ≡ keys rows
keys_same m rows spelled = ap keys (all_spelled m rows spelled) ∙ keys_valued row_bytes rows

pub len_same : (m : Map) (rows : Rows) → AreSpelled m rows → len m ≡ len rows
len_same m rows spelled = ap len (all_spelled m rows spelled) ∙ len_valued row_bytes rows

-- records that are rows' are those of the rows that are read of them
module _ (m : Map) (all : AreAllRows m) where
  read_again : (key : List ℕ) (o : Option (List ℕ)) → get m key ≡ o → o ≡ option_map row_bytes (option_map row_in o)
  read_again key None is = refl
  read_again key (Some bytes) is = let row = all key bytes is in ap Some (row.1.is ∙ ap row_bytes (sym (row_again bytes row.0 row.1)))

  pub read_spelled : AreSpelled m (rows_in m)
  read_spelled key = read_again key (get m key) refl ∙ ap (option_map row_bytes) (sym (got_valued row_in m key))

  read_row : (key : List ℕ) (row : Row) (o : Option (List ℕ)) → get m key ≡ o → option_map row_in o ≡ Some row → IsRow row
  read_row key row None is e = absurd (let f : None ≡ Some row = e in cc)
  read_row key row (Some bytes) is e = let found = all key bytes is in subst IsRow (sym (row_again bytes found.0 found.1) ∙ some_is (row_in bytes) row e) found.1.is_row

  pub read_rows : AreRows (rows_in m)
  read_rows key row e = read_row key row (get m key) refl (sym (got_valued row_in m key) ∙ e)

-- ---- a row set, and one taken out

chosen : (t : Bool) (o p : Option Row) → option_map row_bytes (cond t o p) ≡ cond t (option_map row_bytes o) (option_map row_bytes p)
chosen true o p = refl
chosen false o p = refl

pub spelled_set : (m : Map) (rows : Rows) (key : List ℕ) (row : Row) → AreSpelled m rows → AreSpelled (put_in Over key (row_bytes row) m) (insert rows key row)
spelled_set m rows key row spelled k =
    get-insert nat_list_cmp_total m key (row_bytes row) k
    ∙ ap (λ (o : Option (List ℕ)). cond (eq_by_cmp R k key) (Some (row_bytes row)) o) (spelled k)
    ∙ sym (ap (option_map row_bytes) (get-insert nat_list_cmp_total rows key row k) ∙ chosen (eq_by_cmp R k key) (Some row) (get rows k))

pub spelled_out : (m : Map) (rows : Rows) (key : List ℕ) → AreSpelled m rows → AreSpelled (out_of key m) (remove rows key)
spelled_out m rows key spelled k =
    get-remove nat_list_cmp_total m key k
    ∙ ap (λ (o : Option (List ℕ)). cond (eq_by_cmp R k key) None o) (spelled k)
    ∙ sym (ap (option_map row_bytes) (get-remove nat_list_cmp_total rows key k) ∙ chosen (eq_by_cmp R k key) None (get rows k))

one_of : (t : Bool) (o p : Option Row) (row : Row) → cond t o p ≡ Some row → (o ≡ Some row → IsRow row) → (p ≡ Some row → IsRow row) → IsRow row
one_of true o p row e first rest = first e
one_of false o p row e first rest = rest e

pub rows_set : (rows : Rows) (key : List ℕ) (row : Row) → AreRows rows → IsRow row → AreRows (insert rows key row)
rows_set rows key row are is k r e =
    one_of (eq_by_cmp R k key) (Some row) (get rows k) r (sym (get-insert nat_list_cmp_total rows key row k) ∙ e) (λ f. subst IsRow (some_is row r f) is) (λ f. are k r f)

pub rows_out : (rows : Rows) (key : List ℕ) → AreRows rows → AreRows (remove rows key)
rows_out rows key are k r e =
    one_of (eq_by_cmp R k key) None (get rows k) r (sym (get-remove nat_list_cmp_total rows key k) ∙ e) (λ f. absurd (let g : None ≡ Some r = f in cc)) (λ f. are k r f)

pub next_set : (rows : Rows) (key : List ℕ) (row : Row) → IsNext key (Some row) rows (insert rows key row)
next_set rows key row k = get-insert nat_list_cmp_total rows key row k ∙ ap (λ (t : Bool). cond t (Some row) (get rows k)) (sym (texts_ties k key))

pub next_out : (rows : Rows) (key : List ℕ) → IsNext key None rows (remove rows key)
next_out rows key k = get-remove nat_list_cmp_total rows key k ∙ ap (λ (t : Bool). cond t None (get rows k)) (sym (texts_ties k key))

-- ---- the row that a put makes

no_column : (row : List Pair) → filter (λ p. not (has [] p.key)) row ≡ row
no_column [] = refl
no_column (p ∷ row) = ap (λ (l : List Pair). p ∷ l) (no_column row)

pub lacking_none : (row : Row) → with_lacking [] row ≡ row
lacking_none row = no_column row

-- a put gives the key that row, if its text isn't too long
pub put_makes : (mode : Mode) (rows : Rows) (key : List ℕ) (row : Row) → put_row mode rows key row ≡ option_and_then (with_row rows key) (row_made mode (get rows key) row)
put_makes Over rows key row = refl
put_makes Keep rows key row = go (is_some (get rows key))
  where
    go : (t : Bool) → cond t None (with_row rows key row) ≡ option_and_then (with_row rows key) (cond t None (Some row))
    go true = refl
    go false = refl
put_makes Cat rows key row = refl

-- a row that is allowed is put
allows : (rows : Rows) (key : List ℕ) (new : Row) → with_row rows key new ≡ option_map (λ r. insert rows key r) (row_allowed new)
allows rows key new = go (nat_le (length (row_text new)) 16777216)
  where
    go : (t : Bool) → option_map (λ x. insert rows key new) (cond {A = Option (List ℕ)} t (Some (row_text new)) None) ≡ option_map (λ r. insert rows key r) (cond (is_some (cond {A = Option (List ℕ)} t (Some (row_text new)) None)) (Some new) None)
    go true = refl
    go false = refl

allows_made : (rows : Rows) (key : List ℕ) (o : Option Row) → option_and_then (with_row rows key) o ≡ option_map (λ r. insert rows key r) (option_and_then row_allowed o)
allows_made rows key None = refl
allows_made rows key (Some new) = allows rows key new

pub put_is : (mode : Mode) (rows : Rows) (key : List ℕ) (row : Row) (old made : Option Row) → old ≡ get rows key → made ≡ row_put mode old row → put_row mode rows key row ≡ option_map (λ r. insert rows key r) made
put_is mode rows key row old made had is =
    put_makes mode rows key row ∙ allows_made rows key (row_made mode (get rows key) row)
    ∙ sym (ap (option_map (λ r. insert rows key r)) (is ∙ ap (λ (o : Option Row). row_put mode o row) had))
