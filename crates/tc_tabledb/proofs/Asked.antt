-- Requests on rows as changes of contents.
use Rattle.std.proofs.Common.{◌≡◌, ◌∙◌, ℕ, Bool, true, false, cond, List, [], ◌∷◌, Option, Some, None, refl, sym, ap, subst, arith}
use Rattle.std.specs.Prelude.{◌<◌, ◌≤◌, IfSome, fold, is_some, length, option_and_then, option_map, unwrap_or}
use Rattle.std.specs.FinMap.{empty, get, remove, same_map, get-remove}
use Rattle.std.specs.Cmp.Lexicographic.{nat_list_cmp_total, texts_ties}
use Rattle.std.proofs.lemmas.Map.Lookups.{exact_bytes}
use Rattle.tc_base.specs.Texts.{is_text}
use Rattle.tc_base.specs.declared.kind.Mode.{Mode}
use Rattle.tc_base.specs.declared.seq.Pair.{Pair}
use Rattle.tc_engine.specs.Changes.{all_cleared, all_gone, all_pushed, row_stored, stored, taken}
use Rattle.tc_model.specs.Contents.{Contents, Indexes, Rows, table}
use Rattle.tc_model.specs.Maps.{without}
use Rattle.tc_model.specs.Rows.{Row, row_of_call, row_of_text}
use Rattle.tc_model.specs.Stores.{clear, put_last, put_row, store_row}
use Rattle.td_index.proofs.Counting.{text_is}
use Rattle.tc_tabledb.specs.Changing.{all_out}

-- what a row, or none, makes
abbrev pub with_rows : Indexes → Option Rows → Option Contents
with_rows indexes o = option_map (λ after. table after indexes) o

-- ---- a row that is put

pub stores_none : (mode : Mode) (key value text : List ℕ) (o : Option Row) → text ≡ value → o ≡ row_of_text text → o ≡ None → (rows : Rows) (indexes : Indexes) → stored mode key value (table rows indexes) ≡ None
stores_none mode key value text o same told none rows indexes = ap (option_and_then (store_row mode (table rows indexes) key)) (ap row_of_text (sym same) ∙ (sym told ∙ none))

pub stores_row : (mode : Mode) (key bytes value text : List ℕ) (o : Option Row) (row : Row) → bytes ≡ key → text ≡ value → o ≡ row_of_text text → o ≡ Some row → (rows : Rows) (indexes : Indexes) → stored mode key value (table rows indexes) ≡ with_rows indexes (put_row mode rows bytes row)
stores_row mode key bytes value text o row is same told some rows indexes =
    ap (option_and_then (store_row mode (table rows indexes) key)) (ap row_of_text (sym same) ∙ (sym told ∙ some))
    ∙ ap (λ (k : List ℕ). with_rows indexes (put_row mode rows k row)) (sym is)

pub columns_none : (mode : Mode) (key : List ℕ) (columns shown : List Pair) (o : Option Row) → shown ≡ columns → o ≡ row_of_call shown → o ≡ None → (rows : Rows) (indexes : Indexes) → row_stored mode key columns (table rows indexes) ≡ None
columns_none mode key columns shown o same told none rows indexes = ap (option_and_then (store_row mode (table rows indexes) key)) (ap row_of_call (sym same) ∙ (sym told ∙ none))

pub columns_row : (mode : Mode) (key bytes : List ℕ) (columns shown : List Pair) (o : Option Row) (row : Row) → bytes ≡ key → shown ≡ columns → o ≡ row_of_call shown → o ≡ Some row → (rows : Rows) (indexes : Indexes) → row_stored mode key columns (table rows indexes) ≡ with_rows indexes (put_row mode rows bytes row)
columns_row mode key bytes columns shown o row is same told some rows indexes =
    ap (option_and_then (store_row mode (table rows indexes) key)) (ap row_of_call (sym same) ∙ (sym told ∙ some))
    ∙ ap (λ (k : List ℕ). with_rows indexes (put_row mode rows k row)) (sym is)

-- ---- rows that go

pub takes_row : (key bytes : List ℕ) → bytes ≡ key → (rows : Rows) (indexes : Indexes) → taken key (table rows indexes) ≡ with_rows indexes (without rows bytes)
takes_row key bytes is rows indexes = ap (λ (k : List ℕ). with_rows indexes (without rows k)) (sym is)

pub absent_stays : (rows : Rows) (key : List ℕ) → get rows key ≡ None → remove rows key ≡ rows
absent_stays rows key none = same_map nat_list_cmp_total exact_bytes (remove rows key) rows (λ k. get-remove nat_list_cmp_total rows key k ∙ (ap (λ (t : Bool). cond t None (get rows k)) (sym (texts_ties k key)) ∙ go k (is_text k key) refl))
  where
    go : (k : List ℕ) (t : Bool) → is_text k key ≡ t → cond t None (get rows k) ≡ get rows k
    go k true is = sym (ap (get rows) (text_is k key is) ∙ none)
    go k false is = refl

cleared_one : (rows : Rows) (indexes : Indexes) (key : List ℕ) → clear (table rows indexes) key ≡ table (remove rows key) indexes
cleared_one rows indexes key = go (get rows key) refl
  where
    cleared : Bool → Contents
    cleared t = unwrap_or (option_map (λ after. table after indexes) (cond t (Some (remove rows key)) None)) (table rows indexes)

    go : (o : Option Row) → get rows key ≡ o → clear (table rows indexes) key ≡ table (remove rows key) indexes
    go None is = ap cleared (ap is_some is) ∙ ap (λ (m : Rows). table m indexes) (sym (absent_stays rows key is))
    go (Some row) is = ap cleared (ap is_some is)

pub cleared_all : (keys texts : List (List ℕ)) → texts ≡ keys → (rows : Rows) (indexes : Indexes) → all_cleared keys (table rows indexes) ≡ with_rows indexes (Some (all_out texts rows))
cleared_all keys texts same rows indexes = ap (λ (c : Contents). Some c) (each keys rows ∙ ap (λ (ks : List (List ℕ)). table (all_out ks rows) indexes) (sym same))
  where
    each : (ks : List (List ℕ)) (m : Rows) → fold clear (table m indexes) ks ≡ table (all_out ks m) indexes
    each [] m = refl
    each (k ∷ ks) m = ap (λ (c : Contents). fold clear c ks) (cleared_one m indexes k) ∙ each ks (remove m k)

pub empties : (rows : Rows) (indexes : Indexes) → all_gone (table rows indexes) ≡ with_rows indexes (Some empty)
empties rows indexes = refl

-- ---- no values behind others

pub pushes_none : (ps : List Pair) → 0 < length ps → (rows : Rows) (indexes : Indexes) → all_pushed ps (table rows indexes) ≡ None
pushes_none [] some rows indexes = absurd (omega (arith, some))
pushes_none (p ∷ ps) some rows indexes = none ps
  where
    none : (qs : List Pair) → fold (λ o q. option_and_then (λ c. put_last c q.key q.value) o) None qs ≡ None
    none [] = refl
    none (q ∷ qs) = none qs

pub pushes_no : (ps : List Pair) → length ps ≤ 0 → (rows : Rows) (indexes : Indexes) → all_pushed ps (table rows indexes) ≡ Some (table rows indexes)
pushes_no [] none rows indexes = refl
pushes_no (p ∷ ps) none rows indexes = absurd (omega (arith, none))

-- ---- what was counted

pub not_counted : (changed : Bool) (total after : Option ℕ) (n : ℕ) → after ≡ cond changed None total → changed ≡ true → IfSome after (λ x. x ≡ n)
not_counted changed total after n is done = subst (λ (o : Option ℕ). IfSome o (λ x. x ≡ n)) (sym (is ∙ ap (λ (t : Bool). cond t None total) done)) tt

pub still_counted : (changed : Bool) (total after : Option ℕ) → after ≡ cond changed None total → changed ≡ false → after ≡ total
still_counted changed total after is no_change = is ∙ ap (λ (t : Bool). cond t None total) no_change
