-- Columns that are given, and those of another row that one lacks.
use Rattle.std.proofs.Common.{◌≡◌, ◌∙◌, ℕ, ◌+◌, Bool, true, false, cond, List, [], ◌∷◌, ◌++◌, take, drop, refl, sym, ap, subst, append_assoc}
use Rattle.std.specs.Prelude.{◌&&◌, ◌||◌, not, filter, find, fold, Option, Some, None, option_map, is_some, slice_get, if◌then◌else◌}
use Rattle.std.specs.List.{list_all}
use Rattle.std.proofs.lemmas.List.{append-nil, take-append-drop}
use Rattle.std.proofs.lemmas.List.Elements.{filter-append}
use Rattle.std.proofs.lemmas.List.Folds.{list_all-append}
use Rattle.tc_base.specs.declared.seq.Pair.{Pair}
use Rattle.tc_base.specs.Texts.{is_text}
use Rattle.tc_base.specs.Lists.{pair}
use Rattle.tc_model.specs.Rows.{Row, has, is_column, is_distinct, with_column, row_of, row_of_call, with_lacking}
use Rattle.tc_model.specs.Well.{IsRow}
use Rattle.td_row.specs.Spelling.{IsColumn}
use Rattle.td_row.proofs.Columns.{lacks_parts, lacks_before, column_within, with_new, fold_new, row_with}
use Rattle.td_row.proofs.Written.{taken}

-- a list around one of its items
parted : (row : Row) (i : ℕ) (p : Pair) → slice_get row i ≡ Some p → row ≡ take i row ++ p ∷ drop (i + 1) row
parted row i p at = sym (take-append-drop (i + 1) row) ∙ ap (λ (l : Row). l ++ drop (i + 1) row) (taken row i p at) ∙ append_assoc (take i row) (p ∷ []) (drop (i + 1) row)

pub column_at_place : (row : Row) (i : ℕ) (p : Pair) → slice_get row i ≡ Some p → IsRow row → IsColumn p
column_at_place row i p at r = column_within (take i row) p (drop (i + 1) row) (subst (λ (l : Row). list_all is_column l ≡ true) (parted row i p at) r.columns)

lacks_in_front : (row : Row) (i : ℕ) (p : Pair) → slice_get row i ≡ Some p → is_distinct row ≡ true → has (take i row) p.key ≡ false
lacks_in_front row i p at d = lacks_before (take i row) p (drop (i + 1) row) (subst (λ (l : Row). is_distinct l ≡ true) (parted row i p at) d)

-- ---- the columns of a call

pub called : (name value : List ℕ) (p : Pair) → name ≡ p.key → value ≡ p.value → pair name value ≡ p
called name value p e f = λ i. record { key = e i; value = f i }

abbrev none : Option Row
none = None

pub call_done : (columns : Row) → IsRow columns → row_of_call columns ≡ Some columns
call_done columns r =
    ap (λ b. cond b (row_of columns) none) r.distinct ∙ ap (λ b. cond b (Some (fold with_column [] columns)) none) r.columns ∙ ap Some (fold_new [] columns r.distinct)

either_none : (b : Bool) → cond b none none ≡ none
either_none true = refl
either_none false = refl

pub call_refused : (columns : List Pair) (i : ℕ) (p : Pair) → slice_get columns i ≡ Some p → is_column p ≡ false → row_of_call columns ≡ None
call_refused columns i p at no_column =
    let inside : list_all is_column columns ≡ (list_all is_column (take i columns) && (is_column p && list_all is_column (drop (i + 1) columns))) = ap (list_all is_column) (parted columns i p at) ∙ list_all-append is_column (take i columns) (p ∷ drop (i + 1) columns) in
    let fails : list_all is_column columns ≡ false = inside ∙ ap (λ b. list_all is_column (take i columns) && (b && list_all is_column (drop (i + 1) columns))) no_column ∙ and_false (list_all is_column (take i columns)) in
    ap (λ o. cond (is_distinct columns) o none) (ap (λ b. cond b (Some (fold with_column [] columns)) none) fails) ∙ either_none (is_distinct columns)
  where
    and_false : (b : Bool) → (b && false) ≡ false
    and_false true = refl
    and_false false = refl

pub call_repeated : (columns : List Pair) (i : ℕ) (p : Pair) → slice_get columns i ≡ Some p → has (take i columns) p.key ≡ true → row_of_call columns ≡ None
call_repeated columns i p at there = go (is_distinct columns) refl
  where
    go : (b : Bool) → is_distinct columns ≡ b → cond b (row_of columns) none ≡ none
    go true d = let bad : true ≡ false = sym there ∙ lacks_in_front columns i p at d in absurd cc
    go false d = refl

-- a column more of a call
pub call_more : (columns row new : Row) (i : ℕ) (p : Pair) → slice_get columns i ≡ Some p → IsColumn p → has row p.key ≡ false → row ≡ take i columns → IsRow row → new ≡ with_column row p → (new ≡ take (i + 1) columns) × IsRow new
call_more columns row new i p at fit absent so r set =
    (set ∙ with_new row p absent ∙ ap (λ (l : Row). l ++ p ∷ []) so ∙ sym (taken columns i p at), subst IsRow (sym set) (row_with row p r fit))

-- ---- what a row lacks

has_join : (xs ys : Row) (name : List ℕ) → has (xs ++ ys) name ≡ (has xs name || has ys name)
has_join [] ys name = refl
has_join (x ∷ xs) ys name = go (is_text x.key name) (has_join xs ys name)
  where
    go : (b : Bool) → has (xs ++ ys) name ≡ (has xs name || has ys name)
        → is_some (option_map (λ (q : Pair). q.value) (cond b (Some x) (find (λ q. is_text q.key name) (xs ++ ys)))) ≡ (is_some (option_map (λ (q : Pair). q.value) (cond b (Some x) (find (λ q. is_text q.key name) xs))) || has ys name)
    go true e = refl
    go false e = e

lacks_filtered : (test : Pair → Bool) (row : Row) (name : List ℕ) → has row name ≡ false → has (filter test row) name ≡ false
lacks_filtered test [] name h = refl
lacks_filtered test (p ∷ row) name h = let parts = lacks_parts p row name h in go (test p) parts.0 (lacks_filtered test row name parts.1)
  where
    go : (b : Bool) → is_text p.key name ≡ false → has (filter test row) name ≡ false → has (cond b (p ∷ filter test row) (filter test row)) name ≡ false
    go true t k = ap (λ b. is_some (option_map (λ (q : Pair). q.value) (cond b (Some p) (find (λ q. is_text q.key name) (filter test row))))) t ∙ k
    go false t k = k

abbrev lacking : Row → Row → Row
lacking row more = filter (λ p. not (has row p.key)) more

or_false : (b : Bool) → (b || false) ≡ b
or_false true = refl
or_false false = refl

pub lacking_more : (row more now new : Row) (i : ℕ) (p : Pair) → slice_get more i ≡ Some p → is_distinct more ≡ true → now ≡ with_lacking row (take i more) → new ≡ (if has now p.key then now else now ++ p ∷ []) → new ≡ with_lacking row (take (i + 1) more)
lacking_more row more now new i p at d so is =
    let front : Row = take i more in
    let absent = lacks_filtered (λ q. not (has row q.key)) front p.key (lacks_in_front more i p at d) in
    let asked : has now p.key ≡ has row p.key = ap (λ (l : Row). has l p.key) so ∙ has_join row (lacking row front) p.key ∙ ap (λ b. has row p.key || b) absent ∙ or_false (has row p.key) in
    is ∙ ap (λ b. cond b now (now ++ p ∷ [])) asked ∙ ap (λ (l : Row). cond (has row p.key) l (l ++ p ∷ [])) so ∙ go (has row p.key) front
    ∙ ap (λ (l : Row). row ++ l) (sym (filter-append (λ q. not (has row q.key)) front (p ∷ []))) ∙ ap (λ (l : Row). with_lacking row l) (sym (taken more i p at))
  where
    go : (b : Bool) (front : Row) → cond b (row ++ lacking row front) ((row ++ lacking row front) ++ p ∷ []) ≡ row ++ (lacking row front ++ cond (not b) (p ∷ []) [])
    go true front = ap (λ (l : Row). row ++ l) (sym (append-nil (lacking row front)))
    go false front = append_assoc row (lacking row front) (p ∷ [])

-- a column that is there stays, and a new one comes last
pub lacking_there : (row : Row) (p : Pair) → has row p.key ≡ true → row ≡ (if has row p.key then row else row ++ p ∷ [])
lacking_there row p h = sym (ap (λ b. cond b row (row ++ p ∷ [])) h)

pub lacking_new : (row new : Row) (p : Pair) → has row p.key ≡ false → new ≡ with_column row p → new ≡ (if has row p.key then row else row ++ p ∷ [])
lacking_new row new p h set = set ∙ with_new row p h ∙ sym (ap (λ b. cond b row (row ++ p ∷ [])) h)
