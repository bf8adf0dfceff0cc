-- Rows stay rows.
use Rattle.std.proofs.Common.{◌≡◌, ℕ, Bool, true, false, cond, List, [], ◌∷◌, ◌++◌, map, refl, sym, ap, ◌∙◌}
use Rattle.std.specs.Prelude.{◌&&◌, ◌||◌, not, filter, find, fold, Option, Some, None, option_map, is_some}
use Rattle.std.specs.List.{list_all}
use Rattle.std.specs.Cmp.Lexicographic.{same_text, other_text}
use Rattle.tc_base.specs.declared.seq.Pair.{Pair}
use Rattle.tc_base.specs.Texts.{is_text}
use Rattle.tc_base.specs.Lists.{pair}
use Rattle.tc_model.specs.Rows.{Row, has, is_part, is_column, is_distinct, with_column, row_of, row_of_call, row_of_text, pairs_of, with_lacking}
use Rattle.tc_model.specs.Texts.{not_empty, parts}
use Rattle.tc_model.specs.Well.{IsRow}

both_parts : (a b : Bool) → (a && b) ≡ true → (a ≡ true) × (b ≡ true)
both_parts true b e = (refl, e)
both_parts false b e = absurd cc

joined : (a b : Bool) → a ≡ true → b ≡ true → (a && b) ≡ true
joined true b e f = f
joined false b e f = absurd cc

not_is : (a : Bool) → not a ≡ true → a ≡ false
not_is true e = absurd cc
not_is false e = refl

is_not : (a : Bool) → a ≡ false → not a ≡ true
is_not true e = absurd cc
is_not false e = refl

-- a text test goes both ways
swapped_false : (x y : List ℕ) → is_text x y ≡ false → is_text y x ≡ false
swapped_false x y e = go (is_text y x) refl
  where
    go : (b : Bool) → b ≡ is_text y x → is_text y x ≡ false
    go false t = sym t
    go true t = absurd (other_text x y (sym e) (sym (same_text y x t)))

-- ---- the columns of two lists

has_head : (p : Pair) (ps : Row) (name : List ℕ) → has (p ∷ ps) name ≡ (is_text p.key name || has ps name)
has_head p ps name = go (is_text p.key name)
  where
    go : (b : Bool) → is_some (option_map (λ (q : Pair). q.value) (cond b (Some p) (find (λ q. is_text q.key name) ps))) ≡ (b || has ps name)
    go true = refl
    go false = refl

either_not : (a b : Bool) → (a || b) ≡ false → (a ≡ false) × (b ≡ false)
either_not true b e = absurd cc
either_not false b e = (refl, e)

has_join : (xs ys : Row) (name : List ℕ) → has xs name ≡ false → has ys name ≡ false → has (xs ++ ys) name ≡ false
has_join [] ys name h k = k
has_join (x ∷ xs) ys name h k =
    let parts = either_not (is_text x.key name) (has xs name) (sym (has_head x xs name) ∙ h) in
    has_head x (xs ++ ys) name ∙ ap (λ b. b || has (xs ++ ys) name) parts.0 ∙ has_join xs ys name parts.1 k

-- none of the names of ys is one of xs
abbrev Apart : Row → Row → Type 0
Apart xs [] = Unit {0}
Apart xs (y ∷ ys) = (has xs y.key ≡ false) × Apart xs ys

apart_tail : (x : Pair) (xs ys : Row) → Apart (x ∷ xs) ys → (has ys x.key ≡ false) × Apart xs ys
apart_tail x xs [] h = (refl, tt)
apart_tail x xs (y ∷ ys) h =
    let parts = either_not (is_text x.key y.key) (has xs y.key) (sym (has_head x xs y.key) ∙ h.0) in
    let rest = apart_tail x xs ys h.1 in
    (has_head y ys x.key ∙ ap (λ b. b || has ys x.key) (swapped_false x.key y.key parts.0) ∙ rest.0, (parts.1, rest.1))

distinct_join : (xs ys : Row) → is_distinct xs ≡ true → is_distinct ys ≡ true → Apart xs ys → is_distinct (xs ++ ys) ≡ true
distinct_join [] ys d e a = e
distinct_join (x ∷ xs) ys d e a =
    let parts = both_parts (not (has xs x.key)) (is_distinct xs) d in
    let rest = apart_tail x xs ys a in
    joined (not (has (xs ++ ys) x.key)) (is_distinct (xs ++ ys)) (is_not _ (has_join xs ys x.key (not_is _ parts.0) rest.0)) (distinct_join xs ys parts.1 e rest.1)

all_join : (xs ys : Row) → list_all is_column xs ≡ true → list_all is_column ys ≡ true → list_all is_column (xs ++ ys) ≡ true
all_join [] ys h k = k
all_join (x ∷ xs) ys h k = let parts = both_parts (is_column x) (list_all is_column xs) h in joined (is_column x) (list_all is_column (xs ++ ys)) parts.0 (all_join xs ys parts.1 k)

-- ---- a column gets another value

abbrev given : Pair → Pair → Pair
given p q = cond (is_text q.key p.key) (pair q.key p.value) q

key_given : (p q : Pair) → (given p q).key ≡ q.key
key_given p q = go (is_text q.key p.key)
  where
    go : (b : Bool) → (cond b (pair q.key p.value) q).key ≡ q.key
    go true = refl
    go false = refl

has_given : (p : Pair) (row : Row) (name : List ℕ) → has (map (given p) row) name ≡ has row name
has_given p [] name = refl
has_given p (q ∷ row) name =
    has_head (given p q) (map (given p) row) name ∙ ap (λ k. is_text k name || has (map (given p) row) name) (key_given p q) ∙ ap (λ b. is_text q.key name || b) (has_given p row name) ∙ sym (has_head q row name)

distinct_given : (p : Pair) (row : Row) → is_distinct row ≡ true → is_distinct (map (given p) row) ≡ true
distinct_given p [] d = refl
distinct_given p (q ∷ row) d =
    let parts = both_parts (not (has row q.key)) (is_distinct row) d in
    joined (not (has (map (given p) row) (given p q).key)) (is_distinct (map (given p) row))
    (ap (λ k. not (has (map (given p) row) k)) (key_given p q) ∙ ap not (has_given p row q.key) ∙ parts.0) (distinct_given p row parts.1)

column_given : (p q : Pair) → is_column p ≡ true → is_column q ≡ true → is_column (given p q) ≡ true
column_given p q h k = go (is_text q.key p.key)
  where
    value : is_part p.value ≡ true
    value = (both_parts (is_part p.key) (is_part p.value) (both_parts (not_empty p.key) (is_part p.key && is_part p.value) h).1).1

    name : (not_empty q.key ≡ true) × (is_part q.key ≡ true)
    name = let a = both_parts (not_empty q.key) (is_part q.key && is_part q.value) k in (a.0, (both_parts (is_part q.key) (is_part q.value) a.1).0)

    go : (b : Bool) → is_column (cond b (pair q.key p.value) q) ≡ true
    go true = joined (not_empty q.key) (is_part q.key && is_part p.value) name.0 (joined (is_part q.key) (is_part p.value) name.1 value)
    go false = k

columns_given : (p : Pair) (row : Row) → is_column p ≡ true → list_all is_column row ≡ true → list_all is_column (map (given p) row) ≡ true
columns_given p [] h k = refl
columns_given p (q ∷ row) h k = let parts = both_parts (is_column q) (list_all is_column row) k in joined (is_column (given p q)) (list_all is_column (map (given p) row)) (column_given p q h parts.0) (columns_given p row h parts.1)

-- ---- rows

with_column_row : (row : Row) (p : Pair) → IsRow row → is_column p ≡ true → IsRow (with_column row p)
with_column_row row p r h = go (has row p.key) refl
  where
    go : (b : Bool) → has row p.key ≡ b → IsRow (cond b (map (given p) row) (row ++ p ∷ []))
    go true e = record { columns = columns_given p row h r.columns; distinct = distinct_given p row r.distinct }
    go false e = record { columns = all_join row (p ∷ []) r.columns (joined (is_column p) true h refl); distinct = distinct_join row (p ∷ []) r.distinct refl (e, tt) }

fold_row : (columns : List Pair) (row : Row) → IsRow row → list_all is_column columns ≡ true → IsRow (fold with_column row columns)
fold_row [] row r h = r
fold_row (p ∷ ps) row r h = let parts = both_parts (is_column p) (list_all is_column ps) h in fold_row ps (with_column row p) (with_column_row row p r parts.0) parts.1

-- a row, if there is one
abbrev pub MayBeRow : Option Row → Type 0
MayBeRow None = Unit {0}
MayBeRow (Some row) = IsRow row

pub row_of_row : (columns : List Pair) → MayBeRow (row_of columns)
row_of_row columns = go (list_all is_column columns) refl
  where
    go : (b : Bool) → list_all is_column columns ≡ b → MayBeRow (cond b (Some (fold with_column [] columns)) None)
    go true e = fold_row columns [] (record { columns = refl; distinct = refl }) e
    go false e = tt

pub row_of_text_row : (text : List ℕ) → MayBeRow (row_of_text text)
row_of_text_row text = row_of_row (pairs_of (parts text))

pub row_of_call_row : (columns : List Pair) → MayBeRow (row_of_call columns)
row_of_call_row columns = go (is_distinct columns)
  where
    go : (b : Bool) → MayBeRow (cond b (row_of columns) None)
    go true = row_of_row columns
    go false = tt

-- what the row lacks of another is apart from it
lacking_apart : (row more : Row) → Apart row (filter (λ p. not (has row p.key)) more)
lacking_apart row [] = tt
lacking_apart row (p ∷ ps) = go (has row p.key) refl (lacking_apart row ps)
  where
    go : (b : Bool) → has row p.key ≡ b → Apart row (filter (λ q. not (has row q.key)) ps) → Apart row (cond (not b) (p ∷ filter (λ q. not (has row q.key)) ps) (filter (λ q. not (has row q.key)) ps))
    go true e a = a
    go false e a = (e, a)

filter_all : (test : Pair → Bool) (ps : Row) → list_all is_column ps ≡ true → list_all is_column (filter test ps) ≡ true
filter_all test [] h = refl
filter_all test (p ∷ ps) h = let parts = both_parts (is_column p) (list_all is_column ps) h in go (test p) parts.0 (filter_all test ps parts.1)
  where
    go : (b : Bool) → is_column p ≡ true → list_all is_column (filter test ps) ≡ true → list_all is_column (cond b (p ∷ filter test ps) (filter test ps)) ≡ true
    go true c k = joined (is_column p) (list_all is_column (filter test ps)) c k
    go false c k = k

has_filter : (test : Pair → Bool) (ps : Row) (name : List ℕ) → has ps name ≡ false → has (filter test ps) name ≡ false
has_filter test [] name h = refl
has_filter test (p ∷ ps) name h = let parts = either_not (is_text p.key name) (has ps name) (sym (has_head p ps name) ∙ h) in go (test p) parts.0 (has_filter test ps name parts.1)
  where
    go : (b : Bool) → is_text p.key name ≡ false → has (filter test ps) name ≡ false → has (cond b (p ∷ filter test ps) (filter test ps)) name ≡ false
    go true c k = has_head p (filter test ps) name ∙ ap (λ b. b || has (filter test ps) name) c ∙ k
    go false c k = k

filter_distinct : (test : Pair → Bool) (ps : Row) → is_distinct ps ≡ true → is_distinct (filter test ps) ≡ true
filter_distinct test [] d = refl
filter_distinct test (p ∷ ps) d = let parts = both_parts (not (has ps p.key)) (is_distinct ps) d in go (test p) (has_filter test ps p.key (not_is _ parts.0)) (filter_distinct test ps parts.1)
  where
    go : (b : Bool) → has (filter test ps) p.key ≡ false → is_distinct (filter test ps) ≡ true → is_distinct (cond b (p ∷ filter test ps) (filter test ps)) ≡ true
    go true h k = joined (not (has (filter test ps) p.key)) (is_distinct (filter test ps)) (is_not _ h) k
    go false h k = k

pub with_lacking_row : (row more : Row) → IsRow row → IsRow more → IsRow (with_lacking row more)
with_lacking_row row more r m =
    let test = λ (p : Pair). not (has row p.key) in
    record {
      columns = all_join row (filter test more) r.columns (filter_all test more m.columns);
      distinct = distinct_join row (filter test more) r.distinct (filter_distinct test more m.distinct) (lacking_apart row more);
    }
