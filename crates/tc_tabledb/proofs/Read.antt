-- What was read of the rows of a table.
use Rattle.std.proofs.Common.{◌≡◌, ◌∙◌, ℕ, ◌+◌, ◌<◌, ◌≤◌, Bool, true, false, cond, List, [], ◌∷◌, ◌++◌, length, take, map, get_or, Option, Some, None, refl, sym, ap, subst, ⊎_elim, arith}
use Rattle.std.specs.Prelude.{IfSome, slice_get, sum_by}
use Rattle.std.specs.Ordering.{is_lt}
use Rattle.std.specs.FinMap.{entries, entries_sorted, find, get, get-entries, is_sorted, keys}
use Rattle.std.specs.FinMap.Entries.{below_all}
use Rattle.std.proofs.lemmas.Bool.{and_parts}
use Rattle.std.proofs.lemmas.Grind.{flat_map-append}
use Rattle.std.proofs.lemmas.List.{take_all}
use Rattle.std.proofs.lemmas.List.Sums.{sum_by-append, sum_by-cons}
use Rattle.tc_base.specs.Lists.{pair}
use Rattle.tc_base.specs.declared.seq.Pair.{Pair}
use Rattle.td_row.proofs.Written.{taken}
use Rattle.std.specs.Cmp.Lexicographic.{texts_ties}
use Rattle.tc_base.specs.Texts.{is_text}
use Rattle.tc_engine.specs.Rows.{Adds, adds_then, item_row}
use Rattle.tc_engine.specs.declared.rows.Rows.{Rows as Gathering}
use Rattle.tc_model.specs.Contents.{Rows}
use Rattle.tc_model.specs.Rows.{Row, texts_of}
use Rattle.tc_model.specs.Stores.{bytes_of}
use Rattle.td_index.proofs.Counting.{either, clash, text_is, text_refl}
use Rattle.td_index.proofs.Listed.{up_to}
use Rattle.tc_table.proofs.Finding.{R, is_true, not_same}
use Rattle.tc_tabledb.specs.Reading.{bytes_at, row_bytes, size_of_rows, sized_under}

-- ---- columns

texts_more : (row : Row) (i : ℕ) (p : Pair) → slice_get row i ≡ Some p → texts_of (take (i + 1) row) ≡ texts_of (take i row) ++ p.key ∷ p.value ∷ []
texts_more row i p at = ap texts_of (taken row i p at) ∙ flat_map-append (λ (q : Pair). q.key ∷ q.value ∷ []) (take i row) (p ∷ [])

map_two : (xs ys : List (List ℕ)) → map item_row (xs ++ ys) ≡ map item_row xs ++ map item_row ys
map_two [] ys = refl
map_two (x ∷ xs) ys = ap (λ (l : List (List ℕ)). item_row x ∷ l) (map_two xs ys)

pub column_added : (a b c : Gathering) (row : Row) (i : ℕ) (name value : List ℕ) → slice_get row i ≡ Some (pair name value) → Adds a b (map item_row (texts_of (take i row))) → Adds b c (item_row name ∷ item_row value ∷ []) → Adds a c (map item_row (texts_of (take (i + 1) row)))
column_added a b c row i name value at so added =
    subst (λ (l : List (List ℕ)). Adds a c l) (sym (ap (map item_row) (texts_more row i (pair name value) at) ∙ map_two (texts_of (take i row)) (name ∷ value ∷ [])))
    (adds_then a b c (map item_row (texts_of (take i row))) (item_row name ∷ item_row value ∷ []) so added)

pub columns_added : (a b : Gathering) (row : Row) (i : ℕ) → length row ≤ i → Adds a b (map item_row (texts_of (take i row))) → Adds a b (map item_row (texts_of row))
columns_added a b row i all so = subst (λ (r : Row). Adds a b (map item_row (texts_of r))) (take_all i row all) so

pub column_sized : (row : Row) (i total more : ℕ) (name value : List ℕ) → slice_get row i ≡ Some (pair name value) → total ≡ bytes_of (texts_of (take i row)) → more ≡ total + length name + length value → more ≡ bytes_of (texts_of (take (i + 1) row))
column_sized row i total more name value at so is =
    let whole : bytes_of (texts_of (take (i + 1) row)) ≡ bytes_of (texts_of (take i row)) + bytes_of (name ∷ value ∷ []) = ap bytes_of (texts_more row i (pair name value) at) ∙ sum_by-append length (texts_of (take i row)) (name ∷ value ∷ []) in
    let first : bytes_of (name ∷ value ∷ []) ≡ length name + bytes_of (value ∷ []) = sum_by-cons length name (value ∷ []) in
    let second : bytes_of (value ∷ []) ≡ length value + bytes_of [] = sum_by-cons length value [] in
    let none : bytes_of [] ≡ 0 = refl in
    omega (arith, whole, first, second, none, so, is)

pub row_sized : (row : Row) (i total : ℕ) → length row ≤ i → total ≡ bytes_of (texts_of (take i row)) → total ≡ bytes_of (texts_of row)
row_sized row i total all so = so ∙ ap (λ (r : Row). bytes_of (texts_of r)) (take_all i row all)

-- ---- all rows

pub none_under : (rows : Rows) → 0 ≡ sized_under rows []
none_under rows = refl

pub one_under : (rows : Rows) (ks : List (List ℕ)) (i total sum size : ℕ) (k at : List ℕ) → i < length ks → k ≡ get_or ks i k → at ≡ k → total ≡ sized_under rows (take i ks) → sum ≡ total + length at + size → size ≡ bytes_at rows at → sum ≡ sized_under rows (take (i + 1) ks)
one_under rows ks i total sum size k at less is same so added sized =
    let f : List ℕ → ℕ = λ x. length x + bytes_at rows x in
    let whole : sized_under rows (take (i + 1) ks) ≡ sized_under rows (take i ks) + sum_by f (at ∷ []) = ap (sized_under rows) (up_to ks i k at less is same) ∙ sum_by-append f (take i ks) (at ∷ []) in
    let one : sum_by f (at ∷ []) ≡ f at + sum_by f [] = sum_by-cons f at [] in
    let none : sum_by f [] ≡ 0 = refl in
    omega (arith, whole, one, none, so, added, sized)

pub some_under : (o : Option ℕ) (n m : ℕ) → o ≡ Some n → IfSome o (λ x. x ≡ m) → n ≡ m
some_under o n m is so = subst (λ (p : Option ℕ). IfSome p (λ x. x ≡ m)) is so

pub all_under : (rows : Rows) (ks : List (List ℕ)) (i total : ℕ) → length ks ≤ i → total ≡ sized_under rows (take i ks) → total ≡ sized_under rows ks
all_under rows ks i total all so = so ∙ ap (sized_under rows) (take_all i ks all)

-- ---- keys and entries

abbrev Entry : Type 0
Entry = List ℕ × Row

-- a function gives each of these what it has
abbrev AllGot : (List ℕ → Option Row) → List Entry → Type 0
AllGot g [] = Unit {0}
AllGot g (e ∷ es) = (g e.0 ≡ Some e.1) × AllGot g es

other_text : (x y : List ℕ) → is_text y x ≡ false → is_text x y ≡ false
other_text x y other = ⊎_elim
    (λ (same : is_text x y ≡ true). clash (is_text y x) (ap (λ (l : List ℕ). is_text y l) (text_is x y same) ∙ text_refl y) other)
    (λ (apart : is_text x y ≡ false). apart)
    (either (is_text x y))

still_got : (e : Entry) (xs es : List Entry) → below_all R e.0 xs ≡ true → AllGot (λ k. find R k es) xs → AllGot (λ k. find R k (e ∷ es)) xs
still_got e [] es below got = tt
still_got e (f ∷ fs) es below got =
    let both = and_parts (is_lt (R e.0 f.0)) (below_all R e.0 fs) below in (
      ap (λ (t : Bool). cond t (Some e.1) (find R f.0 es)) (sym (texts_ties f.0 e.0) ∙ other_text f.0 e.0 (not_same e.0 f.0 both.0)) ∙ got.0,
      still_got e fs es both.1 got.1,
    )

got_all : (es : List Entry) → is_sorted R es ≡ true → AllGot (λ k. find R k es) es
got_all [] sorted = tt
got_all (e ∷ es) sorted =
    let both = and_parts (below_all R e.0 es) (is_sorted R es) sorted in
    (ap (λ (t : Bool). cond t (Some e.1) (find R e.0 es)) (sym (texts_ties e.0 e.0) ∙ text_refl e.0), still_got e es es both.0 (got_all es both.1))

got_as : (g h : List ℕ → Option Row) (es : List Entry) → ((k : List ℕ) → g k ≡ h k) → AllGot h es → AllGot g es
got_as g h [] same got = tt
got_as g h (e ∷ es) same got = (same e.0 ∙ got.0, got_as g h es same got.1)

sums : (g : List ℕ → Option Row) (es : List Entry) → AllGot g es → sum_by (λ k. length k + row_bytes (g k)) (map (λ e. e.0) es) ≡ sum_by (λ e. length e.0 + bytes_of (texts_of e.1)) es
sums g [] got = refl
sums g (e ∷ es) got =
    let left = sum_by-cons (λ (k : List ℕ). length k + row_bytes (g k)) e.0 (map (λ e. e.0) es) in
    let right = sum_by-cons (λ (x : Entry). length x.0 + bytes_of (texts_of x.1)) e es in
    let one : row_bytes (g e.0) ≡ bytes_of (texts_of e.1) = ap row_bytes got.0 in
    omega (arith, left, right, one, sums g es got.1)

all_sized : (rows : Rows) → sized_under rows (keys rows) ≡ size_of_rows rows
all_sized rows = sums (get rows) (entries rows) (got_as (get rows) (λ k. find R k (entries rows)) (entries rows) (λ k. get-entries rows k) (got_all (entries rows) (is_true (is_sorted R (entries rows)) (entries_sorted rows))))

pub rows_sized : (rows : Rows) (ks all : List (List ℕ)) (total : ℕ) → all ≡ ks → ks ≡ keys rows → total ≡ sized_under rows all → total ≡ size_of_rows rows
rows_sized rows ks all total same are so = so ∙ (ap (sized_under rows) (same ∙ are) ∙ all_sized rows)

pub sized_some : (o : Option ℕ) (n : ℕ) (row : Row) → o ≡ Some n → IfSome o (λ m. m ≡ bytes_of (texts_of row)) → n ≡ row_bytes (Some row)
sized_some o n row is so = subst (λ (x : Option ℕ). IfSome x (λ m. m ≡ bytes_of (texts_of row))) is so
