-- A row is read column by column.
use Rattle.std.proofs.Common.{◌≡◌, ◌∙◌, ℕ, ◌<◌, ◌^◌, Bool, true, false, List, [], ◌∷◌, ◌++◌, length, Ok, Err, refl, sym, ap, subst, arith, append_assoc, length-append}
use Rattle.std.specs.Prelude.{nat_le, not, ◌&&◌, ◌==◌}
use Rattle.std.specs.List.{list_all}
use Rattle.std.proofs.lemmas.List.{append-nil}
use Rattle.std.proofs.lemmas.List.Concat.{flat_map-append}
use Rattle.std.proofs.lemmas.Bool.{and_parts, ne_eqb}
use Rattle.std.proofs.lemmas.Bool.Decides.{nat_tests}
use Rattle.tc_base.specs.declared.seq.Pair.{Pair}
use Rattle.tc_base.specs.declared.fields.NotWhole.{NotWhole}
use Rattle.tc_base.specs.Lists.{pair}
use Rattle.tc_base.specs.Reading.{Front, ◌>>=◌, both, bytes_at}
use Rattle.tc_base.specs.Vnum.{vnum, vnum_front, two_front}
use Rattle.tc_base.proofs.Exact.{IsBytes, IsBytes-rest, IsExact, bind_ok, same_whole}
use Rattle.tc_base.proofs.ExactNumbers.{exact_vnum}
use Rattle.tc_base.proofs.ExactFields.{exact_bytes}
use Rattle.tc_base.proofs.ExactPairs.{Is, exact_both}
use Rattle.tc_model.specs.Texts.{not_empty}
use Rattle.tc_model.specs.Rows.{Row, has, is_part, is_column, is_distinct, with_column}
use Rattle.tc_model.specs.Well.{IsRow}
use Rattle.td_row.specs.Spelling.{IsColumn, sizes_bytes, column_bytes, row_bytes, SpellsRow, AtFront, NoneAt, column_at}
use Rattle.td_row.proofs.Columns.{lacks_before, column_within, with_new, row_with}

-- ---- a column

abbrev Size : ℕ → Type 0
Size n = n < 2 ^ 64

abbrev Sizes : ℕ × ℕ → Type 0
Sizes z = (z.0 < 2 ^ 64) × (z.1 < 2 ^ 64)

abbrev spelled : ℕ × ℕ → List ℕ
spelled z = vnum z.0 ++ vnum z.1

exact_both_sizes : IsExact (Is Sizes spelled) (both vnum_front vnum_front)
exact_both_sizes = exact_both Size vnum vnum_front Size vnum vnum_front exact_vnum exact_vnum (0, omega arith)

exact_sizes : IsExact (Is Sizes spelled) two_front
unfolding two_front
exact_sizes = exact_both_sizes

-- its name isn't empty, and its sizes can be written
record Fits (p : Pair) : Type 0 where
  some : 0 < length p.key
  sizes : Sizes (length p.key, length p.value)

column_fits : (p : Pair) → IsColumn p → Fits p
column_fits p h =
    let a = and_parts (not_empty p.key) (is_part p.key && is_part p.value) h in
    let b = and_parts (is_part p.key) (is_part p.value) a.1 in
    let key = (and_parts (nat_le (length p.key) 1048576) _ b.0).0 in
    let value = (and_parts (nat_le (length p.value) 1048576) _ b.1).0 in
    record { some = grind (arith, nat_tests, a.0); sizes = (grind (arith, nat_tests, key), grind (arith, nat_tests, value)) }

grouped : (p : Pair) (rest : List ℕ) → column_bytes p ++ rest ≡ sizes_bytes p ++ (p.key ++ (p.value ++ rest))
grouped p rest = append_assoc (sizes_bytes p) (p.key ++ p.value) rest ∙ ap (λ (l : List ℕ). sizes_bytes p ++ l) (append_assoc p.key p.value rest)

abbrev name_rest : (ℕ × ℕ) × List ℕ → Front Pair
name_rest sizes = bytes_at sizes.0.0 sizes.1 >>= λ name. bytes_at sizes.0.1 name.1 >>= λ value. Ok (pair name.0 value.0, value.1)

abbrev value_rest : ℕ → List ℕ × List ℕ → Front Pair
value_rest n name = bytes_at n name.1 >>= λ value. Ok (pair name.0 value.0, value.1)

abbrev column_rest : List ℕ → List ℕ × List ℕ → Front Pair
column_rest name value = Ok (pair name value.0, value.1)

-- what stands there is read
pub column_again : (bytes : List ℕ) (p : Pair) (rest : List ℕ) → AtFront bytes p rest → column_at bytes ≡ Ok (p, rest)
unfolding column_at
column_again bytes p rest f =
    ap (λ (r : Front (ℕ × ℕ)). r >>= name_rest) (ap two_front (f.is ∙ grouped p rest) ∙ exact_sizes.again (length p.key, length p.value) (sizes_bytes p) (p.key ++ (p.value ++ rest)) ((column_fits p f.column).sizes, refl))
    ∙ ap (λ (r : Front (List ℕ)). r >>= value_rest (length p.value)) ((exact_bytes (length p.key)).again p.key p.key (p.value ++ rest) (refl, refl))
    ∙ ap (λ (r : Front (List ℕ)). r >>= column_rest p.key) ((exact_bytes (length p.value)).again p.value p.value rest (refl, refl))

joined : (bytes back text name behind value : List ℕ) (n v : ℕ) (front : List ℕ) → bytes ≡ front ++ back → front ≡ vnum n ++ vnum v → back ≡ text ++ behind → text ≡ name → length name ≡ n → (tail rest : List ℕ) → behind ≡ tail ++ rest → tail ≡ value → length value ≡ v
    → bytes ≡ column_bytes (pair name value) ++ rest
joined bytes back text name behind value n v front e0 e1 e2 e3 e4 tail rest e5 e6 e7 =
    e0 ∙ ap (λ (l : List ℕ). l ++ back) e1 ∙ ap (λ (m : ℕ). (vnum m ++ vnum v) ++ back) (sym e4) ∙ ap (λ (m : ℕ). (vnum (length name) ++ vnum m) ++ back) (sym e7)
    ∙ ap (λ (l : List ℕ). sizes_bytes (pair name value) ++ l) (e2 ∙ ap (λ (l : List ℕ). l ++ behind) e3 ∙ ap (λ (l : List ℕ). name ++ l) (e5 ∙ ap (λ (l : List ℕ). l ++ rest) e6)) ∙ sym (grouped (pair name value) rest)

-- and what is read stands there
column_found : (bytes : List ℕ) (p : Pair) (rest : List ℕ) → IsBytes bytes → column_at bytes ≡ Ok (p, rest) → bytes ≡ column_bytes p ++ rest
unfolding column_at
column_found bytes p rest fit e =
    let a = bind_ok (two_front bytes) name_rest (p, rest) e in
    let f = exact_sizes.found bytes a.0.0 a.0.1 fit a.1 in
    let fit_a : IsBytes a.0.1 = IsBytes-rest f.0 a.0.1 (subst IsBytes {y = f.0 ++ a.0.1} f.2 fit) in
    let b = bind_ok (bytes_at a.0.0.0 a.0.1) (value_rest a.0.0.1) (p, rest) a.2 in
    let g = (exact_bytes a.0.0.0).found a.0.1 b.0.0 b.0.1 fit_a b.1 in
    let fit_b : IsBytes b.0.1 = IsBytes-rest g.0 b.0.1 (subst IsBytes {y = g.0 ++ b.0.1} g.2 fit_a) in
    let d = bind_ok (bytes_at a.0.0.1 b.0.1) (column_rest b.0.0) (p, rest) b.2 in
    let h = (exact_bytes a.0.0.1).found b.0.1 d.0.0 d.0.1 fit_b d.1 in
    let s = same_whole (pair b.0.0 d.0.0) p d.0.1 rest d.2 in
    joined bytes a.0.1 g.0 b.0.0 b.0.1 d.0.0 a.0.0.0 a.0.0.1 f.0 f.2 f.1.1 g.2 g.1.1 g.1.0 h.0 d.0.1 h.2 h.1.1 h.1.0 ∙ (λ i. column_bytes (s.0 i) ++ s.1 i)

pub at_front : (bytes : List ℕ) (p : Pair) (rest : List ℕ) → IsBytes bytes → column_at bytes ≡ Ok (p, rest) → IsColumn p → AtFront bytes p rest
at_front bytes p rest fit e h = record { column = h; is = column_found bytes p rest fit e }

pub none_read : (bytes : List ℕ) (e : NotWhole) → column_at bytes ≡ Err e → NoneAt bytes
none_read bytes e is p rest f = let bad = sym (column_again bytes p rest f) ∙ is in absurd cc

pub none_fits : (bytes : List ℕ) (q : Pair) (rest : List ℕ) → column_at bytes ≡ Ok (q, rest) → is_column q ≡ false → NoneAt bytes
none_fits bytes q rest read no_column p more f =
    let same = same_whole q p rest more (sym read ∙ column_again bytes p more f) in
    let bad : true ≡ false = sym f.column ∙ ap is_column (sym same.0) ∙ no_column in
    absurd cc

-- bytes begin with one column at most
same_front : (bytes : List ℕ) (p q : Pair) (rest more : List ℕ) → AtFront bytes p rest → AtFront bytes q more → (p ≡ q) × (rest ≡ more)
same_front bytes p q rest more f g = same_whole p q rest more (sym (column_again bytes p rest f) ∙ column_again bytes q more g)

-- a column has a byte
pub shorter : (bytes : List ℕ) (p : Pair) (rest : List ℕ) → AtFront bytes p rest → length rest < length bytes
shorter bytes p rest f =
    omega (arith, ap length f.is, length-append (column_bytes p) rest, length-append (sizes_bytes p) (p.key ++ p.value), length-append p.key p.value, (column_fits p f.column).some)

-- ---- how far a row is read

-- these columns were read, and whatever row the bytes are begins with them
pub record Progress (bytes : List ℕ) (row : Row) (rest : List ℕ) : Type 0 where
  pub done : bytes ≡ row_bytes row ++ rest
  pub is_row : IsRow row
  pub only : (all : Row) → SpellsRow bytes all → (more : Row) × (all ≡ row ++ more) × (rest ≡ row_bytes more)

pub progress_start : (bytes : List ℕ) → Progress bytes [] bytes
progress_start bytes = record { done = refl; is_row = record { columns = refl; distinct = refl }; only = λ all s. (all, refl, s.is) }

-- the row goes on with this column
record GoesOn (row all : Row) (rest : List ℕ) : Type 0 where
  next : Pair
  more : Row
  is : all ≡ row ++ next ∷ more
  front : AtFront rest next (row_bytes more)

goes_on : (bytes : List ℕ) (row : Row) (rest : List ℕ) → 0 < length rest → Progress bytes row rest → (all : Row) → SpellsRow bytes all → GoesOn row all rest
goes_on bytes row rest some h all s = let l = h.only all s in go l.0 l.1 l.2
  where
    go : (more : Row) → all ≡ row ++ more → rest ≡ row_bytes more → GoesOn row all rest
    go [] e r = absurd (omega (arith, some, ap length r))
    go (q ∷ more) e r = record { next = q; more = more; is = e; front = record { column = column_within row q more (subst (λ (x : Row). list_all is_column x ≡ true) e s.is_row.columns); is = r } }

bytes_with : (row : Row) (p : Pair) → row_bytes (row ++ p ∷ []) ≡ row_bytes row ++ column_bytes p
bytes_with row p = flat_map-append column_bytes row (p ∷ []) ∙ ap (λ (l : List ℕ). row_bytes row ++ l) (append-nil (column_bytes p))

pub progress_step : (bytes : List ℕ) (row new : Row) (rest : List ℕ) (p : Pair) (behind : List ℕ) → Progress bytes row rest → AtFront rest p behind → new ≡ row ++ p ∷ [] → IsRow new → Progress bytes new behind
progress_step bytes row new rest p behind h f e r = record {
  done = h.done ∙ ap (λ (l : List ℕ). row_bytes row ++ l) f.is ∙ sym (append_assoc (row_bytes row) (column_bytes p) behind) ∙ ap (λ (l : List ℕ). l ++ behind) (sym (bytes_with row p) ∙ ap row_bytes (sym e));
  is_row = r;
  only = λ all s.
      let g = goes_on bytes row rest (omega (arith, shorter rest p behind f)) h all s in
      let same = same_front rest p g.next behind (row_bytes g.more) f g.front in
      (g.more, g.is ∙ ap (λ (q : Pair). row ++ q ∷ g.more) (sym same.0) ∙ sym (append_assoc row (p ∷ []) g.more) ∙ ap (λ (x : Row). x ++ g.more) (sym e), same.1);
}

-- no column stands there
pub stopped : (bytes : List ℕ) (row : Row) (rest : List ℕ) → 0 < length rest → Progress bytes row rest → NoneAt rest → (all : Row) → SpellsRow bytes all → ⊥
stopped bytes row rest some h none all s = let g = goes_on bytes row rest some h all s in none g.next (row_bytes g.more) g.front

-- one stands there whose name was read
pub repeated : (bytes : List ℕ) (row : Row) (rest : List ℕ) (p : Pair) (behind : List ℕ) → Progress bytes row rest → AtFront rest p behind → has row p.key ≡ true → (all : Row) → SpellsRow bytes all → ⊥
repeated bytes row rest p behind h f there all s =
    let g = goes_on bytes row rest (omega (arith, shorter rest p behind f)) h all s in
    let same = same_front rest p g.next behind (row_bytes g.more) f g.front in
    let absent = lacks_before row g.next g.more (subst (λ (x : Row). is_distinct x ≡ true) g.is s.is_row.distinct) in
    let bad : true ≡ false = sym there ∙ ap (λ (q : Pair). has row q.key) same.0 ∙ absent in
    absurd cc

pub ended : (bytes : List ℕ) (row : Row) → Progress bytes row [] → SpellsRow bytes row
ended bytes row h = record { is_row = h.is_row; is = h.done ∙ append-nil (row_bytes row) }

pub ended_only : (bytes : List ℕ) (row : Row) → Progress bytes row [] → (all : Row) → SpellsRow bytes all → all ≡ row
ended_only bytes row h all s = let l = h.only all s in go l.0 l.1 l.2
  where
    go : (more : Row) → all ≡ row ++ more → [] ≡ row_bytes more → all ≡ row
    go [] e r = e ∙ append-nil row
    go (q ∷ more) e r =
        let f : AtFront [] q (row_bytes more) = record { column = column_within row q more (subst (λ (x : Row). list_all is_column x ≡ true) e s.is_row.columns); is = r } in
        absurd (omega (arith, shorter [] q (row_bytes more) f))

-- ---- as the loop has it

pub none_left : (rest : List ℕ) → true ≡ (length rest == 0) → rest ≡ []
none_left [] e = refl
none_left (x ∷ rest) e = let f : (length (x ∷ rest) == 0) ≡ false = ne_eqb (length (x ∷ rest)) 0 (λ z. omega (arith, z)) in let bad = e ∙ f in absurd cc

pub some_left : (rest : List ℕ) → false ≡ (length rest == 0) → 0 < length rest
some_left [] e = absurd cc
some_left (x ∷ rest) e = omega arith

pub is_absent : (b new : Bool) → new ≡ not b → new ≡ true → b ≡ false
is_absent true new e f = let bad = sym f ∙ e in absurd cc
is_absent false new e f = refl

pub is_there : (b new : Bool) → new ≡ not b → new ≡ false → b ≡ true
is_there true new e f = refl
is_there false new e f = let bad = sym f ∙ e in absurd cc

-- a column was put
pub progress_put : (bytes : List ℕ) (row new : Row) (rest : List ℕ) (p : Pair) (behind : List ℕ) → Progress bytes row rest → AtFront rest p behind → new ≡ with_column row p → has row p.key ≡ false → Progress bytes new behind
progress_put bytes row new rest p behind h f set absent = progress_step bytes row new rest p behind h f (set ∙ with_new row p absent) (subst IsRow (sym set) (row_with row p h.is_row f.column))
