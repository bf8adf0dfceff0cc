-- A row is written column by column.
use Rattle.std.proofs.Common.{◌≡◌, ◌∙◌, ℕ, zero, suc, ◌+◌, ◌<◌, List, [], ◌∷◌, ◌++◌, length, take, sym, ap, arith, append_assoc}
use Rattle.std.specs.Prelude.{Option, Some, None, slice_get}
use Rattle.std.specs.List.{flat_map}
use Rattle.std.proofs.lemmas.List.{append-nil, take_more, flat_map_more}
use Rattle.std.proofs.lemmas.List.Concat.{flat_map-append}
use Rattle.std.proofs.lemmas.Option.{slice_get_within, get_or_from_slice_get, same_Some}
use Rattle.tc_base.specs.declared.seq.Pair.{Pair}
use Rattle.tc_base.specs.Lists.{pair}
use Rattle.tc_base.specs.Vnum.{vnum}
use Rattle.tc_model.specs.Rows.{Row, row_text}
use Rattle.td_row.specs.Spelling.{column_bytes, row_bytes}

pub taken : (row : Row) (i : ℕ) (p : Pair) → slice_get row i ≡ Some p → take (i + 1) row ≡ take i row ++ p ∷ []
taken row i p at = take_more row i p (slice_get_within row i p at) ∙ ap (λ (q : Pair). take i row ++ q ∷ []) (get_or_from_slice_get row i p p at)

-- ---- bytes

pub column_written : (old a b c d name value : List ℕ) → a ≡ old ++ vnum (length name) → b ≡ a ++ vnum (length value) → c ≡ b ++ name → d ≡ c ++ value → d ≡ old ++ column_bytes (pair name value)
column_written old a b c d name value e f g h =
    let x : List ℕ = vnum (length name) in
    let y : List ℕ = vnum (length value) in
    h ∙ ap (λ (l : List ℕ). l ++ value) (g ∙ ap (λ (l : List ℕ). l ++ name) (f ∙ ap (λ (l : List ℕ). l ++ y) e)) ∙ append_assoc ((old ++ x) ++ y) name value ∙ ap (λ (l : List ℕ). l ++ (name ++ value)) (append_assoc old x y)
    ∙ append_assoc old (x ++ y) (name ++ value)

pub row_written : (old into new : List ℕ) (row : Row) (i : ℕ) (p : Pair) → slice_get row i ≡ Some p → into ≡ old ++ row_bytes (take i row) → new ≡ into ++ column_bytes p → new ≡ old ++ row_bytes (take (i + 1) row)
row_written old into new row i p at so added =
    added ∙ ap (λ (l : List ℕ). l ++ column_bytes p) so ∙ flat_map_more column_bytes old (take i row) p ∙ ap (λ (r : Row). old ++ row_bytes r) (sym (taken row i p at))

-- ---- text

abbrev pair_text : Pair → List ℕ
pair_text p = p.key ++ 0 ∷ p.value

-- a column behind others
abbrev next_text : Pair → List ℕ
next_text p = 0 ∷ pair_text p

text_is : (q : Pair) (row : Row) → row_text (q ∷ row) ≡ pair_text q ++ flat_map next_text row
text_is q [] = sym (append-nil (pair_text q))
text_is q (r ∷ row) = ap (λ (l : List ℕ). q.key ++ 0 ∷ (q.value ++ 0 ∷ l)) (text_is r row) ∙ sym (append_assoc q.key (0 ∷ q.value) (0 ∷ (pair_text r ++ flat_map next_text row)))

text_with : (q : Pair) (row : Row) (p : Pair) → row_text (q ∷ (row ++ p ∷ [])) ≡ row_text (q ∷ row) ++ next_text p
text_with q row p =
    text_is q (row ++ p ∷ []) ∙ ap (λ (l : List ℕ). pair_text q ++ l) (flat_map-append next_text row (p ∷ []) ∙ ap (λ (l : List ℕ). flat_map next_text row ++ l) (append-nil (next_text p)))
    ∙ sym (append_assoc (pair_text q) (flat_map next_text row) (next_text p)) ∙ ap (λ (l : List ℕ). l ++ next_text p) (sym (text_is q row))

text_next : (row : Row) (i : ℕ) (p : Pair) → 0 < i → slice_get row i ≡ Some p → row_text (take (i + 1) row) ≡ row_text (take i row) ++ next_text p
text_next [] i p some at = absurd (let bad : ◌≡◌ {A = Option Pair} None (Some p) = at in cc)
text_next (q ∷ row) zero p some at = absurd (omega (arith, some))
text_next (q ∷ row) (suc j) p some at = ap row_text (taken (q ∷ row) (suc j) p at) ∙ text_with q (take j row) p

-- the first column
pub first_written : (old new name value : List ℕ) (row : Row) → slice_get row 0 ≡ Some (pair name value) → new ≡ old ++ (name ++ 0 ∷ value) → new ≡ old ++ row_text (take 1 row)
first_written old new name value [] at added = absurd (let bad : ◌≡◌ {A = Option Pair} None (Some (pair name value)) = at in cc)
first_written old new name value (q ∷ row) at added = added ∙ ap (λ (p : Pair). old ++ pair_text p) (sym (same_Some q (pair name value) at))

-- and those behind it
pub text_written : (old into mid new name value : List ℕ) (row : Row) (i : ℕ) → 0 < i → slice_get row i ≡ Some (pair name value) → into ≡ old ++ row_text (take i row) → mid ≡ into ++ 0 ∷ [] → new ≡ mid ++ (name ++ 0 ∷ value)
    → new ≡ old ++ row_text (take (i + 1) row)
text_written old into mid new name value row i some at so zero_added added =
    let p : Pair = pair name value in
    added ∙ ap (λ (l : List ℕ). l ++ pair_text p) zero_added ∙ append_assoc into (0 ∷ []) (pair_text p) ∙ ap (λ (l : List ℕ). l ++ next_text p) so ∙ append_assoc old (row_text (take i row)) (next_text p)
    ∙ ap (λ (l : List ℕ). old ++ l) (sym (text_next row i p some at))
