-- The parts of a text, looked for from the front.
use Rattle.std.proofs.Common.{◌≡◌, ◌∙◌, ℕ, ◌+◌, ◌<◌, Bool, true, false, cond, List, [], ◌∷◌, length, take, drop, get_or, sym, ap, arith}
use Rattle.std.specs.Prelude.{◌&&◌, ◌==◌, fold, Option, Some, None, Result, Err, IsErrOf, IsErrAnd, if◌then◌else◌}
use Rattle.std.specs.List.{list_all}
use Rattle.std.proofs.lemmas.Bool.{ne_eqb, eq-eqb}
use Rattle.std.proofs.lemmas.Result.{err_from_is_err_and}
use Rattle.std.proofs.lemmas.List.{get_or_default}
use Rattle.std.proofs.lemmas.List.Splits.{slice_split_first, slice_split_none}
use Rattle.std.proofs.lemmas.List.Sums.{position_or_len_is}
use Rattle.tc_base.specs.declared.seq.Pair.{Pair}
use Rattle.tc_base.specs.Lists.{pair}
use Rattle.tc_model.specs.Texts.{parts}
use Rattle.tc_model.specs.Rows.{Row, is_column, with_column, pairs_of}

abbrev is_zero : ℕ → Bool
is_zero b = b == 0

-- no zero byte stands in front of that place
abbrev pub NoneBefore : List ℕ → ℕ → Type 0
NoneBefore text i = (k : ℕ) → k < i → get_or text k 0 ≡ 0 → ⊥

pub part_at : (text : List ℕ) (i : ℕ) → i < length text → NoneBefore text i → get_or text i 0 ≡ 0 → parts text ≡ take i text ∷ parts (drop (i + 1) text)
part_at text i less none is =
    let at = position_or_len_is is_zero text i 0 (omega (arith, less)) (λ k h. ne_eqb (get_or text k 0) 0 (none k h)) (λ _. eq-eqb (get_or text i 0) 0 is) in
    slice_split_first is_zero text 0 (omega (arith, at, less)) ∙ ap (λ (n : ℕ). take n text ∷ parts (drop (n + 1) text)) at

pub part_alone : (text : List ℕ) → NoneBefore text (length text) → parts text ≡ text ∷ []
part_alone text none = slice_split_none is_zero text (λ k d h. ap is_zero (get_or_default text k d 0 h) ∙ ne_eqb (get_or text k 0) 0 (none k h))

-- ---- columns set one after the other, where each of them is one

abbrev pub row_onto : Row → List Pair → Option Row
row_onto row columns = if list_all is_column columns then Some (fold with_column row columns) else None

pub part_set : (row new : Row) (left rest : List (List ℕ)) (name value : List ℕ) (all : Option Row) → left ≡ name ∷ value ∷ rest → is_column (pair name value) ≡ true → new ≡ with_column row (pair name value) → row_onto row (pairs_of left) ≡ all
    → row_onto new (pairs_of rest) ≡ all
part_set row new left rest name value all is fit set so =
    ap (λ (r : Row). row_onto r (pairs_of rest)) set
    ∙ sym (ap (λ b. cond (b && list_all is_column (pairs_of rest)) (Some (fold with_column (with_column row (pair name value)) (pairs_of rest))) None) fit)
    ∙ ap (λ ps. row_onto row (pairs_of ps)) (sym is) ∙ so

pub part_refused : (row : Row) (left rest : List (List ℕ)) (name value : List ℕ) (all : Option Row) → left ≡ name ∷ value ∷ rest → is_column (pair name value) ≡ false → row_onto row (pairs_of left) ≡ all → all ≡ None
part_refused row left rest name value all is fit so =
    sym so ∙ ap (λ ps. row_onto row (pairs_of ps)) is ∙ ap (λ b. cond (b && list_all is_column (pairs_of rest)) (Some (fold with_column (with_column row (pair name value)) (pairs_of rest))) None) fit

-- an error that `?` hands on is named by the call that it came from
pub err_handed : {A B E : Type 0} (r : Result A E) (w e : E) → IsErrAnd r (λ y. y ≡ w) → IsErrOf r e → IsErrOf {T = B} (Err w) e
err_handed r w e is named =
    let p = err_from_is_err_and r is in
    let f : Err p.0 ≡ Err e = sym p.1 ∙ named in
    let s : p.0 ≡ e = cc in
    ap Err (sym p.2 ∙ s)
