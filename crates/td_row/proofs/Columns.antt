-- Columns with distinct names.
use Rattle.std.proofs.Common.{◌≡◌, ◌∙◌, ℕ, Bool, true, false, cond, List, [], ◌∷◌, ◌++◌, map, refl, sym, ap, subst, append_assoc}
use Rattle.std.specs.Prelude.{not, find, fold, Some, None, option_map, is_some}
use Rattle.std.specs.List.{list_all}
use Rattle.std.specs.Cmp.Lexicographic.{nat_list_eq_equiv}
use Rattle.std.proofs.lemmas.Bool.{and_parts, and_from}
use Rattle.std.proofs.lemmas.List.{append-nil}
use Rattle.std.proofs.lemmas.List.Sums.{fold-append}
use Rattle.std.proofs.lemmas.List.Folds.{list_all-append}
use Rattle.tc_base.specs.declared.seq.Pair.{Pair}
use Rattle.tc_base.specs.Texts.{is_text}
use Rattle.tc_base.specs.Lists.{pair}
use Rattle.tc_model.specs.Rows.{Row, has, is_column, is_distinct, with_column, row_of}
use Rattle.tc_model.specs.Well.{IsRow}
use Rattle.tc_model.proofs.RowLaws.{MayBeRow, row_of_row}
use Rattle.td_row.specs.Spelling.{IsColumn}

-- ---- names that columns lack

-- whether a name is in a column, or else in those behind it
abbrev has_in : Bool → Pair → Row → List ℕ → Bool
has_in b p row name = is_some (option_map (λ (q : Pair). q.value) (cond b (Some p) (find (λ q. is_text q.key name) row)))

pub lacks_parts : (p : Pair) (row : Row) (name : List ℕ) → has (p ∷ row) name ≡ false → (is_text p.key name ≡ false) × (has row name ≡ false)
lacks_parts p row name h = go (is_text p.key name) h
  where
    go : (b : Bool) → has_in b p row name ≡ false → (b ≡ false) × (has row name ≡ false)
    go true e = absurd cc
    go false e = (refl, e)

lacks_from : (p : Pair) (row : Row) (name : List ℕ) → is_text p.key name ≡ false → has row name ≡ false → has (p ∷ row) name ≡ false
lacks_from p row name t h = ap (λ b. has_in b p row name) t ∙ h

lacks_at : (front : Row) (p : Pair) (back : Row) (name : List ℕ) → has (front ++ p ∷ back) name ≡ false → is_text p.key name ≡ false
lacks_at [] p back name h = (lacks_parts p back name h).0
lacks_at (q ∷ front) p back name h = lacks_at front p back name (lacks_parts q (front ++ p ∷ back) name h).1

pub not_is : (a : Bool) → not a ≡ true → a ≡ false
not_is true e = absurd cc
not_is false e = refl

-- those in front of a column lack its name
pub lacks_before : (front : Row) (p : Pair) (back : Row) → is_distinct (front ++ p ∷ back) ≡ true → has front p.key ≡ false
lacks_before [] p back d = refl
lacks_before (q ∷ front) p back d =
    let parts = and_parts (not (has (front ++ p ∷ back) q.key)) (is_distinct (front ++ p ∷ back)) d in
    lacks_from q front p.key (nat_list_eq_equiv.symm q.key p.key ∙ lacks_at front p back q.key (not_is _ parts.0)) (lacks_before front p back parts.1)

pub column_within : (front : Row) (p : Pair) (back : Row) → list_all is_column (front ++ p ∷ back) ≡ true → IsColumn p
column_within front p back h =
    let behind = (and_parts (list_all is_column front) (list_all is_column (p ∷ back)) (sym (list_all-append is_column front (p ∷ back)) ∙ h)).1 in
    (and_parts (is_column p) (list_all is_column back) behind).0

-- ---- a column is set

abbrev pub given : Pair → Pair → Pair
given p q = cond (is_text q.key p.key) (pair q.key p.value) q

-- a new one comes last
pub with_new : (row : Row) (p : Pair) → has row p.key ≡ false → with_column row p ≡ row ++ p ∷ []
with_new row p h = ap (λ b. cond b (map (given p) row) (row ++ p ∷ [])) h

-- columns set one after the other, all of them new
pub fold_new : (front row : Row) → is_distinct (front ++ row) ≡ true → fold with_column front row ≡ front ++ row
fold_new front [] d = sym (append-nil front)
fold_new front (p ∷ row) d =
    let joined : (front ++ p ∷ []) ++ row ≡ front ++ p ∷ row = append_assoc front (p ∷ []) row in
    ap (λ (r : Row). fold with_column r row) (with_new front p (lacks_before front p row d)) ∙ fold_new (front ++ p ∷ []) row (ap is_distinct joined ∙ d) ∙ joined

pub all_with : (row : Row) (p : Pair) → list_all is_column row ≡ true → IsColumn p → list_all is_column (row ++ p ∷ []) ≡ true
all_with row p r h = list_all-append is_column row (p ∷ []) ∙ and_from (list_all is_column row) (list_all is_column (p ∷ [])) r (and_from (is_column p) true h refl)

-- a row stays one
pub row_with : (row : Row) (p : Pair) → IsRow row → IsColumn p → IsRow (with_column row p)
row_with row p r h =
    let made : row_of (row ++ p ∷ []) ≡ Some (with_column row p) =
    ap (λ b. cond b (Some (fold with_column [] (row ++ p ∷ []))) None) (all_with row p r.columns h) ∙ ap Some (fold-append with_column [] row (p ∷ []) ∙ ap (λ (q : Row). with_column q p) (fold_new [] row r.distinct)) in
    subst MayBeRow made (row_of_row (row ++ p ∷ []))
