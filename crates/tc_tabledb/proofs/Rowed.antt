-- Rows that are read are rows, and may be put if their texts aren't too long.
use Rattle.std.proofs.Common.{◌≡◌, ◌∙◌, ℕ, Bool, true, false, cond, List, Option, Some, None, length, refl, sym, ap, subst}
use Rattle.std.specs.Prelude.{is_some, nat_le, option_and_then}
use Rattle.tc_base.specs.declared.seq.Pair.{Pair}
use Rattle.tc_model.specs.Rows.{Row, row_of_call, row_of_text, row_text}
use Rattle.tc_model.specs.Well.{IsRow}
use Rattle.tc_model.proofs.RowLaws.{MayBeRow, row_of_call_row, row_of_text_row}
use Rattle.tc_table.specs.Tables.{row_allowed}
use Rattle.tc_tabledb.specs.Storing.{is_stored}

pub text_row : (text : List ℕ) (o : Option Row) (row : Row) → o ≡ row_of_text text → o ≡ Some row → IsRow row
text_row text o row told some = subst MayBeRow (sym told ∙ some) (row_of_text_row text)

pub call_row : (columns : List Pair) (o : Option Row) (row : Row) → o ≡ row_of_call columns → o ≡ Some row → IsRow row
call_row columns o row told some = subst MayBeRow (sym told ∙ some) (row_of_call_row columns)

row_fits : (row : Row) → nat_le (length (row_text row)) 16777216 ≡ is_some (row_allowed row)
row_fits row = go (nat_le (length (row_text row)) 16777216)
  where
    go : (t : Bool) → t ≡ is_some (cond {A = Option Row} (is_some (cond {A = Option (List ℕ)} t (Some (row_text row)) None)) (Some row) None)
    go true = refl
    go false = refl

pub text_fits : (text : List ℕ) (o : Option Row) (row : Row) → o ≡ row_of_text text → o ≡ Some row → nat_le (length (row_text row)) 16777216 ≡ is_stored text
text_fits text o row told some = row_fits row ∙ ap (λ (x : Option Row). is_some (option_and_then row_allowed x)) (sym some ∙ told)
