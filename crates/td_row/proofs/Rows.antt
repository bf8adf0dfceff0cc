-- Worked rows: their bytes and their texts.
use Rattle.std.specs.Prelude.{◌≡◌, [], ◌∷◌, Some, None, codes, refl}
use Rattle.tc_base.specs.Lists.{pair}
use Rattle.tc_base.specs.Vnum.{vnum, groups}
use Rattle.tc_model.specs.Rows.{Row, row_of_text, row_text, row_of_call, with_lacking}
use Rattle.td_row.specs.Spelling.{row_bytes}

abbrev n_is_2 : Row
n_is_2 = pair (codes "n") (codes "2") ∷ []

one_column : row_bytes n_is_2 ≡ 1 ∷ 1 ∷ 110 ∷ 50 ∷ []
unfolding vnum groups
one_column = refl

no_column : row_bytes [] ≡ []
no_column = refl

-- a value may be empty
two_columns : row_bytes (pair (codes "n") (codes "2") ∷ pair (codes "nm") [] ∷ []) ≡ 1 ∷ 1 ∷ 110 ∷ 50 ∷ 2 ∷ 0 ∷ 110 ∷ 109 ∷ []
unfolding vnum groups
two_columns = refl

-- a name that comes again gives its value to the earlier place, and an odd last part is dropped
repeated : row_of_text (110 ∷ 0 ∷ 50 ∷ 0 ∷ 109 ∷ 0 ∷ 55 ∷ 0 ∷ 110 ∷ 0 ∷ 51 ∷ 0 ∷ 120 ∷ []) ≡ Some (pair (codes "n") (codes "3") ∷ pair (codes "m") (codes "7") ∷ [])
repeated = refl

-- a name isn't empty, also where its pair doesn't count
unnamed : row_of_text (0 ∷ 50 ∷ []) ≡ None
unnamed = refl

no_text : row_of_text [] ≡ Some []
no_text = refl

spelled : row_text (pair (codes "n") (codes "3") ∷ pair (codes "m") [] ∷ []) ≡ 110 ∷ 0 ∷ 51 ∷ 0 ∷ 109 ∷ 0 ∷ []
spelled = refl

called_twice : row_of_call (pair (codes "n") (codes "2") ∷ pair (codes "n") (codes "2") ∷ []) ≡ None
called_twice = refl

-- a column that is there stays
added : with_lacking n_is_2 (pair (codes "n") (codes "9") ∷ pair (codes "m") [] ∷ []) ≡ pair (codes "n") (codes "2") ∷ pair (codes "m") [] ∷ []
added = refl
