-- A row: columns with distinct names, in order; and its text.
use Rattle.std.specs.Prelude.{ℕ, Bool, true, ◌&&◌, not, ◌==◌, List, [], ◌∷◌, ◌++◌, length, map, filter, find, fold, flat_map, Option, Some, None, option_map, is_some, nat_le, if◌then◌else◌}
use Rattle.std.specs.List.{list_any, list_all, join_with_byte}
use Rattle.tc_base.specs.declared.seq.Pair.{Pair}
use Rattle.tc_base.specs.Texts.{is_text}
use Rattle.tc_model.specs.Texts.{not_empty, parts}
use Rattle.tc_base.specs.Lists.{pair}

-- a column is a pair of its name and its value
abbrev pub Row : Type 0
Row = List Pair

abbrev pub column : Row → List ℕ → Option (List ℕ)
column row name = option_map (λ p. p.value) (find (λ p. is_text p.key name) row)

abbrev pub has : Row → List ℕ → Bool
has row name = is_some (column row name)

-- at most 1,048,576 bytes, and no zero byte among them
abbrev pub is_part : List ℕ → Bool
is_part text = nat_le (length text) 1048576 && not (list_any (λ b. b == 0) text)

-- a name is a part that isn't empty, a value is a part
abbrev pub is_column : Pair → Bool
is_column p = not_empty p.key && (is_part p.key && is_part p.value)

-- a name that comes again gives its value to the earlier place
abbrev pub with_column : Row → Pair → Row
with_column row p = if has row p.key then map (λ q. if is_text q.key p.key then pair q.key p.value else q) row else row ++ p ∷ []

abbrev pub row_of : List Pair → Option Row
row_of columns = if list_all is_column columns then Some (fold with_column [] columns) else None

-- texts two by two; an odd last one is dropped
abbrev pub pairs_of : List (List ℕ) → List Pair
pairs_of [] = []
pairs_of (name ∷ []) = []
pairs_of (name ∷ value ∷ rest) = pair name value ∷ pairs_of rest

abbrev pub texts_of : List Pair → List (List ℕ)
texts_of ps = flat_map (λ p. p.key ∷ p.value ∷ []) ps

-- a row text is names and values with zero bytes between
abbrev pub row_of_text : List ℕ → Option Row
row_of_text text = row_of (pairs_of (parts text))

abbrev pub row_text : Row → List ℕ
row_text row = join_with_byte 0 (texts_of row)

-- no name comes again
abbrev pub is_distinct : List Pair → Bool
is_distinct [] = true
is_distinct (p ∷ ps) = not (has ps p.key) && is_distinct ps

-- the columns of a call: a name that comes again is refused
abbrev pub row_of_call : List Pair → Option Row
row_of_call columns = if is_distinct columns then row_of columns else None

-- the columns whose names the row lacks come behind; the others stay
abbrev pub with_lacking : Row → Row → Row
with_lacking row more = row ++ filter (λ p. not (has row p.key)) more
