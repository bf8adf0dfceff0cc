-- Rows as bytes. Sizes are varying numbers.
use Rattle.std.specs.Prelude.{◌≡◌, ℕ, true, List, ◌++◌, length, Ok}
use Rattle.std.specs.List.{flat_map}
use Rattle.tc_base.specs.declared.seq.Pair.{Pair}
use Rattle.tc_base.specs.Lists.{pair}
use Rattle.tc_base.specs.Reading.{Front, ◌>>=◌, bytes_at}
use Rattle.tc_base.specs.Vnum.{vnum, two_front}
use Rattle.tc_model.specs.Rows.{Row, is_column}
use Rattle.tc_model.specs.Well.{IsRow}

-- a name and a value, as they may be
abbrev pub IsColumn : Pair → Type 0
IsColumn p = is_column p ≡ true

-- the sizes of its name and of its value
abbrev pub sizes_bytes : Pair → List ℕ
sizes_bytes p = vnum (length p.key) ++ vnum (length p.value)

-- sizes, name, value
abbrev pub column_bytes : Pair → List ℕ
column_bytes p = sizes_bytes p ++ (p.key ++ p.value)

-- the columns one behind the other
abbrev pub row_bytes : Row → List ℕ
row_bytes row = flat_map column_bytes row

-- the bytes are this row's, the last byte included
pub record SpellsRow (bytes : List ℕ) (row : Row) : Type 0 where
  pub is_row : IsRow row
  pub is : bytes ≡ row_bytes row

-- ---- at the front of bytes

-- this column stands there
pub record AtFront (bytes : List ℕ) (p : Pair) (rest : List ℕ) : Type 0 where
  pub column : IsColumn p
  pub is : bytes ≡ column_bytes p ++ rest

-- no column stands there
abbrev pub NoneAt : List ℕ → Type 0
NoneAt bytes = (p : Pair) (rest : List ℕ) → AtFront bytes p rest → ⊥

-- what is read there: two sizes, and so many bytes each
unfoldable pub column_at : List ℕ → Front Pair
column_at bytes = two_front bytes >>= λ sizes. bytes_at sizes.0.0 sizes.1 >>= λ name. bytes_at sizes.0.1 name.1 >>= λ value. Ok (pair name.0 value.0, value.1)

abbrev pub IsPrefix : List ℕ → List ℕ → Type 0
IsPrefix xs ys = (rest : List ℕ) × (ys ≡ xs ++ rest)
