-- What is left of a row's text behind a part.
use Rattle.std.specs.Prelude.{ℕ, ◌+◌, List, [], length, Option, Some, None}
use Rattle.tc_model.specs.Texts.{parts}

-- the parts of the bytes behind a zero byte; where none stood there, no parts
abbrev pub left_parts : Option (List ℕ) → List (List ℕ)
left_parts None = []
left_parts (Some bytes) = parts bytes

-- less behind each part
abbrev pub left_len : Option (List ℕ) → ℕ
left_len None = 0
left_len (Some bytes) = 1 + length bytes
