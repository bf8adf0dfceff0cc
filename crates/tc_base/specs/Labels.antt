-- The labels of copies.
use Rattle.std.specs.Prelude.{ℕ, List, length, Bool, ◌&&◌, ◌||◌, nat_eq, nat_le}
use Rattle.std.specs.List.{list_all}

-- a lower-case letter, a digit or `_`
abbrev pub is_label_byte : ℕ → Bool
is_label_byte b = (nat_le 97 b && nat_le b 122) || (nat_le 48 b && nat_le b 57) || nat_eq b 95

-- 1 to 64 such bytes
abbrev pub is_label : List ℕ → Bool
is_label text = nat_le 1 (length text) && nat_le (length text) 64 && list_all is_label_byte text
