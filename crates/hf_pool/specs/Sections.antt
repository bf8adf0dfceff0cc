-- The pool section: free blocks in ascending place, each as two varying numbers.
use Rattle.std.specs.Prelude.{◌≡◌, ℕ, ◌+◌, ◌-◌, ◌/◌, List, [], ◌∷◌, ◌++◌, length, replicate, nat_le, if◌then◌else◌}
use Rattle.std.specs.BTreeMap.{is_at}
use Rattle.std.specs.Map.{keys_of, lookup}
use Rattle.std.specs.List.Sorted.{IsStrictlySortedBy}
use Rattle.std.specs.Ordering.{nat_cmp}
use Rattle.tc_base.specs.Vnum.{vnum}
use Rattle.hf_layout.specs.Frees.{Frees}

-- the free blocks as a list of places and sizes, in ascending place
pub record InOrder (frees : Frees) (blocks : List (ℕ × ℕ)) : Type 0 where
  pub each : (q : ℕ) → frees q ≡ lookup (is_at (nat_cmp q)) blocks
  pub ascending : IsStrictlySortedBy nat_cmp (keys_of blocks)

-- in units: the difference of the place to the one before, and the size
abbrev pub pair : ℕ → ℕ → ℕ × ℕ → List ℕ
pair unit before block = vnum (block.0 / unit - before) ++ vnum (block.1 / unit)

-- the pairs from the front, as long as a pair and two zero bytes fit into the room
unfoldable pub pairs : ℕ → ℕ → ℕ → List (ℕ × ℕ) → List ℕ
pairs unit before room [] = []
pairs unit before room (b ∷ blocks) =
    if nat_le (length (pair unit before b) + 2) room
    then pair unit before b ++ pairs unit (b.0 / unit) (room - length (pair unit before b)) blocks
    else []

-- a section of that many bytes: the pairs, then zeros
abbrev pub section_bytes : ℕ → ℕ → List (ℕ × ℕ) → List ℕ
section_bytes unit len blocks = pairs unit 0 len blocks ++ replicate (len - length (pairs unit 0 len blocks)) 0
