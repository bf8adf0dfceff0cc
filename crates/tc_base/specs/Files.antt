-- Files by number, and what a write makes of one.
use Rattle.std.specs.Prelude.{ℕ, ◌+◌, ◌-◌, List, ◌++◌, length, take, drop, replicate}

-- the bytes of each file
abbrev pub Files : Type 0
Files = ℕ → List ℕ

-- these bytes with others in their place from `at` on
unfoldable pub wrote : ℕ → List ℕ → List ℕ → List ℕ
wrote at bytes old = take at old ++ bytes ++ drop (at + length bytes) old

-- cut, or filled with zeros, to a length
unfoldable pub resized : ℕ → List ℕ → List ℕ
resized n old = take n old ++ replicate (n - length old) 0
