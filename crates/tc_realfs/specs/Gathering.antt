-- Bytes on the way from a file or to one.
use Rattle.std.specs.Prelude.{◌≡◌, ℕ, ◌+◌, ◌≤◌, List, ◌++◌, length, take, drop, Option, Some}
use Rattle.tc_base.specs.Files.{wrote}
use Rattle.tc_realfs.specs.declared.ahead.Ahead.{Ahead}

-- what was read ahead are bytes of this file
pub record ShowsAhead (ahead : Ahead) (file : List ℕ) : Type 0 where
  pub same : ahead.bytes.items ≡ take (length ahead.bytes.items) (drop ahead.start file)

-- where the file is told
abbrev pub ShowsTold : Option (List ℕ) → Ahead → Type 0
ShowsTold told ahead = (file : List ℕ) → told ≡ Some file → ShowsAhead ahead file

-- so many bytes at a place of the file, where it is told and was read ahead
abbrev pub ReadsAhead : Ahead → Option (List ℕ) → ℕ → ℕ → List ℕ → Type 0
ReadsAhead ahead told at n bytes = (file : List ℕ) → told ≡ Some file → ShowsAhead ahead file → bytes ≡ take n (drop at file)

-- a write behind another is one write of both
abbrev pub JoinsWrites : Type 0
JoinsWrites = (at : ℕ) (first second file : List ℕ) → at ≤ length file → wrote (at + length first) second (wrote at first file) ≡ wrote at (first ++ second) file
