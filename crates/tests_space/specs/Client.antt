-- What a small client of a space leaves in two files.
use Rattle.std.specs.Prelude.{◌≡◌, ◌≢◌, ℕ, List, Option, Some, codes}
use Rattle.tc_base.specs.Files.{Files}

-- file 0 and file 2 have these bytes
pub record Holds {S : Type 0} (tells : Type 0) (now : S → Files) (main side : List ℕ) (s : S) : Type 0 where
  pub main_is : tells → now s 0 ≡ main
  pub side_is : tells → now s 2 ≡ side

abbrev pub main_first : List ℕ
main_first = codes "one two three"

abbrev pub side_first : List ℕ
side_first = codes "aabbbb"

abbrev pub main_second : List ℕ
main_second = codes "ONE TWO three"

abbrev pub side_second : List ℕ
side_second = codes "aabdddddddd"

abbrev pub main_last : List ℕ
main_last = codes "ONE TWO THREE, four!"

abbrev pub side_last : List ℕ
side_last = codes "aabddddddCCe"

-- every other file is as it was
abbrev pub OthersStay : Files → Files → Type 0
OthersStay old new = (g : ℕ) → g ≢ 0 → g ≢ 2 → new g ≡ old g

-- all that was written is there, and nothing else has changed
pub record IsWritten (old : Files) (o : Option Files) : Type 0 where
  pub files : Files
  pub is : o ≡ Some files
  pub main_is : files 0 ≡ main_last
  pub side_is : files 2 ≡ side_last
  pub others : OthersStay old files
