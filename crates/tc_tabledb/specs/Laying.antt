-- How the files of a table are laid out.
use Rattle.std.specs.Prelude.{ℕ, ◌+◌, List, [], ◌∷◌, take}
use Rattle.tc_base.specs.Files.{Files}
use Rattle.hf_head.specs.declared.head.Head.{Head}
use Rattle.hf_head.specs.Heads.{head_in}
use Rattle.tc_hash.specs.Ending.{slack_in}
use Rattle.tc_hash.specs.Standing.{lead_in, numbers_in}
use Rattle.ty_base.specs.Holding.{Layout}
use Rattle.tc_tabledb.specs.Files.{index_files}

-- how many bytes hold nothing at the ends of these files
abbrev pub slack_of : Files → List ℕ → ℕ
slack_of files [] = 0
slack_of files (f ∷ fs) = slack_in (files f) + slack_of files fs

-- the numbers of the head of file 0, and the units that lie free in front of its first block; one that is still to be made has those that an opening makes
abbrev pub main_layout : List ℕ → ℕ → Layout
main_layout [] slack = record { numbers = 0 ∷ 4 ∷ 10 ∷ 131071 ∷ []; lead = 0; slack = slack }
main_layout (b ∷ bytes) slack = record { numbers = numbers_in (head_in (take 256 (b ∷ bytes))); lead = lead_in (head_in (take 256 (b ∷ bytes))); slack = slack }

-- and the bytes that hold nothing at the ends of all its files
abbrev pub layout_of : Files → Layout
layout_of files = main_layout (files 0) (slack_of files (0 ∷ index_files))
