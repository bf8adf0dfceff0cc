-- How a tree file is laid out.
use Rattle.std.specs.Prelude.{ℕ, List, [], ◌∷◌, take}
use Rattle.tc_base.specs.Files.{Files}
use Rattle.hf_head.specs.declared.head.Head.{Head}
use Rattle.hf_head.specs.Heads.{head_in}
use Rattle.tc_hash.specs.Ending.{slack_by}
use Rattle.tc_hash.specs.Standing.{lead_in, numbers_in}
use Rattle.ty_base.specs.Holding.{Layout}

-- the numbers of the head of its hash file, the units that lie free in front of the first block, and how many bytes hold nothing at the end: those behind the file size that it
-- says, and free blocks in front of that. The region tells the numbers of the tree, which a settling changes
abbrev pub layout_by : Head → List ℕ → Layout
layout_by h bytes = record { numbers = numbers_in h; lead = lead_in h; slack = slack_by h bytes }

-- a file that is still to be made has the numbers that an opening makes
abbrev pub layout_in : List ℕ → Layout
layout_in [] = record { numbers = 0 ∷ 8 ∷ 10 ∷ 32749 ∷ []; lead = 0; slack = 0 }
layout_in (b ∷ bytes) = layout_by (head_in (take 256 (b ∷ bytes))) (b ∷ bytes)

abbrev pub layout_of : Files → Layout
layout_of files = layout_in (files 0)
