-- How a hash file is laid out.
use Rattle.std.specs.Prelude.{ℕ, List, [], ◌∷◌, ◌++◌, replicate, take}
use Rattle.tc_base.specs.Files.{Files}
use Rattle.hf_head.specs.declared.head.Head.{Head}
use Rattle.hf_head.specs.Heads.{head_in}
use Rattle.tc_hash.specs.Ending.{slack_by}
use Rattle.tc_hash.specs.Standing.{lead_in, numbers_in}
use Rattle.ty_base.specs.Holding.{Layout}

-- the numbers of a head, the options first, and a region behind them
abbrev pub numbers_with : Head → List ℕ → List ℕ
numbers_with h region = numbers_in h ++ region

-- how many whole units lie free between the sections of a file and its first block
abbrev pub lead_of : Head → ℕ
lead_of h = lead_in h

-- ---- the layout

-- the numbers of its head with its region, the units that lie free in front of the first block, and how many bytes hold nothing at the end: those behind the file size
-- that it says, and free blocks in front of that
abbrev pub layout_by : Head → List ℕ → Layout
layout_by h bytes = record { numbers = numbers_with h h.opaque; lead = lead_of h; slack = slack_by h bytes }

-- a file that is still to be made has those that an opening makes, and a region of zeros
abbrev pub layout_in : List ℕ → Layout
layout_in [] = record { numbers = (0 ∷ 4 ∷ 10 ∷ 131071 ∷ []) ++ replicate 128 0; lead = 0; slack = 0 }
layout_in (b ∷ bytes) = layout_by (head_in (take 256 (b ∷ bytes))) (b ∷ bytes)

abbrev pub layout_of : Files → Layout
layout_of files = layout_in (files 0)
