-- A file made anew, by its numbers.
use Rattle.std.specs.Prelude.{◌≡◌, ◌≤◌, ◌^◌, length, take}
use Rattle.std.specs.FinMap.{empty}
use Rattle.tc_base.specs.Files.{Files}
use Rattle.tc_space.specs.declared.space.Space.{Ghosts}
use Rattle.hf_head.specs.FixedHeads.{fixed_in}
use Rattle.tc_model.specs.Contents.{Contents, fixed}
use Rattle.tc_fixed.specs.Holding.{HasNoRoom}
use Rattle.tc_fixed.specs.Settling.{new_head}
use Rattle.tc_fixed.specs.Shapes.{most_id}
use Rattle.tc_fixeddb.specs.declared.shape.FixedShape.{FixedShape}

-- the numbers of a file that an opening makes
abbrev pub usual : FixedShape
usual = record { width = 255; limit = 268435456 }

-- they are in their ranges
pub record MayHave (shape : FixedShape) : Type 0 where
  pub width : (1 ≤ shape.width) × (shape.width ≤ 1048576)
  pub limit : (512 ≤ shape.limit) × (shape.limit ≤ 2 ^ 40)

-- the head of file 0 is that of a file without ids which has them, and the file ends where it says
pub record Shaped (shape : FixedShape) (files : Files) : Type 0 where
  pub numbers : fixed_in (take 256 (files 0)) ≡ new_head shape.width shape.limit
  pub long : length (files 0) ≡ 256

-- no data
abbrev pub anew : FixedShape → Contents
anew shape = fixed shape.width (most_id shape.width shape.limit) empty

-- the head passes the limit of file 0, or the undo log is full
abbrev pub Lacks : {S : Type 0} → Ghosts S → S → FixedShape → Type 0
Lacks s space shape = HasNoRoom (s.limit space 0) (s.log_full space) 256
