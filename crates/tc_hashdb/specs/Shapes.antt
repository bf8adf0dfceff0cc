-- A file made anew, by its numbers.
use Rattle.std.specs.Prelude.{◌≡◌, ℕ, false, length, take}
use Rattle.std.specs.FinMap.{empty}
use Rattle.tc_base.specs.Files.{Files}
use Rattle.tc_space.specs.declared.space.Space.{Ghosts}
use Rattle.hf_head.specs.declared.head.Head.{Head}
use Rattle.hf_head.specs.Heads.{head_in}
use Rattle.tc_hash.specs.Creating.{HasNoRoom, IsNew, MayBe}
use Rattle.tc_model.specs.Contents.{Contents, hash}
use Rattle.tc_hashdb.specs.declared.shape.HashShape.{HashShape}

-- the numbers of a file that an opening makes
abbrev pub usual : HashShape
usual = record { buckets = 131071; apow = 4; fpow = 10; large = false }

-- they are in their ranges
abbrev pub MayHave : HashShape → Type 0
MayHave shape = MayBe 0 shape.apow shape.fpow shape.buckets

-- a head without blocks has them
abbrev pub IsNewIn : HashShape → Head → Type 0
IsNewIn shape h = IsNew 0 shape.apow shape.fpow shape.buckets shape.large h

-- and so has that of file 0, which ends where it says
pub record Shaped (shape : HashShape) (files : Files) : Type 0 where
  pub numbers : IsNewIn shape (head_in (take 256 (files 0)))
  pub long : length (files 0) ≡ (head_in (take 256 (files 0))).size

-- no data
abbrev pub anew : HashShape → Contents
anew shape = hash false empty

-- the head, the buckets and the pool pass a limit of so many bytes, or what a head can name, or the undo log is full
pub record LacksSections (limit : ℕ) (log_is_full : Type 0) (shape : HashShape) : Type 0 where
  pub head : Head
  pub new : IsNewIn shape head
  pub passes : HasNoRoom limit log_is_full head.first

-- with the limit of file 0 as the space stands
abbrev pub Lacks : {S : Type 0} → Ghosts S → S → HashShape → Type 0
Lacks s space shape = LacksSections (s.limit space 0) (s.log_full space) shape
