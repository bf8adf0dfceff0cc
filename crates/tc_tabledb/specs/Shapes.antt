-- The main file of a table made anew, by its numbers.
use Rattle.std.specs.Prelude.{◌≡◌, ℕ, false, length, take}
use Rattle.std.specs.FinMap.{empty}
use Rattle.tc_base.specs.Files.{Files}
use Rattle.tc_space.specs.declared.space.Space.{Ghosts}
use Rattle.hf_head.specs.declared.head.Head.{Head}
use Rattle.hf_head.specs.Heads.{head_in}
use Rattle.tc_hash.specs.Creating.{HasNoRoom, IsNew, MayBe}
use Rattle.tc_model.specs.Contents.{Contents, table}
use Rattle.tc_tabledb.specs.declared.shape.TableShape.{TableShape}
use Rattle.tc_tabledb.specs.Files.{AreEmpty, index_files}

-- the numbers of a file that an opening makes
abbrev pub usual : TableShape
usual = record { buckets = 131071; apow = 4; fpow = 10; large = false }

-- they are in their ranges
abbrev pub MayHave : TableShape → Type 0
MayHave shape = MayBe 3 shape.apow shape.fpow shape.buckets

-- a head without blocks has them
abbrev pub IsNewIn : TableShape → Head → Type 0
IsNewIn shape h = IsNew 3 shape.apow shape.fpow shape.buckets shape.large h

-- and so has that of file 0, which ends where it says
pub record Shaped (shape : TableShape) (files : Files) : Type 0 where
  pub numbers : IsNewIn shape (head_in (take 256 (files 0)))
  pub long : length (files 0) ≡ (head_in (take 256 (files 0))).size

-- no rows and no indexes
abbrev pub anew : TableShape → Contents
anew shape = table empty empty

-- the files of indexes are empty, before and after
pub record LeavesNone {S : Type 0} (s : Ghosts S) (old new : S) : Type 0 where
  pub before : s.tells → AreEmpty (s.now old) index_files
  pub after : s.tells → AreEmpty (s.now new) index_files

-- the head, the buckets and the pool pass a limit of so many bytes, or what a head can name, or the undo log is full
pub record LacksSections (limit : ℕ) (log_is_full : Type 0) (shape : TableShape) : Type 0 where
  pub head : Head
  pub new : IsNewIn shape head
  pub passes : HasNoRoom limit log_is_full head.first

-- with the limit of file 0 as the space stands
abbrev pub Lacks : {S : Type 0} → Ghosts S → S → TableShape → Type 0
Lacks s space shape = LacksSections (s.limit space 0) (s.log_full space) shape
