-- What is kept, and what a stop leaves, by marks.
use Rattle.std.specs.Prelude.{◌≡◌, ◌⊎◌, List, [], ◌∷◌, Option, Some}
use Rattle.tc_base.specs.Files.{Files}
use Rattle.tc_space.specs.Moments.{LeavesOnly}
use Rattle.tc_space.specs.declared.space.Space.{Ghosts}
use Rattle.tc_model.specs.Contents.{Contents}
use Rattle.ty_world.specs.World.{Mark}
use Rattle.ty_base.specs.Holding.{Held}

-- files stand for a mark: they reopen to its contents, and file 2 is its log
pub record StandFor (reopens : Files → Contents → Type 0) (files : Files) (m : Mark) : Type 0 where
  pub contents : reopens files m.contents
  pub log : files 2 ≡ m.log

-- these are files, and they stand for the mark
pub record Reopens (reopens : Files → Contents → Type 0) (o : Option Files) (m : Mark) : Type 0 where
  pub files : Files
  pub is : o ≡ Some files
  pub stand : StandFor reopens files m

-- a database holds a mark's contents, and file 2 is its log
pub record HasMark {S B : Type 0} (s : Ghosts S) (holds : B → Files → Contents → Type 0) (base : B) (space : S) (m : Mark) : Type 0 where
  pub held : Held s holds base space m.contents
  pub log : s.now space 2 ≡ m.log

-- and the files now stand for it
pub record HoldsMark {S B : Type 0} (s : Ghosts S) (holds : B → Files → Contents → Type 0) (reopens : Files → Contents → Type 0) (base : B) (space : S) (m : Mark) : Type 0 where
  pub has : HasMark s holds base space m
  pub stand : reopens (s.now space) m.contents

-- a stop leaves what is kept, or what stands for the mark
pub record MovesTo {S : Type 0} (s : Ghosts S) (reopens : Files → Contents → Type 0) (old new : S) (m : Mark) : Type 0 where
  pub leaves : LeavesOnly s.moment s.left old new (λ o. (o ≡ s.kept old) ⊎ Reopens reopens o m)

-- what stands for one of two marks
pub record LeavesTwo {S : Type 0} (s : Ghosts S) (reopens : Files → Contents → Type 0) (old new : S) (m n : Mark) : Type 0 where
  pub leaves : LeavesOnly s.moment s.left old new (λ o. Reopens reopens o m ⊎ Reopens reopens o n)

abbrev pub IsIn : Mark → List Mark → Type 0
IsIn m [] = ⊥
IsIn m (n ∷ ns) = (m ≡ n) ⊎ IsIn m ns

-- what stands for one of the marks
pub record AtMark (reopens : Files → Contents → Type 0) (o : Option Files) (marks : List Mark) : Type 0 where
  pub mark : Mark
  pub listed : IsIn mark marks
  pub reopen : Reopens reopens o mark

pub record LeavesMarks {S : Type 0} (s : Ghosts S) (reopens : Files → Contents → Type 0) (old new : S) (marks : List Mark) : Type 0 where
  pub leaves : LeavesOnly s.moment s.left old new (λ o. AtMark reopens o marks)
