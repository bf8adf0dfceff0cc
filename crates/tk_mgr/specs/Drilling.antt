-- How far a drill has come, and what it leaves on the way.
use Rattle.std.specs.Prelude.{◌≡◌, ◌≤◌, ◌+◌, ◌*◌, ℕ, List, Option, Result, IsErrOf}
use Rattle.tc_base.specs.Files.{Files}
use Rattle.tc_space.specs.Moments.{LeavesOnly}
use Rattle.tc_space.specs.declared.space.Space as space
use Rattle.tc_model.specs.Contents.{Contents}
use Rattle.ty_world.specs.World.{Mark}
use Rattle.ty_base.specs.Holding.{IsReady}
use Rattle.ty_rounds.specs.Kept.{HasMark, HoldsMark, MovesTo, Reopens}
use Rattle.tk_mgr.specs.Drills.{drilled, summary}
use Rattle.tk_mgr.specs.Managing.{FillsTask, MayManage, with_contents}
use Rattle.tk_mgr.specs.declared.errors.MgrErr.{MgrErr}
use Rattle.tk_mgr.specs.declared.errors.MgrErr.TheVariants.{Full}
use Rattle.tk_mgr.specs.declared.run.Run.{Run}
use Rattle.tk_mgr.specs.declared.task.Task.TheVariants.{Drill}

-- contents and log behind so many requests
abbrev pub mark_behind : ℕ → ℕ → Mark → Mark
mark_behind n seed m = with_contents m (drilled n seed m.contents).contents

-- its numbers are those behind the requests that it made, from these contents on
pub record Counts (seed : ℕ) (c : Contents) (run : Run) : Type 0 where
  pub drawn : run.drawn ≡ (drilled run.made seed c).drawn_last
  pub accepted : run.accepted ≡ (drilled run.made seed c).accepted

-- and what they made of a mark is held
pub record Holds {S B : Type 0} (s : space.Ghosts S) (holds : B → Files → Contents → Type 0) (seed : ℕ) (run : Run) (base : B) (space : S) (m : Mark) : Type 0 where
  pub counts : Counts seed m.contents run
  pub has : HasMark s holds base space (mark_behind run.made seed m)

-- and the files stand for it
pub record Stands {S B : Type 0} (s : space.Ghosts S) (holds : B → Files → Contents → Type 0) (reopens : Files → Contents → Type 0) (seed : ℕ) (run : Run) (base : B) (space : S) (m : Mark) : Type 0 where
  pub counts : Counts seed m.contents run
  pub stands : HoldsMark s holds reopens base space (mark_behind run.made seed m)

-- so many more requests were made
pub record Makes {S B : Type 0} (s : space.Ghosts S) (holds : B → Files → Contents → Type 0) (more : ℕ) (run run' : Run) (base base' : B) (old new : S) : Type 0 where
  pub made : run'.made ≡ run.made + more
  pub ready : IsReady s holds base' new
  pub each : (seed : ℕ) (m : Mark) → Holds s holds seed run base old m → Holds s holds seed run' base' new m

-- the text is that of so many requests, some of which were made
pub record Tells {S B : Type 0} (s : space.Ghosts S) (holds : B → Files → Contents → Type 0) (run : Run) (count : ℕ) (base : B) (space : S) (text : List ℕ) : Type 0 where
  pub each : (seed : ℕ) (m : Mark) → Holds s holds seed run base space m → text ≡ summary count (drilled count seed m.contents)

-- so many more requests were made, and nothing is left to commit
pub record Secures {S B : Type 0} (s : space.Ghosts S) (holds : B → Files → Contents → Type 0) (reopens : Files → Contents → Type 0) (more : ℕ) (run run' : Run) (base base' : B) (old new : S) : Type 0 where
  pub made : run'.made ≡ run.made + more
  pub may : MayManage s holds reopens base' new
  pub each : (seed : ℕ) (m : Mark) → Stands s holds reopens seed run base old m → Stands s holds reopens seed run' base' new m

-- files that stand for a mark behind some hundreds of requests
pub record AtHundred (reopens : Files → Contents → Type 0) (seed most : ℕ) (m : Mark) (o : Option Files) : Type 0 where
  pub hundreds : ℕ
  pub within : hundreds ≤ most
  pub reopen : Reopens reopens o (mark_behind (100 * hundreds) seed m)

pub record LeavesHundreds {S : Type 0} (s : space.Ghosts S) (reopens : Files → Contents → Type 0) (old new : S) (seed most : ℕ) (m : Mark) : Type 0 where
  pub leaves : LeavesOnly s.moment s.left old new (AtHundred reopens seed most m)

-- ---- whichever the seed was, and whatever was held at first

module _ {S B : Type 0} (s : space.Ghosts S) (holds : B → Files → Contents → Type 0) where
  module _ {T : Type 0} (fills : S → S → Contents → Contents → Type 0) (lacks_large : S → S → Contents → Type 0) (result : Result T MgrErr) where
    -- a limit is reached within so many requests more
    abbrev pub FillsMore : ℕ → Run → B → S → S → Type 0
    FillsMore more run base old new = IsErrOf result Full → (seed : ℕ) (m : Mark) → Holds s holds seed run base old m → FillsTask (s.log_full new) (fills old new) (lacks_large old new) (Drill seed (run.made + more)) m.contents

    -- within so many in all, where the files stood for what was held
    abbrev pub FillsUpTo : (Files → Contents → Type 0) → ℕ → Run → B → S → S → Type 0
    FillsUpTo reopens count run base old new = IsErrOf result Full → (seed : ℕ) (m : Mark) → Stands s holds reopens seed run base old m → FillsTask (s.log_full new) (fills old new) (lacks_large old new) (Drill seed count) m.contents

  module _ (reopens : Files → Contents → Type 0) where
    -- where the files stood for what was held they do
    abbrev pub StandsOn : Run → Run → B → B → S → S → Type 0
    StandsOn run run' base base' old new = (seed : ℕ) (m : Mark) → Stands s holds reopens seed run base old m → Stands s holds reopens seed run' base' new m

    -- the files stand for what was held, or for what so many requests more make of it
    abbrev pub MovesBy : ℕ → Run → B → S → S → Type 0
    MovesBy more run base old new = (seed : ℕ) (m : Mark) → Stands s holds reopens seed run base old m → MovesTo s reopens old new (mark_behind (run.made + more) seed m)

    abbrev pub LeavesBy : ℕ → Run → B → S → S → Type 0
    LeavesBy most run base old new = (seed : ℕ) (m : Mark) → Stands s holds reopens seed run base old m → LeavesHundreds s reopens old new seed most m
