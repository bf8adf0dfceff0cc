-- What a pass over a file asks for.
use Rattle.std.specs.Prelude.{ℕ, ◌+◌, ◌<◌, ◌≤◌, ◌^◌, List, length}
use Rattle.tc_space.specs.Ranges.{IsDataFile}
use Rattle.tc_space.specs.declared.space.Space.{Ghosts}
use Rattle.hf_head.specs.declared.head.Head.{Head}
use Rattle.hf_head.specs.Heads.{IsValid}
use Rattle.tc_reach.specs.declared.window.Window.{Window}
use Rattle.tc_reach.specs.Windows.{Shows}
use Rattle.hf_survey.specs.declared.facts.Fact.{Fact}
use Rattle.hf_survey.specs.Facts.{HasFacts}

-- a data file is read through a window
pub record Looks {S : Type 0} (s : Ghosts S) (space : S) (file : ℕ) (window : Window) : Type 0 where
  pub sound : s.sound space
  pub data_file : IsDataFile file
  pub shows : s.tells → Shows window (s.now space file)

-- besides, so many bytes of it stand from a place on
pub record LooksAt {S : Type 0} (s : Ghosts S) (space : S) (file start long : ℕ) (window : Window) : Type 0 where
  pub looks : Looks s space file window
  pub inside : s.tells → start + long ≤ length (s.now space file)
  pub small : s.tells → length (s.now space file) < 2 ^ 64

-- its head is valid, and all its buckets are there
pub record HasBuckets {S : Type 0} (s : Ghosts S) (h : Head) (space : S) (file : ℕ) : Type 0 where
  pub valid : IsValid h
  pub inside : s.tells → h.first ≤ length (s.now space file)

-- a data file may be read, all its buckets are there, and the facts of its records were read
pub record Surveyed {S : Type 0} (s : Ghosts S) (h : Head) (space : S) (file : ℕ) (facts : List Fact) : Type 0 where
  pub sound : s.sound space
  pub data_file : IsDataFile file
  pub buckets : HasBuckets s h space file
  pub read : s.tells → HasFacts h (s.now space file) facts
