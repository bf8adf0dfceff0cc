-- The file that a call is about.
use Rattle.std.specs.Prelude.{ℕ}
use Rattle.tc_space.specs.Ranges.{IsDataFile}
use Rattle.tc_space.specs.declared.space.Space.{Ghosts}
use Rattle.hf_head.specs.declared.head.Head.{Head}
use Rattle.hf_head.specs.Heads.{IsValid}

-- a space may be used, and one of its data files has this head
pub record IsOpenFile {S : Type 0} (s : Ghosts S) (h : Head) (file : ℕ) (space : S) : Type 0 where
  pub sound : s.sound space
  pub is_data : IsDataFile file
  pub valid : IsValid h
