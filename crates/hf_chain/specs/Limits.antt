-- A link in a file, and where it has no room.
use Rattle.std.specs.Prelude.{ℕ, ◌+◌, ◌≤◌, List, length, Result, IsErrOf}
use Rattle.tc_base.specs.Endian.{le_bytes}
use Rattle.tc_base.specs.Files.{wrote}
use Rattle.tc_space.specs.Ranges.{Passes}
use Rattle.tc_space.specs.Refusals.{OnFault}
use Rattle.tc_space.specs.declared.errors.RecErr.{RecErr}
use Rattle.tc_space.specs.declared.errors.RecErr.TheVariants.{Memory}
use Rattle.tc_space.specs.declared.space.Space.{Ghosts}
use Rattle.hf_head.specs.declared.head.Head.{Head}
use Rattle.hf_tree.specs.declared.parent.Parent.{Parent}
use Rattle.hf_tree.specs.Links.{place_of, width}

-- the bytes of a link lie in a file
abbrev pub LinkInside : Head → Parent → List ℕ → Type 0
LinkInside h link bytes = place_of (width h) link + width h ≤ length bytes

-- bytes with a link to a stored place
abbrev pub linked : Head → Parent → ℕ → List ℕ → List ℕ
linked h link n bytes = wrote (place_of (width h) link) (le_bytes (width h) n) bytes

-- a fault comes only where a call of the volume failed, and memory isn't wanted
abbrev pub FaultOrFull : {S T : Type 0} → Ghosts S → Result T RecErr → S → S → Type 0
FaultOrFull s result old new = OnFault s result old new × (IsErrOf result Memory → ⊥)

-- the bytes of a link, which lies in the file, pass a limit
pub record IsFull {S : Type 0} (s : Ghosts S) (h : Head) (file : ℕ) (old new : S) : Type 0 where
  pub link : Parent
  pub inside : s.tells → place_of (width h) link + width h ≤ length (s.now old file)
  pub passes : Passes (s.limit old file) (s.log_full new) (place_of (width h) link) (width h)
