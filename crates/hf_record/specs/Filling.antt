-- When no block is to be had.
use Rattle.std.specs.Prelude.{◌≡◌, ◌⊎◌, ℕ, ◌+◌, ◌-◌, ◌^◌, ◌<◌, ◌≤◌, false, Result, IsErrOf, if◌then◌else◌}
use Rattle.tc_space.specs.declared.errors.RecErr.{RecErr}
use Rattle.tc_space.specs.declared.errors.RecErr.TheVariants.{Full}
use Rattle.tc_space.specs.declared.space.Space.{Ghosts}
use Rattle.hf_head.specs.declared.head.Head.{Head}
use Rattle.hf_head.specs.Heads.{is_large}
use Rattle.hf_layout.specs.Frees.{Frees, HasNone}

-- a chain can name the places below this one
abbrev pub reach : Head → ℕ
reach h = if is_large h then 2 ^ 64 - 1 else 2 ^ (32 + h.apow)

-- the file grows past a limit, or past what a head can name, since no free block that a chain can name is large enough
pub record IsTooLong (h : Head) (limit end b : ℕ) (free : Frees) : Type 0 where
  pub none : HasNone free (reach h) b
  pub past : (limit < end + b) ⊎ (2 ^ 40 < end + b)

-- in the small form no chain can name the end of the blocks, and no free block that one can name is large enough
pub record IsTooFar (h : Head) (end b : ℕ) (free : Frees) : Type 0 where
  pub small : is_large h ≡ false
  pub none : HasNone free (reach h) b
  pub far : 2 ^ (32 + h.apow) ≤ end

-- the one limit that is named is the undo log's, and the space may not be used any more
abbrev pub SpoilsFull : {S T : Type 0} → Ghosts S → Result T RecErr → S → Type 0
SpoilsFull s result new = IsErrOf result Full → (s.flag new ≡ false) × (s.tells → s.log_full new)
