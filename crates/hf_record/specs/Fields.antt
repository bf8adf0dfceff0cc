-- What is true of the numbers of a hash file, whatever its space tells.
use Rattle.std.specs.Prelude.{◌≢◌, ℕ, ◌≤◌}
use Rattle.hf_head.specs.declared.head.Head.{Head}
use Rattle.hf_head.specs.Heads.{HasPowers, HasNumbers}

-- a data file, with no choice in it
abbrev pub IsFile : ℕ → Type 0
IsFile file = (file ≤ 18) × (file ≢ 1)

-- a valid head, with no choice in it
pub record HasFields (h : Head) : Type 0 where
  pub kind_most : h.kind ≤ 3
  pub kind_known : h.kind ≢ 2
  pub powers : HasPowers h
  pub options : h.options ≤ 1
  pub numbers : HasNumbers h
