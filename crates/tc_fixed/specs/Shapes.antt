-- The numbers that a fixed-length file keeps as long as it lives.
use Rattle.std.specs.Prelude.{ℕ, ◌-◌, ◌/◌, ◌^◌, ◌≤◌}
use Rattle.hf_head.specs.FixedHeads.{cell}

-- the greatest id allowed
abbrev pub most_id : ℕ → ℕ → ℕ
most_id width limit = (limit - 256) / cell width

-- a width and a limit that a file may have, and an id that is allowed in it
pub record HasShape (width limit last : ℕ) : Type 0 where
  pub width_least : 1 ≤ width
  pub width_most : width ≤ 1048576
  pub limit_least : 512 ≤ limit
  pub limit_most : limit ≤ 2 ^ 40
  pub allowed : last ≤ most_id width limit
