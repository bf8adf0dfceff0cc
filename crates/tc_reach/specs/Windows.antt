-- Bytes of a file that were read at once.
use Rattle.std.specs.Prelude.{◌≡◌, ℕ, ◌+◌, ◌≤◌, List, length, take, drop}
use Rattle.tc_reach.specs.declared.window.Window.{Window}

-- so many bytes from a place on are among them
pub record Covers (w : Window) (at count : ℕ) : Type 0 where
  pub low : w.at ≤ at
  pub high : at + count ≤ w.at + length w.bytes.items

-- they are bytes of this file
abbrev pub Shows : Window → List ℕ → Type 0
Shows w file = w.bytes.items ≡ take (length w.bytes.items) (drop w.at file)
