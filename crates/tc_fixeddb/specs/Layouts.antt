-- How a fixed-length file is laid out.
use Rattle.std.specs.Prelude.{ℕ, List, [], ◌-◌, length, take}
use Rattle.std.proofs.Common.{arith, refl}
use Rattle.tc_base.specs.Files.{Files}
use Rattle.hf_head.specs.FixedHeads.{fixed_in}
use Rattle.ty_base.specs.Holding.{KeepsNumbers, Layout}

-- how many bytes stand behind the file size that its head says; its width and the greatest id that it allows are numbers of the contents
abbrev pub layout_in : List ℕ → Layout
layout_in bytes = record { numbers = []; lead = 0; slack = length bytes - (fixed_in (take 256 bytes)).size }

abbrev pub layout_of : Files → Layout
layout_of files = layout_in (files 0)

-- whatever they are, their numbers are none, and nothing lies in front of the first cell
pub no_numbers : (f g : Files) → KeepsNumbers (layout_of f) (layout_of g)
no_numbers f g = record { same = refl; lead = omega arith }
