-- The first rule of a fixed-length file that fails.
use Rattle.std.specs.Prelude.{◌≡◌, ℕ, ◌-◌, ◌≤◌, List}
use Rattle.tc_base.specs.declared.kind.Rule.{Rule}
use Rattle.hf_head.specs.declared.fixed.FixedHead.{FixedHead}
use Rattle.tc_model.specs.Arrays.{Array}
use Rattle.tc_space.specs.declared.errors.OpenErr.{OpenErr}
use Rattle.tc_space.specs.declared.errors.OpenErr.TheVariants as open_err
use Rattle.tc_space.specs.declared.space.Space.{Ghosts}
use Rattle.tc_fixed.specs.declared.cells.Look.{Look}
use Rattle.tc_fixed.specs.declared.fixed.Fixed.{Fixed}
use Rattle.tc_fixed.specs.declared.tally.Tally.{Tally}
use Rattle.tc_fixed.specs.Cells.{IsMapOf, cell_at}
use Rattle.tc_fixed.specs.Holding.{Means, max_id_of}
use Rattle.tc_fixed.specs.Looks.{Sees}
use Rattle.tc_fixed.specs.Tallies.{Counts}
use Rattle.tc_fixed.specs.Standing.{HasHead, IsLong, HasCells, IsMap, HasCount, HasEnds, Stands}

abbrev pub rule_f : ℕ → Rule
rule_f number = record { letter = 70; number = number }

-- this rule fails, and the earlier ones hold
pub data IsBroken (bytes : List ℕ) : Rule → Type 0 where
  no_head : ((h : FixedHead) → HasHead bytes h → ⊥) → IsBroken bytes (rule_f 1)
  too_short : (h : FixedHead) → HasHead bytes h → (IsLong h bytes → ⊥) → IsBroken bytes (rule_f 2)
  bad_cell : (h : FixedHead) → HasHead bytes h → IsLong h bytes → (HasCells h bytes → ⊥) → IsBroken bytes (rule_f 3)
  bad_count : (h : FixedHead) (m : Array) → HasHead bytes h → IsLong h bytes → IsMap h m bytes → (HasCount h m → ⊥) → IsBroken bytes (rule_f 4)
  bad_ends : (h : FixedHead) (m : Array) → HasHead bytes h → IsLong h bytes → IsMap h m bytes → HasCount h m → (HasEnds h m → ⊥) → IsBroken bytes (rule_f 5)

abbrev pub broken_at : ℕ → OpenErr
broken_at number = open_err.Broken 0 (rule_f number)

-- a refusal that names a rule names the file, and the first rule that fails
abbrev pub Breaks : Type 0 → List ℕ → OpenErr → Type 0
Breaks tells bytes e = (f : ℕ) (rule : Rule) → e ≡ open_err.Broken f rule → (f ≡ 0) × (tells → IsBroken bytes rule)

-- a refusal that names a rule names the file
abbrev pub NamesFile : OpenErr → Type 0
NamesFile e = (f : ℕ) (rule : Rule) → e ≡ open_err.Broken f rule → f ≡ 0

-- some map is that of the cells of a head, and this is counted of it
abbrev pub WasCounted : FixedHead → Tally → List ℕ → Type 0
WasCounted h t bytes = (m : Array) × IsMap h m bytes × Counts t m

-- some map is that of the cells up to an id, and this is counted of it
pub record IsCountedTo (width last : ℕ) (t : Tally) (bytes : List ℕ) : Type 0 where
  pub m : Array
  pub map : IsMapOf width last m bytes
  pub counts : Counts t m

-- what is counted with the cell of an id, whose front tells this
abbrev pub CountsOn : Tally → ℕ → Look → Tally → Type 0
CountsOn old id found new = (width : ℕ) (bytes : List ℕ) → width ≤ 1048576 → IsCountedTo width (id - 1) old bytes → Sees width found (cell_at width id bytes) → IsCountedTo width id new bytes

-- whatever map the bytes stand for, it is held, with the same width and greatest id allowed
abbrev pub IsOpenOf : {S : Type 0} → Ghosts S → Fixed S → List ℕ → S → Type 0
IsOpenOf s f bytes space = (width most : ℕ) (m : Array) → Stands bytes width most m → Means s f space m × (f.width ≡ width) × (max_id_of f ≡ most)
