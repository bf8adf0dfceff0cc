-- The lines of gaps.
use Rattle.std.specs.Prelude.{◌≡◌, ◌<◌, ◌≤◌, ◌-◌, ◌^◌, ℕ, List, [], ◌∷◌, ◌++◌, Result, OnOk, codes, decimal}
use Rattle.std.specs.List.{flat_map}
use Rattle.tc_base.specs.declared.fault.Fault.{Fault}
use Rattle.tc_io.specs.Causes.{HasCause}
use Rattle.tc_io.specs.Told.{Adds}
use Rattle.tc_io.specs.declared.sink.Sink as sink
use Rattle.ty_rounds.specs.declared.outcome.Outcome.{Outcome}
use Rattle.ty_rounds.specs.declared.outcome.Outcome.TheVariants.{Went, Gap, Shut}

-- the last timestamp held, and the one that a record followed
abbrev pub gap_line : ℕ × ℕ → List ℕ
gap_line g = codes "tokyo: gap: held " ++ (decimal g.0 ++ (codes ", record follows " ++ (decimal g.1 ++ 10 ∷ [])))

abbrev pub gap_lines : List (ℕ × ℕ) → List ℕ
gap_lines gaps = flat_map gap_line gaps

-- these gaps were told: a line of each, where no line was refused. No count of faults falls
pub record TellsGaps {E : Type 0} (e : sink.Ghosts E) (gaps : List (ℕ × ℕ)) (p q : E) : Type 0 where
  pub later : e.faults p ≤ e.faults q
  pub lined : e.faults q ≡ e.faults p → e.faults p < 2 ^ 64 - 1 → Adds (e.taken p) (e.taken q) (gap_lines gaps)
  pub silent : gaps ≡ [] → q ≡ p

-- what becomes of the standard error behind a turn that went so: a line of a gap, as far as it could be written
abbrev pub TellsGap : {E : Type 0} → sink.Ghosts E → Outcome → E → E → Type 0
TellsGap e Went p q = q ≡ p
TellsGap e (Gap held follows) p q = (ok : Result (Unit {0}) Fault) × HasCause (e.faults p) (e.faults q) ok × OnOk ok (Adds (e.taken p) (e.taken q) (gap_line (held, follows)))
TellsGap e Shut p q = q ≡ p
