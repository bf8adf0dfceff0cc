-- How a run ends: its status, and its line.
use Rattle.std.specs.Prelude.{ℕ, List, [], ◌∷◌, ◌++◌, codes, decimal}
use Rattle.tc_base.specs.declared.kind.Rule.{Rule}
use Rattle.tc_undo.specs.declared.errors.UndoErr.{UndoErr}
use Rattle.tc_undo.specs.declared.errors.UndoErr.TheVariants as undo_err
use Rattle.ty_base.specs.declared.errors.AnyErr.{AnyErr}
use Rattle.ty_base.specs.declared.errors.AnyErr.TheVariants as any
use Rattle.ty_rounds.specs.declared.outcome.TurnErr.{TurnErr}
use Rattle.ty_rounds.specs.declared.outcome.TurnErr.TheVariants as turn
use Rattle.tk_top.specs.declared.ends.End.{End}
use Rattle.tk_top.specs.declared.ends.End.TheVariants.{Done, Words, Refused, VolumeFault, Broken, NoMemory, Full, WireFault, TurnsSpent}

abbrev pub status_of : End → ℕ
status_of Done = 0
status_of Words = 1
status_of Refused = 2
status_of VolumeFault = 3
status_of (Broken file rule) = 4
status_of NoMemory = 5
status_of Full = 6
status_of WireFault = 7
status_of TurnsSpent = 8

-- a file's number in decimal, and the rule as `L6`
abbrev pub broken_line : ℕ → Rule → List ℕ
broken_line file rule = codes "tokyo: broken: file " ++ (decimal file ++ (codes " rule " ++ (rule.letter ∷ (decimal rule.number ++ 10 ∷ []))))

-- what is written to the standard error, nothing where it is done
abbrev pub line_of : End → List ℕ
line_of Done = []
line_of Words = codes "tokyo: words" ++ 10 ∷ []
line_of Refused = codes "tokyo: refused" ++ 10 ∷ []
line_of VolumeFault = codes "tokyo: volume fault" ++ 10 ∷ []
line_of (Broken file rule) = broken_line file rule
line_of NoMemory = codes "tokyo: no memory" ++ 10 ∷ []
line_of Full = codes "tokyo: full" ++ 10 ∷ []
line_of WireFault = codes "tokyo: wire fault" ++ 10 ∷ []
line_of TurnsSpent = codes "tokyo: turns spent" ++ 10 ∷ []

-- the end of a run whose last turn failed
abbrev pub end_of_turn : TurnErr → End
end_of_turn turn.Volume = VolumeFault
end_of_turn turn.Full = Full
end_of_turn turn.Wire = WireFault
end_of_turn turn.Memory = NoMemory

-- the end of a run whose files weren't opened
abbrev pub end_of : AnyErr → End
end_of (any.Broken file rule) = Broken file rule
end_of any.Full = Full
end_of any.Fault = VolumeFault
end_of any.Memory = NoMemory

-- and of one whose undo log wasn't
abbrev pub end_of_undo : UndoErr → End
end_of_undo undo_err.Fault = VolumeFault
end_of_undo (undo_err.Broken rule) = Broken 1 rule
end_of_undo undo_err.Memory = NoMemory

-- an end of turns
abbrev pub IsEnd : End → Type 0
IsEnd Done = Unit {0}
IsEnd Words = ⊥
IsEnd Refused = ⊥
IsEnd VolumeFault = Unit {0}
IsEnd (Broken file rule) = ⊥
IsEnd NoMemory = Unit {0}
IsEnd Full = Unit {0}
IsEnd WireFault = Unit {0}
IsEnd TurnsSpent = Unit {0}

-- an end in a turn that may have committed and sent nothing
abbrev pub IsStopped : End → Type 0
IsStopped Done = ⊥
IsStopped Words = ⊥
IsStopped Refused = ⊥
IsStopped VolumeFault = Unit {0}
IsStopped (Broken file rule) = ⊥
IsStopped NoMemory = Unit {0}
IsStopped Full = Unit {0}
IsStopped WireFault = ⊥
IsStopped TurnsSpent = ⊥
