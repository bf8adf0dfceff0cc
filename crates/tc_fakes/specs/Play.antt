-- What one act of a script gives.
use Rattle.std.specs.Prelude.{◌≡◌, ℕ, Bool, List, [], ◌∷◌, drop}
use Rattle.tc_io.specs.declared.wire.Ev.{Ev}
use Rattle.tc_io.specs.declared.wire.Ev.TheVariants as event
use Rattle.tc_io.specs.declared.wire.Dialled.{Dialled}
use Rattle.tc_io.specs.declared.act.Act.{Act}
use Rattle.tc_fakes.specs.declared.playing.Play.{Play}
use Rattle.tc_fakes.specs.declared.playing.Play.TheVariants.{Skip, Keep, Give}
use Rattle.tc_io.specs.Script.{Lines, next_act, next_dial}
use Rattle.tc_io.specs.Lines.{MayCome}
use Rattle.tc_io.specs.Transcript.{bytes_of}

abbrev pub given_by : Play → Act → Lines → List ℕ → Bool → List ℕ → List Act → Ev × List ℕ × List Act
given_by Skip act l paused busy into acts = next_act acts l paused busy
given_by Keep act l paused busy into acts = (event.Quiet, [], act ∷ acts)
given_by (Give ev) act l paused busy into acts = (ev, bytes_of ev into, acts)

abbrev pub May : List ℕ → List ℕ → ℕ → List ℕ → Play → Type 0
May conns ended given paused Skip = Unit {0}
May conns ended given paused Keep = Unit {0}
May conns ended given paused (Give ev) = (busy : Bool) → MayCome conns ended given paused busy ev

-- whatever stands behind it
pub record Gives (act : Act) (l : Lines) (paused : List ℕ) (play : Play) (into : List ℕ) : Type 0 where
  pub is : (busy : Bool) (acts : List Act) → next_act (act ∷ acts) l paused busy ≡ given_by play act l paused busy into acts

-- that event with these bytes, and that is left
pub record IsNext (next : Ev × List ℕ × List Act) (ev : Ev) (bytes : List ℕ) (left : List Act) : Type 0 where
  pub ev_is : ev ≡ next.0
  pub bytes_are : bytes ≡ next.1
  pub left_is : left ≡ next.2

-- the connections of a wire
abbrev pub lines : List ℕ → List ℕ → ℕ → Lines
lines conns ended given = record { conns = conns; ended = ended; given = given }

-- a place and the event before it, with what it left in the buffer, are those of a script from a start on
abbrev pub IsNextFrom : List Act → ℕ → Lines → List ℕ → Bool → ℕ × Ev → List ℕ → Type 0
IsNextFrom script start l paused busy x into = IsNext (next_act (drop start script) l paused busy) x.1 (bytes_of x.1 into) (drop x.0 script)

-- a place and the answer of a dial before it are those of a script from a start on; which connections have ended is not asked
abbrev pub IsDialledFrom : List Dialled → ℕ → List ℕ → ℕ → ℕ × Dialled → Type 0
IsDialledFrom dials start conns given x = (x.1, drop x.0 dials) ≡ next_dial (drop start dials) (lines conns [] given)
