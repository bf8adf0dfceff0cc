-- Bytes that wait to be written behind the log: the calls as if they were written.
use Rattle.std.specs.Prelude.{◌≡◌, ℕ, List, ◌∷◌, length, take}
use Rattle.tc_base.specs.Files.{Files}
use Rattle.tc_io.specs.Images.{Calls, Image, now, of, written}
use Rattle.ud_log.specs.Entries.{Entry}
use Rattle.ud_state.specs.State.{NoLonger, Pending}
use Rattle.tc_undo.specs.declared.waiting.Waiting.{Waiting}

-- what waits
abbrev pub text : Waiting → List ℕ
text w = take w.size w.room

-- the calls, and a write of these bytes behind the log
abbrev pub appended : Calls → List ℕ → Calls
appended cs bytes = (1, written (length (now cs 1)) bytes) ∷ cs

-- the calls as if what waits were written
abbrev pub ahead : Calls → Waiting → Calls
ahead cs w = appended cs (text w)

-- a transaction is open
pub record IsPending (cs : Calls) : Type 0 where
  pub kept : Files
  pub es : List Entry
  pub pending : Pending cs kept es

-- a stop leaves no more of the log than it has, which with what waits is so many bytes
pub record Waits (cs : Calls) (w : Waiting) (end : ℕ) : Type 0 where
  pub no_longer : NoLonger cs 1 (length (now cs 1))
  pub end_is : end ≡ length (now (ahead cs w) 1)

-- all that a stop leaves of the log now is left by those calls too, and all else is the same
pub record Joins (old new : Calls) : Type 0 where
  pub images : (i : List ℕ) → Image (of 1 new) i → Image (of 1 old) i
  pub reads : now new 1 ≡ now old 1
  pub others : (f : ℕ) → (1 ≡ f → ⊥) → of f new ≡ of f old
