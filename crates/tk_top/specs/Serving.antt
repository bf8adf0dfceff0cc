-- What a run that serves leaves, of its transcript and of a space.
use Rattle.std.specs.Prelude.{◌≡◌, ◌⊎◌, ◌≢◌, ◌<◌, ℕ, true, false, List, [], ◌∷◌, Option, Some}
use Rattle.tc_base.specs.Files.{Files}
use Rattle.tc_base.specs.declared.kind.Kind.{Kind}
use Rattle.tc_io.specs.Told.{Adds}
use Rattle.tc_io.specs.Script.{Plays, Script}
use Rattle.tc_io.specs.declared.act.Act.{Act}
use Rattle.tc_io.specs.declared.wire.Dialled.{Dialled}
use Rattle.tc_io.specs.declared.wire.Wire as wire
use Rattle.tc_io.specs.declared.wire.At.{At}
use Rattle.tc_io.specs.declared.wire.Entry.{Entry}
use Rattle.tc_space.specs.declared.space.Space as space
use Rattle.tc_model.specs.Contents.{Contents}
use Rattle.ty_world.specs.World.{World, Mark, mark_of, copied_at, world_after, AllAsked, IsRested}
use Rattle.ty_world.specs.Answers.{AllSpelled, AllAnswered, AllSent, AreInOrder, EachFed, EachWasFed}
use Rattle.ty_ulog.specs.Log.{IsLog}
use Rattle.ty_world.specs.Logs.{Settings}
use Rattle.ty_world.specs.Playing.{unplayed_with}
use Rattle.ty_base.specs.Opening.{OpensTo}
use Rattle.ty_rounds.specs.Kept.{HoldsMark, Reopens, StandFor, LeavesMarks}
use Rattle.ty_rounds.specs.Holding.{IsFine}
use Rattle.ty_rounds.specs.Turns.{has_send}
use Rattle.tk_top.specs.declared.ends.End.{End}
use Rattle.tk_top.specs.declared.ends.End.TheVariants.{Done, TurnsSpent}
use Rattle.tk_top.specs.Events.{HadEvents, events_of}
use Rattle.tk_top.specs.Opened.{OpensOnly}
use Rattle.tk_top.specs.Runs.{IsLast, AtExit, NoneKept}
use Rattle.tk_top.specs.Starts.{Grows, Start, begun, most_turns, plainly, when, with_log}
use Rattle.tk_top.specs.Staying.{IsStill}
use Rattle.tk_top.specs.CopyRuns.{CopyRun, StandsAt}

-- what a run that ends so leaves of the world that its transcript makes
pub record ServesAt (st : Start) (end : End) (turns : ℕ) (at : At) (first : Mark) (es : List Entry) (v : World) : Type 0 where
  -- each byte sent is one that is owed, in order; and what is owed is what the abstract database answers in round order, by the world's definition
  pub replies : IsFine v
  -- the pieces placed are those that came, in order, and what is unread stands behind them; of the link records
  pub spelled : AllSpelled v
  -- no number comes twice
  pub ordered : AreInOrder v
  -- at the end no whole piece is left unserved, and all that is owed was sent, but to a peer that is gone
  pub done : end ≡ Done → (v.shut ≡ true) × AllAnswered v
  -- each connection was sent all or its last send took not all, and none that is over is left open
  pub rested : (end ≡ Done) ⊎ (end ≡ TurnsSpent) → IsRested v
  -- however it ended, this holds before the last turn
  pub last : IsLast st end turns [] first es v
  -- each feed is owed all records above its timestamp
  pub fed : EachFed v.records v.there
  -- and one that was closed, those of a front of them
  pub was_fed : EachWasFed v.records v.past
  -- the update log only grows, and where all turns came to their end it is one still
  pub grown : Grows (begun st [] first) v
  pub logged : (end ≡ Done) ⊎ (end ≡ TurnsSpent) → when st.is.logs (IsLog v.log v.records)
  -- no event was the last, and there were as many as there are turns
  pub spent : end ≡ TurnsSpent → (v.shut ≡ false) × (v.events ≡ turns)
  -- this address was opened once, or the run didn't come to it
  pub opens : (v.opens ≡ at ∷ []) ⊎ ((v.opens ≡ []) × (end ≢ Done) × (end ≢ TurnsSpent))

-- where a script is played that the turns suffice for, they aren't spent, and where it is done it is played to its end, and each connection but a 65th was sent all
pub record PlaysAll (is : Settings) (turns : ℕ) (now : Option Script) (end : End) (acts : List Act) (given : ℕ) (v : World) : Type 0 where
  pub enough : most_turns is acts given v.looked < turns → end ≢ TurnsSpent
  pub out : end ≡ Done → (s : Script) × (now ≡ Some s) × (s.acts ≡ [])
  pub sent : end ≡ Done → AllSent v

-- a run over a space that began at this mark
pub record SpaceRun {S : Type 0} (s : space.Ghosts S) (st : Start) (reopens : Files → Contents → Type 0) (made : Files → Type 0) (end : End) (turns : ℕ) (at : At) (old new : S) (first : Mark) (es : List Entry) (v : World) : Type 0 where
  pub asked : AllAsked (begun st [] first) es
  pub serves : ServesAt st end turns at first es v
  pub exit : (o : Option Files) → s.left new (s.moment new) o → AtExit reopens end (world_after serves.last.earlier (begun st [] first)) v o
  pub moments : LeavesMarks s (with_log st.is.logs reopens) old new v.marks
  -- once anything was sent in the last turn, what stands for the last mark
  pub late : has_send serves.last.last ≡ true → (o : Option Files) → s.left new (s.moment new) o → Reopens reopens o (mark_of v)
  -- of the copy under each label
  pub copies : (l : List ℕ) → s.tells → CopyRun reopens l (StandsAt end (world_after serves.last.earlier (begun st [] first)) serves.last.last l) v.marks (copied_at l v.copies) ((s.names old).copies l) ((s.names new).copies l)
  -- once the wire was called, where no round had anything to commit, the files stay
  pub idle : es ≢ [] → NoneKept (begun st [] first) es → (o : Option Files) → s.left new (s.moment new) o → IsStill made (s.now old) o

-- what came of the wire, and what it makes of a space and of a script, where it began so
pub record RunsOver {S W : Type 0} (s : space.Ghosts S) (g : wire.Ghosts W) (st : Start) (reopens : Files → Contents → Type 0) (made : Files → Type 0) (end : End) (turns : ℕ) (at : At) (old new : S) (x y : W) (start : Mark → Type 0) : Type 0 where
  pub entries : List Entry
  pub told : Adds (g.transcript x) (g.transcript y) entries
  pub opened : OpensOnly st.is at entries
  pub events : HadEvents end turns (events_of entries)
  pub ends : (first : Mark) → start first → SpaceRun s st reopens made end turns at old new first entries (world_after entries (begun st [] first))
  -- where a script is played, each event and answer is as the script has it, and all bytes offered were taken
  pub played : (end ≡ Done) ⊎ (end ≡ TurnsSpent) → Plays (g.plays x) (g.plays y) entries
  -- no copy was touched where the wire wasn't called
  pub unserved : entries ≡ [] → s.names new ≡ s.names old
  pub plays : (first : Mark) → start first → (acts : List Act) (dials : List Dialled) (given : ℕ) → g.plays x ≡ Some (unplayed_with acts dials given) → PlaysAll st.is turns (g.plays y) end acts given (world_after entries (begun st [] first))

-- a space whose files are told, and stand for a mark
abbrev pub Begins : {S : Type 0} → space.Ghosts S → (Files → Contents → Type 0) → S → Mark → Type 0
Begins s opens space m = s.tells × StandFor opens (s.now space) m

module _ {S W : Type 0} (s : space.Ghosts S) (g : wire.Ghosts W) (reopens : Files → Contents → Type 0) where
  -- of a database that is held, whose files are there
  abbrev pub RunsHeld : {B : Type 0} → (B → Files → Contents → Type 0) → B → End → ℕ → At → S → S → W → W → Type 0
  RunsHeld holds base end turns at old new x y = RunsOver s g plainly reopens (λ files. ⊥) end turns at old new x y (HoldsMark s holds reopens base old)

  -- of files that are opened as this kind, where an empty main file is made so
  abbrev pub RunsOpened : (Files → Type 0) → Kind → End → ℕ → At → S → S → W → W → Type 0
  RunsOpened made kind end turns at old new x y = RunsOver s g plainly reopens made end turns at old new x y (Begins s (OpensTo kind reopens) old)
