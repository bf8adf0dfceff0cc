-- What a run that keeps an update log leaves of a space.
use Rattle.std.specs.Prelude.{◌≡◌, ◌⊎◌, ◌<◌, ◌^◌, ℕ, false, true, List, [], Option, Some, None, All, option_map}
use Rattle.tc_base.specs.Files.{Files}
use Rattle.tc_base.specs.declared.kind.Kind.{Kind}
use Rattle.tc_base.specs.declared.kind.Rule.{Rule}
use Rattle.tc_io.specs.Told.{Adds}
use Rattle.tc_io.specs.declared.sink.Sink as sink
use Rattle.tc_io.specs.declared.volume.Volume as volume
use Rattle.tc_io.specs.declared.wire.Wire as wire
use Rattle.tc_io.specs.declared.wire.At.{At}
use Rattle.tc_space.specs.Frames.{Keeps, OnlyReads}
use Rattle.tc_space.specs.declared.space.Space as space
use Rattle.tc_model.specs.Contents.{Contents}
use Rattle.ty_base.specs.Holding.{Frame, IsReady, Laid, Layout}
use Rattle.ty_base.specs.Opening.{OpensTo}
use Rattle.ty_ulog.specs.declared.record.Record.{Record}
use Rattle.ty_ulog.specs.Log.{AreUpdates, BreaksG, Follow, IsLog, records_in}
use Rattle.ty_ulog.specs.Noting.{Lacks}
use Rattle.ty_world.specs.Fold.{AllMarksOf, AlwaysOf, IsMarkOf}
use Rattle.ty_world.specs.Logs.{Settings, is_replica}
use Rattle.ty_world.specs.World.{Mark, world_after}
use Rattle.ty_rounds.specs.Books.{address, settings_of}
use Rattle.ty_rounds.specs.Kept.{HoldsMark}
use Rattle.ty_rounds.specs.declared.logging.Logged.{Logged}
use Rattle.ty_rounds.specs.declared.logging.Master.{Master}
use Rattle.tk_top.specs.declared.ends.End.{End}
use Rattle.tk_top.specs.declared.ends.End.TheVariants.{Full, WireFault}
use Rattle.tk_top.specs.declared.ends.Stopped.{Stopped}
use Rattle.tk_top.specs.GapLines.{TellsGaps}
use Rattle.tk_top.specs.Over.{BeginsAt, CanStand, FilesFull, FilesRun, FullFiles, IsOut}
use Rattle.tk_top.specs.Runs.{FullRun, TurnedLogged}
use Rattle.tk_top.specs.Says.{Says}
use Rattle.tk_top.specs.Serving.{Begins, RunsOver}
use Rattle.tk_top.specs.Starts.{StartsAs, answering, begun, with_log}
use Rattle.tk_top.specs.Staying.{BreaksOver, IsStill}
use Rattle.tk_top.specs.Stops.{Spares}

-- words that keep an update log
abbrev pub logging : ℕ → Option Master → Settings
logging own master = record { logs = true; own = own; master = option_map address master }

-- a rule of file 2 is broken, beside files that open: nothing is kept, nor written where the main file isn't empty
pub record BreaksUlog {S : Type 0} (s : space.Ghosts S) (opens : Files → Contents → Type 0) (old new : S) (file : ℕ) (rule : Rule) : Type 0 where
  pub file_is : file ≡ 2
  pub broken : s.tells → BreaksG (s.now old 2) rule
  pub stands : s.tells → (c : Contents) × opens (s.now old) c
  pub keeps : Keeps s old new
  pub reads : s.tells → (s.now old 0 ≡ [] → ⊥) → OnlyReads s old new

-- a rule of the base is broken, and nothing was written; or, where that opens, one of the update log
pub record BreaksLogged {S : Type 0} (s : space.Ghosts S) (opens : Files → Contents → Type 0) (breaks : Files → ℕ → Rule → Type 0) (old new : S) (file : ℕ) (rule : Rule) : Type 0 where
  pub which : BreaksOver s breaks old new file rule ⊎ BreaksUlog s opens old new file rule

-- files that are opened so, and an update log
abbrev pub BeginsLogged : {S : Type 0} → space.Ghosts S → (Files → Contents → Type 0) → S → Mark → Type 0
BeginsLogged s opens space m = Begins s opens space m × IsLog m.log (records_in m.log)

abbrev pub opens_logged : (Files → Contents → Type 0) → Files → Contents → Type 0
opens_logged opens files c = with_log true opens files c

-- where files are told, they stand so for some contents
abbrev pub StandsLogged : {S : Type 0} → space.Ghosts S → (Files → Contents → Type 0) → S → Type 0
StandsLogged s opens old = s.tells → (c : Contents) × opens_logged opens (s.now old) c

-- file 2 is no update log
abbrev pub IsUnlogged : Files → Type 0
IsUnlogged files = IsLog (files 2) (records_in (files 2)) → ⊥

-- beside such a file nothing is kept of what is written, whatever the main file is
abbrev pub KeepsUnlogged : {S : Type 0} → space.Ghosts S → S → S → Type 0
KeepsUnlogged s old new = s.tells → IsUnlogged (s.now old) → Keeps s old new

abbrev pub SparesUnlogged : {V : Type 0} → volume.Ghosts V → End → V → V → Type 0
SparesUnlogged v end old new = v.tells → Spares IsUnlogged end (v.calls old) (v.calls new)

-- a database and an update log were opened and are kept
pub record OpensLogged {S B : Type 0} (s : space.Ghosts S) (holds : B → Files → Contents → Type 0) (reopens opens : Files → Contents → Type 0) (made : Files → Type 0) (is : Settings) (b : B) (l : Logged) (old new : S) : Type 0 where
  pub ready : IsReady s holds b new
  pub untouched : s.touched new ≡ false
  pub settings : settings_of (Some l) ≡ is
  pub stands : StandsLogged s opens old
  pub marks : (m : Mark) → Begins s opens old m → HoldsMark s holds reopens b new m × StartsAs (Some l) m
  -- an empty main file was made, and others stay
  pub still : s.tells → IsStill made (s.now old) (Some (s.now new))

-- what came of the wire and of the clock, which gaps that met, and what it makes of a space
pub record RunsLogged {S W : Type 0} (s : space.Ghosts S) (g : wire.Ghosts W) (is : Settings) (reopens : Files → Contents → Type 0) (made : Files → Type 0) (kind : Kind) (end : End) (turns : ℕ) (at : At) (old new : S) (x y : W) (c d : Option (List ℕ)) : Type 0 where
  -- what the clock answered
  pub ticks : List ℕ
  pub clocked : Adds c d ticks
  pub small : All (λ t. t < 2 ^ 64) ticks
  -- whatever it would have answered then
  pub runs : (later : List ℕ) → RunsOver s g (answering is ticks later) reopens made end turns at old new x y (BeginsLogged s (OpensTo kind reopens) old)
  pub gaps : List (ℕ × ℕ)
  -- none without a master
  pub unmet : is.master ≡ None → gaps ≡ []
  pub turned : (first : Mark) → BeginsLogged s (OpensTo kind reopens) old first → (later : List ℕ) → TurnedLogged (answering is ticks later) later end turns [] first (runs later).entries (world_after (runs later).entries (begun (answering is ticks later) [] first)) gaps
  -- a replica whose update log was a front of a list of updates, and its contents what that makes of the first: at each mark they are
  pub follows : is_replica is ≡ true → (first : Mark) → BeginsLogged s (OpensTo kind reopens) old first → (m : List Record) (c : Contents) → AreUpdates m → Follow 0 m → IsMarkOf m c first
      → (later : List ℕ) → AlwaysOf m (begun (answering is ticks later) [] first) (runs later).entries → AllMarksOf m c (world_after (runs later).entries (begun (answering is ticks later) [] first)).marks

-- a limit was reached as an empty main file was made, or in the round of the last event, or in what that adds to the update log
abbrev pub FullLogged : {S W : Type 0} → space.Ghosts S → wire.Ghosts W → Settings → (S → Type 0) → (S → S → Contents → Contents → Type 0) → (Files → Contents → Type 0) → S → S → W → W → List ℕ → Type 0
FullLogged s g is lacks fills opens old new x y ticks = FullFiles s.tells (s.now old 0 ≡ []) (lacks new) (FullRun (fills old new) (Lacks s new) is (BeginsLogged s opens old) [] ticks (g.transcript x) (g.transcript y) × StandsLogged s opens old)

-- and of a volume
pub record RunsLoggedOn {V W : Type 0} (v : volume.Ghosts V) (g : wire.Ghosts W) (is : Settings) (reopens : Files → Contents → Type 0) (made : Files → Type 0) (kind : Kind) (end : End) (turns : ℕ) (at : At) (old new : V) (x y : W) (c d : Option (List ℕ)) : Type 0 where
  pub ticks : List ℕ
  pub clocked : Adds c d ticks
  pub small : All (λ t. t < 2 ^ 64) ticks
  pub runs : (later : List ℕ) → FilesRun (answering is ticks later) v.tells g (opens_logged (OpensTo kind reopens)) reopens made end turns at (v.calls old) (v.calls new) (v.names old).copies (v.names new).copies x y
  pub gaps : List (ℕ × ℕ)
  -- none without a master
  pub unmet : is.master ≡ None → gaps ≡ []
  pub turned : (first : Mark) → BeginsAt v.tells (opens_logged (OpensTo kind reopens)) (v.calls old) first → (later : List ℕ) → TurnedLogged (answering is ticks later) later end turns [] first (runs later).entries (world_after (runs later).entries (begun (answering is ticks later) [] first)) gaps
  pub follows : is_replica is ≡ true → (first : Mark) → BeginsAt v.tells (opens_logged (OpensTo kind reopens)) (v.calls old) first → (m : List Record) (c : Contents) → AreUpdates m → Follow 0 m → IsMarkOf m c first
      → (later : List ℕ) → AlwaysOf m (begun (answering is ticks later) [] first) (runs later).entries → AllMarksOf m c (world_after (runs later).entries (begun (answering is ticks later) [] first)).marks

-- the first rule that the files of a base break, or else their update log
abbrev pub breaks_logged : (Files → Contents → Type 0) → (Files → ℕ → Rule → Type 0) → Files → ℕ → Rule → Type 0
breaks_logged opens breaks files file rule = breaks files file rule ⊎ ((file ≡ 2) × BreaksG (files 2) rule × ((c : Contents) × opens files c))

-- an end that comes only where the wire was come to
abbrev pub CameToWire : End → Type 0
CameToWire end = IsOut end ⊎ (end ≡ WireFault)

-- ---- of a space and of a volume, with what the clock answered before and after

module _ {S W K : Type 0} (s : space.Ghosts S) (g : wire.Ghosts W) (answers : K → Option (List ℕ)) (own : ℕ) (master : Option Master) where
  -- a line of each gap was told; one is met only where the files stood for contents and an update log; and a limit was reached with these answers of the clock
  abbrev pub LoggedAs : {E B N : Type 0} → sink.Ghosts E → Says B N S → Kind → End → ℕ → At → S → S → W → W → K → K → E → E → Type 0
  LoggedAs e b kind end turns at old new x y k l p q =
      (run : RunsLogged s g (logging own master) b.reopens (b.shaped b.usual) kind end turns at old new x y (answers k) (answers l)) × TellsGaps e run.gaps p q × ((run.gaps ≡ []) ⊎ StandsLogged s (OpensTo kind b.reopens) old) × (end ≡ Full → FullLogged s g (logging own master) (λ z. b.lacks z b.usual) b.fills_since (OpensTo kind b.reopens) old new x y run.ticks)

  -- whatever the files are laid out like
  abbrev pub LoggedLaid : (ℕ → Type 0) → (Files → Layout) → (Files → Contents → Type 0) → (Files → Type 0) → Kind → End → ℕ → At → S → S → W → W → K → K → Type 0
  LoggedLaid files layout reopens made kind end turns at old new x y k l = (f : Frame) → RunsLogged s g (logging own master) (Laid files layout f reopens) made kind end turns at old new x y (answers k) (answers l)

-- a limit was reached over a space of a volume, where the clock answered so
abbrev pub FillsLogged : {S V W : Type 0} → volume.Ghosts V → space.Ghosts S → wire.Ghosts W → (S → V) → Kind → (Files → Contents → Type 0) → (S → Type 0) → (S → S → Contents → Contents → Type 0) → Settings → ℕ → V → V → W → W → List ℕ → Type 0
FillsLogged v s g under kind reopens lacks fills is most old new x y ticks =
    FilesFull s under v.calls v.tells lacks (λ begin space. FullRun (fills begin space) (Lacks s space) is (BeginsAt v.tells (opens_logged (OpensTo kind reopens)) (v.calls old)) [] ticks (g.transcript x) (g.transcript y) × CanStand v (opens_logged (OpensTo kind reopens)) old) most (v.calls old) new

module _ {V W K : Type 0} (v : volume.Ghosts V) (g : wire.Ghosts W) (answers : K → Option (List ℕ)) (own : ℕ) (master : Option Master) where
  abbrev pub LoggedOn : {S E B N : Type 0} → space.Ghosts S → sink.Ghosts E → (S → V) → Says B N S → Kind → ℕ → ℕ → At → V → Stopped V → W → W → K → K → E → E → Type 0
  LoggedOn s e under b kind most turns at old r x y k l p q =
      (run : RunsLoggedOn v g (logging own master) b.reopens (b.shaped b.usual) kind r.end turns at old r.vol x y (answers k) (answers l)) × TellsGaps e run.gaps p q × ((run.gaps ≡ []) ⊎ CanStand v (opens_logged (OpensTo kind b.reopens)) old)
      × (r.end ≡ Full → FillsLogged v s g under kind b.reopens (λ z. b.lacks z b.usual) b.fills_since (logging own master) most old r.vol x y run.ticks)

  abbrev pub LoggedLaidOn : (ℕ → Type 0) → (Files → Layout) → (Files → Contents → Type 0) → (Files → Type 0) → Kind → End → ℕ → At → V → V → W → W → K → K → Type 0
  LoggedLaidOn files layout reopens made kind end turns at old new x y k l = (f : Frame) → RunsLoggedOn v g (logging own master) (Laid files layout f reopens) made kind end turns at old new x y (answers k) (answers l)
