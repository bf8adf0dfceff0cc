-- What the top call leaves.
use Rattle.std.specs.Prelude.{◌≡◌, ◌⊎◌, ◌<◌, ◌≤◌, ◌+◌, ◌-◌, ◌^◌, ◌++◌, ℕ, max, min, true, false, List, [], length, Option, Some, None}
use Rattle.tc_base.specs.Files.{Files}
use Rattle.tc_base.specs.declared.kind.Kind.{Kind}
use Rattle.tc_base.specs.declared.kind.Kind.TheVariants.{MemHash, MemTree}
use Rattle.tc_io.specs.Images.{now}
use Rattle.tc_io.specs.Script.{Plays}
use Rattle.tc_io.specs.Told.{Adds}
use Rattle.tc_io.specs.declared.act.Act.{Act}
use Rattle.tc_io.specs.declared.wire.Dialled.{Dialled}
use Rattle.tc_io.specs.declared.sink.Sink as sink
use Rattle.tc_io.specs.declared.volume.Volume as volume
use Rattle.tc_io.specs.declared.wire.Wire as wire
use Rattle.tc_io.specs.declared.wire.At.{At}
use Rattle.tc_io.specs.declared.wire.Entry.{Entry}
use Rattle.ud_log.specs.Undo.{data_of, is_data, recovered}
use Rattle.tc_model.specs.Contents.{Contents, no_data}
use Rattle.ty_world.specs.World.{Mark, World, world_after, AllAsked}
use Rattle.ty_world.specs.Playing.{unplayed_with}
use Rattle.ty_world.specs.Logs.{Settings}
use Rattle.ty_base.specs.Opening.{OpensTo}
use Rattle.ty_wire.specs.Prefixes.{IsPrefix}
use Rattle.tk_mgr.specs.Managing.{FillsTask}
use Rattle.tk_mgr.specs.Tasks.{text_of}
use Rattle.tk_mgr.specs.declared.task.Task.{Task}
use Rattle.tk_mgr.specs.declared.task.Task.TheVariants as tasks
use Rattle.tk_words.specs.Words.{Word}
use Rattle.tk_top.specs.declared.ends.End.{End}
use Rattle.tk_top.specs.declared.ends.End.TheVariants.{Done, Words, Refused, VolumeFault, Broken, NoMemory, Full, WireFault, TurnsSpent}
use Rattle.tk_top.specs.Ends.{line_of, status_of}
use Rattle.tk_top.specs.Causes.{CausedIn, CausedByWire}
use Rattle.tk_top.specs.GapLines.{TellsGaps, gap_lines}
use Rattle.tk_top.specs.Logging.{logging, opens_logged}
use Rattle.tk_top.specs.Over.{BeginsAt, CanStand, FullFiles, FullPlain, MainIsBare}
use Rattle.tk_top.specs.Runs.{FullRun}
use Rattle.tk_top.specs.Serving.{ServesAt, PlaysAll}
use Rattle.tk_top.specs.Starts.{begun, plainly}
use Rattle.tk_top.specs.Stored.{anew_of, breaks_new_of, breaks_of, fills_of, kind_in, lacks_large_of, lacks_of, layout_of, lines_in, numbers_of, own_of, packed_in, reopens_of, stored_as, usual_of}
use Rattle.tk_top.specs.Tasks.{FullTask}
use Rattle.tk_top.specs.Words.{asked_of}
use Rattle.tk_top.specs.Works.{LogsFiles, RemakesFiles, ServesFiles, TasksFiles}
use Rattle.tk_top.specs.declared.words.Asked.{Asked}
use Rattle.tk_top.specs.declared.words.Asked.TheVariants as asked
use Rattle.tk_top.specs.declared.words.Shape.{Shape}
use Rattle.tk_top.specs.declared.words.Memory.{Memory}
use Rattle.tk_top.specs.declared.words.Memory.TheVariants.{Map, Tree}
use Rattle.tk_top.specs.declared.words.Source.{Source}
use Rattle.tk_top.specs.declared.words.Source.TheVariants as source
use Rattle.tk_top.specs.declared.words.Stored.{Stored}

abbrev pub kind_of_memory : Memory → Kind
kind_of_memory Map = MemHash
kind_of_memory Tree = MemTree

-- a database in memory with no key, and no update log; a tree is in the order of bytes
abbrev pub no_keys : Memory → Mark
no_keys memory = record { contents = no_data (kind_of_memory memory) false 0 0; log = [] }

abbrev pub before : Memory → World
before memory = begun plainly [] (no_keys memory)

-- an end of a run that serves a database in memory: no fault of a volume, no rule that is broken, and no limit
abbrev pub IsServing : End → Type 0
IsServing Done = Unit {0}
IsServing Words = ⊥
IsServing Refused = ⊥
IsServing VolumeFault = ⊥
IsServing (Broken file rule) = ⊥
IsServing NoMemory = Unit {0}
IsServing Full = ⊥
IsServing WireFault = Unit {0}
IsServing TurnsSpent = Unit {0}

-- a run that serves a database in memory at an address. Where the wire tells its transcript, these entries came behind it
pub record MemoryRun {W : Type 0} (g : wire.Ghosts W) (end : End) (memory : Memory) (at : At) (turns : ℕ) (x y : W) : Type 0 where
  pub ends : IsServing end
  pub entries : List Entry
  pub told : Adds (g.transcript x) (g.transcript y) entries
  pub asks : AllAsked (before memory) entries
  pub serves : ServesAt plainly end turns at (no_keys memory) entries (world_after entries (before memory))
  -- where a script is played, each event and answer is as the script has it, and all bytes offered were taken
  pub played : (end ≡ Done) ⊎ (end ≡ TurnsSpent) → Plays (g.plays x) (g.plays y) entries
  pub plays : (acts : List Act) (dials : List Dialled) (given : ℕ) → g.plays x ≡ Some (unplayed_with acts dials given) → PlaysAll plainly.is turns (g.plays y) end acts given (world_after entries (before memory))
  -- a fault is one of the wire
  pub caused : CausedByWire g.faults end x y

-- files, read with an empty undo log, stand for contents of their kind
abbrev pub Opens : Stored → Files → Contents → Type 0
Opens stored = OpensTo (kind_in stored) (reopens_of stored)

-- its undo log has half of what it may have
abbrev pub LogIsFull : {V : Type 0} → volume.Ghosts V → V → Type 0
LogIsFull v w = v.tells → 2 ^ 61 ≤ length (now (v.calls w) 1)

-- its files, as it reads
abbrev pub files_in : {V : Type 0} → volume.Ghosts V → V → Files
files_in v w = data_of (now (v.calls w))

-- a limit is reached between contents, with the files of this volume
abbrev pub FillsAt : {V : Type 0} → volume.Ghosts V → Stored → (ℕ → ℕ) → V → Contents → Contents → Type 0
FillsAt v stored limits w = fills_of stored limits (LogIsFull v w) (Unit {0}) (files_in v w)

-- so it is where the files that a volume recovered to are written anew in the large form
pub record LacksLargeAt {V : Type 0} (v : volume.Ghosts V) (stored : Stored) (limits : ℕ → ℕ) (vol w : V) (c : Contents) : Type 0 where
  pub first : Files
  pub is : recovered (now (v.calls vol)) ≡ Some first
  pub lacks : lacks_large_of stored limits (λ f. length (files_in v w f)) (Unit {0}) first c

-- so many bytes at a place of the update log pass its limit, or the undo log is full
abbrev pub LacksLog : {V : Type 0} → volume.Ghosts V → (ℕ → ℕ) → V → ℕ → ℕ → Type 0
LacksLog v limits w at size = (limits 2 < at + size) ⊎ LogIsFull v w

-- there is no room for a file that an opening makes
abbrev pub LacksUsual : {V : Type 0} → volume.Ghosts V → Stored → (ℕ → ℕ) → V → Type 0
LacksUsual v stored limits w = lacks_of (usual_of stored) (limits 0) (LogIsFull v w) (Unit {0}) (files_in v w 0)

-- and along a task
abbrev pub FillsTaskAt : {V : Type 0} → volume.Ghosts V → Stored → (ℕ → ℕ) → V → V → Task → Contents → Type 0
FillsTaskAt v stored limits vol w task c = FillsTask (LogIsFull v w) (FillsAt v stored limits w) (LacksLargeAt v stored limits vol w) task c

-- a limit was reached where the files were opened, or behind that: each data file may have so many bytes, or as many as it had where that is more. The files are those
-- of the volume that is handed back, and so is the undo log, of which it is said where it has half of what it may have
pub record IsFull {V : Type 0} (v : volume.Ghosts V) (stored : Stored) (most : ℕ) (vol vol' : V) (behind : (ℕ → ℕ) → Type 0) : Type 0 where
  pub limits : ℕ → ℕ
  pub limits_are : v.tells → (files : Files) → recovered (now (v.calls vol)) ≡ Some files → (f : ℕ) → is_data f ≡ true → limits f ≡ max most (length (files f))
  pub full : FullFiles v.tells (MainIsBare (recovered (now (v.calls vol)))) (LacksUsual v stored limits vol') (behind limits)

-- it was reached in the round of the last event
abbrev pub FullServed : {V W : Type 0} → volume.Ghosts V → wire.Ghosts W → Stored → V → V → W → W → (ℕ → ℕ) → Type 0
FullServed v g stored vol vol' x y limits = FullPlain (FillsAt v stored limits vol') (BeginsAt v.tells (Opens stored) (v.calls vol)) (g.transcript x) (g.transcript y)

-- with an update log, or in what that round adds to it
abbrev pub FullRecorded : {V W : Type 0} → volume.Ghosts V → wire.Ghosts W → Stored → Settings → V → V → W → W → List ℕ → (ℕ → ℕ) → Type 0
FullRecorded v g stored is vol vol' x y ticks limits = FullRun (FillsAt v stored limits vol') (LacksLog v limits vol') is (BeginsAt v.tells (opens_logged (Opens stored)) (v.calls vol)) [] ticks (g.transcript x) (g.transcript y) × CanStand v (opens_logged (Opens stored)) vol

-- a run that serves the database that the files of a name keep, at an address
abbrev pub FileRun : {V W : Type 0} → volume.Ghosts V → wire.Ghosts W → End → List ℕ → Stored → ℕ → At → ℕ → V → V → W → W → Type 0
FileRun v g end name stored limit at turns vol vol' x y =
    ServesFiles v g (kind_in stored) (reopens_of stored) (own_of stored) (layout_of stored) (numbers_of (usual_of stored)) (breaks_of stored) (IsFull v stored limit vol vol' (FullServed v g stored vol vol' x y)) end name limit at turns vol vol' x y

-- a run that serves the database and the update log that the files of a name keep, at an address, and met these gaps
abbrev pub LoggedRun : {V W : Type 0} → volume.Ghosts V → wire.Ghosts W → End → List ℕ → Stored → ℕ → Settings → At → ℕ → List (ℕ × ℕ) → V → V → W → W → Option (List ℕ) → Option (List ℕ) → Type 0
LoggedRun v g end name stored limit is at turns gaps vol vol' x y c d =
    LogsFiles v g (kind_in stored) (reopens_of stored) (own_of stored) (layout_of stored) (numbers_of (usual_of stored)) (breaks_of stored) (λ ticks. IsFull v stored limit vol vol' (FullRecorded v g stored is vol vol' x y ticks)) end name limit is at turns gaps vol vol' x y c d

-- a run that serves what it is asked to, and met these gaps; with a database in memory the volume is left alone, and no limit of a file is above 2 ^ 40 bytes
abbrev pub SourceRun : {V W : Type 0} → volume.Ghosts V → wire.Ghosts W → End → Source → At → ℕ → List (ℕ × ℕ) → V → V → W → W → Option (List ℕ) → Option (List ℕ) → Type 0
SourceRun v g end (source.Memory memory) at turns gaps vol vol' x y c d = MemoryRun g end memory at turns x y × ((vol' ≡ vol) × (gaps ≡ []))
SourceRun v g end (source.File name stored limit) at turns gaps vol vol' x y c d = FileRun v g end name stored (min limit (2 ^ 40)) at turns vol vol' x y × (gaps ≡ [])
SourceRun v g end (source.Logged name stored limit own master) at turns gaps vol vol' x y c d = LoggedRun v g end name stored (min limit (2 ^ 40)) (logging own master) at turns gaps vol vol' x y c d

-- ---- commands

-- a limit was reached along a task: each data file may have so many bytes, or as many as it had where that is more. The files are those of the volume that is handed
-- back, and so is the undo log, of which it is said where it has half of what it may have
pub record IsFullTask {V : Type 0} (v : volume.Ghosts V) (stored : Stored) (task : Task) (vol vol' : V) : Type 0 where
  pub limits : ℕ → ℕ
  pub limits_are : v.tells → (files : Files) → recovered (now (v.calls vol)) ≡ Some files → (f : ℕ) → is_data f ≡ true → limits f ≡ max (2 ^ 40) (length (files f))
  pub full : FullTask v.tells (MainIsBare (recovered (now (v.calls vol)))) (LacksUsual v stored limits vol') (FillsTaskAt v stored limits vol vol') (BeginsAt v.tells (Opens stored) (v.calls vol)) task

-- a run that carries out a task on the files of a name
abbrev pub TaskOnFiles : {V O : Type 0} → volume.Ghosts V → sink.Ghosts O → End → List ℕ → Stored → Task → V → V → O → O → Type 0
TaskOnFiles v o end name stored task vol vol' p q =
    TasksFiles v o (kind_in stored) (reopens_of stored) (own_of stored) (layout_of stored) (breaks_of stored) (lines_in stored) (packed_in stored) (IsFullTask v stored task vol vol') end name task vol vol' p q

-- there was no room for a file made anew
pub record IsLacking {V : Type 0} (v : volume.Ghosts V) (shape : Shape) (vol vol' : V) : Type 0 where
  pub limit : ℕ
  pub limit_is : v.tells → (files : Files) → recovered (now (v.calls vol)) ≡ Some files → limit ≡ max (2 ^ 40) (length (files 0))
  pub lack : v.tells → lacks_of shape limit (LogIsFull v vol') (Unit {0}) (files_in v vol' 0)

-- a run that makes the files of a name anew
abbrev pub MakesFiles : {V : Type 0} → volume.Ghosts V → End → List ℕ → Shape → V → V → Type 0
MakesFiles v end name shape vol vol' = RemakesFiles v (reopens_of (stored_as shape)) (own_of (stored_as shape)) (numbers_of shape) (anew_of shape) (breaks_new_of shape) (IsLacking v shape vol vol') end name vol vol'

-- an end of a drill in memory
abbrev pub IsDrilled : End → Type 0
IsDrilled Done = Unit {0}
IsDrilled Words = ⊥
IsDrilled Refused = ⊥
IsDrilled VolumeFault = ⊥
IsDrilled (Broken file rule) = ⊥
IsDrilled NoMemory = Unit {0}
IsDrilled Full = ⊥
IsDrilled WireFault = Unit {0}
IsDrilled TurnsSpent = ⊥

-- a run that makes a drill's requests in memory: its text is printed, or a front of it
pub record DrillsMemory {O : Type 0} (o : sink.Ghosts O) (end : End) (memory : Memory) (seed count : ℕ) (p q : O) : Type 0 where
  pub ends : IsDrilled end
  pub taken : List ℕ
  pub told : Adds (o.taken p) (o.taken q) taken
  pub front : IsPrefix taken (text_of (tasks.Drill seed count) (no_keys memory).contents)
  pub done : end ≡ Done → taken ≡ text_of (tasks.Drill seed count) (no_keys memory).contents
  pub caused : CausedByWire o.faults end p q

-- ---- what is asked for

-- it is served, made or done, and all else but the clock is left alone; gaps are met only where it is served
abbrev pub AskedRun : {V W O : Type 0} → volume.Ghosts V → wire.Ghosts W → sink.Ghosts O → End → Asked → List (ℕ × ℕ) → V → V → W → W → O → O → Option (List ℕ) → Option (List ℕ) → Type 0
AskedRun v g o end (asked.Serve source at turns) gaps vol vol' x y p q c d = SourceRun v g end source at turns gaps vol vol' x y c d × (q ≡ p)
AskedRun v g o end (asked.Task name stored task) gaps vol vol' x y p q c d = TaskOnFiles v o end name stored task vol vol' p q × ((y ≡ x) × (gaps ≡ []))
AskedRun v g o end (asked.Create name shape) gaps vol vol' x y p q c d = MakesFiles v end name shape vol vol' × ((y ≡ x) × ((q ≡ p) × (gaps ≡ [])))
AskedRun v g o end (asked.Drill memory seed count) gaps vol vol' x y p q c d = DrillsMemory o end memory seed count p q × ((y ≡ x) × ((vol' ≡ vol) × (gaps ≡ [])))

-- a fault comes only of the volume, of the wire, or of the sink that is printed to
abbrev pub CausedBy : {V W O : Type 0} → (V → ℕ) → (W → ℕ) → (O → ℕ) → End → V → V → W → W → O → O → Type 0
CausedBy vols wires sinks end vol vol' x y p q = CausedIn vols wires end vol vol' x y ⊎ CausedIn vols sinks end vol vol' p q

-- a run where this is asked for, or nothing that is carried out, which met these gaps
pub record RunsAsked {V W O : Type 0} (v : volume.Ghosts V) (g : wire.Ghosts W) (o : sink.Ghosts O) (want : Option Asked) (gaps : List (ℕ × ℕ)) (end : End) (vol vol' : V) (x y : W) (p q : O) (c d : Option (List ℕ)) : Type 0 where
  -- where it is, it is carried out; the words end the run only where it isn't, and then the run ends so, or finds no memory to read them
  pub served : (a : Asked) → want ≡ Some a → AskedRun v g o end a gaps vol vol' x y p q c d
  pub words : end ≡ Words → want ≡ None
  pub refused : want ≡ None → (end ≡ Words) ⊎ (end ≡ NoMemory)
  pub unserved : want ≡ None → (y ≡ x) × ((vol' ≡ vol) × ((q ≡ p) × (gaps ≡ [])))
  pub caused : CausedBy v.faults g.faults o.faults end vol vol' x y p q

-- a run on these words
pub record Runs {V W O E : Type 0} (v : volume.Ghosts V) (g : wire.Ghosts W) (o : sink.Ghosts O) (e : sink.Ghosts E) (ws : List Word) (end : End) (vol vol' : V) (x y : W) (p q : O) (c d : Option (List ℕ)) (r s : E) : Type 0 where
  pub gaps : List (ℕ × ℕ)
  -- they alone decide what is served, made or done, and where
  pub by_words : RunsAsked v g o (asked_of ws) gaps end vol vol' x y p q c d
  -- where the sink of errors was never refused, it has a line of each gap, then the end's line, and nothing else
  pub line : e.faults s ≡ e.faults r → e.faults r < 2 ^ 64 - 1 → Adds (e.taken r) (e.taken s) (gap_lines gaps ++ line_of end)
  pub silent : end ≡ Done → gaps ≡ [] → s ≡ r

-- ---- with what the clock answered before and after, and a line of each gap told

module _ {V W K E O : Type 0} (v : volume.Ghosts V) (g : wire.Ghosts W) (answers : K → Option (List ℕ)) (e : sink.Ghosts E) (o : sink.Ghosts O) where
  abbrev pub CarriesOut : End → Asked → V → V → W → W → O → O → K → K → E → E → Type 0
  CarriesOut end a vol vol' x y p q k l r s = (gaps : List (ℕ × ℕ)) × AskedRun v g o end a gaps vol vol' x y p q (answers k) (answers l) × TellsGaps e gaps r s

  abbrev pub RunsWanted : Option Asked → End → V → V → W → W → O → O → K → K → E → E → Type 0
  RunsWanted want end vol vol' x y p q k l r s = (gaps : List (ℕ × ℕ)) × RunsAsked v g o want gaps end vol vol' x y p q (answers k) (answers l) × TellsGaps e gaps r s

  -- on words, with the status of its end
  abbrev pub RunsOnWords : List Word → ℕ → V → V → W → W → O → O → K → K → E → E → Type 0
  RunsOnWords ws status vol vol' x y p q k l r s = (end : End) × (status ≡ status_of end) × Runs v g o e ws end vol vol' x y p q (answers k) (answers l) r s
