-- What a command on files leaves of them, and of what it prints to.
use Rattle.std.specs.Prelude.{◌≡◌, ◌≢◌, ◌⊎◌, ◌^◌, ℕ, max, Bool, true, false, List, [], length, Option, Some, Result, Ok, Err}
use Rattle.tc_base.specs.Files.{Files}
use Rattle.tc_base.specs.declared.kind.Form.{Form}
use Rattle.tc_base.specs.declared.kind.Kind.{Kind}
use Rattle.tc_base.specs.declared.kind.Rule.{Rule}
use Rattle.tc_io.specs.Images.{Calls, now, Images, IsLostSync}
use Rattle.tc_io.specs.Told.{Adds}
use Rattle.tc_io.specs.declared.sink.Sink as sink
use Rattle.tc_io.specs.declared.volume.Volume as volume
use Rattle.tc_space.specs.declared.space.Space as space
use Rattle.ud_log.specs.Undo.{is_data, recovered}
use Rattle.ud_state.specs.State.{IsSettled}
use Rattle.tc_model.specs.Contents.{Contents}
use Rattle.ty_world.specs.World.{Mark}
use Rattle.ty_base.specs.Holding.{Frame, Laid, Layout}
use Rattle.ty_base.specs.Opening.{CanOpen, OpensTo}
use Rattle.ty_rounds.specs.Kept.{AtMark, Reopens}
use Rattle.tk_mgr.specs.Managing.{ArePacked, FormedFrom, IsFrontOf, last_mark, marks_of, packing, said_by, writes_files}
use Rattle.tk_mgr.specs.Tasks.{Prints, ok_of}
use Rattle.tk_mgr.specs.declared.errors.MgrErr.{MgrErr}
use Rattle.tk_mgr.specs.declared.errors.MgrErr.TheVariants as mgr
use Rattle.tk_mgr.specs.declared.task.Task.{Task}
use Rattle.tk_mgr.specs.declared.task.Task.TheVariants.{Drill}
use Rattle.tk_top.specs.declared.ends.End.{End}
use Rattle.tk_top.specs.declared.ends.End.TheVariants.{Done, Words, Refused, VolumeFault, Broken, NoMemory, Full, WireFault, TurnsSpent}
use Rattle.tk_top.specs.Over.{BeginsAt, BreaksOn, CanStand, MainIsBare, Recover}
use Rattle.tk_top.specs.Serving.{Begins}
use Rattle.tk_top.specs.Staying.{AsOpening, BreaksOver, IsSilent, LeavesBroken}
use Rattle.tk_top.specs.Stops.{IsEarly, StopsAt, StopsOver}
use Rattle.tk_top.specs.Volumes.{ShowsNow}

-- ---- which files a task is for

-- a drill is for a main file that is empty, the others for one that isn't
abbrev pub wants_empty : Task → Bool
wants_empty (Drill seed n) = true
wants_empty _ = false

abbrev pub is_refused_by : Bool → List ℕ → Type 0
is_refused_by true main = main ≡ [] → ⊥
is_refused_by false main = main ≡ []

-- the main file isn't as the task wants it
abbrev pub IsMisplaced : Task → Files → Type 0
IsMisplaced task files = is_refused_by (wants_empty task) (files 0)

-- ---- how a task ends

abbrev pub end_of_task : Result Bool MgrErr → End
end_of_task (Ok true) = Done
end_of_task (Ok false) = Refused
end_of_task (Err mgr.Full) = Full
end_of_task (Err mgr.Fault) = VolumeFault
end_of_task (Err mgr.Sink) = WireFault
end_of_task (Err mgr.Memory) = NoMemory

-- it was carried out, or what it prints wasn't taken
abbrev pub IsCarried : End → Type 0
IsCarried Done = Unit {0}
IsCarried Words = ⊥
IsCarried Refused = ⊥
IsCarried VolumeFault = ⊥
IsCarried (Broken file rule) = ⊥
IsCarried NoMemory = ⊥
IsCarried Full = ⊥
IsCarried WireFault = Unit {0}
IsCarried TurnsSpent = ⊥

-- a task that was carried out, or reached a limit, had files that stand for contents; one that was refused has a reason; and where a rule is named, it is broken
abbrev pub JudgedTask : End → Type 0 → (ℕ → Rule → Type 0) → Type 0 → Type 0
JudgedTask Done stand breaks reason = stand
JudgedTask Words stand breaks reason = ⊥
JudgedTask Refused stand breaks reason = reason
JudgedTask VolumeFault stand breaks reason = Unit {0}
JudgedTask (Broken file rule) stand breaks reason = breaks file rule
JudgedTask NoMemory stand breaks reason = Unit {0}
JudgedTask Full stand breaks reason = stand
JudgedTask WireFault stand breaks reason = stand
JudgedTask TurnsSpent stand breaks reason = ⊥

-- ---- what it leaves where the files stood for a mark

-- what was printed, and what its end says
pub record TaskOn (lines : Files → List ℕ → Type 0) (task : Task) (end : End) (files : Files) (taken : List ℕ) (first : Mark) : Type 0 where
  -- done, its request succeeds, and its text was printed
  pub placed : end ≡ Done → IsMisplaced task files → ⊥
  pub ok : end ≡ Done → ok_of task first.contents ≡ true
  pub printed : end ≡ Done → Prints lines task files first.contents taken
  -- refused, the main file isn't as it is wanted or the request fails
  pub refused : end ≡ Refused → IsMisplaced task files ⊎ (ok_of task first.contents ≡ false)
  -- however it ended, a front of its text was printed
  pub front : (taken ≡ []) ⊎ IsFrontOf lines task files first.contents taken

-- what a stop leaves at the exit stands for one of its marks; for the last once it is carried out or anything was printed, for the first where it is refused
pub record ExitsTask (reopens : Files → Contents → Type 0) (packed : Form → Files → Type 0) (task : Task) (end : End) (taken : List ℕ) (first : Mark) (o : Option Files) : Type 0 where
  pub at : AtMark reopens o (marks_of task first)
  pub last : IsCarried end ⊎ (taken ≢ []) → Reopens reopens o (last_mark task first)
  pub stay : end ≡ Refused → Reopens reopens o first
  -- files are packed, from those that there were, once a packing is carried out
  pub packs : (f : Form) → packing task ≡ Some f → end ≡ Done → ArePacked packed f o

-- over a space that began at this mark
pub record TaskOver {S : Type 0} (s : space.Ghosts S) (reopens : Files → Contents → Type 0) (lines : Files → List ℕ → Type 0) (packed : Form → Files → Type 0) (task : Task) (end : End) (old new : S) (taken : List ℕ) (first : Mark) : Type 0 where
  pub on : TaskOn lines task end (s.now old) taken first
  pub stops : StopsOver s reopens (ExitsTask reopens packed task end taken first) (marks_of task first) old new
  -- a task that only reads leaves the files as they are, however it ends
  pub looks : writes_files task ≡ false → (o : Option Files) → s.left new (s.moment new) o → o ≡ Some (s.now old)

pub record ManagesOver {S O : Type 0} (s : space.Ghosts S) (g : sink.Ghosts O) (opens reopens : Files → Contents → Type 0) (lines : Files → List ℕ → Type 0) (packed : Form → Files → Type 0) (task : Task) (end : End) (old new : S) (p q : O) : Type 0 where
  pub taken : List ℕ
  pub told : Adds (g.taken p) (g.taken q) taken
  pub silent : IsSilent end → taken ≡ []
  pub ends : (first : Mark) → Begins s opens old first → TaskOver s reopens lines packed task end old new taken first

-- over a volume whose files, as they read, recovered to these and reopened to this mark
pub record TaskRun (reopens : Files → Contents → Type 0) (lines : Files → List ℕ → Type 0) (packed : Form → Files → Type 0) (task : Task) (end : End) (files : Files) (old new : Calls) (taken : List ℕ) (first : Mark) : Type 0 where
  pub on : TaskOn lines task end files taken first
  pub stops : StopsAt reopens (ExitsTask reopens packed task end taken first) (IsEarly end × (taken ≡ [])) (marks_of task first) old new
  -- a task that only reads leaves the files as they are, however it ends; where it ended before the log was brought to the disk, as an opening image
  pub looks : writes_files task ≡ false → (ims : Files) → Images new ims → (recovered ims ≡ Some files) ⊎ ((IsEarly end × (taken ≡ [])) × IsLostSync old new 1 × AsOpening old (recovered ims))

-- what was printed, and what a task makes of a volume that was settled
pub record FilesManaged {O : Type 0} (tells : Type 0) (g : sink.Ghosts O) (opens reopens : Files → Contents → Type 0) (lines : Files → List ℕ → Type 0) (packed : Files → Form → Files → Type 0) (task : Task) (end : End) (old new : Calls) (p q : O) : Type 0 where
  pub taken : List ℕ
  pub told : Adds (g.taken p) (g.taken q) taken
  pub silent : IsSilent end → taken ≡ []
  pub broken : tells → LeavesBroken old new
  pub ends : IsSettled old → (first : Mark) (b : BeginsAt tells opens old first) → TaskRun reopens lines (packed b.1.files) task end b.1.files old new taken first

-- why a task was refused over a space
pub record ReasonOver {S : Type 0} (s : space.Ghosts S) (opens : Files → Contents → Type 0) (task : Task) (old : S) : Type 0 where
  pub which : s.tells → IsMisplaced task (s.now old) ⊎ ((c : Contents) × opens (s.now old) c × (ok_of task c ≡ false))

-- why a task was refused: the main file isn't as it is wanted, or its request fails on what the files stand for
pub record RefusedAt (opens : Files → Contents → Type 0) (task : Task) (old : Calls) : Type 0 where
  pub which : ((files : Files) × (recovered (now old) ≡ Some files) × IsMisplaced task files) ⊎ ((c : Contents) × Recover opens (recovered (now old)) c × (ok_of task c ≡ false))

-- a limit was reached where the files were opened, whose main file is empty, as it was made; or along the task, which is one that may write
pub record FullTask (tells empty lacks : Type 0) (fills : Task → Contents → Type 0) (start : Mark → Type 0) (task : Task) : Type 0 where
  pub writes : tells → writes_files task ≡ true
  pub which : (tells → empty × lacks) ⊎ ((first : Mark) → start first → fills task first.contents)

-- a space of this volume that has reached a limit; each of its data files may have so many bytes, or as many as it had where that is more
pub record FilesFullTask {S V : Type 0} (s : space.Ghosts S) (under : S → V) (calls : V → Calls) (tells : Type 0) (lacks : S → Type 0) (fills : S → S → Task → Contents → Type 0) (opens : Files → Contents → Type 0) (task : Task) (most : ℕ) (old : Calls) (vol : V) : Type 0 where
  -- as it was opened, and as it ended
  pub begin : S
  pub first : tells → recovered (now old) ≡ Some (s.now begin)
  pub space : S
  pub vol_is : under space ≡ vol
  -- what it has brought there are the files of the volume that is handed back
  pub shows : s.brought space → ShowsNow (calls (under space)) (s.now space)
  pub limits : tells → (files : Files) → recovered (now old) ≡ Some files → (f : ℕ) → is_data f ≡ true → s.limit space f ≡ max most (length (files f))
  pub full : FullTask tells (MainIsBare (recovered (now old))) (lacks space) (fills begin space) (BeginsAt tells opens old) task

-- ---- the numbers of files that a task packed

-- once a packing is carried out over a space a stop leaves files with the numbers that they had in that form
pub record FormsOver {S : Type 0} (s : space.Ghosts S) (layout : Files → Layout) (opens : Files → Contents → Type 0) (task : Task) (end : End) (old new : S) : Type 0 where
  pub formed : (first : Mark) → Begins s opens old first → (f : Form) → packing task ≡ Some f → end ≡ Done → (o : Option Files) → s.left new (s.moment new) o → ArePacked (FormedFrom layout (s.now old)) f o

-- and over a volume
pub record FormsFiles (tells : Type 0) (layout : Files → Layout) (opens : Files → Contents → Type 0) (task : Task) (end : End) (old new : Calls) : Type 0 where
  pub formed : (first : Mark) (b : BeginsAt tells opens old first) (f : Form) → packing task ≡ Some f → end ≡ Done → (ims : Files) → Images new ims → ArePacked (FormedFrom layout b.1.files) f (recovered ims)

-- ---- of a space

module _ {S : Type 0} (s : space.Ghosts S) (reopens : Files → Contents → Type 0) where
  -- of files that are opened as this kind
  abbrev pub ManagesAs : {O : Type 0} → sink.Ghosts O → (Files → List ℕ → Type 0) → (Form → Files → Type 0) → Kind → Task → End → S → S → O → O → Type 0
  ManagesAs g lines packed kind task end old new p q = ManagesOver s g (OpensTo kind reopens) reopens lines packed task end old new p q

  abbrev pub JudgedTaskOver : (Kind → Files → ℕ → Rule → Type 0) → Kind → Task → End → S → S → Type 0
  JudgedTaskOver breaks kind task end old new = JudgedTask end (CanOpen s reopens kind old) (BreaksOver s (breaks kind) old new) (ReasonOver s (OpensTo kind reopens) task old)

  abbrev pub FullTaskOver : (S → Type 0) → (S → S → Task → Contents → Type 0) → Kind → Task → S → S → Type 0
  FullTaskOver lacks fills kind task old new = FullTask s.tells (s.now old 0 ≡ []) (lacks new) (fills old new) (Begins s (OpensTo kind reopens) old) task

-- of files laid out like them, where the task packs none, beside the same in any case
abbrev pub ManagesLike : {S O : Type 0} → space.Ghosts S → (Files → Contents → Type 0) → (ℕ → Type 0) → (Files → Layout) → sink.Ghosts O → (Files → List ℕ → Type 0) → (Form → Files → Type 0) → Kind → Task → End → S → S → O → O → Type 0
ManagesLike s reopens own layout g lines packed kind task end old new p q = (l : Frame) → ManagesAs s (Laid own (said_by (packing task) layout) l reopens) g lines packed kind task end old new p q

-- ---- of a volume

module _ {V : Type 0} (v : volume.Ghosts V) where
  abbrev pub ManagesOn : {O : Type 0} → sink.Ghosts O → (Files → Contents → Type 0) → (Files → List ℕ → Type 0) → (Files → Form → Files → Type 0) → Kind → Task → End → V → V → O → O → Type 0
  ManagesOn g reopens lines packed kind task end old new p q = FilesManaged v.tells g (OpensTo kind reopens) reopens lines packed task end (v.calls old) (v.calls new) p q

  abbrev pub FormsOn : (Files → Layout) → (Files → Contents → Type 0) → Task → End → V → V → Type 0
  FormsOn layout opens task end old new = FormsFiles v.tells layout opens task end (v.calls old) (v.calls new)

  abbrev pub JudgedTaskOn : (Files → Contents → Type 0) → (Files → ℕ → Rule → Type 0) → Task → End → V → V → Type 0
  JudgedTaskOn opens breaks task end old new = JudgedTask end (CanStand v opens old) (BreaksOn v breaks old new) (v.tells → RefusedAt opens task (v.calls old))

  -- of files that may have so many bytes as any may
  abbrev pub FullTaskOn : {S : Type 0} → space.Ghosts S → (S → V) → (S → Type 0) → (S → S → Task → Contents → Type 0) → (Files → Contents → Type 0) → Task → V → V → Type 0
  FullTaskOn s under lacks fills opens task old new = FilesFullTask s under v.calls v.tells lacks fills opens task (2 ^ 40) (v.calls old) new
