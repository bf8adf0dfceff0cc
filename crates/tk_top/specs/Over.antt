-- What a run over a volume leaves of it.
use Rattle.std.specs.Prelude.{◌≡◌, ◌≢◌, ◌⊎◌, ◌≤◌, ℕ, max, Bool, true, false, List, [], ◌∷◌, length, Option, Some, None}
use Rattle.std.proofs.Common.{inl}
use Rattle.tc_base.specs.Files.{Files}
use Rattle.tc_base.specs.declared.kind.Kind.{Kind}
use Rattle.tc_base.specs.declared.kind.Rule.{Rule}
use Rattle.tc_io.specs.Copies.{Named}
use Rattle.tc_io.specs.Images.{Calls, now, Images, ImagesSince, IsLostSync}
use Rattle.tc_io.specs.Script.{Plays}
use Rattle.tc_io.specs.Told.{Adds}
use Rattle.tc_io.specs.declared.act.Act.{Act}
use Rattle.tc_io.specs.declared.wire.Dialled.{Dialled}
use Rattle.tc_io.specs.declared.volume.Volume as volume
use Rattle.tc_io.specs.declared.wire.Wire as wire
use Rattle.tc_io.specs.declared.wire.At.{At}
use Rattle.tc_io.specs.declared.wire.Entry.{Entry}
use Rattle.tc_space.specs.Ranges.{IsDataFile}
use Rattle.tc_space.specs.declared.space.Space as space
use Rattle.ud_log.specs.Undo.{data_of, is_data, recovered}
use Rattle.ud_state.specs.Since.{LeftSince}
use Rattle.ud_state.specs.State.{IsSettled}
use Rattle.tc_model.specs.Contents.{Contents}
use Rattle.ty_world.specs.World.{World, Mark, mark_of, copied_at, world_after, AllAsked}
use Rattle.ty_world.specs.Logs.{plain}
use Rattle.ty_world.specs.Playing.{unplayed_with}
use Rattle.ty_base.specs.Holding.{Frame, IsReady, Laid, Layout}
use Rattle.ty_base.specs.Opening.{CanOpen, OpensTo}
use Rattle.ty_rounds.specs.Kept.{AtMark, HoldsMark, MovesTo, Reopens}
use Rattle.ty_rounds.specs.Turns.{Told, has_send}
use Rattle.tk_top.specs.declared.ends.End.{End}
use Rattle.tk_top.specs.declared.ends.End.TheVariants.{Done, Words, Refused, VolumeFault, Broken, NoMemory, Full, WireFault, TurnsSpent}
use Rattle.tk_top.specs.Opened.{OpensOnly}
use Rattle.tk_top.specs.Runs.{AtExit, FullRun, NoneKept}
use Rattle.tk_top.specs.Serving.{Begins, ServesAt, PlaysAll}
use Rattle.tk_top.specs.Events.{HadEvents, events_of}
use Rattle.tk_top.specs.CopyRuns.{CopyRun, StandsAt}
use Rattle.tk_top.specs.Starts.{Start, begun, plainly, with_log}
use Rattle.tk_top.specs.Staying.{AsOpening, BreaksLog, BreaksOver, FilesStay, IsStill, LeavesBroken}
use Rattle.tk_top.specs.Stops.{IsEarly}
use Rattle.tk_top.specs.Volumes.{ShowsNow}

-- a run over a volume whose files, as they read, recovered to these and reopened to this mark. The files as they read are one of the images
pub record VolumeRun (st : Start) (reopens : Files → Contents → Type 0) (made : Files → Type 0) (files : Files) (end : End) (turns : ℕ) (at : At) (old new : Calls) (before after : List ℕ → Calls) (first : Mark) (es : List Entry) (v : World) : Type 0 where
  pub asked : AllAsked (begun st [] first) es
  pub serves : ServesAt st end turns at first es v
  -- at the exit; where the run ended before the log was brought to the disk, as an opening image
  pub exit : (ims : Files) → Images new ims → AtExit reopens end (world_after serves.last.earlier (begun st [] first)) v (recovered ims) ⊎ ((IsEarly end × (es ≡ [])) × IsLostSync old new 1 × AsOpening old (recovered ims))
  -- at any moment: a mark, with its log, or as an opening image
  pub moments : (ims : Files) → ImagesSince new (length old) ims → AtMark (with_log st.is.logs reopens) (recovered ims) v.marks ⊎ AsOpening old (recovered ims)
  -- once anything was sent in the last turn, what stands for the last mark
  pub late : has_send serves.last.last ≡ true → (ims : Files) → Images new ims → Reopens reopens (recovered ims) (mark_of v)
  -- of the copy under each label
  pub copies : (l : List ℕ) → CopyRun reopens l (StandsAt end (world_after serves.last.earlier (begun st [] first)) serves.last.last l) v.marks (copied_at l v.copies) (before l) (after l)
  -- once the wire was called, where no round had anything to commit: the files as they were, or, where the main file was empty, ones in which it was made
  pub idle : es ≢ [] → NoneKept (begun st [] first) es → (ims : Files) → Images new ims → IsStill made files (recovered ims)

-- the files, as they read, are told, recovered, and may be opened as this mark
abbrev pub BeginsAt : Type 0 → (Files → Contents → Type 0) → Calls → Mark → Type 0
BeginsAt tells opens old first = tells × Reopens opens (recovered (now old)) first

-- what came of the wire, and what it makes of a volume that was settled and of a script
pub record FilesRun {W : Type 0} (st : Start) (tells : Type 0) (g : wire.Ghosts W) (opens reopens : Files → Contents → Type 0) (made : Files → Type 0) (end : End) (turns : ℕ) (at : At) (old new : Calls) (before after : List ℕ → Calls) (x y : W) : Type 0 where
  pub entries : List Entry
  pub told : Adds (g.transcript x) (g.transcript y) entries
  -- whatever the volume tells, and whatever its files are
  pub opened : OpensOnly st.is at entries
  pub events : HadEvents end turns (events_of entries)
  pub ends : IsSettled old → (first : Mark) (b : BeginsAt tells opens old first) → VolumeRun st reopens made b.1.files end turns at old new before after first entries (world_after entries (begun st [] first))
  -- where a script is played, each event and answer is as the script has it, and all bytes offered were taken
  pub played : (end ≡ Done) ⊎ (end ≡ TurnsSpent) → Plays (g.plays x) (g.plays y) entries
  pub plays : (first : Mark) → BeginsAt tells opens old first → (acts : List Act) (dials : List Dialled) (given : ℕ) → g.plays x ≡ Some (unplayed_with acts dials given) → PlaysAll st.is turns (g.plays y) end acts given (world_after entries (begun st [] first))
  -- a copy that nobody asked for stays
  pub unasked : (first : Mark) → BeginsAt tells opens old first → (l : List ℕ) → copied_at l (world_after entries (begun st [] first)).copies ≡ None → after l ≡ before l
  pub unserved : tells → entries ≡ [] → after ≡ before
  pub broken : tells → LeavesBroken old new

-- the main file of these files is empty
abbrev pub MainIsBare : Option Files → Type 0
MainIsBare o = (files : Files) × (o ≡ Some files) × (files 0 ≡ [])

-- a limit was reached in the round of the last event, with no update log
abbrev pub FullPlain : (Contents → Contents → Type 0) → (Mark → Type 0) → Told → Told → Type 0
FullPlain fills start a b = FullRun fills (λ at size. ⊥) plain start [] [] a b

-- of a database that is held
abbrev pub FullPlainOf : {S W B : Type 0} → space.Ghosts S → wire.Ghosts W → (B → Files → Contents → Type 0) → (Files → Contents → Type 0) → (S → S → Contents → Contents → Type 0) → B → S → S → W → W → Type 0
FullPlainOf s g holds reopens fills base old new x y = FullPlain (fills old new) (HoldsMark s holds reopens base old) (g.transcript x) (g.transcript y)

-- a limit was reached where the files were opened, whose main file is empty, as it was made; or so, behind that
pub record FullFiles (tells empty lacks behind : Type 0) : Type 0 where
  pub which : (tells → empty × lacks) ⊎ behind

-- a rule that is broken is one of the log, and no file was changed; or it is one of the layout, of what the log makes of the files, and they stay
pub record BreaksAt (breaks : Files → ℕ → Rule → Type 0) (old new : Calls) (file : ℕ) (rule : Rule) : Type 0 where
  pub which : ((file ≡ 1) × BreaksLog old new rule) ⊎ ((files : Files) × (recovered (now old) ≡ Some files) × breaks files file rule)
  pub stays : FilesStay old new

-- these are files, and they may be opened as the contents
pub record Recover (opens : Files → Contents → Type 0) (o : Option Files) (c : Contents) : Type 0 where
  pub files : Files
  pub is : o ≡ Some files
  pub stand : opens files c

-- the files, as they read, stand for some contents
pub record StandsFor (opens : Files → Contents → Type 0) (old : Calls) : Type 0 where
  pub contents : Contents
  pub stand : Recover opens (recovered (now old)) contents

-- an image at the exit is one since then
pub images_now : (calls : Calls) (ims : Files) → Images calls ims → ImagesSince calls (length calls) ims
images_now [] ims are = are
images_now (c ∷ cs) ims are = inl are

-- what a space over a volume tells is what the calls of the volume make of its files; of one that may hold writes its files are so where nothing waits to be
-- committed. Its moments are the calls of the volume, and those made of it since it was opened
pub record IsOver (tells told sound : Type 0) (calls : Calls) (touched : Bool) (moment : ℕ) (left : ℕ → Option Files → Type 0) (files : Files) (names given : Named) (faults count : ℕ) : Type 0 where
  pub to : tells → told
  pub from : told → tells
  pub moment_later : length calls ≤ moment
  pub leaves : (t : ℕ) (ims : Files) → ImagesSince calls t ims → left t (recovered ims)
  -- of one that was just opened, a stop leaves no more
  pub left_is : moment ≡ length calls → (t : ℕ) (o : Option Files) → t ≤ length calls → left t o → LeftSince calls t o
  pub exit : (ims : Files) → Images calls ims → left moment (recovered ims)
  pub now_is : sound → touched ≡ false → files ≡ data_of (now calls)
  pub names_are : names ≡ given
  pub faults_are : faults ≡ count

-- a database was opened and is kept: it may be used, nothing is left to commit, and it holds and stands for what its files stood for
pub record OpensAs {S B : Type 0} (s : space.Ghosts S) (holds : B → Files → Contents → Type 0) (reopens opens : Files → Contents → Type 0) (made : Files → Type 0) (b : B) (old new : S) : Type 0 where
  pub ready : IsReady s holds b new
  pub untouched : s.touched new ≡ false
  pub marks : (m : Mark) → Begins s opens old m → HoldsMark s holds reopens b new m
  -- they stood for some contents
  pub stands : s.tells → (c : Contents) × opens (s.now old) c
  -- an empty main file was made, and others stay
  pub still : s.tells → IsStill made (s.now old) (Some (s.now new))

-- whatever they were laid out like, what is held stands in files that are laid out like it, beside the same
abbrev pub HoldsLike : {S B : Type 0} → space.Ghosts S → (B → Files → Contents → Type 0) → (Files → Contents → Type 0) → (ℕ → Type 0) → (Files → Layout) → Kind → B → S → S → Type 0
HoldsLike s holds reopens own layout kind b old new = (l : Frame) (m : Mark) → Begins s (OpensTo kind (Laid own layout l reopens)) old m → HoldsMark s holds (Laid own layout l reopens) b new m

-- and so does what a stop leaves
abbrev pub MovesLike : {S : Type 0} → space.Ghosts S → (Files → Contents → Type 0) → (ℕ → Type 0) → (Files → Layout) → Kind → S → S → Type 0
MovesLike s reopens own layout kind old new = (l : Frame) (m : Mark) → Begins s (OpensTo kind (Laid own layout l reopens)) old m → MovesTo s (Laid own layout l reopens) old new m

-- the end of a run that came to the end of its turns, or of the wire
abbrev pub IsOut : End → Type 0
IsOut end = (end ≡ Done) ⊎ (end ≡ TurnsSpent)

-- each data file has at most so many bytes, or as many as it had where that is more
pub record StaysWithin (most : ℕ) (old new : Calls) : Type 0 where
  pub each : (files : Files) → recovered (now old) ≡ Some files → (f : ℕ) → IsDataFile f → length (now new f) ≤ max most (length (files f))

-- these ends come only over files that stand for contents; and where a rule is named, it is broken
abbrev pub Judged : End → Type 0 → (ℕ → Rule → Type 0) → Type 0
Judged Done stand breaks = stand
Judged Words stand breaks = ⊥
Judged Refused stand breaks = ⊥
Judged VolumeFault stand breaks = Unit {0}
Judged (Broken file rule) stand breaks = breaks file rule
Judged NoMemory stand breaks = Unit {0}
Judged Full stand breaks = stand
Judged WireFault stand breaks = stand
Judged TurnsSpent stand breaks = stand

-- a space of this volume that has reached a limit; each of its data files may have so many bytes, or as many as it had where that is more
pub record FilesFull {S V : Type 0} (s : space.Ghosts S) (under : S → V) (calls : V → Calls) (tells : Type 0) (lacks : S → Type 0) (behind : S → S → Type 0) (most : ℕ) (old : Calls) (vol : V) : Type 0 where
  -- as it was opened, and as it ended
  pub begin : S
  pub space : S
  pub vol_is : under space ≡ vol
  -- what it has brought there are the files of the volume that is handed back
  pub shows : s.brought space → ShowsNow (calls (under space)) (s.now space)
  pub limits : tells → (files : Files) → recovered (now old) ≡ Some files → (f : ℕ) → is_data f ≡ true → s.limit space f ≡ max most (length (files f))
  pub full : FullFiles tells (MainIsBare (recovered (now old))) (lacks space) (behind begin space)

-- ---- of a space

module _ {S : Type 0} (s : space.Ghosts S) where
  abbrev pub JudgedOver : (Files → Contents → Type 0) → (Kind → Files → ℕ → Rule → Type 0) → Kind → End → S → S → Type 0
  JudgedOver reopens breaks kind end old new = Judged end (CanOpen s reopens kind old) (BreaksOver s (breaks kind) old new)

  abbrev pub FullOver : {W : Type 0} → wire.Ghosts W → (S → Type 0) → (S → S → Contents → Contents → Type 0) → (Files → Contents → Type 0) → S → S → W → W → Type 0
  FullOver g lacks fills opens old new x y = FullFiles s.tells (s.now old 0 ≡ []) (lacks new) (FullPlain (fills old new) (Begins s opens old) (g.transcript x) (g.transcript y))

-- ---- of a volume

module _ {V : Type 0} (v : volume.Ghosts V) where
  abbrev pub CanStand : (Files → Contents → Type 0) → V → Type 0
  CanStand opens old = v.tells → StandsFor opens (v.calls old)

  abbrev pub BreaksOn : (Files → ℕ → Rule → Type 0) → V → V → ℕ → Rule → Type 0
  BreaksOn breaks old new = λ file rule. v.tells → BreaksAt breaks (v.calls old) (v.calls new) file rule

  abbrev pub JudgedOn : (Files → Contents → Type 0) → (Files → ℕ → Rule → Type 0) → End → V → V → Type 0
  JudgedOn opens breaks end old new = Judged end (CanStand opens old) (BreaksOn breaks old new)

  abbrev pub RunsOn : {W : Type 0} → wire.Ghosts W → (Files → Contents → Type 0) → (Files → Type 0) → Kind → End → ℕ → At → V → V → W → W → Type 0
  RunsOn g reopens made kind end turns at old new x y = FilesRun plainly v.tells g (OpensTo kind reopens) reopens made end turns at (v.calls old) (v.calls new) (v.names old).copies (v.names new).copies x y

  abbrev pub FullOn : {S W : Type 0} → space.Ghosts S → wire.Ghosts W → (S → V) → (S → Type 0) → (S → S → Contents → Contents → Type 0) → (Files → Contents → Type 0) → ℕ → V → V → W → W → Type 0
  FullOn s g under lacks fills opens most old new x y = FilesFull s under v.calls v.tells lacks (λ begin space. FullPlain (fills begin space) (BeginsAt v.tells opens (v.calls old)) (g.transcript x) (g.transcript y)) most (v.calls old) new
