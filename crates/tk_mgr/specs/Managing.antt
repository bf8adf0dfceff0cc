-- What a task leaves of a database, of its space and of what it prints to.
use Rattle.std.specs.Prelude.{◌≡◌, ◌≢◌, ◌⊎◌, ◌≤◌, ◌<◌, ◌+◌, ℕ, Bool, true, false, List, [], map, Option, None, Some, Result, Ok, Err, IsErrOf}
use Rattle.std.proofs.Common.{inl, inr, ⊎_elim}
use Rattle.tc_base.specs.Files.{Files}
use Rattle.tc_base.specs.declared.kind.Form.{Form}
use Rattle.tc_base.specs.declared.kind.Form.TheVariants as form
use Rattle.tc_io.specs.Told.{Adds}
use Rattle.tc_io.specs.declared.sink.Sink as sink
use Rattle.tc_space.specs.declared.space.Space as space
use Rattle.ty_wire.specs.Prefixes.{IsPrefix}
use Rattle.tc_model.specs.Contents.{Contents}
use Rattle.tc_space.specs.Stores.{in_form}
use Rattle.ty_base.specs.Holding.{Layout, no_layout}
use Rattle.ty_world.specs.World.{Mark}
use Rattle.ty_rounds.specs.Kept.{HoldsMark, LeavesMarks, Reopens}
use Rattle.tk_mgr.specs.declared.errors.MgrErr.{MgrErr}
use Rattle.tk_mgr.specs.declared.errors.MgrErr.TheVariants as err
use Rattle.tk_mgr.specs.declared.task.Task.{Task}
use Rattle.tk_mgr.specs.declared.task.Task.TheVariants.{Get, List as Lists, Optimize, Inform, Search}
use Rattle.tk_mgr.specs.Tasks.{Prints, after, all_marks, at_step, ok_of, steps_of}

-- it may be used, nothing is left to commit, and its files stand for what it holds
pub record MayManage {S B : Type 0} (s : space.Ghosts S) (holds : B → Files → Contents → Type 0) (reopens : Files → Contents → Type 0) (base : B) (space : S) : Type 0 where
  pub sound : s.sound space
  pub untouched : s.touched space ≡ false
  pub stands : s.tells → (c : Contents) × holds base (s.now space) c × reopens (s.now space) c

-- ---- marks: a task leaves the update log as it is

abbrev pub with_contents : Mark → Contents → Mark
with_contents m c = record { contents = c; log = m.log }

abbrev pub last_mark : Task → Mark → Mark
last_mark task m = with_contents m (after task m.contents)

-- from the last to that before it
abbrev pub marks_of : Task → Mark → List Mark
marks_of task m = map (with_contents m) (all_marks task m.contents)

-- ---- how it ended

-- it was carried out, or what it prints wasn't taken
abbrev pub IsThrough : Result Bool MgrErr → Type 0
IsThrough (Ok ok) = Unit {0}
IsThrough (Err err.Full) = ⊥
IsThrough (Err err.Fault) = ⊥
IsThrough (Err err.Sink) = Unit {0}
IsThrough (Err err.Memory) = ⊥

-- a front of what it prints, where its request succeeds
pub record IsFrontOf (lines : Files → List ℕ → Type 0) (task : Task) (files : Files) (c : Contents) (taken : List ℕ) : Type 0 where
  pub ok : ok_of task c ≡ true
  pub text : List ℕ
  pub prints : Prints lines task files c text
  pub front : IsPrefix taken text

-- what it leaves where the files stood for a mark
pub record ManagesFrom {S : Type 0} (s : space.Ghosts S) (reopens : Files → Contents → Type 0) (lines : Files → List ℕ → Type 0) (task : Task) (result : Result Bool MgrErr) (old new : S) (taken : List ℕ) (m : Mark) : Type 0 where
  -- it answers whether its request succeeded
  pub ok : (b : Bool) → result ≡ Ok b → b ≡ ok_of task m.contents
  -- what was printed is its text, whole where it was carried out
  pub printed : (taken ≡ []) ⊎ IsFrontOf lines task (s.now old) m.contents taken
  pub whole : result ≡ Ok true → Prints lines task (s.now old) m.contents taken
  -- a stop leaves files that stand for one of its marks; once anything was printed, or it is through, for the last
  pub moments : LeavesMarks s reopens old new (marks_of task m)
  pub last : IsThrough result ⊎ (taken ≢ []) → (o : Option Files) → s.left new (s.moment new) o → Reopens reopens o (last_mark task m)

pub record Manages {S B O : Type 0} (s : space.Ghosts S) (g : sink.Ghosts O) (holds : B → Files → Contents → Type 0) (reopens : Files → Contents → Type 0) (lines : Files → List ℕ → Type 0) (task : Task) (result : Result Bool MgrErr) (base : B) (old new : S) (p q : O) : Type 0 where
  pub taken : List ℕ
  pub told : Adds (g.taken p) (g.taken q) taken
  -- nothing was printed where its request failed
  pub none : result ≡ Ok false → taken ≡ []
  pub by : (m : Mark) → HoldsMark s holds reopens base old m → ManagesFrom s reopens lines task result old new taken m

-- ---- files packed

abbrev pub form_for : Bool → Form
form_for true = form.Large
form_for false = form.Keep

-- the form that a task packs files in, if it does
abbrev pub packing : Task → Option Form
packing (Optimize large) = Some (form_for large)
packing _ = None

-- these are files, packed in that form
pub record ArePacked (packed : Form → Files → Type 0) (f : Form) (o : Option Files) : Type 0 where
  pub files : Files
  pub is : o ≡ Some files
  pub are : packed f files

-- files have the numbers that others have in that form, with no more free in front of the first block, and end in what holds something, where their heads say
pub record FormedFrom (layout : Files → Layout) (was : Files) (f : Form) (files : Files) : Type 0 where
  pub numbers : (layout files).numbers ≡ in_form f (layout was).numbers
  pub lead : (layout files).lead ≤ (layout was).lead
  pub none : (layout files).slack ≡ 0

-- how files are laid out, where a task packs none; where it packs them nothing is said of that
abbrev pub said_by : Option Form → (Files → Layout) → Files → Layout
said_by None layout = layout
said_by (Some f) layout = no_layout

-- once a packing is carried out a stop leaves packed files
abbrev pub PacksTask : {S : Type 0} → space.Ghosts S → (Form → Files → Type 0) → Task → Result Bool MgrErr → S → Type 0
PacksTask s packed task result new = (f : Form) → packing task ≡ Some f → result ≡ Ok true → (o : Option Files) → s.left new (s.moment new) o → ArePacked packed f o

-- ---- a limit that was reached

-- a task that may write files
abbrev pub writes_files : Task → Bool
writes_files (Get key) = false
writes_files (Lists maximum values) = false
writes_files Inform = false
writes_files (Search wanted values) = false
writes_files _ = true

-- the undo log is full, or the large form that a task packs files in has no room for contents
abbrev pub LacksKeeping : Type 0 → (Contents → Type 0) → Task → Contents → Type 0
LacksKeeping log_is_full lacks_large task c = log_is_full ⊎ ((packing task ≡ Some form.Large) × lacks_large c)

-- between the contents behind some of its requests and those behind the next, or as those are brought to the files
pub record FillsTask (log_is_full : Type 0) (fills : Contents → Contents → Type 0) (lacks_large : Contents → Type 0) (task : Task) (c : Contents) : Type 0 where
  pub step : ℕ
  pub within : step ≤ steps_of task
  pub by : ((step < steps_of task) × fills (at_step task c step) (at_step task c (step + 1))) ⊎ LacksKeeping log_is_full lacks_large task (at_step task c step)

-- the same as a space stands, since it stood as before
abbrev pub FillsTaskIn : {S : Type 0} → space.Ghosts S → (S → S → Contents → Contents → Type 0) → (S → S → Contents → Type 0) → S → S → Task → Contents → Type 0
FillsTaskIn s fills lacks_large old new task c = FillsTask (s.log_full new) (fills old new) (lacks_large old new) task c

-- so it is of wider kinds
pub task_less : (log_is_full : Type 0) (f g : Contents → Contents → Type 0) (p q : Contents → Type 0) (task : Task) (c : Contents) → ((d e : Contents) → f d e → g d e) → (packing task ≡ Some form.Large → (d : Contents) → p d → q d) → FillsTask log_is_full f p task c → FillsTask log_is_full g q task c
task_less log_is_full f g p q task c wider large x = record {
  step = x.step;
  within = x.within;
  by = ⊎_elim
      (λ y. inl (y.0, wider (at_step task c x.step) (at_step task c (x.step + 1)) y.1))
      (λ y. inr (⊎_elim (λ log. inl log) (λ lacks. inr (lacks.0, large lacks.0 (at_step task c x.step) lacks.1)) y))
      x.by;
}

-- whatever the files stood for
module _ {S B : Type 0} (s : space.Ghosts S) (holds : B → Files → Contents → Type 0) (reopens : Files → Contents → Type 0) (fills : S → S → Contents → Contents → Type 0) (lacks_large : S → S → Contents → Type 0) where
  abbrev pub FillsTaskOf : {T : Type 0} → Task → Result T MgrErr → B → S → S → Type 0
  FillsTaskOf task result base old new = IsErrOf result err.Full → (m : Mark) → HoldsMark s holds reopens base old m → FillsTaskIn s fills lacks_large old new task m.contents

abbrev pub PacksTaskOf : {S B : Type 0} → space.Ghosts S → (B → Files → Contents → Type 0) → (Files → Contents → Type 0) → (Form → Files → Type 0) → Task → Result Bool MgrErr → B → S → S → Type 0
PacksTaskOf s holds reopens packed task result base old new = (m : Mark) → HoldsMark s holds reopens base old m → PacksTask s packed task result new
