-- What the requests of a task leave of a database and its space.
use Rattle.std.specs.Prelude.{◌≡◌, ◌≤◌, ℕ, Bool, false, List, Option, None, Result, Ok, IsErrOf}
use Rattle.tc_base.specs.Files.{Files}
use Rattle.tc_base.specs.declared.request.Request.{Request}
use Rattle.tc_space.specs.Frames.{Follows, Keeps, keeps_refl, keeps_then}
use Rattle.tc_io.specs.Causes.{Rose}
use Rattle.tc_space.specs.declared.space.Space as space
use Rattle.tc_model.specs.Contents.{Contents}
use Rattle.tc_model.specs.Apply.{apply, updates, is_updated}
use Rattle.tc_model.specs.Packing.{is_optimize}
use Rattle.tc_model.specs.declared.applied.Applied.{Applied}
use Rattle.ty_wire.specs.Spelling.{reply_bytes}
use Rattle.ty_base.specs.Holding.{Held, OfHeld}
use Rattle.ty_world.specs.World.{Mark}
use Rattle.ty_rounds.specs.Kept.{HoldsMark, LeavesMarks, LeavesTwo, Reopens}
use Rattle.std.proofs.Common.{refl, ◌∙◌}
use Rattle.tk_mgr.specs.declared.errors.MgrErr.{MgrErr}
use Rattle.tk_mgr.specs.declared.errors.MgrErr.TheVariants.{Fault, Full, Sink}
use Rattle.tk_mgr.specs.Tasks.{asked, answered}
use Rattle.tk_mgr.specs.Managing.{IsThrough, last_mark, marks_of, with_contents}
use Rattle.tk_mgr.specs.declared.task.Task.{Task}

-- a request was made of contents: what it makes of them is held now, and its reply stands alone
pub record Answers {S B : Type 0} (s : space.Ghosts S) (holds : B → Files → Contents → Type 0) (r : Request) (a : Applied) (c : Contents) (base : B) (new : S) (reply : List ℕ) : Type 0 where
  pub held : Held s holds base new (apply false r c None).contents
  pub bytes : reply ≡ reply_bytes (apply false r c None).reply
  pub ok : a.ok ≡ (apply false r c None).ok
  pub updated : a.updated ≡ is_updated r (apply false r c None)

-- whatever was held
abbrev pub AnswersOf : {S B : Type 0} → space.Ghosts S → (B → Files → Contents → Type 0) → Request → Applied → B → B → S → S → List ℕ → Type 0
AnswersOf s holds r a base base' old new reply = OfHeld s holds base old (λ c. Answers s holds r a c base' new reply)

-- a fault comes only where a call of the volume failed
abbrev pub OnMgrFault : {S T : Type 0} → space.Ghosts S → Result T MgrErr → S → S → Type 0
OnMgrFault s result old new = IsErrOf result Fault → Rose (s.faults old) (s.faults new)

-- whatever it answers: the space follows the one that it was, no count of faults falls, and a fault is one of the space or of the sink
pub record Accounts {S O T : Type 0} (s : space.Ghosts S) (faults : O → ℕ) (result : Result T MgrErr) (old new : S) (p q : O) : Type 0 where
  pub follows : Follows s old new
  pub later : faults p ≤ faults q
  pub cause : OnMgrFault s result old new
  pub cause_sink : IsErrOf result Sink → Rose (faults p) (faults q)

-- it neither updates contents nor packs files
pub record IsIdle (r : Request) : Type 0 where
  pub updates_none : updates r ≡ false
  pub packs_none : is_optimize r ≡ false

-- whether a request succeeded, and its reply
pub record IsTold (r : Request) (done : Bool) (c : Contents) (reply : List ℕ) : Type 0 where
  pub bytes : reply ≡ reply_bytes (apply false r c None).reply
  pub ok : done ≡ (apply false r c None).ok

-- nothing was written, and whatever was held is held
pub record Looks {S B : Type 0} (s : space.Ghosts S) (holds : B → Files → Contents → Type 0) (base base' : B) (old new : S) : Type 0 where
  pub keeps : Keeps s old new
  pub sound : s.sound new
  pub files : s.tells → (g : ℕ) → s.now new g ≡ s.now old g
  pub held : (c : Contents) → Held s holds base old c → Held s holds base' new c

module _ {S B : Type 0} (s : space.Ghosts S) (holds : B → Files → Contents → Type 0) where
  pub looks_refl : (b : B) (a : S) → s.sound a → Looks s holds b b a a
  looks_refl b a is = record { keeps = keeps_refl s a; sound = is; files = λ t g. refl; held = λ c h. h }

  pub looks_then : (b b1 b2 : B) (a a1 a2 : S) → Looks s holds b b1 a a1 → Looks s holds b1 b2 a1 a2 → Looks s holds b b2 a a2
  looks_then b b1 b2 a a1 a2 first second = record {
    keeps = keeps_then s a a1 a2 first.keeps second.keeps;
    sound = second.sound;
    files = λ t g. second.files t g ∙ first.files t g;
    held = λ c h. second.held c (first.held c h);
  }

-- a request, or none, was carried out and what it changed was kept; nothing was printed
pub record Carries {S : Type 0} (s : space.Ghosts S) (reopens : Files → Contents → Type 0) (r : Option Request) (result : Result Bool MgrErr) (old new : S) (m : Mark) : Type 0 where
  pub ok : (b : Bool) → result ≡ Ok b → b ≡ answered r m.contents
  pub moments : LeavesTwo s reopens old new m (with_contents m (asked r m.contents))
  pub last : IsThrough result → (o : Option Files) → s.left new (s.moment new) o → Reopens reopens o (with_contents m (asked r m.contents))

-- ---- whatever the files stood for, and whatever was held

abbrev pub OfMark : {S B : Type 0} → space.Ghosts S → (B → Files → Contents → Type 0) → (Files → Contents → Type 0) → B → S → (Mark → Type 0) → Type 0
OfMark s holds reopens base space P = (m : Mark) → HoldsMark s holds reopens base space m → P m

abbrev pub CarriesOf : {S B : Type 0} → space.Ghosts S → (B → Files → Contents → Type 0) → (Files → Contents → Type 0) → Option Request → Result Bool MgrErr → B → S → S → Type 0
CarriesOf s holds reopens r result base old new = OfMark s holds reopens base old (λ m. Carries s reopens r result old new m)

abbrev pub FillsRequest : {S B T : Type 0} → space.Ghosts S → (B → Files → Contents → Type 0) → (S → S → Contents → Contents → Type 0) → Option Request → Result T MgrErr → B → S → S → Type 0
FillsRequest s holds fills r result base old new = IsErrOf result Full → OfHeld s holds base old (λ c. fills old new c (asked r c))

-- a stop leaves files that stand for one of the marks of a task
abbrev pub LeavesAll : {S B : Type 0} → space.Ghosts S → (B → Files → Contents → Type 0) → (Files → Contents → Type 0) → Task → B → S → S → Type 0
LeavesAll s holds reopens task base old new = OfMark s holds reopens base old (λ m. LeavesMarks s reopens old new (marks_of task m))

-- a stop at the exit leaves files that stand for the last mark of a task
abbrev pub LeavesLast : {S B : Type 0} → space.Ghosts S → (B → Files → Contents → Type 0) → (Files → Contents → Type 0) → Task → B → S → S → Type 0
LeavesLast s holds reopens task base old new = OfMark s holds reopens base old (λ m. (o : Option Files) → s.left new (s.moment new) o → Reopens reopens o (last_mark task m))
