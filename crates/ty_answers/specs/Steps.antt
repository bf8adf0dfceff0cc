-- What a request, of whichever sort, leaves of an engine, of the walk and of the bytes of replies.
use Rattle.std.specs.Prelude.{◌≡◌, ◌++◌, ◌&&◌, ℕ, Bool, true, false, List, Result, IfOk, IsErrOf}
use Rattle.tc_base.specs.Files.{Files}
use Rattle.tc_base.specs.declared.request.Request.{Request}
use Rattle.tc_space.specs.Frames.{OnlyReads, Others}
use Rattle.tc_space.specs.declared.errors.RecErr.{RecErr}
use Rattle.tc_space.specs.declared.errors.RecErr.TheVariants.{Full}
use Rattle.tc_space.specs.declared.space.Space.{Ghosts}
use Rattle.ty_wire.specs.Spelling.{reply_bytes}
use Rattle.tc_model.specs.Contents.{Contents, Walk}
use Rattle.tc_model.specs.Apply.{Step, applied, updates}
use Rattle.tc_model.specs.Packing.{is_optimize}
use Rattle.ty_base.specs.Holding.{FillsAll, Held, KeepsNumbers, Layout, may_write}

-- contents, walk, success and reply are those of the step
pub record Ends (step : Step) (done : Bool) (c : Contents) (w : Walk) (old new : List ℕ) : Type 0 where
  pub contents : c ≡ step.contents
  pub walk : w ≡ step.walk
  pub ok : done ≡ step.ok
  pub bytes : new ≡ old ++ reply_bytes step.reply

-- the request was applied, and the numbers of the files stay; where nothing was updated, nothing was written but for a packing
pub record Steps {S E : Type 0} (s : Ghosts S) (own : ℕ → Type 0) (layout : Files → Layout) (holds : E → Files → Contents → Type 0) (r : Request) (done : Bool) (e e' : E) (a b : S) (w w' : Walk) (old new : List ℕ) : Type 0 where
  pub sound : s.sound b
  pub others : Others s own a b
  pub numbered : (c : Contents) → Held s holds e a c → KeepsNumbers (layout (s.now a)) (layout (s.now b))
  pub applied_is : (c : Contents) → Held s holds e a c → (d : Contents) × Held s holds e' b d × Ends (applied r c w) done d w' old new
  pub idle : (done && updates r) ≡ false → is_optimize r ≡ false → OnlyReads s a b

-- a limit is reached, as the space stands, where a request may write, between the contents and those that the request was to leave; where it packs the
-- files, that of the undo log
pub record IsFullStep {S E : Type 0} (s : Ghosts S) (holds : E → Files → Contents → Type 0) (fills : E → S → S → Contents → Contents → Type 0) (r : Request) (w : Walk) (e : E) (a b : S) : Type 0 where
  pub writes : may_write r ≡ true
  pub packs : is_optimize r ≡ true → s.tells → FillsAll (fills e a b)
  pub by : (c : Contents) → Held s holds e a c → fills e a b c (applied r c w).contents

abbrev pub StepsBy : {S E : Type 0} → Ghosts S → (ℕ → Type 0) → (Files → Layout) → (E → Files → Contents → Type 0) → Result Bool RecErr → Request → E → E → S → S → Walk → Walk → List ℕ → List ℕ → Type 0
StepsBy s own layout holds result r e e' a b w w' old new = IfOk result (λ done. Steps s own layout holds r done e e' a b w w' old new)

abbrev pub FullStep : {S E : Type 0} → Ghosts S → (E → Files → Contents → Type 0) → Result Bool RecErr → (E → S → S → Contents → Contents → Type 0) → Request → Walk → E → S → S → Type 0
FullStep s holds result fills r w e a b = IsErrOf result Full → IsFullStep s holds fills r w e a b
