-- What a call on an engine leaves of what it holds.
use Rattle.std.specs.Prelude.{◌≡◌, ℕ, List, Bool, true, false, Option, Some, None, Result, OnOk, IfOk, IsErrOf}
use Rattle.tc_base.specs.Files.{Files}
use Rattle.tc_space.specs.Frames.{Others, Reads}
use Rattle.tc_space.specs.declared.errors.RecErr.{RecErr}
use Rattle.tc_space.specs.declared.errors.RecErr.TheVariants.{Full}
use Rattle.tc_space.specs.declared.space.Space.{Ghosts}
use Rattle.tc_model.specs.Contents.{Contents}
use Rattle.ty_base.specs.Holding.{Held, KeepsNumbers, Layout, OfHeld}
use Rattle.tc_engine.specs.Changes.{Change, wanted}
use Rattle.tc_engine.specs.Rows.{Adds, AreItems, IsItem}
use Rattle.tc_engine.specs.declared.rows.Rows.{Rows}

-- the change was made, and the numbers of the files stay; or it fails, and nothing has changed
pub record Makes {S E : Type 0} (s : Ghosts S) (own : ℕ → Type 0) (layout : Files → Layout) (holds : E → Files → Contents → Type 0) (f : Change) (done : Bool) (e e' : E) (old new : S) : Type 0 where
  pub sound : s.sound new
  pub others : Others s own old new
  pub numbered : (c : Contents) → Held s holds e old c → KeepsNumbers (layout (s.now old)) (layout (s.now new))
  pub made : done ≡ true → (c : Contents) → Held s holds e old c → (d : Contents) × (f c ≡ Some d) × Held s holds e' new d
  pub fails : done ≡ false → (c : Contents) → Held s holds e old c → f c ≡ None
  pub same : done ≡ false → Reads s (Held s holds) e e' old new

-- a limit is reached, by the engine and the space before and as the space stands, between the contents and those that were to be made of them
pub record IsFull {S E : Type 0} (s : Ghosts S) (holds : E → Files → Contents → Type 0) (fills : E → S → S → Contents → Contents → Type 0) (f : Change) (e : E) (old new : S) : Type 0 where
  pub by : (c : Contents) → Held s holds e old c → fills e old new c (wanted f c)

-- ---- by the result of a call

module _ {S E : Type 0} (s : Ghosts S) (holds : E → Files → Contents → Type 0) where
  abbrev pub MadeBy : (ℕ → Type 0) → (Files → Layout) → Result Bool RecErr → Change → E → E → S → S → Type 0
  MadeBy own layout result f e e' old new = IfOk result (λ done. Makes s own layout holds f done e e' old new)

  abbrev pub FullFor : {T : Type 0} → (E → S → S → Contents → Contents → Type 0) → Result T RecErr → Change → E → S → S → Type 0
  FullFor fills result f e old new = IsErrOf result Full → IsFull s holds fills f e old new

  -- these rows of what is held were added
  abbrev pub AddsOf : {T : Type 0} → Result T RecErr → (Contents → List (List ℕ)) → E → S → Rows → Rows → Type 0
  AddsOf result rows e space old new = OnOk result (OfHeld s holds e space (λ c. Adds old new (rows c)))

  -- this value of what is held was added, where there is one
  abbrev pub AddsItem : Result Bool RecErr → (Contents → Option (List ℕ)) → E → S → Rows → Rows → Type 0
  AddsItem result value e space old new = IfOk result (λ found. OfHeld s holds e space (λ c. IsItem (value c) found old new))

  -- these texts of what is held were added, where there are any
  abbrev pub AddsTexts : Result Bool RecErr → (Contents → Option (List (List ℕ))) → E → S → Rows → Rows → Type 0
  AddsTexts result texts e space old new = IfOk result (λ found. OfHeld s holds e space (λ c. AreItems (texts c) found old new))
