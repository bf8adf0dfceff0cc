-- A database opened or made anew, and why it wasn't.
use Rattle.std.specs.Prelude.{◌≡◌, ◌⊎◌, ℕ, false, [], Result, IfErr, OnErr, IsErrOf}
use Rattle.std.proofs.Common.{refl}
use Rattle.tc_base.specs.Files.{Files}
use Rattle.tc_base.specs.declared.kind.Kind.{Kind}
use Rattle.tc_model.specs.Contents.{Contents, kind_of}
use Rattle.tc_base.specs.declared.kind.Rule.{Rule}
use Rattle.tc_io.specs.Causes.{Rose}
use Rattle.tc_space.specs.Frames.{OnlyReads, Others}
use Rattle.tc_space.specs.declared.space.Space.{Ghosts}
use Rattle.tc_space.specs.declared.errors.RecErr.{RecErr}
use Rattle.tc_space.specs.declared.errors.RecErr.TheVariants as rec
use Rattle.tc_space.specs.declared.errors.OpenErr.{OpenErr}
use Rattle.tc_space.specs.declared.errors.OpenErr.TheVariants as open_err
use Rattle.ty_base.specs.declared.errors.AnyErr.{AnyErr}
use Rattle.ty_base.specs.declared.errors.AnyErr.TheVariants as any

-- contents of a kind, for which files stand
pub record OpensTo (kind : Kind) (reopens : Files → Contents → Type 0) (files : Files) (c : Contents) : Type 0 where
  pub kind_is : kind_of c ≡ kind
  pub stand : reopens files c

-- they are held, and the files stand for them
pub record IsOpened {B : Type 0} (held : B → Files → Contents → Type 0) (reopens : Files → Contents → Type 0) (base : B) (files : Files) (c : Contents) : Type 0 where
  pub holds : held base files c
  pub stand : reopens files c

-- made anew: no data is held in that shape, the files stand for it, and the main file isn't empty and has the numbers, with nothing behind what its head says
pub record IsCreated {B N : Type 0} (held : B → Files → Contents → Type 0) (reopens : Files → Contents → Type 0) (has_numbers : N → Files → Type 0) (base : B) (c : Contents) (shape : N) (files : Files) : Type 0 where
  pub holds : held base files c
  pub stand : reopens files c
  pub some : files 0 ≡ [] → ⊥
  pub numbers : has_numbers shape files

-- the main file is empty, and there was no room for what it is to be
pub record FillsNew (opens : Files → Contents → Type 0) (lacks : Type 0) (files : Files) : Type 0 where
  pub empty : files 0 ≡ []
  pub contents : Contents
  pub stand : opens files contents
  pub full : lacks

-- the same cause
abbrev pub any_of : RecErr → AnyErr
any_of rec.Full = any.Full
any_of rec.Fault = any.Fault
any_of rec.Memory = any.Memory

-- the same of one that a single file met
abbrev pub any_of_open : OpenErr → AnyErr
any_of_open (open_err.Broken file rule) = any.Broken file rule
any_of_open open_err.Fault = any.Fault
any_of_open open_err.Memory = any.Memory

-- of a rule that is broken this holds
abbrev pub Breaks : AnyErr → (ℕ → Rule → Type 0) → Type 0
Breaks (any.Broken file rule) P = P file rule
Breaks any.Full P = Unit {0}
Breaks any.Fault P = Unit {0}
Breaks any.Memory P = Unit {0}

-- ---- of a call that opens the files of a space, or makes them

module _ {S : Type 0} (s : Ghosts S) (reopens : Files → Contents → Type 0) where
  -- the files stand for contents of the kind
  abbrev pub CanOpen : Kind → S → Type 0
  CanOpen kind space = s.tells → (c : Contents) × OpensTo kind reopens (s.now space) c

  -- the files stand for contents
  abbrev pub DoStand : S → Type 0
  DoStand space = s.tells → (c : Contents) × reopens (s.now space) c

  -- for whichever they stood, these are held
  abbrev pub OpensFor : {B : Type 0} → (B → Files → Contents → Type 0) → Kind → B → S → S → Type 0
  OpensFor held kind base old new = s.tells → (c : Contents) → OpensTo kind reopens (s.now old) c → IsOpened held reopens base (s.now new) c

  abbrev pub CreatesAs : {B N : Type 0} → (B → Files → Contents → Type 0) → (N → Files → Type 0) → B → Contents → N → S → Type 0
  CreatesAs held has_numbers base c shape new = s.tells → IsCreated held reopens has_numbers base c shape (s.now new)

-- the space may be used, files that aren't its own stay, and an empty main file was made one of these numbers
pub record OpensUsable {S : Type 0} (s : Ghosts S) (own : ℕ → Type 0) (shaped : Files → Type 0) (old new : S) : Type 0 where
  pub sound : s.sound new
  pub others : Others s own old new
  pub made : s.tells → s.now old 0 ≡ [] → shaped (s.now new)

module _ {S : Type 0} (s : Ghosts S) where
  -- the main file is empty, so that the files stand for contents of the kind, and a new one had no room
  abbrev pub LacksNew : (Files → Contents → Type 0) → Type 0 → Kind → S → Type 0
  LacksNew reopens lacks kind old = s.tells → FillsNew (OpensTo kind reopens) lacks (s.now old)

module _ {S T : Type 0} (s : Ghosts S) (result : Result T AnyErr) where
  -- the rule that it names is one that the files break
  abbrev pub NamesRule : (Kind → Files → ℕ → Rule → Type 0) → Kind → S → Type 0
  NamesRule breaks kind space = IfErr result (λ e. Breaks e (λ file rule. s.tells → breaks kind (s.now space) file rule))

  -- the rule that it names is one that files beside an empty main file break
  abbrev pub NamesNew : (Files → ℕ → Rule → Type 0) → S → Type 0
  NamesNew breaks space = IfErr result (λ e. Breaks e (λ file rule. s.tells → breaks (s.now space) file rule))

  -- after a refusal the space may not be used any more, or nothing was written, as where a rule is named; a fault comes only where a call of the volume failed
  pub record RefusesToOpen (old new : S) : Type 0 where
    pub left : OnErr result ((s.flag new ≡ false) ⊎ OnlyReads s old new)
    pub sound : IfErr result (λ e. Breaks e (λ file rule. OnlyReads s old new))
    pub cause : IsErrOf result any.Fault → Rose (s.faults old) (s.faults new)

-- what was made anew opens again as it is
pub created_opens : {B N : Type 0} (held : B → Files → Contents → Type 0) (reopens : Files → Contents → Type 0) (has_numbers : N → Files → Type 0) (base : B) (c : Contents) (shape : N) (files : Files) → IsCreated held reopens has_numbers base c shape files → OpensTo (kind_of c) reopens files c
created_opens held reopens has_numbers base c shape files created = record { kind_is = refl; stand = created.stand }
