-- Runs over the files of a name, by what the database says that they are of.
use Rattle.std.specs.Prelude.{◌≡◌, ◌⊎◌, ◌^◌, ℕ, min, List, [], Option}
use Rattle.tc_base.specs.Files.{Files}
use Rattle.tc_base.specs.declared.kind.Form.{Form}
use Rattle.tc_base.specs.declared.kind.Kind.{Kind}
use Rattle.tc_base.specs.declared.kind.Rule.{Rule}
use Rattle.tc_io.specs.declared.sink.Sink as sink
use Rattle.tc_io.specs.declared.volume.Volume as volume
use Rattle.tc_io.specs.declared.wire.Wire as wire
use Rattle.tc_io.specs.declared.wire.At.{At}
use Rattle.tc_space.specs.declared.space.Space as space
use Rattle.tc_model.specs.Contents.{Contents}
use Rattle.tc_fixeddb.specs.declared.shape.FixedShape.{FixedShape}
use Rattle.tc_hashdb.specs.declared.shape.HashShape.{HashShape}
use Rattle.tc_tabledb.specs.declared.shape.TableShape.{TableShape}
use Rattle.tc_treedb.specs.declared.shape.TreeShape.{TreeShape}
use Rattle.ty_base.specs.Holding.{Frame, Laid, Layout, no_layout}
use Rattle.ty_base.specs.Opening.{OpensTo}
use Rattle.ty_world.specs.Logs.{Settings}
use Rattle.tk_mgr.specs.Managing.{FillsTaskIn, packing, said_by}
use Rattle.tk_mgr.specs.declared.task.Task.{Task}
use Rattle.tk_words.specs.Words.{Word}
use Rattle.tk_top.specs.declared.ends.End.{End}
use Rattle.tk_top.specs.declared.ends.End.TheVariants.{Full}
use Rattle.tk_top.specs.declared.ends.Stopped.{Stopped}
use Rattle.tk_top.specs.Causes.{CausedIn, CausedByVolume}
use Rattle.tk_top.specs.GapLines.{TellsGaps}
use Rattle.tk_top.specs.Guarding.{GuardsOn, GuardsTaskOn}
use Rattle.tk_top.specs.Logging.{CameToWire, FillsLogged, RunsLoggedOn, SparesUnlogged, breaks_logged, logging, opens_logged}
use Rattle.tk_top.specs.Making.{InShape, IsThere, JudgedMakingOn, LacksOn, MakesOn}
use Rattle.tk_top.specs.Naming.{NamesOnce, NamesTold}
use Rattle.tk_top.specs.Over.{CanStand, FullOn, JudgedOn, RunsOn}
use Rattle.tk_top.specs.Says.{Says}
use Rattle.tk_top.specs.Stops.{LeavesAlone}
use Rattle.tk_top.specs.Tasks.{FormsOn, FullTaskOn, JudgedTaskOn, ManagesOn}
use Rattle.tk_top.specs.declared.words.Asked.{Asked}
use Rattle.tk_top.specs.declared.words.Asked.TheVariants as asked
use Rattle.tk_top.specs.declared.words.Shape.{Shape}
use Rattle.tk_top.specs.declared.words.Shape.TheVariants as shapes
use Rattle.tk_top.specs.declared.words.Source.TheVariants as source
use Rattle.tk_top.specs.declared.words.Stored.{Stored}
use Rattle.tk_top.specs.declared.words.Stored.TheVariants as stores
use Rattle.tk_top.specs.declared.working.Job.{Job}
use Rattle.tk_top.specs.declared.working.Job.TheVariants as jobs
use Rattle.tk_top.specs.declared.working.Work.{Work}
use Rattle.tk_top.specs.declared.working.Work.TheVariants as works

-- ---- what is asked for

-- a job on the files of a name
abbrev pub asked_to : Stored → Word → Job → Asked
asked_to stored name (jobs.Serve limit at turns) = asked.Serve (source.File name stored limit) at turns
asked_to stored name (jobs.Log own master limit at turns) = asked.Serve (source.Logged name stored limit own master) at turns
asked_to stored name (jobs.Task task) = asked.Task name stored task

-- or that they are made anew
abbrev pub asked_as : {N : Type 0} → Stored → (N → Shape) → Word → Work N → Asked
asked_as stored shaped name (works.Do job) = asked_to stored name job
asked_as stored shaped name (works.Make n) = asked.Create name (shaped n.now)

abbrev pub asked_hash : Word → Work HashShape → Asked
asked_hash name work = asked_as stores.Hash (λ n. shapes.Hash n) name work

abbrev pub asked_tree : Word → Work TreeShape → Asked
asked_tree name work = asked_as stores.Tree (λ n. shapes.Tree n) name work

abbrev pub asked_fixed : Word → Work FixedShape → Asked
asked_fixed name work = asked_as stores.Fixed (λ n. shapes.Fixed n) name work

abbrev pub asked_table : Word → Work TableShape → Asked
asked_table name work = asked_as stores.Table (λ n. shapes.Table n) name work

-- what is made anew has numbers that it may have
abbrev pub MayWork : {N : Type 0} → (N → Type 0) → Work N → Type 0
MayWork may (works.Do job) = Unit {0}
MayWork may (works.Make n) = may n.now

-- ---- what a run leaves

-- they are served at an address
pub record ServesFiles {V W : Type 0} (v : volume.Ghosts V) (g : wire.Ghosts W) (kind : Kind) (reopens : Files → Contents → Type 0) (own : ℕ → Type 0) (layout : Files → Layout) (made : Files → Type 0) (breaks : Files → ℕ → Rule → Type 0) (fills : Type 0) (end : End) (name : List ℕ) (limit : ℕ) (at : At) (turns : ℕ) (vol vol' : V) (x y : W) : Type 0 where
  pub names : NamesTold v name vol vol'
  -- what came of the wire, and what any stop leaves of a volume that was settled and whose files stood for contents
  pub told : RunsOn v g reopens made kind end turns at vol vol' x y
  -- whatever the files are laid out like, and whichever stand beside them, so it is with files that have their numbers and nothing more behind, beside those
  pub laid : (l : Frame) → RunsOn v g (Laid own layout l reopens) made kind end turns at vol vol' x y
  -- where it was served, the files stood for contents; and where a rule is named, it is the first that is broken
  pub judged : JudgedOn v (OpensTo kind reopens) breaks end vol vol'
  -- the wire, files that break a rule and the limits of files
  pub guards : GuardsOn v (OpensTo kind reopens) limit end vol vol' x y
  pub full : end ≡ Full → fills
  pub caused : CausedIn v.faults g.faults end vol vol' x y

-- and the update log beside them, and these gaps were met
pub record LogsFiles {V W : Type 0} (v : volume.Ghosts V) (g : wire.Ghosts W) (kind : Kind) (reopens : Files → Contents → Type 0) (own : ℕ → Type 0) (layout : Files → Layout) (made : Files → Type 0) (breaks : Files → ℕ → Rule → Type 0) (fills : List ℕ → Type 0) (end : End) (name : List ℕ) (limit : ℕ) (is : Settings) (at : At) (turns : ℕ) (gaps : List (ℕ × ℕ)) (vol vol' : V) (x y : W) (c d : Option (List ℕ)) : Type 0 where
  pub names : NamesTold v name vol vol'
  -- what came of the wire and of the clock, and what any stop leaves of a volume that was settled and whose files stood for contents and an update log
  pub told : RunsLoggedOn v g is reopens made kind end turns at vol vol' x y c d
  pub gaps_are : told.gaps ≡ gaps
  -- one is met only where the files stood for contents and an update log
  pub met : (gaps ≡ []) ⊎ CanStand v (opens_logged (OpensTo kind reopens)) vol
  -- whatever the files are laid out like, and whichever stand beside them, so it is with files that have their numbers and nothing more behind, beside those
  pub laid : (l : Frame) → RunsLoggedOn v g is (Laid own layout l reopens) made kind end turns at vol vol' x y c d
  -- where it was served, the files stood for contents; and where a rule is named, it is the first that is broken: of the database, and then of the update log
  pub judged : JudgedOn v (OpensTo kind reopens) (breaks_logged (OpensTo kind reopens) breaks) end vol vol'
  -- and for an update log, where the wire was come to
  pub stood : CameToWire end → CanStand v (opens_logged (OpensTo kind reopens)) vol
  -- the wire, files that break a rule and the limits of files
  pub guards : GuardsOn v (opens_logged (OpensTo kind reopens)) limit end vol vol' x y
  -- beside a file 2 that is no update log all files stay, also an empty main file, however it ends
  pub unlogged : SparesUnlogged v end vol vol'
  -- where the clock answered so
  pub full : end ≡ Full → fills told.ticks
  pub caused : CausedIn v.faults g.faults end vol vol' x y

-- a task is carried out on them
pub record TasksFiles {V O : Type 0} (v : volume.Ghosts V) (o : sink.Ghosts O) (kind : Kind) (reopens : Files → Contents → Type 0) (own : ℕ → Type 0) (layout : Files → Layout) (breaks : Files → ℕ → Rule → Type 0) (lines : Files → List ℕ → Type 0) (packed : Files → Form → Files → Type 0) (fills : Type 0) (end : End) (name : List ℕ) (task : Task) (vol vol' : V) (p q : O) : Type 0 where
  pub names : NamesOnce v name vol vol'
  -- what was printed, and what any stop leaves of a volume that was settled and whose files stood for contents
  pub told : ManagesOn v o reopens lines packed kind task end vol vol' p q
  -- so it is with files laid out like them, where the task packs none, beside the same in any case
  pub laid : (l : Frame) → ManagesOn v o (Laid own (said_by (packing task) layout) l reopens) lines packed kind task end vol vol' p q
  -- files that were packed have the numbers that they had, in the form that was asked for
  pub formed : FormsOn v layout (OpensTo kind reopens) task end vol vol'
  -- where it was carried out, the files stood for contents; where it was refused, for a reason; and where a rule is named, it is the first that is broken
  pub judged : JudgedTaskOn v (OpensTo kind reopens) breaks task end vol vol'
  -- what is printed to, files that break a rule and a main file that isn't as the task wants it
  pub guards : GuardsTaskOn v (OpensTo kind reopens) task end vol vol' p q
  pub full : end ≡ Full → fills
  pub caused : CausedIn v.faults o.faults end vol vol' p q

-- they are made anew
pub record RemakesFiles {V : Type 0} (v : volume.Ghosts V) (reopens : Files → Contents → Type 0) (own : ℕ → Type 0) (numbers : Files → Type 0) (anew : Contents) (breaks : Files → ℕ → Rule → Type 0) (lacks : Type 0) (end : End) (name : List ℕ) (vol vol' : V) : Type 0 where
  pub names : NamesOnce v name vol vol'
  -- what any stop leaves of a volume that was settled and whose files stood for contents
  pub made : MakesOn v reopens numbers anew end vol vol'
  -- where the main file is empty it is so, or has these numbers, at any moment and however it ends
  pub shaped : MakesOn v (InShape reopens numbers) numbers anew end vol vol'
  -- files beside them stay
  pub laid : (l : Frame) → MakesOn v (Laid own no_layout l reopens) numbers anew end vol vol'
  -- where it was made, or there was no room for it, the main file was empty and the files stood for contents; where it was refused, the main file wasn't empty; and where a rule is named, it is one of the log, or of files beside the main file
  pub judged : JudgedMakingOn v reopens breaks end vol vol'
  -- a main file that is there is looked at, and no more
  pub there : v.tells → LeavesAlone IsThere end (v.calls vol) (v.calls vol')
  pub full : end ≡ Full → lacks
  pub caused : CausedByVolume v.faults end vol vol'

-- ---- over a space of the volume

module _ {S V W O : Type 0} (v : volume.Ghosts V) (s : space.Ghosts S) (g : wire.Ghosts W) (o : sink.Ghosts O) (under : S → V) where
  -- a job, which met these gaps; all else is left alone
  abbrev pub JobBy : Kind → (Files → Contents → Type 0) → (ℕ → Type 0) → (Files → Layout) → (Files → Type 0) → (Files → ℕ → Rule → Type 0) → (Files → List ℕ → Type 0) → (Files → Form → Files → Type 0) → (S → Type 0) → (S → S → Contents → Contents → Type 0) → (S → S → Contents → Type 0) → Job → End → List ℕ → List (ℕ × ℕ) → V → V → W → W → O → O → Option (List ℕ) → Option (List ℕ) → Type 0
  JobBy kind reopens own layout made breaks lines packed lacks fills large (jobs.Serve limit at turns) end name gaps old new x y p q c d =
      (ServesFiles v g kind reopens own layout made breaks (FullOn v s g under lacks fills (OpensTo kind reopens) (min limit (2 ^ 40)) old new x y) end name (min limit (2 ^ 40)) at turns old new x y × (gaps ≡ [])) × (q ≡ p)
  JobBy kind reopens own layout made breaks lines packed lacks fills large (jobs.Log id master limit at turns) end name gaps old new x y p q c d =
      LogsFiles v g kind reopens own layout made breaks (λ ticks. FillsLogged v s g under kind reopens lacks fills (logging id master) (min limit (2 ^ 40)) old new x y ticks) end name (min limit (2 ^ 40)) (logging id master) at turns gaps old new x y c d × (q ≡ p)
  JobBy kind reopens own layout made breaks lines packed lacks fills large (jobs.Task task) end name gaps old new x y p q c d =
      TasksFiles v o kind reopens own layout breaks lines packed (FullTaskOn v s under lacks (FillsTaskIn s fills large) (OpensTo kind reopens) task old new) end name task old new p q × ((y ≡ x) × (gaps ≡ []))

  -- files made anew, and all else is left alone
  abbrev pub RemakesBy : (Files → Contents → Type 0) → (ℕ → Type 0) → (Files → Type 0) → Contents → (Files → ℕ → Rule → Type 0) → Type 0 → End → List ℕ → List (ℕ × ℕ) → V → V → W → W → O → O → Type 0
  RemakesBy reopens own numbers anew breaks lacks end name gaps old new x y p q = RemakesFiles v reopens own numbers anew breaks lacks end name old new × ((y ≡ x) × ((q ≡ p) × (gaps ≡ [])))

  -- a job, or that
  abbrev pub WorkBy : {N : Type 0} → Kind → (Files → Contents → Type 0) → (ℕ → Type 0) → (Files → Layout) → (Files → Type 0) → (Files → ℕ → Rule → Type 0) → (Files → List ℕ → Type 0) → (Files → Form → Files → Type 0) → (S → Type 0) → (S → S → Contents → Contents → Type 0) → (S → S → Contents → Type 0)
      → (N → Files → Type 0) → (N → Contents) → (Files → ℕ → Rule → Type 0) → (S → N → Type 0) → Work N → End → List ℕ → List (ℕ × ℕ) → V → V → W → W → O → O → Option (List ℕ) → Option (List ℕ) → Type 0
  WorkBy kind reopens own layout made breaks lines packed lacks fills large shaped anew breaks_new lacks_new (works.Do job) end name gaps old new x y p q c d =
      JobBy kind reopens own layout made breaks lines packed lacks fills large job end name gaps old new x y p q c d
  WorkBy kind reopens own layout made breaks lines packed lacks fills large shaped anew breaks_new lacks_new (works.Make n) end name gaps old new x y p q c d =
      RemakesBy reopens own (shaped n.now) (anew n.now) breaks_new (LacksOn v s under lacks_new n.now old new) end name gaps old new x y p q

  -- of a database that says these
  module _ {B N : Type 0} (b : Says B N S) where
    abbrev pub JobOf : Kind → Job → End → List ℕ → List (ℕ × ℕ) → V → V → W → W → O → O → Option (List ℕ) → Option (List ℕ) → Type 0
    JobOf kind job end name gaps old new x y p q c d =
        JobBy kind b.reopens b.own b.layout (b.shaped b.usual) (b.breaks kind) b.lines b.packed (λ z. b.lacks z b.usual) b.fills_since b.lacks_large job end name gaps old new x y p q c d

    abbrev pub WorkOf : Kind → Work N → End → List ℕ → List (ℕ × ℕ) → V → V → W → W → O → O → Option (List ℕ) → Option (List ℕ) → Type 0
    WorkOf kind work end name gaps old new x y p q c d =
        WorkBy kind b.reopens b.own b.layout (b.shaped b.usual) (b.breaks kind) b.lines b.packed (λ z. b.lacks z b.usual) b.fills_since b.lacks_large b.shaped b.anew b.breaks_new b.lacks work end name gaps old new x y p q c d

-- ---- with what the clock answered before and after, and a line of each gap told

module _ {S V W O E K B N : Type 0} (v : volume.Ghosts V) (s : space.Ghosts S) (g : wire.Ghosts W) (o : sink.Ghosts O) (e : sink.Ghosts E) (answers : K → Option (List ℕ)) (under : S → V) (b : Says B N S) where
  abbrev pub DoesOn : Kind → Job → List ℕ → V → Stopped V → W → W → O → O → K → K → E → E → Type 0
  DoesOn kind job name vol r x y p q k l i j = (gaps : List (ℕ × ℕ)) × JobOf v s g o under b kind job r.end name gaps vol r.vol x y p q (answers k) (answers l) × TellsGaps e gaps i j

  abbrev pub WorksOn : Kind → Work N → List ℕ → V → Stopped V → W → W → O → O → K → K → E → E → Type 0
  WorksOn kind work name vol r x y p q k l i j = (gaps : List (ℕ × ℕ)) × WorkOf v s g o under b kind work r.end name gaps vol r.vol x y p q (answers k) (answers l) × TellsGaps e gaps i j
