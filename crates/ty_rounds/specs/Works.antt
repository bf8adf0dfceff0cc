-- What a round leaves to be done behind it.
use Rattle.std.specs.Prelude.{◌≡◌, ◌⊎◌, ◌||◌, ℕ, Bool, true, false, List, [], ◌∷◌, ◌++◌, All, map, Option, Some, None}
use Rattle.tc_base.specs.LabelTexts.{text_of}
use Rattle.ty_pieces.specs.Made.{Made}
use Rattle.ty_ulog.specs.declared.record.Record.{Record}
use Rattle.ty_ulog.specs.Noting.{MayAppend}
use Rattle.ty_ulog.specs.Updates.{IsUpdating}
use Rattle.ty_world.specs.Logs.{is_replica}
use Rattle.ty_rounds.specs.Books.{settings_of}
use Rattle.ty_rounds.specs.declared.batch.Batch.{Batch}
use Rattle.ty_rounds.specs.declared.batch.Gap.{Gap}
use Rattle.ty_rounds.specs.declared.logging.Logged.{Logged}

-- whether there is anything to commit, the requests that updated, the record taken, the gap met, and the copies to be made
pub record Work : Type 0 where
  pub commits : Bool
  pub updates : List (List ℕ)
  pub labels : List (List ℕ)
  pub taken : List Record
  pub gap : List (ℕ × ℕ)

abbrev pub no_work : Work
no_work = record { commits = false; updates = []; labels = []; taken = []; gap = [] }

abbrev pub listed : {A : Type 0} → Option A → List A
listed None = []
listed (Some x) = x ∷ []

abbrev pub gaps_of : Option Gap → List (ℕ × ℕ)
gaps_of None = []
gaps_of (Some g) = (g.held, g.follows) ∷ []

abbrev pub work : Batch → Work
work b = record { commits = b.commits; updates = b.updates.items; labels = map text_of b.labels.items; taken = listed b.taken; gap = gaps_of b.gap }

-- a record that was taken may come next in the update log
abbrev pub MayTake : Option Logged → List Record → Type 0
MayTake None rs = rs ≡ []
MayTake (Some l) rs = All (MayAppend l.ulog) rs

-- whatever is told: nothing is to be noted where there is nothing to commit, what is to be noted may be, and where a record was taken no request updated
pub record IsFit (l : Option Logged) (o : Work) : Type 0 where
  pub idle : o.commits ≡ false → (o.updates ≡ []) × (o.taken ≡ [])
  pub noted : All IsUpdating o.updates
  pub may : MayTake l o.taken
  pub alone : (o.taken ≡ []) ⊎ (o.updates ≡ [])
  -- on a replica no request updates
  pub blocked : is_replica (settings_of l) ≡ true → o.updates ≡ []
  -- without a master no gap is met
  pub met : (settings_of l).master ≡ None → o.gap ≡ []

-- what a piece made came to it
pub record AddsMade (logs : Bool) (m : Made) (o p : Work) : Type 0 where
  pub commits_is : p.commits ≡ (o.commits || m.commits)
  pub updates_is : logs ≡ true → p.updates ≡ o.updates ++ m.updates
  pub labels_is : p.labels ≡ o.labels ++ m.labels

abbrev pub record_taken : Batch → Record → Batch
record_taken b r = record b { commits = true; taken = Some r }
