-- What serving a text command does, step by step.
use Rattle.std.specs.Prelude.{◌≡◌, ◌≤◌, ◌<◌, ◌+◌, ℕ, Bool, true, false, List, ◌++◌, length, take, drop, flat_map, codes, Option, Some, None, option_and_then, if◌then◌else◌}
use Rattle.tc_base.specs.Files.{Files}
use Rattle.tc_base.specs.declared.request.Request.{Request}
use Rattle.ty_memc.specs.declared.text.Text.{Text}
use Rattle.ty_memc.specs.declared.text.Text.TheVariants as text
use Rattle.ty_memc.specs.Answers.{asked, server_error, value_lines, values}
use Rattle.tc_space.specs.declared.space.Space.{Ghosts}
use Rattle.tc_model.specs.Contents.{Contents, Walk}
use Rattle.tc_model.specs.Apply.{apply}
use Rattle.ty_pieces.specs.Pieces.{asks_step, bounded, got}
use Rattle.ty_base.specs.Holding.{Held}
use Rattle.ty_core.specs.declared.serving.Served.{Served}
use Rattle.ty_core.specs.Serving.{Notes, Serves}

-- behind the five bytes in front of a value
abbrev pub value_if : Bool → List ℕ → Option (List ℕ)
value_if is bytes = if is then Some (drop 5 bytes) else None

-- these bytes hold the value that a key has in what is held, where it has one. It has nothing to do with the walk
pub record Fetches {S B : Type 0} (s : Ghosts S) (holds : B → Files → Contents → Type 0) (base : B) (old : S) (key : List ℕ) (is : Bool) (bytes : List ℕ) : Type 0 where
  pub long : (c : Contents) → Held s holds base old c → is ≡ true → 5 ≤ length bytes
  pub value : (replica : Bool) (w : Walk) (c : Contents) → Held s holds base old c → value_if is bytes ≡ got replica c w key

-- the same of the key that a text command asks for first
pub record FetchesFirst {S B : Type 0} (s : Ghosts S) (holds : B → Files → Contents → Type 0) (base : B) (old : S) (t : Text) (is : Bool) (bytes : List ℕ) : Type 0 where
  pub long : (c : Contents) → Held s holds base old c → is ≡ true → 5 ≤ length bytes
  pub value : (replica : Bool) (w : Walk) (c : Contents) → Held s holds base old c → value_if is bytes ≡ option_and_then (got replica c w) (asked t)

abbrev pub IsPlain : Text → Type 0
IsPlain (text.Get keys) = ⊥
IsPlain _ = Unit {0}

-- ---- the request of a text command

pub record ServesThen {S B : Type 0} (s : Ghosts S) (holds : B → Files → Contents → Type 0) (replica logs : Bool) (r : Request) (quiet : Bool) (reply : List ℕ) (d : Served) (base base' : B) (old new : S) (w w' : Walk) (waiting waiting' : List ℕ) : Type 0 where
  pub feeds : d.feeds ≡ None
  pub notes : Notes replica logs d
  pub few : length waiting' ≤ length waiting + 67108864
  pub serves : (c : Contents) → Held s holds base old c → (e : Contents) × Held s holds base' new e × Serves logs (asks_step quiet r reply (apply replica r c w)) d e w' waiting waiting'

pub record FillsThen {S B : Type 0} (s : Ghosts S) (holds : B → Files → Contents → Type 0) (fills : Contents → Contents → Type 0) (replica : Bool) (r : Request) (base : B) (old : S) (w : Walk) : Type 0 where
  pub by : (c : Contents) → Held s holds base old c → fills c (apply replica r c w).contents

-- ---- a get

-- the lines of keys, each as it is looked up
abbrev pub lines : (List ℕ → Option (List ℕ)) → List (List ℕ) → List ℕ
lines look keys = flat_map (λ key. value_lines key (look key)) keys

-- the lines of one key came
abbrev pub AddsLines : {S B : Type 0} → Ghosts S → (B → Files → Contents → Type 0) → B → S → List ℕ → List ℕ → List ℕ → Type 0
AddsLines s holds base old key waiting waiting' = (replica : Bool) (w : Walk) (c : Contents) → Held s holds base old c → waiting' ≡ waiting ++ value_lines key (got replica c w key)

-- the lines of all these keys came, or of so many that the reply is too long
pub record Gathers (look : List ℕ → Option (List ℕ)) (keys : List (List ℕ)) (fits : Bool) (waiting waiting' : List ℕ) : Type 0 where
  pub all : fits ≡ true → waiting' ≡ waiting ++ lines look keys
  pub long : fits ≡ false → 67108864 < length (values look keys)

abbrev pub GathersAll : {S B : Type 0} → Ghosts S → (B → Files → Contents → Type 0) → B → S → List (List ℕ) → Bool → List ℕ → List ℕ → Type 0
GathersAll s holds base old keys fits waiting waiting' = (replica : Bool) (w : Walk) (c : Contents) → Held s holds base old c → Gathers (got replica c w) keys fits waiting waiting'

-- the line that ends the lines of values, or an error in place of what stands behind the first bytes
abbrev pub ended : Bool → ℕ → List ℕ → List ℕ
ended fits before waiting = if fits then waiting ++ codes "END\r\n" else take before waiting ++ server_error false

-- the reply came
abbrev pub AddsValues : {S B : Type 0} → Ghosts S → (B → Files → Contents → Type 0) → B → S → List (List ℕ) → List ℕ → List ℕ → Type 0
AddsValues s holds base old keys waiting waiting' = (replica : Bool) (w : Walk) (c : Contents) → Held s holds base old c → waiting' ≡ waiting ++ bounded (values (got replica c w) keys)
