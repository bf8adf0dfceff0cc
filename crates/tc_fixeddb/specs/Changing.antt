-- What calls make of ids.
use Rattle.std.specs.Prelude.{◌≡◌, ℕ, Bool, true, false, List, [], ◌++◌, take, fold, filter, nat_eq, Option, Some, None, Result, IfOk, OnErr, IsErrOf, is_some, unwrap_or, if◌then◌else◌}
use Rattle.std.specs.Fmt.{decimal}
use Rattle.std.specs.FinMap.{get, insert, keys, remove}
use Rattle.std.specs.List.{starts_with}
use Rattle.tc_base.specs.declared.kind.Mode.{Mode}
use Rattle.tc_base.specs.declared.kind.Mode.TheVariants.{Over, Keep, Cat}
use Rattle.tc_base.specs.declared.seq.Pair.{Pair}
use Rattle.tc_space.specs.Frames.{Others, Reads, Refuses, Writes}
use Rattle.tc_space.specs.Stores.{IsReady, Only}
use Rattle.tc_space.specs.declared.errors.RecErr.{RecErr}
use Rattle.tc_space.specs.declared.errors.RecErr.TheVariants.{Full}
use Rattle.tc_space.specs.declared.space.Space.{Ghosts}
use Rattle.tc_model.specs.Arrays.{Array, greatest, id_of, least, with_cell}
use Rattle.tc_fixed.specs.declared.fixed.Fixed.{Fixed}
use Rattle.tc_fixed.specs.Cells.{end_of}
use Rattle.tc_fixed.specs.Holding.{HasNoRoom, Means, SameShape, holds, max_id_of, width_of}
use Rattle.tc_fixed.specs.Listing.{first_of}
use Rattle.tc_fixeddb.specs.Naming.{all_named}

-- what is to be made of the ids: the ids after, or none where it fails
abbrev pub Step : Type 0
Step = Array → Option Array

-- a value for an id
abbrev pub stored_at : Mode → ℕ → ℕ → List ℕ → Step
stored_at Over width id value m = with_cell width m id value
stored_at Keep width id value m = if is_some (get m id) then None else with_cell width m id value
stored_at Cat width id value m = with_cell width m id (unwrap_or (get m id) [] ++ value)

-- a value for the id that a key names; nothing where it names none
abbrev pub set_at : ℕ → Array → Option ℕ → List ℕ → Array
set_at width m None value = m
set_at width m (Some id) value = insert m id (take width value)

abbrev pub set_named : ℕ → ℕ → Array → Pair → Array
set_named width most m p = set_at width m (id_of most m p.key) p.value

abbrev pub all_set : ℕ → ℕ → List Pair → Array → Array
all_set width most pairs m = fold (set_named width most) m pairs

-- the id that a key names is taken out, if it is held
abbrev pub out_at : Array → Option ℕ → Array
out_at m None = m
out_at m (Some id) = if is_some (get m id) then remove m id else m

abbrev pub out_named : ℕ → Array → List ℕ → Array
out_named most m key = out_at m (id_of most m key)

abbrev pub all_out : ℕ → List (List ℕ) → Array → Array
all_out most keys m = fold (out_named most) m keys

-- the same in the shape of an array
module _ {S : Type 0} (f : Fixed S) where
  abbrev pub stored_for : Mode → ℕ → List ℕ → Step
  stored_for mode id value = stored_at mode (width_of f) id value

  abbrev pub with_named : List ℕ → List ℕ → Array → Array
  with_named key value m = set_at (width_of f) m (id_of (max_id_of f) m key) value

  abbrev pub with_all : List Pair → Array → Array
  with_all pairs m = all_set (width_of f) (max_id_of f) pairs m

  abbrev pub without_named : List ℕ → Array → Array
  without_named key m = out_at m (id_of (max_id_of f) m key)

  abbrev pub without_those : List (List ℕ) → Array → Array
  without_those keys m = all_out (max_id_of f) keys m

-- the ids whose texts begin with that of a number
abbrev pub ids_begun : ℕ → Array → List ℕ
ids_begun n m = filter (λ id. starts_with nat_eq (decimal id) (decimal n)) (keys m)

-- whether each pair can be stored when its turn comes, whatever the file is
pub record AllNamed {S : Type 0} (f : Fixed S) (pairs : List Pair) (b : Bool) : Type 0 where
  pub by : (bytes : List ℕ) (m : Array) → holds f bytes m → b ≡ all_named (max_id_of f) (least m) (greatest m) pairs

module _ {S : Type 0} (s : Ghosts S) where
  -- the step was made in file 0; or it fails, and nothing has changed
  pub record Takes (f : Step) (done : Bool) (v v' : Fixed S) (old new : S) : Type 0 where
    pub sound : s.sound new
    pub others : Others s (Only 0) old new
    pub shape : SameShape v v'
    pub made : done ≡ true → (m : Array) → Means s v old m → (n : Array) × (f m ≡ Some n) × Means s v' new n
    pub fails : done ≡ false → (m : Array) → Means s v old m → f m ≡ None
    pub same : done ≡ false → Reads s (Means s) v v' old new

  -- there is no room for what was to be made, as the space stands
  pub record LacksRoomFor (f : Step) (v : Fixed S) (old new : S) : Type 0 where
    pub by : (m : Array) → Means s v old m → (n : Array) × (f m ≡ Some n) × HasNoRoom (s.limit new 0) (s.log_full new) (end_of (width_of v) (greatest n))

  -- ---- calls on the array

  abbrev pub ReadyIds : Fixed S → S → Type 0
  ReadyIds v space = IsReady s (Means s) v space

  abbrev pub ReadsIds : Fixed S → Fixed S → S → S → Type 0
  ReadsIds v v' old new = Reads s (Means s) v v' old new

  abbrev pub WritesIds : (Array → Array) → Fixed S → Fixed S → S → S → Type 0
  WritesIds f v v' old new = Writes s (Only 0) (Means s) f v v' old new

  -- of whatever ids are held
  abbrev pub OfIds : Fixed S → S → (Array → Type 0) → Type 0
  OfIds v space P = (m : Array) → Means s v space m → P m

  -- these are listed behind those that were, at most so many in all
  abbrev pub ListsOn : Option ℕ → (Array → List ℕ) → Fixed S → S → List ℕ → List ℕ → Type 0
  ListsOn most f v space old new = OfIds v space (λ m. (before : List ℕ) → old ≡ first_of most before → new ≡ first_of most (before ++ f m))

  -- the file would pass its limit with these ids, or the undo log is full
  abbrev pub LacksWith : ℕ → S → Type 0
  LacksWith id new = HasNoRoom (s.limit new 0) (s.log_full new) id

  -- the space is spoiled, and the one limit that is reached is the undo log's
  abbrev pub SpoiledByLog : S → Type 0
  SpoiledByLog new = (s.flag new ≡ false) × (s.tells → s.log_full new)

  module _ {A : Type 0} (result : Result A RecErr) where
    abbrev pub RefusesIds : Fixed S → Fixed S → S → S → Type 0
    RefusesIds v v' old new = OnErr result (Refuses s (Means s) v v' old new)

    abbrev pub LacksFor : Step → Fixed S → S → S → Type 0
    LacksFor f v old new = IsErrOf result Full → LacksRoomFor f v old new

    abbrev pub LacksAfter : (Array → Array) → Fixed S → S → S → Type 0
    LacksAfter f v old new = IsErrOf result Full → OfIds v old (λ m. LacksWith (end_of (width_of v) (greatest (f m))) new)

  abbrev pub TakesBy : Result Bool RecErr → Step → Fixed S → Fixed S → S → S → Type 0
  TakesBy result f v v' old new = IfOk result (λ done. Takes f done v v' old new)
