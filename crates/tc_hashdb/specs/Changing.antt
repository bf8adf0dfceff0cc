-- What calls make of a map.
use Rattle.std.specs.Prelude.{◌≡◌, ℕ, ◌+◌, ◌≤◌, Bool, true, false, List, [], ◌++◌, length, fold, nat_le, Option, Some, None, is_some, unwrap_or, if◌then◌else◌}
use Rattle.std.specs.FinMap.{empty, get, insert}
use Rattle.tc_base.specs.Maps.{Map}
use Rattle.tc_base.specs.declared.kind.Mode.{Mode}
use Rattle.tc_base.specs.declared.kind.Mode.TheVariants.{Over, Keep, Cat}
use Rattle.tc_base.specs.declared.seq.Pair.{Pair}
use Rattle.tc_space.specs.Frames.{Others, Reads}
use Rattle.tc_space.specs.Stores.{Only}
use Rattle.tc_space.specs.declared.space.Space.{Ghosts}
use Rattle.tc_hash.specs.Keeping.{StaysOpen}
use Rattle.std.proofs.Common.{◌∙◌, ap, arith, refl}
use Rattle.tc_model.specs.Maps.{with_value, without}
use Rattle.tc_hashdb.specs.declared.holding.HashEngine.{HashEngine}
use Rattle.tc_hashdb.specs.Filling.{FillsMap}
use Rattle.tc_hashdb.specs.Holding.{Means}
use Rattle.tc_hashdb.specs.Layouts.{lead_of, numbers_with}

-- the map after, or none where it fails
abbrev pub Step : Type 0
Step = Map → Option Map

-- the map after, or as it was where it fails
abbrev pub after : Step → Map → Map
after f m = unwrap_or (f m) m

-- a value for a key
abbrev pub stored_in : Mode → List ℕ → List ℕ → Step
stored_in Over key value m = with_value m key value
stored_in Keep key value m = if is_some (get m key) then None else with_value m key value
stored_in Cat key value m = with_value m key (unwrap_or (get m key) [] ++ value)

-- the length of the value that a put gives, where that of the old one and that of the new bytes are these
abbrev pub len_after : Mode → Option ℕ → ℕ → ℕ
len_after Over old more = more
len_after Keep old more = more
len_after Cat old more = unwrap_or old 0 + more

-- ---- many keys, whatever the length of their values

-- a value that may be stored
abbrev pub is_short : Pair → Bool
is_short p = nat_le (length p.value) 16777216

abbrev pub set_one : Map → List ℕ → List ℕ → Map
set_one m key value = insert m key value

abbrev pub set_entries : Map → List (List ℕ × List ℕ) → Map
set_entries m es = fold (λ n e. set_one n e.0 e.1) m es

abbrev pub all_set : List Pair → Map → Map
all_set pairs m = fold (λ n p. set_one n p.key p.value) m pairs

-- the last value that pairs give each of their keys
abbrev pub last_values : List Pair → Map
last_values pairs = all_set pairs empty

-- a key is taken out, if it is held
abbrev pub out_one : Map → List ℕ → Map
out_one m key = unwrap_or (without m key) m

abbrev pub all_out : List (List ℕ) → Map → Map
all_out keys m = fold out_one m keys

-- ---- calls

-- the numbers that are held of the file stay, and so does the region. No more lies free in front of the first block than did
pub record KeepsHead {S : Type 0} (v v' : HashEngine S) : Type 0 where
  pub same : numbers_with v'.hash.body.head v'.hash.region ≡ numbers_with v.hash.body.head v.hash.region
  pub lead : lead_of v'.hash.body.head ≤ lead_of v.hash.body.head

pub no_more : (old new : ℕ) → new ≡ old → new ≤ old
no_more old new same = omega (arith, same)

less_then : (a b c : ℕ) → b ≤ a → c ≤ b → c ≤ a
less_then a b c first second = omega (arith, first, second)

pub head_refl : {S : Type 0} (v : HashEngine S) → KeepsHead v v
head_refl v = record { same = refl; lead = no_more (lead_of v.hash.body.head) (lead_of v.hash.body.head) refl }

pub head_then : {S : Type 0} (a b c : HashEngine S) → KeepsHead a b → KeepsHead b c → KeepsHead a c
head_then a b c first second = record { same = second.same ∙ first.same; lead = less_then (lead_of a.hash.body.head) (lead_of b.hash.body.head) (lead_of c.hash.body.head) first.lead second.lead }

pub head_open : {S : Type 0} (v w : HashEngine S) → StaysOpen v.hash w.hash → KeepsHead v w
head_open v w stays = record { same = λ i. numbers_with (stays.head i) (stays.map.region_same i); lead = no_more (lead_of v.hash.body.head) (lead_of w.hash.body.head) (ap lead_of stays.head) }

module _ {S : Type 0} (s : Ghosts S) where
  -- the step was made in file 0, whose numbers and region stay; or it fails, and nothing has changed
  pub record Takes (f : Step) (done : Bool) (v v' : HashEngine S) (old new : S) : Type 0 where
    pub sound : s.sound new
    pub others : Others s (Only 0) old new
    pub numbers : KeepsHead v v'
    pub made : done ≡ true → (m : Map) → Means s v old m → (n : Map) × (f m ≡ Some n) × Means s v' new n
    pub fails : done ≡ false → (m : Map) → Means s v old m → f m ≡ None
    pub same : done ≡ false → Reads s (Means s) v v' old new

  -- a limit is reached, as the space stands, on the way to what was to be made
  pub record LacksRoomFor (f : Step) (v : HashEngine S) (old new : S) : Type 0 where
    pub by : (m : Map) → Means s v old m → FillsMap s new m (after f m)
