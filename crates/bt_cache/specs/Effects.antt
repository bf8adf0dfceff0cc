-- What a call on the cache counts, leaves and answers.
use Rattle.std.specs.Prelude.{◌≡◌, ◌≤◌, ◌⊎◌, ℕ, ◌+◌, ◌-◌, ◌^◌, min, Bool, List, Result, OnErr, IsErrOf, if◌then◌else◌}
use Rattle.std.proofs.Common.{◌∙◌, arith, refl}
use Rattle.tc_base.specs.Maps.{Map}
use Rattle.tc_base.specs.declared.kind.Mode.TheVariants.{Over}
use Rattle.tc_space.specs.Changes.{out_of, put_in}
use Rattle.tc_space.specs.Frames.{Keeps, Reads, Refuses, Writes}
use Rattle.tc_space.specs.Stores.{FullPutIn, KeepsTight, Only, StaysMap}
use Rattle.tc_space.specs.declared.records.Records.{Ghosts as Stores}
use Rattle.tc_space.specs.declared.space.Space.{Ghosts}
use Rattle.bt_page.specs.Keys.{key_of}
use Rattle.bt_rows.specs.declared.page.Page.{Page}
use Rattle.bt_cache.specs.Held.{Beside, HasPage, Holds, ids}
use Rattle.bt_cache.specs.Ids.{has}
use Rattle.bt_cache.specs.declared.cache.Cache.{Cache}
use Rattle.tc_space.specs.declared.errors.PutErr.{PutErr}
use Rattle.tc_space.specs.declared.errors.PutErr.TheVariants as put
use Rattle.tc_space.specs.declared.errors.RecErr.{RecErr}
use Rattle.tc_space.specs.declared.errors.RecErr.TheVariants as rec

-- ---- of the store

-- it is of the same file, type, numbers and region, and no more lies free in front of the first block than did
pub record SameStore {S V : Type 0} (R : Stores V S) (old new : V) : Type 0 where
  pub file : R.file_of new ≡ R.file_of old
  pub sort : R.sort new ≡ R.sort old
  pub numbers : R.numbers new ≡ R.numbers old
  pub region : R.region new ≡ R.region old
  pub lead : R.lead new ≤ R.lead old

module _ {S V : Type 0} (R : Stores V S) where
  pub same_store_refl : (v : V) → SameStore R v v
  same_store_refl v = record { file = refl; sort = refl; numbers = refl; region = refl; lead = omega arith }

  pub same_store_then : (u v w : V) → SameStore R u v → SameStore R v w → SameStore R u w
  same_store_then u v w first second = record { file = second.file ∙ first.file; sort = second.sort ∙ first.sort; numbers = second.numbers ∙ first.numbers; region = second.region ∙ first.region; lead = omega (arith, first.lead, second.lead) }

  pub same_store_map : (v w : V) → StaysMap R.file_of R.sort R.numbers R.region R.lead R.gets v w → SameStore R v w
  same_store_map v w stays = record { file = stays.file; sort = stays.sort_same; numbers = stays.numbers_same; region = stays.region_same; lead = stays.leads }

-- one more
abbrev pub IsAsked : {S V : Type 0} → Stores V S → V → V → Type 0
IsAsked R old new = R.gets new ≡ min (R.gets old + 1) (2 ^ 64 - 1)

-- it is asked for one key, or for none
pub record AsksOnce {S V : Type 0} (R : Stores V S) (old new : V) : Type 0 where
  pub made : SameStore R old new
  pub tight : KeepsTight R.tight old new
  pub asked : (R.gets new ≡ R.gets old) ⊎ IsAsked R old new

-- ---- what is counted

-- one more, but for a page that is held
abbrev pub unless : Bool → ℕ → ℕ
unless held n = if held then n else min (n + 1) (2 ^ 64 - 1)

-- one more is counted, but where the page of an id is held
abbrev pub CountsOne : {V : Type 0} → ℕ → Cache V → ℕ → ℕ → Type 0
CountsOne id c n n' = n' ≡ unless (has id (ids c.pages)) n

-- for a page that is held nothing is read; for another a step is counted, and the store is asked once at most
pub record CountsPage {S V : Type 0} (R : Stores V S) (id : ℕ) (c : Cache V) (old new : V) (steps steps' : ℕ) : Type 0 where
  pub counted : CountsOne id c steps steps'
  pub asked : (R.gets new ≡ R.gets old) ⊎ CountsOne id c (R.gets old) (R.gets new)

-- ---- what is left

-- nothing is written: what is held and the room stay
pub record Looks {S V : Type 0} (s : Ghosts S) (R : Stores V S) (c c' : Cache V) (v v' : V) (old new : S) : Type 0 where
  pub reads : Reads s (Beside s R) (c.pages, v) (c'.pages, v') old new
  pub keeps : Keeps s old new
  pub room : c'.pages.cap ≡ c.pages.cap
  pub made : SameStore R v v'
  pub tight : KeepsTight R.tight v v'

-- whatever a call that writes answers: what is kept stays, the store's file, type, numbers, region and count of gets, and the room
pub record Stays {S V : Type 0} (s : Ghosts S) (R : Stores V S) (c c' : Cache V) (v v' : V) (old new : S) : Type 0 where
  pub keeps : Keeps s old new
  pub store : StaysMap R.file_of R.sort R.numbers R.region R.lead R.gets v v'
  pub room : c'.pages.cap ≡ c.pages.cap

module _ {S V : Type 0} (s : Ghosts S) (R : Stores V S) where
  -- the store's map became another, and the pages are those of that one
  abbrev pub WritesBeside : (Map → Map) → Cache V → Cache V → V → V → S → S → Type 0
  WritesBeside f c c' v v' old new = Writes s (Only (R.file_of v)) (Beside s R) f (c.pages, v) (c'.pages, v') old new

  -- the page of an id has these bytes
  abbrev pub PutsPage : ℕ → List ℕ → Cache V → Cache V → V → V → S → S → Type 0
  PutsPage id bytes c c' v v' old new = WritesBeside (put_in Over (key_of id) bytes) c c' v v' old new

  -- the page of an id is gone
  abbrev pub DropsPage : ℕ → Cache V → Cache V → V → V → S → S → Type 0
  DropsPage id c c' v v' old new = WritesBeside (out_of (key_of id)) c c' v v' old new

  abbrev pub RefusesBeside : {T E : Type 0} → Result T E → Cache V → Cache V → V → V → S → S → Type 0
  RefusesBeside result c c' v v' old new = OnErr result (Refuses s (Beside s R) (c.pages, v) (c'.pages, v') old new)

  -- the store had no room for the page of an id with these bytes
  abbrev pub LacksKey : ℕ → List ℕ → V → S → S → Type 0
  LacksKey id bytes v old new = FullPutIn s R.file_of R.holds R.lacks Over (key_of id) bytes v old new

  -- what was read of a store is its page of an id, whichever map the store holds
  abbrev pub ReadsOne : ℕ → V → S → Page → Type 0
  ReadsOne id v space p = (m n : Map) (q : Page) → Holds s R v space m → Holds s R v space n → HasPage m id q → (p ≡ q) × HasPage n id q

-- where it says that a limit is reached, this is why
abbrev pub OnFull : {T : Type 0} → Result T RecErr → Type 0 → Type 0
OnFull result Why = IsErrOf result rec.Full → Why

-- the cause of a put that keeps nothing
abbrev pub rec_of : PutErr → RecErr
rec_of put.Exists = rec.Memory
rec_of put.Full = rec.Full
rec_of put.Fault = rec.Fault
rec_of put.Memory = rec.Memory
