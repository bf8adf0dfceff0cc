-- What a hash file that is held open keeps, and what calls on its records do.
use Rattle.std.specs.Prelude.{◌≡◌, ◌⊎◌, ℕ, ◌+◌, ◌^◌, ◌<◌, ◌≤◌, false, List, length, max, take, Option, None}
use Rattle.std.proofs.Common.{ap, arith, refl, subst, sym}
use Rattle.std.specs.FinMap.{get}
use Rattle.tc_base.specs.Maps.{Map}
use Rattle.tc_base.specs.declared.kind.Mode.{Mode}
use Rattle.tc_base.specs.declared.kind.Mode.TheVariants.{Over}
use Rattle.tc_space.specs.Changes.{out_of, put_in, put_value}
use Rattle.tc_space.specs.Frames.{GivenUp, In, Reads, Refuses, Writes}
use Rattle.tc_space.specs.Stores.{CountsGet, IsReady, Only}
use Rattle.tc_space.specs.declared.space.Space.{Ghosts}
use Rattle.hf_head.specs.declared.head.Head.{Head}
use Rattle.hf_head.specs.Heads.{head_in}
use Rattle.hf_pool.specs.declared.pool.Pool.{Pool}
use Rattle.hf_pool.specs.Pools.{Takes, frees}
use Rattle.hf_record.specs.Allocating.{Allocates, HoldsAt, HoldsWritten, Stands}
use Rattle.hf_record.specs.Asking.{Asked}
use Rattle.hf_record.specs.Changing.{size_in}
use Rattle.hf_record.specs.Costs.{Edits, FewBeside}
use Rattle.hf_record.specs.Filling.{reach}
use Rattle.hf_record.specs.Holding.{HasMap}
use Rattle.hf_record.specs.Moves.{Gives, IsRefusedFor}
use Rattle.tc_hash.specs.declared.hash.Hash.{Hash}
use Rattle.tc_hash.specs.Holding.{HoldsFile, IsNumbered}
use Rattle.tc_hash.specs.Standing.{lead_in, numbers_in}

abbrev pub file_of : {S : Type 0} → Hash S → ℕ
file_of h = h.body.file

-- the type of its file
abbrev pub sort_of : {S : Type 0} → Hash S → ℕ
sort_of h = h.body.head.kind

-- the numbers that the head of its file fixes, its options first
abbrev pub numbers_of : {S : Type 0} → Hash S → List ℕ
numbers_of h = numbers_in h.body.head

abbrev pub region_of : {S : Type 0} → Hash S → List ℕ
region_of h = h.region

-- how many whole units lie free in front of the first block of its file
abbrev pub lead_of : {S : Type 0} → Hash S → ℕ
lead_of h = lead_in h.body.head

-- no more than did
pub record LeadsNoMore {S : Type 0} (old new : Hash S) : Type 0 where
  pub most : lead_of new ≤ lead_of old

pub at_most : (a b : ℕ) → b ≡ a → b ≤ a
at_most a b same = omega (arith, same)

pub leads_refl : {S : Type 0} (h : Hash S) → LeadsNoMore h h
leads_refl h = record { most = at_most (lead_of h) (lead_of h) refl }

-- how often a value was asked for
abbrev pub gets_of : {S : Type 0} → Hash S → ℕ
gets_of h = h.gets

-- the file, its type, the region and the count of gets stay
pub record SameMap {S : Type 0} (old new : Hash S) : Type 0 where
  pub file : file_of new ≡ file_of old
  pub sort_same : sort_of new ≡ sort_of old
  pub region_same : region_of new ≡ region_of old
  pub gets_same : gets_of new ≡ gets_of old

-- besides, so does the head as the file was opened or made with it
pub record StaysOpen {S : Type 0} (old new : Hash S) : Type 0 where
  pub map : SameMap old new
  pub head : new.body.head ≡ old.body.head

-- a get is counted, and the file, its type, the region, the head and the free blocks stay
pub record CountsOne {S : Type 0} (old new : Hash S) : Type 0 where
  pub map : CountsGet file_of sort_of numbers_of region_of lead_of gets_of old new
  pub body : new.body ≡ old.body

-- the numbers of its file and their form stay, and no more units lie free in front of its first block
pub record SameShape {S : Type 0} (old new : Hash S) : Type 0 where
  pub kind : new.body.head.kind ≡ old.body.head.kind
  pub apow : new.body.head.apow ≡ old.body.head.apow
  pub fpow : new.body.head.fpow ≡ old.body.head.fpow
  pub buckets : new.body.head.buckets ≡ old.body.head.buckets
  pub options : new.body.head.options ≡ old.body.head.options
  pub leads : LeadsNoMore old new

-- the head that stands in front of the file has the region that is held. So it is once the file was opened, made or settled, and as long as no other region is set
abbrev pub ShowsRegion : {S : Type 0} → Hash S → List ℕ → Type 0
ShowsRegion h bytes = (head_in (take 256 bytes)).opaque ≡ region_of h

-- with these bytes in its file it holds this map
abbrev pub holds : {S : Type 0} → Hash S → List ℕ → Map → Type 0
holds h bytes m = HoldsFile h bytes m

module _ {S : Type 0} (s : Ghosts S) where
  -- with the bytes that its file has now
  abbrev pub Means : Hash S → S → Map → Type 0
  Means h space m = In s file_of holds h space m

  -- it is one map
  abbrev pub HoldsOne : Type 0
  HoldsOne = (h : Hash S) (space : S) (m n : Map) → Means h space m → Means h space n → m ≡ n

  -- it may be called
  abbrev pub CanCall : Hash S → S → Type 0
  CanCall h space = IsReady s Means h space

  -- nothing is written, and the map stays
  abbrev pub Looks : Hash S → Hash S → S → S → Type 0
  Looks v v' old new = Reads s Means v v' old new

  -- the map is changed so, in its own file
  abbrev pub Turns : (Map → Map) → Hash S → Hash S → S → S → Type 0
  Turns f v v' old new = Writes s (Only (file_of v)) Means f v v' old new

  -- the space may not be used any more, or nothing has changed
  abbrev pub Refused : Hash S → Hash S → S → S → Type 0
  Refused v v' old new = Refuses s Means v v' old new

  -- the head that stands in front of a file stays
  abbrev pub KeepsHead : ℕ → S → S → Type 0
  KeepsHead file old new = s.tells → take 256 (s.now new file) ≡ take 256 (s.now old file)

  -- what asking for a key costs
  abbrev pub AsksFor : List ℕ → (Map → ℕ) → Hash S → ℕ → ℕ → S → S → Type 0
  AsksFor key more h steps steps' old new = (m : Map) → Means h old m → Asked h.body.head.buckets key m (more m) steps steps' (s.bytes_read old) (s.bytes_read new)

-- the bytes of the block of a key and a value
abbrev pub size_for : {S : Type 0} → Hash S → List ℕ → List ℕ → ℕ
size_for h key value = size_in h.body key value

-- in a file of these bytes, under its head, a map is held, and beside it no block of so many bytes is to be had: one may not have so many, or no free block that a
-- chain can name is large enough, and the place for it is too far or the file grows too long by it
pub record HasNoBlock (limit : ℕ) (bytes : List ℕ) (head : Head) (held : Map) (size : ℕ) : Type 0 where
  pub own : Pool
  pub has : HasMap head own.size (frees own) held bytes
  pub numbers : IsNumbered head bytes
  pub refused : IsRefusedFor head own.size (frees own) limit (length bytes) size

-- a key of a map wanted a block of so many bytes beside the map and the free blocks that are held: it has no record, or no block may have so many
pub record WantsAsHeld {S : Type 0} (h : Hash S) (key : List ℕ) (m : Map) (size : ℕ) (held : Map) (own : Pool) : Type 0 where
  pub why : (get m key ≡ None) ⊎ (2 ^ 30 < size)
  pub map : held ≡ m
  pub pool : own ≡ h.body.pool

-- it has one, in a block that is too small: it was taken out, and that block given back
pub record WantsLarger {S : Type 0} (h : Hash S) (key : List ℕ) (m : Map) (bytes : List ℕ) (size : ℕ) (held : Map) (own : Pool) : Type 0 where
  pub at : ℕ
  pub room : ℕ
  pub stood : HoldsAt h.body.head h.body.pool.size (frees h.body.pool) m key at room bytes
  pub few : room < size
  pub map : held ≡ out_of key m
  pub gives : Gives at room h.body.pool own

-- one or the other, in a file that had these bytes
abbrev pub WantsFrom : {S : Type 0} → Hash S → List ℕ → Map → List ℕ → ℕ → Map → Pool → Type 0
WantsFrom h key m bytes size held own = WantsAsHeld h key m size held own ⊎ WantsLarger h key m bytes size held own

-- a key of a map that is held wanted the block so, and in its file, as it was brought to where it is kept, there is none
pub record LacksIts {S : Type 0} (s : Ghosts S) (h : Hash S) (key : List ℕ) (m : Map) (old new : S) (size : ℕ) : Type 0 where
  pub brought : s.brought new
  pub held : Map
  pub none : HasNoBlock (s.limit new h.body.file) (s.now new h.body.file) h.body.head held size
  pub since : WantsFrom h key m (s.now old h.body.file) size held none.own

-- the block was that of the record of a key and a value, which a key of some map that is held was to have
pub record LacksRecordOf {S : Type 0} (s : Ghosts S) (h : Hash S) (old new : S) (key value : List ℕ) : Type 0 where
  pub held : Map
  pub means : Means s h old held
  pub wants : LacksIts s h key held old new (size_for h key value)

-- a key's record was taken out, whose block of so many bytes stood there. The file is as long as before
pub record TakesRecord {S : Type 0} (s : Ghosts S) (key : List ℕ) (at size : ℕ) (v v' : Hash S) (old new : S) : Type 0 where
  pub writes : Turns s (out_of key) v v' old new
  pub edits : Edits s v.body.file 21 old new
  pub gives : Gives at size v.body.pool v'.body.pool
  pub head : v'.body.head ≡ v.body.head
  pub front : KeepsHead s v.body.file old new
  pub long : s.tells → length (s.now new v.body.file) ≡ length (s.now old v.body.file)

-- so was that of a key of a map that is held, out of the block in which it stood
pub record TakesOwn {S : Type 0} (s : Ghosts S) (key : List ℕ) (m : Map) (v v' : Hash S) (old new : S) : Type 0 where
  pub at : ℕ
  pub size : ℕ
  pub stood : HoldsAt v.body.head v.body.pool.size (frees v.body.pool) m key at size (s.now old v.body.file)
  pub takes : TakesRecord s key at size v v' old new

-- the record of a key that was put into a map stands at a place, in a block of so many bytes, which comes from the pool by what the key's record had before,
-- and by which alone the file may be longer; besides that block at most so many bytes of the file differ
pub record IsPlaced {S : Type 0} (s : Ghosts S) (key : List ℕ) (size most : ℕ) (m n : Map) (v v' : Hash S) (old new : S) : Type 0 where
  pub was : Option (ℕ × ℕ)
  pub stood : Stands v.body.head v.body.pool.size (frees v.body.pool) m key (s.now old v.body.file) was
  pub place : ℕ
  pub allocates : Allocates (reach v.body.head) size place was v.body.pool v'.body.pool
  pub stands : HoldsWritten v.body.head v'.body.pool.size (frees v'.body.pool) n key place size (s.now new v.body.file)
  pub beside : FewBeside place size most (s.now old v.body.file) (s.now new v.body.file)
  pub long : length (s.now new v.body.file) ≡ max (length (s.now old v.body.file)) (place + size)

-- a key was given a value, alone or behind the one that it had: its record stands in the least block that holds it, and besides that at most so many bytes differ
pub record GivesValue {S : Type 0} (s : Ghosts S) (mode : Mode) (key value : List ℕ) (most : ℕ) (v v' : Hash S) (old new : S) : Type 0 where
  pub writes : Turns s (put_in mode key value) v v' old new
  pub front : KeepsHead s v.body.file old new
  pub edits : (m : Map) → Means s v old m → Edits s v.body.file (size_for v key (put_value mode (get m key) value) + most) old new
  pub placed : (m : Map) → Means s v old m → IsPlaced s key (size_for v key (put_value mode (get m key) value)) most m (put_in mode key value m) v v' old new

-- one that had none was given a value, and the block of its record was taken for it
pub record GivesNew {S : Type 0} (s : Ghosts S) (key value : List ℕ) (v v' : Hash S) (old new : S) : Type 0 where
  pub gives : GivesValue s Over key value 13 v v' old new
  pub place : ℕ
  pub takes : Takes (reach v.body.head) v.body.pool v'.body.pool (size_for v key value) place

-- the undo log is full, or the block for that record wasn't to be had; the space may not be used any more
pub record LacksBlock {S : Type 0} (s : Ghosts S) (mode : Mode) (key value : List ℕ) (v : Hash S) (old new : S) : Type 0 where
  pub spoiled : s.flag new ≡ false
  pub wants : (m : Map) → Means s v old m → s.log_full new ⊎ LacksIts s v key m old new (size_for v key (put_value mode (get m key) value))

-- what doesn't speak of the space
abbrev Lacked : {S : Type 0} → Hash S → List ℕ → Map → List ℕ → Map → ℕ → ℕ → List ℕ → Type 0
Lacked h key m before held size limit bytes = (x : HasNoBlock limit bytes h.body.head held size) × WantsFrom h key m before size held x.own

-- so it is in a space that was given up since
pub lacks_still : {S : Type 0} (s : Ghosts S) (h : Hash S) (old mid new : S) (key value : List ℕ) → GivenUp s mid new → LacksRecordOf s h old mid key value → LacksRecordOf s h old new key value
lacks_still s h old mid new key value given lacks =
    let file : ℕ = h.body.file in
    let size : ℕ = size_for h key value in
    let before : List ℕ = s.now old file in
    let was = lacks.wants in
    let same : s.now new file ≡ s.now mid file = given.files lacks.means.0 file in
    let limit : s.limit new file ≡ s.limit mid file = ap (λ (l : ℕ → ℕ). l file) given.keeps.same_limit in
    let moved : Lacked h key lacks.held before was.held size (s.limit new file) (s.now new file) =
    subst (λ (n : ℕ). Lacked h key lacks.held before was.held size n (s.now new file)) (sym limit)
    (subst (λ (bytes : List ℕ). Lacked h key lacks.held before was.held size (s.limit mid file) bytes) (sym same) (was.none, was.since)) in
    record { held = lacks.held; means = lacks.means; wants = record { brought = given.brought was.brought; held = was.held; none = moved.0; since = moved.1 } }
