-- What a hash file that is held open holds.
use Rattle.std.specs.Prelude.{◌≡◌, ℕ, List, take}
use Rattle.std.specs.FinMap.{len}
use Rattle.tc_base.specs.Maps.{Map}
use Rattle.hf_head.specs.declared.head.Head.{Head}
use Rattle.hf_head.specs.Heads.{head_in}
use Rattle.hf_layout.specs.Frees.{Frees}
use Rattle.hf_pool.specs.Pools.{frees as frees_in}
use Rattle.hf_record.specs.Holding.{HasMap}
use Rattle.tc_hash.specs.declared.hash.Hash.{Hash}
use Rattle.tc_hash.specs.Fronts.{ShowsFrees, ShowsFront}

-- a map is held, and so many keys
pub record Holds (h : Head) (end : ℕ) (frees : Frees) (records : ℕ) (m : Map) (bytes : List ℕ) : Type 0 where
  pub has : HasMap h end frees m bytes
  pub count : records ≡ len m

-- with the numbers and free blocks that are held in memory
abbrev pub HoldsMap : {S : Type 0} → Hash S → List ℕ → Map → Type 0
HoldsMap h bytes m = Holds h.body.head h.body.pool.size (frees_in h.body.pool) h.records m bytes

-- a head has the numbers of another that stay as long as the file isn't made anew
pub record SameNumbers (h g : Head) : Type 0 where
  pub kind : g.kind ≡ h.kind
  pub apow : g.apow ≡ h.apow
  pub fpow : g.fpow ≡ h.fpow
  pub buckets : g.buckets ≡ h.buckets
  pub options : g.options ≡ h.options
  pub first : g.first ≡ h.first

-- the one that stands in front does
abbrev pub IsNumbered : Head → List ℕ → Type 0
IsNumbered h bytes = SameNumbers h (head_in (take 256 bytes))

-- and what is known of the front of the file is so. The head in front of it has the numbers that are held, also where its counts and its region wait in memory
pub record HoldsFile {S : Type 0} (h : Hash S) (bytes : List ℕ) (m : Map) : Type 0 where
  pub map : HoldsMap h bytes m
  pub front : ShowsFront h.body.head h.front bytes
  pub listed : ShowsFrees h.body.head h.body.pool bytes
  pub numbers : IsNumbered h.body.head bytes
