-- A file made anew.
use Rattle.std.specs.Prelude.{◌≡◌, ◌≢◌, ◌⊎◌, ℕ, ◌+◌, ◌-◌, ◌%◌, ◌^◌, ◌<◌, ◌≤◌, Bool, List, [], ◌++◌, replicate, take, None}
use Rattle.std.specs.FinMap.{empty}
use Rattle.tc_space.specs.Frames.{Others}
use Rattle.tc_space.specs.Ranges.{IsDataFile}
use Rattle.tc_space.specs.Stores.{Only}
use Rattle.tc_space.specs.declared.space.Space.{Ghosts}
use Rattle.hf_head.specs.declared.head.Head.{Head}
use Rattle.hf_head.specs.Heads.{head_in, is_large, sections, spelled, unit}
use Rattle.tc_hash.specs.declared.hash.Hash.{Hash}
use Rattle.hf_pool.specs.Pools.{frees}
use Rattle.tc_hash.specs.Keeping.{ShowsRegion, holds}
use Rattle.tc_hash.specs.Settling.{IsBrought}

-- numbers that a new file may have
pub record MayBe (kind apow fpow buckets : ℕ) : Type 0 where
  pub kind_most : kind ≤ 3
  pub kind_known : kind ≢ 2
  pub apow_least : 4 ≤ apow
  pub apow_most : apow ≤ 16
  pub fpow_most : fpow ≤ 20
  pub some_buckets : 1 ≤ buckets
  pub few_buckets : buckets ≤ 2 ^ 38

-- the head of a file without blocks: the first would stand at the least multiple of the unit behind the sections
pub record IsNew (kind apow fpow buckets : ℕ) (large : Bool) (h : Head) : Type 0 where
  pub kind_is : h.kind ≡ kind
  pub apow_is : h.apow ≡ apow
  pub fpow_is : h.fpow ≡ fpow
  pub buckets_is : h.buckets ≡ buckets
  pub options_most : h.options ≤ 1
  pub form : is_large h ≡ large
  pub records : h.records ≡ 0
  pub behind : sections h ≤ h.first
  pub least : h.first < sections h + unit h
  pub aligned : h.first % unit h ≡ 0
  pub size : h.size ≡ h.first
  pub opaque : h.opaque ≡ replicate 128 0

-- the space may be used, and this is a data file without bytes
pub record IsEmptyIn {S : Type 0} (s : Ghosts S) (space : S) (file : ℕ) : Type 0 where
  pub sound : s.sound space
  pub data_file : IsDataFile file
  pub none : s.tells → s.now space file ≡ []

-- a head with the region of an owner
abbrev pub with_region : Head → List ℕ → Head
with_region h region = record h { opaque = region }

-- the bytes of a file without blocks: the head, and zeros behind it
abbrev pub new_bytes : Head → List ℕ
new_bytes h = spelled h ++ replicate (h.first - 256) 0

-- a file was made anew: it holds no key and has the head that is held, and other files stay
pub record Creates {S : Type 0} (s : Ghosts S) (file : ℕ) (h : Hash S) (old new : S) : Type 0 where
  pub sound : s.sound new
  pub others : Others s (Only file) old new
  pub brought : s.tells → IsBrought h empty (s.now new file)
  pub held : s.tells → holds h (s.now new file) empty
  pub head : s.tells → head_in (take 256 (s.now new file)) ≡ h.body.head
  pub made : s.tells → s.now new file ≡ new_bytes h.body.head

-- a file was made anew with the numbers and in the form that it had, without records: its bytes are its head, with the region that is held, and zeros behind it;
-- its blocks would begin where they end, and none is free
pub record Clears {S : Type 0} (s : Ghosts S) (v v' : Hash S) (new : S) : Type 0 where
  pub is_new : IsNew v.body.head.kind v.body.head.apow v.body.head.fpow v.body.head.buckets (is_large v.body.head) v'.body.head
  pub made : s.tells → s.now new v.body.file ≡ new_bytes (with_region v'.body.head v.region)
  pub region : s.tells → ShowsRegion v' (s.now new v.body.file)
  pub nothing : (q : ℕ) → frees v'.body.pool q ≡ None
  pub ends : v'.body.pool.size ≡ v'.body.head.first

-- so many bytes pass the file's limit, or what a head can name, or the undo log is full
abbrev pub HasNoRoom : ℕ → Type 0 → ℕ → Type 0
HasNoRoom limit log_is_full long = (limit < long) ⊎ (2 ^ 40 < long) ⊎ log_is_full
