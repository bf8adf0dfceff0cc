-- An index's list of pairs beside the map that its rows stand in.
use Rattle.std.specs.Prelude.{◌≡◌, ◌↔◌, ℕ, ◌≤◌, List, [], Bool, true, false, Option, Some, None, IsTrue, length}
use Rattle.std.specs.FinMap.{get, keys}
use Rattle.tc_base.specs.Maps.{Map}
use Rattle.tc_base.specs.declared.seq.Pair.{Pair}
use Rattle.tc_space.specs.Frames.{In}
use Rattle.tc_space.specs.Lists.{StaysList}
use Rattle.tc_space.specs.declared.space.Space.{Ghosts}
use Rattle.tc_space.specs.declared.records.Records as records
use Rattle.tc_space.specs.declared.multi.Multi as multi
use Rattle.td_index.specs.Entries.{AreOwed, Firsts, entry, keys_of, times}

-- what rows give an index, where it has of a row's bytes these parts
abbrev pub parts_in : (List ℕ → List (List ℕ)) → Option (List ℕ) → List (List ℕ)
parts_in of None = []
parts_in of (Some bytes) = of bytes

abbrev pub firsts_by : (List ℕ → List (List ℕ)) → Map → Firsts
firsts_by of m k = parts_in of (get m k)

-- the map of the rows and the pairs of the list
abbrev pub Both : Type 0
Both = Map × List Pair

abbrev pub AreBoth : {S R M O : Type 0} → Ghosts S → records.Ghosts R S → multi.Ghosts M S O → R × M → S → Both → Type 0
AreBoth s r m v space b = In s r.file_of r.holds v.0 space b.0 × In s m.file_of m.holds v.1 space b.1

-- the list has the key of each of these parts, or it lacks that of one
abbrev pub AreHeld : List (List ℕ) → List ℕ → List Pair → Bool → Type 0
AreHeld parts key ps true = (x : List ℕ) → 1 ≤ times x parts → 1 ≤ times (entry x key) (keys_of ps)
AreHeld parts key ps false = (x : List ℕ) × (1 ≤ times x parts) × (times (entry x key) (keys_of ps) ≡ 0)

-- the list has each key that is owed for a row's
pub record IsThere (h : Firsts) (key : List ℕ) (ps : List Pair) (n : ℕ) : Type 0 where
  pub so_many : n ≡ length (h key)
  pub each : (x : List ℕ) → 1 ≤ times x (h key) → 1 ≤ times (entry x key) (keys_of ps)

-- or it lacks one
pub record Lacks (h : Firsts) (key : List ℕ) (ps : List Pair) : Type 0 where
  pub part : List ℕ
  pub is_part : 1 ≤ times part (h key)
  pub none : times (entry part key) (keys_of ps) ≡ 0

abbrev pub IsLooked : Firsts → List ℕ → List Pair → Option ℕ → Type 0
IsLooked h key ps None = Lacks h key ps
IsLooked h key ps (Some n) = IsThere h key ps n

-- of a map whose keys are these: whether the list has the keys of all parts, and no others
abbrev pub IsExact : (List ℕ → List (List ℕ)) → List (List ℕ) → Bool → Both → Type 0
IsExact of ks all b = ks ≡ keys b.0 → IsTrue all ↔ AreOwed (firsts_by of b.0) b.1

-- ---- what stays

-- of a map: file, type, numbers and region stay, and no more lies free in front of the first block than did
pub record StaysRows {S R : Type 0} (r : records.Ghosts R S) (v v' : R) : Type 0 where
  pub file : r.file_of v' ≡ r.file_of v
  pub sort : r.sort v' ≡ r.sort v
  pub numbers : r.numbers v' ≡ r.numbers v
  pub region : r.region v' ≡ r.region v
  pub lead : r.lead v' ≤ r.lead v

-- of a map and a list
pub record StaysBoth {S R M O : Type 0} (r : records.Ghosts R S) (m : multi.Ghosts M S O) (v v' : R × M) : Type 0 where
  pub rows : StaysRows r v.0 v'.0
  pub tree : StaysList m.file_of m.made m.lead v.1 v'.1
