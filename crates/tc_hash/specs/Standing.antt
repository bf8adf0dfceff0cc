-- What a file stands for once it is settled.
use Rattle.std.specs.Prelude.{◌≡◌, ℕ, ◌-◌, ◌/◌, List, [], ◌∷◌, length}
use Rattle.std.specs.FinMap.{get}
use Rattle.tc_base.specs.Maps.{Map}
use Rattle.hf_head.specs.declared.head.Head.{Head}
use Rattle.hf_head.specs.Heads.{sections, unit}
use Rattle.hf_tree.specs.Standing.{StandsFor}

-- the bytes are a file of that kind which stands for the map, with this region
pub record StandsWith (kind : ℕ) (bytes : List ℕ) (m : Map) (region : List ℕ) : Type 0 where
  pub is : StandsFor kind bytes (get m)
  pub region_is : is.head.opaque ≡ region

-- the numbers that a head fixes, its options first
abbrev pub numbers_in : Head → List ℕ
numbers_in h = h.options ∷ h.apow ∷ h.fpow ∷ h.buckets ∷ []

-- how many whole units lie free between the sections of a file and its first block
abbrev pub lead_in : Head → ℕ
lead_in h = (h.first - sections h) / unit h

-- so it is of a file whose head has these numbers, and which ends where it says
pub record StandsAs (kind : ℕ) (numbers bytes : List ℕ) (m : Map) (region : List ℕ) : Type 0 where
  pub file : StandsWith kind bytes m region
  pub numbers_are : numbers_in file.is.head ≡ numbers
  pub long : length bytes ≡ file.is.head.size
