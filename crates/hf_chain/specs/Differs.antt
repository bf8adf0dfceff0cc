-- Where the bytes of a file differ from what they were.
use Rattle.std.specs.Prelude.{◌≡◌, ◌⊎◌, ℕ, ◌+◌, ◌*◌, ◌<◌, ◌≤◌, List, [], ◌∷◌, length, take, get_or}
use Rattle.hf_head.specs.declared.head.Head.{Head}
use Rattle.hf_block.specs.Walks.{between}
use Rattle.hf_tree.specs.Links.{width}

-- ranges of bytes, each a place and a length
abbrev pub Ranges : Type 0
Ranges = List (ℕ × ℕ)

-- a place in none of them
abbrev pub Outside : Ranges → ℕ → Type 0
Outside [] i = Unit {0}
Outside (r ∷ ranges) i = ((i < r.0) ⊎ (r.0 + r.1 ≤ i)) × Outside ranges i

-- how many bytes they have in all
abbrev pub total : Ranges → ℕ
total [] = 0
total (r ∷ ranges) = r.1 + total ranges

-- outside these ranges each byte is as before
abbrev pub DifferIn : Ranges → List ℕ → List ℕ → Type 0
DifferIn ranges old new = (i : ℕ) → Outside ranges i → get_or new i 0 ≡ get_or old i 0

-- what stands between the bucket array and the first block
abbrev pub section_in : Head → List ℕ → List ℕ
section_in h bytes = between (256 + width h * h.buckets) h.first bytes

-- at most so many links were written: head and pool section stay, and no other byte of the file differs
pub record OnlyLinks (h : Head) (most : ℕ) (old new : List ℕ) : Type 0 where
  pub long : length new ≡ length old
  pub head : take 256 new ≡ take 256 old
  pub section : section_in h new ≡ section_in h old
  pub ranges : Ranges
  pub few : total ranges ≤ width h * most
  pub differ : DifferIn ranges old new
