-- Free neighbours are joined.
use Rattle.std.specs.Prelude.{◌≡◌, ℕ, ◌+◌, ◌<◌, ◌≤◌, ◌^◌, ◌⊎◌}
use Rattle.hf_layout.specs.Frees.{Frees, IsThere, with_block, without}

-- the same blocks
abbrev pub AreSame : Frees → Frees → Type 0
AreSame new old = (q : ℕ) → new q ≡ old q

-- the free block that ends at the place is joined to the front, where the sum stays below 2 ^ 32
pub record JoinsFront (old : Frees) (at size start total : ℕ) (new : Frees) (front : ℕ) : Type 0 where
  pub there : IsThere old start front
  pub ends : start + front ≡ at
  pub sum : total ≡ front + size
  pub below : total < 2 ^ 32
  pub gone : AreSame new (without old start)

pub record KeepsFront (old : Frees) (at size start total : ℕ) (new : Frees) : Type 0 where
  pub start_is : start ≡ at
  pub total_is : total ≡ size
  pub same : AreSame new old
  pub none : (q t : ℕ) → IsThere old q t → q + t ≡ at → 2 ^ 32 ≤ t + size

abbrev pub FrontJoined : Frees → ℕ → ℕ → ℕ → ℕ → Frees → Type 0
FrontJoined old at size start total new = ((front : ℕ) × JoinsFront old at size start total new front) ⊎ KeepsFront old at size start total new

-- the free block that begins at the end is joined behind, where the sum stays below 2 ^ 32
pub record JoinsBack (old : Frees) (end size total : ℕ) (new : Frees) (back : ℕ) : Type 0 where
  pub there : IsThere old end back
  pub sum : total ≡ size + back
  pub below : total < 2 ^ 32
  pub gone : AreSame new (without old end)

pub record KeepsBack (old : Frees) (end size total : ℕ) (new : Frees) : Type 0 where
  pub total_is : total ≡ size
  pub same : AreSame new old
  pub none : (t : ℕ) → IsThere old end t → 2 ^ 32 ≤ size + t

abbrev pub BackJoined : Frees → ℕ → ℕ → ℕ → Frees → Type 0
BackJoined old end size total new = ((back : ℕ) × JoinsBack old end size total new back) ⊎ KeepsBack old end size total new

-- a block given back: joined with the free neighbour before it, then with the one behind it, each once
pub record GivesBack (old new : Frees) (at size start total : ℕ) : Type 0 where
  pub middle : Frees
  pub half : ℕ
  pub rest : Frees
  pub front : FrontJoined old at size start half middle
  pub back : BackJoined middle (at + size) half total rest
  pub with : AreSame new (with_block rest start total)
