-- Free blocks at the end are dropped.
use Rattle.std.specs.Prelude.{◌≡◌, ℕ, ◌+◌, ◌<◌, ◌≤◌, None}
use Rattle.hf_layout.specs.Frees.{Frees, IsThere}

-- from one place to another stand free blocks, one after the other
pub data Row (frees : Frees) : ℕ → ℕ → Type 0 where
  row_end : (at : ℕ) → Row frees at at
  row_block : (at size end : ℕ) → IsThere frees at size → Row frees (at + size) end → Row frees at end

-- what stood behind the new end were free blocks alone; they are gone, and none ends there any more
pub record Trimmed (old new : Frees) (end new_end : ℕ) : Type 0 where
  pub lower : new_end ≤ end
  pub last : (q t : ℕ) → IsThere new q t → q + t ≡ new_end → 0 < t → ⊥
  pub kept : (q : ℕ) → q < new_end → new q ≡ old q
  pub gone : (q : ℕ) → new_end ≤ q → new q ≡ None
  pub row : Row old new_end end
