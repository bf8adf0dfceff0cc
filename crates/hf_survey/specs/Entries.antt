-- Entries of buckets that were read one behind the other.
use Rattle.std.specs.Prelude.{◌≡◌, ℕ, ◌+◌, ◌≤◌, List, length, Some, slice_get}
use Rattle.hf_head.specs.declared.head.Head.{Head}
use Rattle.hf_tree.specs.declared.parent.Parent.TheVariants.{Bucket}
use Rattle.hf_tree.specs.Rules.{Links}
use Rattle.hf_chain.specs.Heads.{capped}
use Rattle.hf_survey.specs.Facts.{entry_place}

-- the places that the entries of buckets name, from one bucket on
abbrev pub AreEntries : Head → ℕ → List ℕ → List ℕ → Type 0
AreEntries h first places bytes = (i p : ℕ) → slice_get places i ≡ Some p → p ≡ entry_place h (first + i) bytes

-- the same by links, of which there is one for each of so many buckets
pub record AreRoots (links : Links) (n first : ℕ) (places : List ℕ) : Type 0 where
  pub low : first + length places ≤ n
  pub each : (i p : ℕ) → slice_get places i ≡ Some p → p ≡ capped (links (Bucket (first + i)))
