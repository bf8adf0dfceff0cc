-- Old bytes put back over a file that a stop left.
use Rattle.std.specs.Prelude.{◌≡◌, ◌⊎◌, ℕ, ◌+◌, ◌<◌, ◌≤◌, List, [], ◌∷◌, length, get_or}
use Rattle.tc_base.specs.Files.{wrote, resized}

-- an entry as it stands in the log: a file, a place in it, the bytes that stood there, and the size that is written again behind them
pub record Entry : Type 0 where
  pub file : ℕ
  pub at : ℕ
  pub bytes : List ℕ
  pub again : ℕ

-- an entry as it is to be
abbrev pub entry_of : ℕ → ℕ → List ℕ → Entry
entry_of file at bytes = record { file = file; at = at; bytes = bytes; again = length bytes }

-- the entries put back, the last first
abbrev pub put_back : List Entry → List ℕ → List ℕ
put_back [] old = old
put_back (e ∷ es) old = wrote e.at e.bytes (put_back es old)

-- a file of this length, with the entries put back
abbrev pub undone : ℕ → List Entry → List ℕ → List ℕ
undone n es old = put_back es (resized n old)

-- each entry ends inside
abbrev pub Inside : ℕ → List Entry → Type 0
Inside n [] = Unit {0}
Inside n (e ∷ es) = (e.at + length e.bytes ≤ n) × Inside n es

-- a place that some entry has
abbrev pub Covers : List Entry → ℕ → Type 0
Covers [] p = ⊥
Covers (e ∷ es) p = ((e.at ≤ p) × (p < e.at + length e.bytes)) ⊎ Covers es p

-- each place has an entry, or an image has there what the kept file has
abbrev pub Stands : List Entry → List ℕ → List ℕ → Type 0
Stands es kept image = (p : ℕ) → p < length kept → Covers es p ⊎ (get_or image p 0 ≡ get_or kept p 0)

-- the entries give the kept file's bytes at each place that they have
abbrev pub Holds : List Entry → List ℕ → Type 0
Holds es kept = (p : ℕ) → p < length kept → Covers es p → (x : List ℕ) → length x ≡ length kept → get_or (put_back es x) p 0 ≡ get_or kept p 0
