-- Texts with a count in front.
use Rattle.std.specs.Prelude.{◌≡◌, ℕ, List, [], Result, Ok, Err}
use Rattle.tc_base.specs.declared.fields.NotWhole.{NotWhole}
use Rattle.tc_base.specs.Reading.{Front, ◌>>=◌, size_at, bytes_at}

-- a text with its size in front
abbrev pub item_at : ℕ → List ℕ → Front (List ℕ)
item_at limit bytes = size_at limit bytes >>= λ s. bytes_at s.0 s.1

-- a function answered what stands behind a value, where reading finds one
abbrev pub Skips : {X A : Type 0} → (X → List ℕ) → Result X NotWhole → Front A → Type 0
Skips {X} {A} view (Ok rest) read = (x : A) × (read ≡ Ok (x, view rest))
Skips view (Err e) read = read ≡ Err e

-- the texts read, none where none are
abbrev pub texts_of : Front (List (List ℕ)) → List (List ℕ)
texts_of (Ok x) = x.0
texts_of (Err e) = []
