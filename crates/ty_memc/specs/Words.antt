-- The words of a line: the longest runs of bytes other than a space.
use Rattle.std.specs.Prelude.{ℕ, ◌==◌, Bool, true, false, not, List, [], ◌∷◌, Option, Some, None, if◌then◌else◌}

abbrev pub is_space : ℕ → Bool
is_space b = b == 32

abbrev pub is_letter : ℕ → Bool
is_letter b = not (b == 32)

abbrev pub begins_word : List ℕ → Bool
begins_word [] = false
begins_word (b ∷ rest) = is_letter b

-- a byte in front of the first word
abbrev pub longer : ℕ → List (List ℕ) → List (List ℕ)
longer b [] = (b ∷ []) ∷ []
longer b (w ∷ ws) = (b ∷ w) ∷ ws

unfoldable pub words : List ℕ → List (List ℕ)
words [] = []
words (b ∷ rest) = if is_space b then words rest else (if begins_word rest then longer b (words rest) else (b ∷ []) ∷ words rest)

-- ---- what is made of them, or none where something is refused

infixl 10 ◌>>=◌
abbrev pub ◌>>=◌ : {A B : Type 0} → Option A → (A → Option B) → Option B
None >>= f = None
(Some x) >>= f = f x

abbrev pub only_if : {A : Type 0} → Bool → A → Option A
only_if holds x = if holds then Some x else None

abbrev pub front : List (List ℕ) → Option (List ℕ × List (List ℕ))
front [] = None
front (w ∷ ws) = Some (w, ws)

-- no word is left
abbrev pub is_end : List (List ℕ) → Bool
is_end [] = true
is_end (w ∷ ws) = false
