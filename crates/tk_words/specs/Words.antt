-- Words, and what is made of them or refused.
use Rattle.std.specs.Prelude.{ℕ, Bool, true, false, List, [], ◌∷◌, map, Option, Some, None, nat_eq, string_bytes, String, if◌then◌else◌}
use Rattle.std.specs.Cmp.Lexicographic.{pointwise}
use Rattle.std.specs.declared.alloc.Global.{Global}

abbrev pub Word : Type 0
Word = List ℕ

abbrev pub texts : List (String Global) → List Word
texts words = map (λ (w : String Global). string_bytes w) words

abbrev pub is_word : Word → Word → Bool
is_word a b = pointwise nat_eq a b

-- ---- what is made, or none where something is refused

infixl 10 ◌>>=◌
abbrev pub ◌>>=◌ : {A B : Type 0} → Option A → (A → Option B) → Option B
None >>= f = None
(Some x) >>= f = f x

abbrev pub only_if : {A : Type 0} → Bool → A → Option A
only_if holds x = if holds then Some x else None

abbrev pub or_else : {A : Type 0} → Option A → A → A
or_else None default = default
or_else (Some x) default = x

-- ---- the words at the front

abbrev pub front : List Word → Option (Word × List Word)
front [] = None
front (w ∷ ws) = Some (w, ws)

-- no word is left
abbrev pub is_end : List Word → Bool
is_end [] = true
is_end (w ∷ ws) = false

-- the one word that is left
abbrev pub lone : List Word → Option Word
lone ws = front ws >>= λ w. only_if (is_end w.1) w.0
