-- A value at the front of bytes.
use Rattle.std.specs.Prelude.{◌≡◌, ℕ, List, ◌++◌, length}
use Rattle.std.specs.List.{AllByRecursion, flat_map}
use Rattle.bt_page.specs.Pages.{SizeFits, value_bytes}

-- it fits, and the bytes are its spelling and the rest
pub record AtFront {A : Type 0} (F : A → Type 0) (s : A → List ℕ) (bytes : List ℕ) (x : A) (rest : List ℕ) : Type 0 where
  pub fits : F x
  pub is : bytes ≡ s x ++ rest

-- no value stands there
abbrev pub NoneAt : {A : Type 0} → (A → Type 0) → (A → List ℕ) → List ℕ → Type 0
NoneAt {A} F s bytes = (x : A) (rest : List ℕ) → AtFront F s bytes x rest → ⊥

-- the bytes are a value's spelling
pub record Spells {A : Type 0} (F : A → Type 0) (s : A → List ℕ) (bytes : List ℕ) (x : A) : Type 0 where
  pub fits : F x
  pub is : bytes ≡ s x

abbrev pub IsPrefix : List ℕ → List ℕ → Type 0
IsPrefix xs ys = (rest : List ℕ) × (ys ≡ xs ++ rest)

-- so many values at the front of bytes, which come behind those that were there
abbrev pub ValuesAt : ℕ → List ℕ → List (List ℕ) → List (List ℕ) → List ℕ → Type 0
ValuesAt n bytes old new rest = (more : List (List ℕ)) × (new ≡ old ++ more) × (length more ≡ n) × AllByRecursion SizeFits more × (bytes ≡ flat_map value_bytes more ++ rest)

-- fewer stand there
abbrev pub NoValuesAt : ℕ → List ℕ → Type 0
NoValuesAt n bytes = (more : List (List ℕ)) (rest : List ℕ) → length more ≡ n → AllByRecursion SizeFits more → bytes ≡ flat_map value_bytes more ++ rest → ⊥
