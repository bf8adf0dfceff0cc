-- How many pieces stand at the front of a text, as they are read.
use Rattle.std.specs.Prelude.{◌≡◌, ℕ, zero, suc, Bool, true, false, List, [], ◌∷◌, ◌++◌, length, Ok, Err}
use Rattle.tc_base.specs.declared.fields.NotWhole.TheVariants.{Part, Bad}
use Rattle.tc_base.specs.Reading.{Front}
use Rattle.ty_memc.specs.Grammar.{piece_at}

abbrev pub is_bad : {A : Type 0} → Front A → Bool
is_bad (Ok x) = false
is_bad (Err Part) = false
is_bad (Err Bad) = true

abbrev pub is_whole : {A : Type 0} → Front A → Bool
is_whole (Ok x) = true
is_whole (Err e) = false

abbrev pub one_more : {A : Type 0} → (List ℕ → ℕ) → Front A → ℕ
one_more f (Ok x) = suc (f x.1)
one_more f (Err e) = 0

unfoldable pub frames_within : {A : Type 0} → (List ℕ → Front A) → ℕ → List ℕ → ℕ
frames_within p zero bytes = 0
frames_within p (suc n) bytes = one_more (frames_within p n) (p bytes)

-- how many whole ones stand at the front, one behind the other
unfoldable pub frames_by : {A : Type 0} → (List ℕ → Front A) → List ℕ → ℕ
frames_by p bytes = frames_within p (length bytes) bytes

abbrev pub frames : List ℕ → ℕ
frames bytes = frames_by piece_at bytes

-- ---- in the grammar's words

-- these stand behind one another: a piece may have many spellings
abbrev pub Stands : {A : Type 0} → (A → List ℕ → Type 0) → List A → List ℕ → Type 0
Stands S [] bytes = bytes ≡ []
Stands S (x ∷ xs) bytes = (text : List ℕ) × (rest : List ℕ) × S x text × Stands S xs rest × (bytes ≡ text ++ rest)

-- none stands at the front
abbrev pub HasNone : {A : Type 0} → (A → List ℕ → Type 0) → List ℕ → Type 0
HasNone {A} S bytes = (x : A) (text rest : List ℕ) → S x text → bytes ≡ text ++ rest → ⊥

-- these are the frames: all that stand at the front, and a rest with none at its front
pub record AreFrames {A : Type 0} (S : A → List ℕ → Type 0) (bytes : List ℕ) (xs : List A) (rest : List ℕ) : Type 0 where
  pub front : List ℕ
  pub parts : bytes ≡ front ++ rest
  pub stand : Stands S xs front
  pub none : HasNone S rest
