-- The grammar of a log's bytes: a magic word, 18 lengths, whole entries, and a rest that is none.
use Rattle.std.specs.Prelude.{◌≡◌, ◌↔◌, ℕ, ◌+◌, ◌^◌, ◌<◌, ◌≤◌, List, [], ◌∷◌, ◌++◌, length, take, drop}
use Rattle.tc_base.specs.Bytes.{IsBytes}
use Rattle.ud_log.specs.Entries.{Entry}
use Rattle.ud_log.specs.Log.{magic, numbers_bytes, entry_bytes, entries_bytes, lengths, entries}

-- the numbers of an entry fit their fields
pub record Fits (e : Entry) : Type 0 where
  pub file : e.file < 256 ^ 4
  pub at : e.at < 256 ^ 8
  pub size : length e.bytes < 256 ^ 4
  pub again : e.again < 256 ^ 4

abbrev pub Each : List Entry → Type 0
Each [] = Unit {0}
Each (e ∷ es) = Fits e × Each es

abbrev pub FitEight : List ℕ → Type 0
FitEight [] = Unit {0}
FitEight (n ∷ ns) = (n < 256 ^ 8) × FitEight ns

-- no whole entry stands at the front
abbrev pub HasNoEntry : List ℕ → Type 0
HasNoEntry rest = (e : Entry) (more : List ℕ) → Fits e → rest ≡ entry_bytes e ++ more → ⊥

-- the log spells these lengths, entries and rest
pub record Spells (log lens : List ℕ) (es : List Entry) (rest : List ℕ) : Type 0 where
  pub eighteen : length lens ≡ 18
  pub lens_fit : FitEight lens
  pub fit : Each es
  pub no_entry : HasNoEntry rest
  pub is : log ≡ magic ++ (numbers_bytes lens ++ (entries_bytes es ++ rest))

-- the log is read as these
pub record ReadsAs (log lens : List ℕ) (es : List Entry) (rest : List ℕ) : Type 0 where
  pub long : 152 ≤ length log
  pub marked : take 8 log ≡ magic
  pub lens_are : lengths log ≡ lens
  pub entries_are : entries log ≡ es
  pub rest_is : drop (152 + length (entries_bytes es)) log ≡ rest

-- a log spells exactly what it is read as
abbrev pub GrammarIsExact : Type 0
GrammarIsExact = (log lens : List ℕ) (es : List Entry) (rest : List ℕ) → IsBytes log → Spells log lens es rest ↔ ReadsAs log lens es rest
