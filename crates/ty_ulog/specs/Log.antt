-- The update log: its file is nothing but records.
use Rattle.std.specs.Prelude.{◌≡◌, ◌⊎◌, ◌<◌, ℕ, zero, suc, List, [], ◌∷◌, length, nat_lt, Ok, Err}
use Rattle.std.specs.List.{flat_map, filter}
use Rattle.tc_base.specs.declared.kind.Rule.{Rule}
use Rattle.tc_base.specs.Reading.{Front}
use Rattle.tc_space.specs.declared.errors.OpenErr.{OpenErr}
use Rattle.tc_space.specs.declared.errors.OpenErr.TheVariants as open_err
use Rattle.ty_ulog.specs.declared.record.Record.{Record}
use Rattle.ty_ulog.specs.Records.{record_at, record_bytes, Fits}
use Rattle.ty_ulog.specs.Updates.{IsUpdating}

abbrev pub log_bytes : List Record → List ℕ
log_bytes rs = flat_map record_bytes rs

pub record IsUpdate (r : Record) : Type 0 where
  pub fits : Fits r
  pub updating : IsUpdating r.request

-- rule G1: the file is whole records, each with one whole updating request
abbrev pub AreUpdates : List Record → Type 0
AreUpdates [] = Unit {0}
AreUpdates (r ∷ rs) = IsUpdate r × AreUpdates rs

pub record MeetsG1 (file : List ℕ) (rs : List Record) : Type 0 where
  pub parts : file ≡ log_bytes rs
  pub updates : AreUpdates rs

-- rule G2: each record names the timestamp before it, 0 at first, and has a greater one
abbrev pub Follow : ℕ → List Record → Type 0
Follow held [] = Unit {0}
Follow held (r ∷ rs) = (r.before ≡ held) × (held < r.stamp) × Follow r.stamp rs

pub record IsLog (file : List ℕ) (rs : List Record) : Type 0 where
  pub row : MeetsG1 file rs
  pub follow : Follow 0 rs

-- ---- the rules, the first that fails

abbrev pub rule_g : ℕ → Rule
rule_g n = record { letter = 71; number = n }

pub data BreaksG (file : List ℕ) : Rule → Type 0 where
  no_row : ((rs : List Record) → MeetsG1 file rs → ⊥) → BreaksG file (rule_g 1)
  no_order : (rs : List Record) → MeetsG1 file rs → (Follow 0 rs → ⊥) → BreaksG file (rule_g 2)

-- a refusal that names a rule names file 2 and, where files are told, the first that fails
abbrev pub Breaks : Type 0 → List ℕ → OpenErr → Type 0
Breaks tells file e = (f : ℕ) (rule : Rule) → e ≡ open_err.Broken f rule → (f ≡ 2) × ((rule ≡ rule_g 1) ⊎ (rule ≡ rule_g 2)) × (tells → BreaksG file rule)

-- ---- what records say

-- the last timestamp held
abbrev pub last_of : ℕ → List Record → ℕ
last_of held [] = held
last_of held (r ∷ rs) = last_of r.stamp rs

-- the records with a greater timestamp
abbrev pub above : ℕ → List Record → List Record
above stamp rs = filter (λ r. nat_lt stamp r.stamp) rs

-- the record that was read, and what more gives of the bytes behind it
abbrev pub next_of : Front Record → (List ℕ → List Record) → List Record
next_of (Ok x) more = x.0 ∷ more x.1
next_of (Err e) more = []

-- at most so many records from the front on, up to where none stands
unfoldable pub records_from : ℕ → List ℕ → List Record
records_from zero bytes = []
records_from (suc n) bytes = next_of (record_at bytes) (records_from n)

-- the records of a file: those of which it is the log, where it is one
unfoldable pub records_in : List ℕ → List Record
records_in file = records_from (length file) file
