-- Entries and lengths that a log over these files may have.
use Rattle.std.specs.Prelude.{◌≡◌, ℕ, ◌+◌, ◌^◌, ◌≤◌, List, [], ◌∷◌, length, true}
use Rattle.tc_base.specs.Files.{Files}
use Rattle.ud_log.specs.Entries.{Entry}
use Rattle.ud_log.specs.Undo.{is_data}

pub record IsGood (kept : Files) (e : Entry) : Type 0 where
  pub is_data : is_data e.file ≡ true
  pub some : 1 ≤ length e.bytes
  pub few : length e.bytes ≤ 4096
  pub same : e.again ≡ length e.bytes
  pub inside : e.at + length e.bytes ≤ length (kept e.file)

abbrev pub AllGood : Files → List Entry → Type 0
AllGood kept [] = Unit {0}
AllGood kept (e ∷ es) = IsGood kept e × AllGood kept es

abbrev pub AllShort : Files → Type 0
AllShort kept = (f : ℕ) → length (kept f) ≤ 2 ^ 40
