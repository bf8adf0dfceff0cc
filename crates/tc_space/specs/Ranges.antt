-- Which files a space has, and when a write passes a limit.
use Rattle.std.specs.Prelude.{◌≡◌, ◌⊎◌, ℕ, ◌+◌, ◌<◌, ◌≤◌, length}
use Rattle.tc_base.specs.Files.{Files}

-- the data files: all but the undo log
abbrev pub IsDataFile : ℕ → Type 0
IsDataFile file = (file ≡ 0) ⊎ ((2 ≤ file) × (file ≤ 18))

-- this is a data file, of at least so many bytes where files are told
pub record Reaches (tells : Type 0) (files : Files) (f upto : ℕ) : Type 0 where
  pub file : IsDataFile f
  pub inside : tells → upto ≤ length (files f)

-- a write of so many bytes there passes the file's limit, or the bytes that it replaces pass the log's
abbrev pub Passes : ℕ → Type 0 → ℕ → ℕ → Type 0
Passes limit log_is_full at size = (limit < at + size) ⊎ log_is_full
