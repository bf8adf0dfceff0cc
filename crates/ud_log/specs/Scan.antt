-- How far the entries of a log were looked at.
use Rattle.std.specs.Prelude.{◌≡◌, ℕ, ◌+◌, ◌≤◌, List, ◌++◌, length, drop, Bool, true}
use Rattle.ud_log.specs.Entries.{Entry}
use Rattle.ud_log.specs.Log.{entries_bytes, entries_in, entries}
use Rattle.ud_log.specs.Undo.{all_formed, all_inside}

-- the entries from place 152 to this one are whole and well formed, and this says whether each ends inside its file
pub record Scanned (log lens : List ℕ) (place : ℕ) (fine : Bool) : Type 0 where
  pub done : List Entry
  pub most : ℕ
  pub spelled : drop 152 log ≡ entries_bytes done ++ drop place log
  pub there : place ≡ 152 + length (entries_bytes done)
  pub parts : entries log ≡ done ++ entries_in most (drop place log)
  pub formed : all_formed done ≡ true
  pub inside : all_inside lens done ≡ fine
  pub enough : length log ≤ place + most

-- all whole entries were scanned, up to a place
pub record ScannedAll (log lens : List ℕ) (place : ℕ) (fine : Bool) : Type 0 where
  pub spelled : drop 152 log ≡ entries_bytes (entries log) ++ drop place log
  pub there : place ≡ 152 + length (entries_bytes (entries log))
  pub formed : all_formed (entries log) ≡ true
  pub inside : all_inside lens (entries log) ≡ fine
