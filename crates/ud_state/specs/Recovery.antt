-- What recovery does, and how far it came.
use Rattle.std.specs.Prelude.{◌≡◌, ℕ, ◌+◌, ◌≤◌, List, [], ◌∷◌, ◌++◌, length, drop, true}
use Rattle.tc_base.specs.Files.{Files}
use Rattle.tc_io.specs.Images.{Calls, Images, IsLostSync, now, of, cut_to, synced}
use Rattle.ud_log.specs.Entries.{Entry, put_back}
use Rattle.ud_log.specs.Grammar.{Fits}
use Rattle.ud_log.specs.Log.{entries, entries_bytes}
use Rattle.ud_log.specs.Undo.{is_data, is_formed, of_file, recovered}
use Rattle.ud_state.specs.Since.{Since, Quiet}
use Rattle.ud_state.specs.State.{AllUndo, Idle, IsSettled, Replay}

-- each image undoes to what some image of an earlier moment undid to
pub record Leads (old cs : Calls) : Type 0 where
  pub from : (ims : Files) → Images cs ims → (jms : Files) × Images old jms × (recovered ims ≡ recovered jms)

pub record StaysSettled (old cs : Calls) : Type 0 where
  pub settled : IsSettled cs
  pub leads : Leads old cs

-- the log wasn't brought to the disk; or it was first of all, and from then on each image undoes to what the files as they then read undid to
pub data FromTheSync (old new : Calls) : Type 0 where
  not_yet : IsLostSync old new 1 → FromTheSync old new
  since : Quiet ((1, synced) ∷ old) new → FromTheSync old new

pub record Recovers (old new : Calls) : Type 0 where
  pub moments : Since (StaysSettled old) old new
  pub from : FromTheSync old new

-- ---- how far it came

-- an entry that may be put back over these files
pub record CanPut (cs : Calls) (e : Entry) : Type 0 where
  pub formed : is_formed e ≡ true
  pub is_data : is_data e.file ≡ true
  pub fits : Fits e
  pub inside : e.at + length e.bytes ≤ length (now cs e.file)

abbrev pub AllCanPut : Calls → List Entry → Type 0
AllCanPut cs [] = Unit {0}
AllCanPut cs (e ∷ es) = CanPut cs e × AllCanPut cs es

-- the log's whole entries end at this place, and each may be put back
pub record CanPutBack (cs : Calls) (end : ℕ) : Type 0 where
  pub spelled : drop 152 (now cs 1) ≡ entries_bytes (entries (now cs 1)) ++ drop end (now cs 1)
  pub there : end ≡ 152 + length (entries_bytes (entries (now cs 1)))
  pub long : 152 ≤ length (now cs 1)
  pub can : AllCanPut cs (entries (now cs 1))

-- these entries were put back
pub record Restored (start cs : Calls) (es : List Entry) : Type 0 where
  pub log : of 1 cs ≡ of 1 start
  pub reads : (f : ℕ) → is_data f ≡ true → now cs f ≡ put_back (of_file f es) (now start f)
  pub replay : (files : Files) (lens : List ℕ) → Replay start files lens (entries (now start 1)) → Replay cs files lens (entries (now start 1))

-- the log may go: each image undoes to these files, with the log or without it
pub record Ready (cs : Calls) (files : Files) : Type 0 where
  pub undo : AllUndo cs files
  pub cut : AllUndo ((1, cut_to 0) ∷ cs) files
  pub gone : Idle ((1, synced) ∷ (1, cut_to 0) ∷ cs) files
  pub empty : length (now cs 1) ≡ 0 → Idle cs files
