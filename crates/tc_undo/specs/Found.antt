-- What recovery finds in the log before it changes a file.
use Rattle.std.specs.Prelude.{◌≡◌, ℕ, ◌+◌, ◌≤◌, List, ◌∷◌, ◌++◌, length, Bool, true, false, Option, Some, None, Result, Err, get_or}
use Rattle.tc_base.specs.Files.{Files}
use Rattle.tc_base.specs.declared.kind.Rule.{Rule}
use Rattle.tc_io.specs.Images.{Calls, now, synced, written, IsLost}
use Rattle.ud_log.specs.Entries.{Entry}
use Rattle.ud_log.specs.Grammar.{Fits}
use Rattle.ud_log.specs.Log.{entries, entry_bytes, lengths, magic}
use Rattle.ud_log.specs.Scan.{Scanned, ScannedAll}
use Rattle.ud_log.specs.Undo.{agrees, all_inside, all_short, is_data, is_formed, log_of, nothing, place_of, undo, undoes}
use Rattle.ud_state.specs.Since.{Quiet}
use Rattle.ud_state.specs.State.{AreLens, Durable, Replay}
use Rattle.tc_undo.specs.Errors.{OnBroken}
use Rattle.tc_undo.specs.declared.errors.RecoverErr.{RecoverErr}
use Rattle.tc_undo.specs.declared.scan.Found.{Found}
use Rattle.tc_undo.specs.declared.scan.Seen.{Seen}
use Rattle.tc_undo.specs.declared.put_back.Back.{Back}

-- what the log makes of the files as they read
abbrev pub undone : Calls → Result Files Rule
undone cs = undo (now cs 1) (now cs)

-- the rule that is named is the one that the log breaks first
abbrev pub BreaksAs : Type 0 → Calls → RecoverErr → Type 0
BreaksAs tells cs e = OnBroken e (λ r. tells → undone cs ≡ Err r)

-- recovery names the rule that the log breaks first, after it brought the log to the disk and did no more
abbrev pub RefusesAs : Type 0 → Calls → Calls → RecoverErr → Type 0
RefusesAs tells old new e = OnBroken e (λ r. tells → (undone old ≡ Err r) × (new ≡ (1, synced) ∷ old))

-- a log of so many bytes has its whole header, which records these lengths, none above the greatest
pub record HasHeader (tells : Type 0) (log : List ℕ) (len : ℕ) (lens : List ℕ) : Type 0 where
  pub len_is : tells → len ≡ length log
  pub long : 152 ≤ len
  pub begins : tells → agrees magic log ≡ true
  pub records : tells → lens ≡ lengths log
  pub short : all_short lens ≡ true

-- the scan goes on behind an entry, or there is none
abbrev pub AfterScan : List ℕ → List ℕ → ℕ → Bool → Option Seen → Type 0
AfterScan log lens place fine (Some seen) = Scanned log lens seen.next seen.fine
AfterScan log lens place fine None = ScannedAll log lens place fine

-- the next entry begins further on, within the log
abbrev pub GoesOn : ℕ → ℕ → Option Seen → Type 0
GoesOn place len (Some seen) = (place + 20 ≤ seen.next) × (seen.next ≤ len)
GoesOn place len None = Unit {0}

-- the log undoes something: these lengths, and the entries up to this place
pub record FindsUndo (files : Files) (lens : List ℕ) (end : ℕ) : Type 0 where
  pub log : log_of (files 1) ≡ undoes lens (entries (files 1))
  pub long : length lens ≡ 18
  pub inside : all_inside lens (entries (files 1)) ≡ true
  pub scanned : ScannedAll (files 1) lens end true

-- the log undoes nothing, and these are the lengths of the data files
pub record FindsNothing (files : Files) (lens : List ℕ) : Type 0 where
  pub log : log_of (files 1) ≡ nothing
  pub are : AreLens lens files

abbrev pub Finds : Bool → Files → List ℕ → ℕ → Type 0
Finds true files lens end = FindsUndo files lens end
Finds false files lens end = FindsNothing files lens

-- the log of these files was found to undo something or nothing, with lengths none of which is above the greatest
pub record IsFound (tells : Type 0) (files : Files) (found : Found) : Type 0 where
  pub finds : tells → Finds found.undoes files found.lens found.end
  pub short : all_short found.lens ≡ true

-- each data file is on the disk as it reads
abbrev pub FilesOnDisk : Calls → Type 0
FilesOnDisk cs = (f : ℕ) → is_data f ≡ true → Durable cs f

-- the log and the data files are on the disk as they read
pub record OnDisk (cs : Calls) : Type 0 where
  pub log : Durable cs 1
  pub files : FilesOnDisk cs

-- the data files that are marked were brought to the disk, and the others still are where they were
abbrev pub DurableThen : List Bool → Calls → Calls → Type 0
DurableThen marked old new = (f : ℕ) → is_data f ≡ true → (get_or marked (place_of f) false ≡ false → Durable old f) → Durable new f

-- ---- what a call does to a log that is replayed to some files

-- files that are on the disk may still be made of it
abbrev pub KeepsReplay : List ℕ → Calls → Calls → Type 0
KeepsReplay lens old new = (files : Files) (es : List Entry) → Replay old files lens es → FilesOnDisk old → Replay new files lens es

abbrev pub QuietReplay : List ℕ → Calls → Calls → Type 0
QuietReplay lens old new = (files : Files) (es : List Entry) → Replay old files lens es → FilesOnDisk old → Quiet old new

abbrev pub QuietOverLog : Calls → Calls → Type 0
QuietOverLog old new = (files : Files) (lens : List ℕ) → Replay old files lens (entries (now old 1)) → Quiet old new

-- ---- an entry of the log that ends at a place

-- this is the entry, and these bytes of the log stand before it and behind it
pub record IsEntryAt (cs : Calls) (end : ℕ) (e : Entry) (front rest : List ℕ) : Type 0 where
  pub log : now cs 1 ≡ front ++ (entry_bytes e ++ rest)
  pub there : end ≡ length front + 20 + length e.bytes
  pub formed : is_formed e ≡ true
  pub fits : Fits e
  pub inside : e.at ≤ length (now cs e.file)

pub record EndsAt (cs : Calls) (end : ℕ) : Type 0 where
  pub e : Entry
  pub front : List ℕ
  pub rest : List ℕ
  pub is : IsEntryAt cs end e front rest

-- the old bytes of the entry were written to its place
pub record PutBack (old new : Calls) (end start : ℕ) : Type 0 where
  pub made : (e : Entry) (front rest : List ℕ) → IsEntryAt old end e front rest → (new ≡ (e.file, written e.at e.bytes) ∷ old) × (start ≡ length front)

-- a call that failed may have written the old bytes of the entry to its place
pub record PutBackLost (old new : Calls) (end : ℕ) : Type 0 where
  pub lost : (e : Entry) (front rest : List ℕ) → IsEntryAt old end e front rest → IsLost old new e.file (written e.at e.bytes)

pub record IsBack (e : Entry) (front : List ℕ) (b : Back) : Type 0 where
  pub file : b.file ≡ e.file
  pub at : b.at ≡ e.at
  pub size : b.size ≡ length e.bytes
  pub start : b.start ≡ length front

-- the numbers of the entry that ends at a place, read from its end
pub record FindsBack (tells : Type 0) (cs : Calls) (end : ℕ) (b : Back) : Type 0 where
  pub data_file : is_data b.file ≡ true
  pub few : b.size ≤ 4096
  pub start : b.start + 20 + b.size ≡ end
  pub back : tells → (e : Entry) (front rest : List ℕ) → IsEntryAt cs end e front rest → IsBack e front b
