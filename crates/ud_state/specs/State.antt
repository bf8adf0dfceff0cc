-- A volume between calls: a transaction is open, or none is.
use Rattle.std.specs.Prelude.{◌≡◌, ℕ, ◌^◌, ◌<◌, ◌≤◌, List, [], length, get_or, Bool, true, false, Option, Some, None, ◌⊎◌, ◌++◌, ◌-◌, replicate}
use Rattle.ud_log.specs.Entries.{Entry, Covers, Inside, Stands, Holds}
use Rattle.tc_base.specs.Files.{Files, resized}
use Rattle.tc_io.specs.Images.{Calls, of, now, Image, Images}
use Rattle.ud_log.specs.Good.{AllGood, AllShort}
use Rattle.ud_log.specs.Undo.{is_data, place_of, length_of, of_file, recovered, data_of, log_of, undoes, log_bytes}
use Rattle.ud_state.specs.Since.{Quiet}

-- what holds of the data files with these entries in the log
pub record Data (cs : Calls) (kept : Files) (es : List Entry) : Type 0 where
  pub short : AllShort kept
  pub good : AllGood kept es
  pub blank : (f : ℕ) → is_data f ≡ false → kept f ≡ []
  pub holds : (f : ℕ) → is_data f ≡ true → Holds (of_file f es) (kept f)
  pub stands : (f : ℕ) → is_data f ≡ true → (i : List ℕ) → Image (of f cs) i → Stands (of_file f es) (kept f) i

-- each image is undone to the kept files
abbrev pub AllUndo : Calls → Files → Type 0
AllUndo cs kept = (ims : Files) → Images cs ims → recovered ims ≡ Some kept

-- a transaction is open over these kept files. Its log reads so; what a stop leaves of it is that or a shorter text
pub record Pending (cs : Calls) (kept : Files) (es : List Entry) : Type 0 where
  pub files : Data cs kept es
  pub log : now cs 1 ≡ log_bytes kept es
  pub only : (i : List ℕ) → Image (of 1 cs) i → (i ≡ log_bytes kept es) ⊎ (length i < length (log_bytes kept es))
  pub undo : AllUndo cs kept
  pub stand : (f : ℕ) → is_data f ≡ true → Stands (of_file f es) (kept f) (now cs f)
  pub tail : (f : ℕ) → is_data f ≡ true → (p : ℕ) → length (now cs f) ≤ p → p < length (kept f) → Covers (of_file f es) p
  pub fits : (f : ℕ) → is_data f ≡ true → length (now cs f) ≤ 2 ^ 40

-- a transaction is open over these kept files, and all of its log is on the disk
pub record Tx (cs : Calls) (kept : Files) (es : List Entry) : Type 0 where
  pub files : Data cs kept es
  pub log : now cs 1 ≡ log_bytes kept es
  pub only : (i : List ℕ) → Image (of 1 cs) i → i ≡ log_bytes kept es
  pub stand : (f : ℕ) → is_data f ≡ true → Stands (of_file f es) (kept f) (now cs f)
  pub tail : (f : ℕ) → is_data f ≡ true → (p : ℕ) → length (now cs f) ≤ p → p < length (kept f) → Covers (of_file f es) p
  pub fits : (f : ℕ) → is_data f ≡ true → length (now cs f) ≤ 2 ^ 40

-- no transaction is open
pub record Idle (cs : Calls) (kept : Files) : Type 0 where
  pub short : AllShort kept
  pub blank : (f : ℕ) → is_data f ≡ false → kept f ≡ []
  pub log : now cs 1 ≡ []
  pub only : (i : List ℕ) → Image (of 1 cs) i → i ≡ []
  pub same : (f : ℕ) → is_data f ≡ true → now cs f ≡ kept f
  pub stand : (f : ℕ) → is_data f ≡ true → (i : List ℕ) → Image (of f cs) i → i ≡ kept f

-- these are the lengths of the data files
pub record AreLens (lens : List ℕ) (files : Files) : Type 0 where
  pub long : length lens ≡ 18
  pub at : (f : ℕ) → is_data f ≡ true → length_of lens f ≡ length (files f)

-- the bytes that a file has from one place to another, up to its recorded length, have entries
abbrev pub Logged : Calls → Files → List Entry → ℕ → ℕ → ℕ → Type 0
Logged cs kept es f from to = (p : ℕ) → from ≤ p → p < to → p < length (kept f) → p < length (now cs f) → Covers (of_file f es) p

-- a transaction with these recorded lengths is at logging bytes of a file
pub record Logging (cs : Calls) (recorded : List ℕ) (f from to : ℕ) : Type 0 where
  pub kept : Files
  pub es : List Entry
  pub pending : Pending cs kept es
  pub records : AreLens recorded kept
  pub logged : Logged cs kept es f from to

-- all that it logged is on the disk
pub record Secured (cs : Calls) (recorded : List ℕ) (f from to : ℕ) : Type 0 where
  pub kept : Files
  pub es : List Entry
  pub tx : Tx cs kept es
  pub records : AreLens recorded kept
  pub logged : Logged cs kept es f from to

-- a file is on the disk as it reads
abbrev pub Durable : Calls → ℕ → Type 0
Durable cs f = (i : List ℕ) → Image (of f cs) i → i ≡ now cs f

-- each data file that isn't marked as changed is on the disk as it reads
pub record Unchanged (cs : Calls) (changed : List Bool) : Type 0 where
  pub long : length changed ≡ 18
  pub each : (f : ℕ) → is_data f ≡ true → get_or changed (place_of f) false ≡ false → Durable cs f

-- an undo log in a transaction: its length, the recorded lengths, and which files changed
pub record IsOpen (cs : Calls) (end : ℕ) (recorded : List ℕ) (changed : List Bool) : Type 0 where
  pub kept : Files
  pub es : List Entry
  pub tx : Tx cs kept es
  pub log : end ≡ length (now cs 1)
  pub records : AreLens recorded kept
  pub unchanged : Unchanged cs changed

abbrev pub IsValid : Bool → Calls → ℕ → List ℕ → List Bool → Type 0
IsValid true cs end recorded changed = IsOpen cs end recorded changed
IsValid false cs end recorded changed = Idle cs (data_of (now cs))

-- a stop leaves what was kept, or what the files were
abbrev pub EitherOf : Calls → Option Files → Type 0
EitherOf cs w = (w ≡ recovered (now cs)) ⊎ (w ≡ Some (data_of (now cs)))

-- whichever image of the data files a stop leaves beside one of the log, the same files come of it, and no rule is broken
pub record IsSettled (cs : Calls) : Type 0 where
  pub same : (ims jms : Files) → Images cs ims → Images cs jms → ims 1 ≡ jms 1 → recovered ims ≡ recovered jms
  pub whole : (ims : Files) → Images cs ims → recovered ims ≡ None → ⊥

-- the log is on the disk and undoes something, to this result
pub record Replay (cs : Calls) (result : Files) (lens : List ℕ) (es : List Entry) : Type 0 where
  pub only : (i : List ℕ) → Image (of 1 cs) i → log_of i ≡ undoes lens es
  pub blank : (f : ℕ) → is_data f ≡ false → result f ≡ []
  pub short : (f : ℕ) → length (result f) ≤ 2 ^ 40
  pub lengths : (f : ℕ) → is_data f ≡ true → length (result f) ≡ length_of lens f
  pub inside : (f : ℕ) → is_data f ≡ true → Inside (length (result f)) (of_file f es)
  pub holds : (f : ℕ) → is_data f ≡ true → Holds (of_file f es) (result f)
  pub stands : (f : ℕ) → is_data f ≡ true → (i : List ℕ) → Image (of f cs) i → Stands (of_file f es) (result f) i

-- no image of the file is longer than this
abbrev pub NoLonger : Calls → ℕ → ℕ → Type 0
NoLonger cs f most = (i : List ℕ) → Image (of f cs) i → length i ≤ most

-- ---- what a run of calls keeps

-- only the log's steps
pub record LogOnly (old new : Calls) : Type 0 where
  pub same : (f : ℕ) → is_data f ≡ true → of f new ≡ of f old

-- syncs of data files
pub record SyncOnly (old new : Calls) : Type 0 where
  pub reads : (f : ℕ) → now new f ≡ now old f
  pub log : of 1 new ≡ of 1 old
  pub durable : (f : ℕ) → is_data f ≡ true → Durable old f → Durable new f
  pub tx : (kept : Files) (es : List Entry) → Tx old kept es → Tx new kept es
  pub replay : (result : Files) (lens : List ℕ) (es : List Entry) → Replay old result lens es → Replay new result lens es

-- zeros behind a file, from one length to another
pub record Filled (old new : Calls) (file from to : ℕ) : Type 0 where
  pub grown : length (now old file) ≡ from → now new file ≡ now old file ++ replicate (to - from) 0
  pub longer : NoLonger old file from → NoLonger new file to
  pub others : (g : ℕ) → (file ≡ g → ⊥) → of g new ≡ of g old
  pub replay : (result : Files) (lens : List ℕ) (es : List Entry) → Replay old result lens es → NoLonger old file from → Replay new result lens es

-- a file is given the length that it has in the end
pub record Resized (old new : Calls) (file len : ℕ) : Type 0 where
  pub reads : now new file ≡ resized len (now old file)
  pub others : (g : ℕ) → (file ≡ g → ⊥) → of g new ≡ of g old
  pub replay : (result : Files) (lens : List ℕ) (es : List Entry) → Replay old result lens es → Durable old file → length (result file) ≡ len → Replay new result lens es

-- it may happen to a file that recovery works on, no image of which is longer than this
pub record FillsQuietly (old new : Calls) (file from : ℕ) : Type 0 where
  pub quiet : (result : Files) (lens : List ℕ) (es : List Entry) → Replay old result lens es → NoLonger old file from → Quiet old new

pub record ResizesQuietly (old new : Calls) (file len : ℕ) : Type 0 where
  pub quiet : (result : Files) (lens : List ℕ) (es : List Entry) → Replay old result lens es → Durable old file → length (result file) ≡ len → Quiet old new
