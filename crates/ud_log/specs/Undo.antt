-- What an undo log makes of files, or the first rule that it breaks.
use Rattle.std.specs.Prelude.{ℕ, ◌+◌, ◌^◌, zero, suc, List, [], ◌∷◌, ◌++◌, length, get_or, Bool, true, if◌then◌else◌, ◌&&◌, ◌||◌, nat_eq, nat_lt, nat_le, Option, Some, None, Result, Ok, Err}
use Rattle.tc_base.specs.Files.{Files}
use Rattle.tc_base.specs.declared.kind.Rule.{Rule}
use Rattle.ud_log.specs.Entries.{Entry, undone}
use Rattle.ud_log.specs.Log.{entries, lengths, magic, numbers_bytes, entries_bytes}

-- files 0 and 2 to 18: all but the log
abbrev pub is_data : ℕ → Bool
is_data f = nat_eq f 0 || (nat_le 2 f && nat_le f 18)

abbrev pub lens_from : ℕ → ℕ → Files → List ℕ
lens_from zero f files = []
lens_from (suc n) f files = length (files f) ∷ lens_from n (f + 1) files

-- the lengths of the data files in the order of the log
abbrev pub lens_of : Files → List ℕ
lens_of files = length (files 0) ∷ lens_from 17 2 files

-- the place of a file's length in that order
abbrev pub place_of : ℕ → ℕ
place_of zero = zero
place_of (suc k) = k

abbrev pub length_of : List ℕ → ℕ → ℕ
length_of lens f = get_or lens (place_of f) 0

abbrev pub of_file : ℕ → List Entry → List Entry
of_file f [] = []
of_file f (e ∷ es) = if nat_eq e.file f then e ∷ of_file f es else of_file f es

-- U1: the bytes agree with these as far as both go
abbrev pub agrees : List ℕ → List ℕ → Bool
agrees [] bytes = true
agrees (m ∷ ms) [] = true
agrees (m ∷ ms) (b ∷ bs) = nat_eq m b && agrees ms bs

-- U2 and U5: each length is at most 2^40
abbrev pub all_short : List ℕ → Bool
all_short [] = true
all_short (n ∷ ns) = nat_le n (2 ^ 40) && all_short ns

-- U3: each entry names a data file, its size is from 1 to 4096, and both sizes are equal
abbrev pub is_formed : Entry → Bool
is_formed e = is_data e.file && nat_le 1 (length e.bytes) && nat_le (length e.bytes) 4096 && nat_eq e.again (length e.bytes)

abbrev pub all_formed : List Entry → Bool
all_formed [] = true
all_formed (e ∷ es) = is_formed e && all_formed es

-- U4: each entry ends at or before its file's recorded length
abbrev pub all_inside : List ℕ → List Entry → Bool
all_inside lens [] = true
all_inside lens (e ∷ es) = nat_le (e.at + length e.bytes) (length_of lens e.file) && all_inside lens es

abbrev pub rule : ℕ → Rule
rule n = record { letter = 85; number = n }

-- what a log says: nothing where it is shorter than 152 bytes
pub data Log : Type 0 where
  nothing : Log
  undoes : (lens : List ℕ) (es : List Entry) → Log
  broken : (rule : Rule) → Log

unfoldable pub log_of : List ℕ → Log
log_of log =
    if agrees magic log then
    (if nat_lt (length log) 152 then nothing else
    (if all_short (lengths log) then
    (if all_formed (entries log) then
    (if all_inside (lengths log) (entries log) then undoes (lengths log) (entries log) else broken (rule 4))
    else broken (rule 3))
    else broken (rule 2)))
    else broken (rule 1)

-- the data files alone
abbrev pub data_of : Files → Files
data_of files = λ f. if is_data f then files f else []

-- each data file at its recorded length, with its entries put back
abbrev pub undone_all : List ℕ → List Entry → Files → Files
undone_all lens es files = λ f. if is_data f then undone (length_of lens f) (of_file f es) (files f) else []

abbrev pub by_log : Log → Files → Result Files Rule
by_log nothing files = if all_short (lens_of files) then Ok (data_of files) else Err (rule 5)
by_log (undoes lens es) files = Ok (undone_all lens es files)
by_log (broken r) files = Err r

-- what a log makes of files, or the first rule that is broken
abbrev pub undo : List ℕ → Files → Result Files Rule
undo log files = by_log (log_of log) files

-- the files that come of these, file 1 their log; none where a rule is broken
abbrev pub files_of : Result Files Rule → Option Files
files_of (Ok files) = Some files
files_of (Err r) = None

abbrev pub recovered : Files → Option Files
recovered files = files_of (undo (files 1) files)

-- the log's bytes for these files and entries
unfoldable pub header : Files → List ℕ
header kept = magic ++ numbers_bytes (lens_of kept)

abbrev pub log_bytes : Files → List Entry → List ℕ
log_bytes kept es = header kept ++ entries_bytes es
