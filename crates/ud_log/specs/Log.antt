-- The bytes of an undo log: a magic word, 18 lengths, entries, and a rest that is no whole entry.
use Rattle.std.specs.Prelude.{ℕ, ◌+◌, ◌*◌, ◌/◌, ◌%◌, zero, suc, List, [], ◌∷◌, ◌++◌, length, take, drop, if◌then◌else◌, nat_le}
use Rattle.ud_log.specs.Entries.{Entry, entry_of}

-- a number's bytes, the least first
abbrev pub spelled : ℕ → ℕ → List ℕ
spelled zero n = []
spelled (suc width) n = n % 256 ∷ spelled width (n / 256)

abbrev pub number : List ℕ → ℕ
number [] = 0
number (b ∷ bs) = b + 256 * number bs

-- "TKundo01"
abbrev pub magic : List ℕ
magic = 84 ∷ 75 ∷ 117 ∷ 110 ∷ 100 ∷ 111 ∷ 48 ∷ 49 ∷ []

abbrev pub numbers_bytes : List ℕ → List ℕ
numbers_bytes [] = []
numbers_bytes (n ∷ ns) = spelled 8 n ++ numbers_bytes ns

unfoldable pub entry_bytes : Entry → List ℕ
entry_bytes e = spelled 4 e.file ++ spelled 8 e.at ++ spelled 4 (length e.bytes) ++ e.bytes ++ spelled 4 e.again

abbrev pub entries_bytes : List Entry → List ℕ
entries_bytes [] = []
entries_bytes (e ∷ es) = entry_bytes e ++ entries_bytes es

-- the entry that a writer makes of a file's old bytes
abbrev pub framed : ℕ → ℕ → List ℕ → List ℕ
framed file at bytes = entry_bytes (entry_of file at bytes)

abbrev pub numbers_in : ℕ → List ℕ → List ℕ
numbers_in zero bytes = []
numbers_in (suc n) bytes = number (take 8 bytes) ∷ numbers_in n (drop 8 bytes)

-- the entry at the front, whose size is this
abbrev pub entry_at : ℕ → List ℕ → Entry
entry_at size bytes = record { file = number (take 4 bytes); at = number (take 8 (drop 4 bytes)); bytes = take size (drop 16 bytes); again = number (take 4 (drop (16 + size) bytes)) }

-- the whole entries at the front, at most so many: one is whole where 20 bytes and its size stand from its start
abbrev pub entries_in : ℕ → List ℕ → List Entry
entries_in zero bytes = []
entries_in (suc most) bytes =
    let size = number (take 4 (drop 12 bytes)) in
    if nat_le (20 + size) (length bytes) then (entry_at size bytes ∷ entries_in most (drop (20 + size) bytes)) else []

-- what a log that is long enough has behind the magic word
unfoldable pub lengths : List ℕ → List ℕ
lengths log = numbers_in 18 (drop 8 log)

abbrev pub entries : List ℕ → List Entry
entries log = entries_in (length log) (drop 152 log)
