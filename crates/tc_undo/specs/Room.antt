-- How much the log needs for old bytes.
use Rattle.std.specs.Prelude.{ℕ, ◌+◌, ◌*◌, ◌/◌, List, Bool, true, false, min}
use Rattle.ud_log.specs.Undo.{length_of}

-- so many bytes in entries of at most 4096
abbrev pub needs : ℕ → ℕ
needs n = n + 20 * ((n + 4095) / 4096)

-- the log's length where its front is there
abbrev pub log_end : Bool → ℕ → ℕ
log_end true end = end
log_end false end = 152

-- the recorded lengths, or those that will be recorded
abbrev pub recorded_of : Bool → List ℕ → List ℕ → List ℕ
recorded_of true recorded lens = recorded
recorded_of false recorded lens = lens

-- where the bytes of a file that need entries end, of those up to a place
abbrev pub stop_of : Bool → List ℕ → List ℕ → ℕ → ℕ → ℕ
stop_of active recorded lens f all = min (min all (length_of (recorded_of active recorded lens) f)) (length_of lens f)
