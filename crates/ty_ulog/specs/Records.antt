-- Update records as bytes. Numbers have their greatest byte first.
use Rattle.std.specs.Prelude.{◌≡◌, ◌<◌, ◌≤◌, ◌/◌, ◌%◌, ◌==◌, ℕ, List, [], ◌∷◌, ◌++◌, length, drop, Ok, Err, if◌then◌else◌}
use Rattle.std.specs.Int.{w16, to_be_bytes}
use Rattle.tc_base.specs.declared.fields.NotWhole.TheVariants as not_whole
use Rattle.tc_base.specs.Reading.{Front, ◌>>=◌, byte_at}
use Rattle.ty_wire.specs.Form.{Field, text, word, long, Heads, Values, long_bytes}
use Rattle.ty_wire.specs.Prefixes.{IsPrefix, IsPart}
use Rattle.ty_wire.specs.Spelling.{size}
use Rattle.ty_wire.specs.Reading.{heads_then, values_at}
use Rattle.ty_ulog.specs.declared.record.Record.{Record}
use Rattle.ty_ulog.specs.declared.record.RecordRef.{RecordRef}
use Rattle.ty_ulog.specs.declared.reading.RecTake.{RecTake}
use Rattle.ty_ulog.specs.declared.reading.RecTake.TheVariants.{Whole, Part, Bad}

-- C9, the timestamp, the one before it, the two ids, and the request with its size in front
abbrev pub tail_bytes : Record → List ℕ
tail_bytes r = long_bytes r.stamp ++ (long_bytes r.before ++ (to_be_bytes w16 r.server ++ (to_be_bytes w16 r.master ++ (size r.request ++ r.request))))

unfoldable pub record_bytes : Record → List ℕ
record_bytes r = 0xC9 ∷ tail_bytes r

-- what is within the limits
pub record Fits (r : Record) : Type 0 where
  pub stamp : r.stamp < 18446744073709551616
  pub before : r.before < 18446744073709551616
  pub server : r.server < 65536
  pub master : r.master < 65536
  pub request : length r.request ≤ 33554432

-- a front of these came behind what was there
pub record Begins (old new whole : List ℕ) : Type 0 where
  pub front : List ℕ
  pub is_front : IsPrefix front whole
  pub parts : new ≡ old ++ front

-- the record, wherever its request lies
abbrev pub seen : RecordRef → Record
seen r = record { stamp = r.stamp; before = r.before; server = r.server; master = r.master; request = r.request.now }

-- ---- the record at the front of bytes, read from left to right; the two ids are read as one number

abbrev pub fields : List Field
fields = long ∷ long ∷ word ∷ text 33554432 ∷ []

abbrev pub record_of : Values fields → Record
record_of v = record { stamp = v.0; before = v.1.0; server = v.1.1.0 / 65536; master = v.1.1.0 % 65536; request = v.1.1.1.0 }

abbrev pub heads_at : List ℕ → Front (Heads fields)
heads_at bytes = heads_then fields (λ h rest. Ok (h, rest)) bytes

-- all but the request
abbrev pub behind_mark : ℕ → List ℕ → Front (Heads fields)
behind_mark tag rest = if tag == 0xC9 then heads_at rest else Err not_whole.Bad

unfoldable pub head_at : List ℕ → Front (Heads fields)
head_at bytes = byte_at bytes >>= λ tag. behind_mark tag.0 tag.1

abbrev pub behind_tag : ℕ → List ℕ → Front Record
behind_tag tag rest = if tag == 0xC9 then (values_at fields rest >>= λ v. Ok (record_of v.0, v.1)) else Err not_whole.Bad

unfoldable pub record_at : List ℕ → Front Record
record_at bytes = byte_at bytes >>= λ tag. behind_tag tag.0 tag.1

pub record IsReadAs (bytes : List ℕ) (r : Record) (rest : List ℕ) : Type 0 where
  pub is : record_at bytes ≡ Ok (r, rest)

-- ---- what `take_record` answers

-- by the spellings alone
abbrev pub TakesRecord : List ℕ → RecTake → Type 0
TakesRecord bytes (Whole n) = (r : Record) × Fits r × (length (record_bytes r) ≡ n) × IsPrefix (record_bytes r) bytes
TakesRecord bytes Part = (r : Record) × Fits r × IsPart bytes (record_bytes r)
TakesRecord bytes Bad = (r : Record) → Fits r → (IsPrefix (record_bytes r) bytes → ⊥) × (IsPart bytes (record_bytes r) → ⊥)

-- at most one record stands at the front: no spelling is a prefix of another
abbrev pub HasOneRecord : List ℕ → Type 0
HasOneRecord bytes = (r s : Record) → Fits r → Fits s → IsPrefix (record_bytes r) bytes → IsPrefix (record_bytes s) bytes → r ≡ s

-- the same, as reading from left to right says
abbrev pub IsReadRecord : List ℕ → RecTake → Type 0
IsReadRecord bytes (Whole n) = (r : Record) × (n ≤ length bytes) × (record_at bytes ≡ Ok (r, drop n bytes))
IsReadRecord bytes Part = record_at bytes ≡ Err not_whole.Part
IsReadRecord bytes Bad = record_at bytes ≡ Err not_whole.Bad
