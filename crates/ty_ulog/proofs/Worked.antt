-- Worked rows: two puts of a master with the id 3, whose clock tells 7 each time.
use Rattle.std.proofs.Common.{◌≡◌, ℕ, ◌≤◌, List, [], ◌∷◌, ◌++◌, refl, arith}
use Rattle.std.specs.Prelude.{Some}
use Rattle.tc_base.specs.declared.request.Request.TheVariants.{Put}
use Rattle.ty_wire.specs.Spelling.{spelling}
use Rattle.ty_wire.specs.Reading.{fields_at, request_at}
use Rattle.ty_ulog.specs.declared.reading.RecTake.TheVariants.{Part}
use Rattle.ty_ulog.specs.declared.record.Record.{Record}
use Rattle.ty_ulog.specs.Records.{record_at, record_bytes, IsReadRecord}
use Rattle.ty_ulog.specs.Log.{log_bytes, above, last_of, records_from, records_in, IsLog, IsUpdate}
use Rattle.ty_ulog.specs.Updates.{update_in, IsUpdating}
use Rattle.ty_ulog.specs.Noting.{records_of}

-- put of k with v
abbrev put : List ℕ
put = 0xC8 ∷ 0x10 ∷ 0 ∷ 0 ∷ 0 ∷ 1 ∷ 0 ∷ 0 ∷ 0 ∷ 1 ∷ 0x6B ∷ 0x76 ∷ []

-- a record with these timestamps, in front of 12 bytes
abbrev head : ℕ → ℕ → List ℕ
head stamp before = 0xC9 ∷ 0 ∷ 0 ∷ 0 ∷ 0 ∷ 0 ∷ 0 ∷ 0 ∷ stamp ∷ 0 ∷ 0 ∷ 0 ∷ 0 ∷ 0 ∷ 0 ∷ 0 ∷ before ∷ 0 ∷ 3 ∷ 0 ∷ 3 ∷ 0 ∷ 0 ∷ 0 ∷ 12 ∷ []

abbrev first : List ℕ
first = head 7 0 ++ put

abbrev second : List ℕ
second = head 8 7 ++ put

abbrev two : List Record
two = records_of 3 0 (7 ∷ 7 ∷ []) (put ∷ put ∷ [])

-- the second is one later than the first
pub stamped : two ≡ record { stamp = 7; before = 0; server = 3; master = 3; request = put } ∷ record { stamp = 8; before = 7; server = 3; master = 3; request = put } ∷ []
stamped = refl

pub spelled : log_bytes two ≡ first ++ second
unfolding record_bytes
spelled = refl

pub read : records_in (first ++ second) ≡ two
unfolding records_in records_from record_at
read = refl

-- a byte less at the end is a part of a record
pub part : IsReadRecord (head 8 7 ++ 0xC8 ∷ 0x10 ∷ 0 ∷ 0 ∷ 0 ∷ 1 ∷ 0 ∷ 0 ∷ 0 ∷ 1 ∷ 0x6B ∷ []) Part
unfolding record_at
part = refl

pub update : update_in put ≡ Some (Put (0x6B ∷ []) (0x76 ∷ []))
unfolding update_in request_at fields_at
update = refl

updating : IsUpdating put
unfolding spelling
updating = record { request = Put (0x6B ∷ []) (0x76 ∷ []); fits = ((omega arith, (omega arith, tt)), tt); spells = refl; changes = tt }

is_update : (stamp before : ℕ) → stamp ≤ 8 → before ≤ 8 → IsUpdate (record { stamp = stamp; before = before; server = 3; master = 3; request = put })
is_update stamp before s b = record { fits = record { stamp = omega arith; before = omega arith; server = omega arith; master = omega arith; request = omega arith }; updating = updating }

-- the file is a log
pub is_log : IsLog (first ++ second) two
unfolding record_bytes
is_log = record {
  row = record { parts = refl; updates = (is_update 7 0 (omega arith) (omega arith), (is_update 8 7 (omega arith) (omega arith), tt)) };
  follow = (refl, omega arith, (refl, omega arith, tt));
}

-- a feed from 7 on is owed the second, one from 8 on none
pub owed : above 7 two ≡ record { stamp = 8; before = 7; server = 3; master = 3; request = put } ∷ []
owed = refl

pub owed_none : above 8 two ≡ []
owed_none = refl

pub last : last_of 0 two ≡ 8
last = refl
