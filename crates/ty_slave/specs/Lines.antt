-- What the link of a replica answers, by bytes and timestamps.
use Rattle.std.specs.Prelude.{◌≡◌, ◌<◌, ◌&&◌, ℕ, Bool, true, false, List, [], ◌∷◌, length, drop, nat_eq, nat_lt, nat_le, is_some, Ok, Err, if◌then◌else◌}
use Rattle.std.specs.Int.{w32, from_be_bytes}
use Rattle.tc_base.specs.Reading.{Front}
use Rattle.tc_base.specs.declared.fields.NotWhole.TheVariants as not_whole
use Rattle.ty_ulog.specs.declared.record.Record.{Record}
use Rattle.ty_ulog.specs.Records.{record_at}
use Rattle.ty_ulog.specs.Log.{IsUpdate}
use Rattle.ty_ulog.specs.Updates.{update_in, IsUpdating}
use Rattle.ty_slave.specs.declared.link.Step.{Step}
use Rattle.ty_slave.specs.declared.link.Step.TheVariants.{Part, Master, Take, Old, Gap, Bad}

-- the own id, the last timestamp held, whether the master's id was read, and the bytes behind what was looked at
pub record Line : Type 0 where
  pub own : ℕ
  pub held : ℕ
  pub named : Bool
  pub unread : List ℕ

-- one that follows on, is later and is one whole updating request is to be taken; else one that isn't later is old; else one that
-- doesn't follow on shows a gap; else it is bad
abbrev pub judged : ℕ → Record → Step
judged held r =
    if nat_eq r.before held && nat_lt held r.stamp && is_some (update_in r.request)
    then Take r
    else (if nat_le r.stamp held then Old else (if nat_eq r.before held then Bad else Gap held r.before))

-- one of which it is known that it follows on and is later
abbrev pub judged_next : Record → Step
judged_next r = if is_some (update_in r.request) then Take r else Bad

abbrev pub looked : Line → Front Record → Step × Line
looked l (Ok x) = (judged l.held x.0, record l { unread = x.1 })
looked l (Err not_whole.Part) = (Part, l)
looked l (Err not_whole.Bad) = (Bad, l)

abbrev pub is_refusal : List ℕ → Bool
is_refusal [] = false
is_refusal (b ∷ rest) = nat_eq b 1

-- the master's id in four bytes; a first byte 01 refuses, and so does the own id
abbrev pub introduced : Line → Step × Line
introduced l =
    if is_refusal l.unread then (Bad, l)
    else (if nat_lt (length l.unread) 4 then (Part, l)
    else (if nat_eq (from_be_bytes w32 l.unread) l.own then (Bad, l)
    else (Master (from_be_bytes w32 l.unread), record l { named = true; unread = drop 4 l.unread })))

-- the id, where it wasn't read before; else the record at the front
unfoldable pub stepped : Line → Step × Line
stepped l = if l.named then looked l (record_at l.unread) else introduced l

-- a record follows the last timestamp held, and is later
pub record IsNext (held : ℕ) (r : Record) : Type 0 where
  pub follows : r.before ≡ held
  pub later : held < r.stamp

-- so does the one in front
pub record HasNext (held : ℕ) (bytes : List ℕ) : Type 0 where
  pub front : Record
  pub rest : List ℕ
  pub reads : record_at bytes ≡ Ok (front, rest)
  pub next : IsNext held front

-- what is to be taken is this record, whose request updates
abbrev pub TakesThis : Record → Step → Type 0
TakesThis r s = (q : Record) → s ≡ Take q → (q ≡ r) × IsUpdating q.request

-- what is to be taken may stand in a log
abbrev pub TakesUpdate : Step → Type 0
TakesUpdate s = (r : Record) → s ≡ Take r → IsUpdate r

-- behind the id the record is looked at too
abbrev pub past_id : Step → Step × Line → Step × Line
past_id (Master id) x = stepped x.1
past_id _ x = x

-- the id, where it wasn't read, and the first record: what one round looks at
abbrev pub looks : Line → Step × Line
looks l = past_id (stepped l).0 (stepped l)
