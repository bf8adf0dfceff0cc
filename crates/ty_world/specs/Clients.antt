-- One connection.
use Rattle.std.specs.Prelude.{◌&&◌, ◌||◌, ℕ, Bool, true, false, not, List, length, Err, nat_eq, if◌then◌else◌}
use Rattle.tc_base.specs.declared.fields.NotWhole.TheVariants.{Part}
use Rattle.tc_base.specs.Reading.{Front}
use Rattle.ty_memc.specs.declared.text.Piece.{Piece}
use Rattle.ty_memc.specs.Grammar.{piece_at}
use Rattle.ty_ulog.specs.Records.{record_at}
use Rattle.ty_world.specs.Frames.{is_bad, is_whole}

pub data Role : Type 0 where
  -- of a client
  of_client : Role
  -- of a client that asked for all updates above a timestamp, and was owed this by then
  of_feed : (above : ℕ) (base : List ℕ) → Role
  -- to the master: its id was read; it is to be closed for what was looked at
  to_master : (named broken : Bool) → Role

abbrev pub is_client : Role → Bool
is_client of_client = true
is_client (of_feed above base) = false
is_client (to_master named broken) = false

abbrev pub is_fed : Role → Bool
is_fed of_client = false
is_fed (of_feed above base) = true
is_fed (to_master named broken) = false

abbrev pub is_link : Role → Bool
is_link of_client = false
is_link (of_feed above base) = false
is_link (to_master named broken) = true

-- a whole piece stands at the front of the unread bytes, of the master's a record behind the id; what comes of a feed is not looked at
abbrev pub whole_in : Role → List ℕ → Bool
whole_in of_client bytes = is_whole (piece_at bytes)
whole_in (of_feed above base) bytes = false
whole_in (to_master named broken) bytes = named && is_whole (record_at bytes)

-- or what is neither one nor a part of one
abbrev pub bad_in : Role → List ℕ → Bool
bad_in of_client bytes = is_bad (piece_at bytes)
bad_in (of_feed above base) bytes = false
bad_in (to_master named broken) bytes = broken || (named && is_bad (record_at bytes))

pub record Client : Type 0 where
  pub conn : ℕ
  -- all bytes read of it, and those behind what was placed or looked at
  pub input : List ℕ
  pub unread : List ℕ
  pub placed : List Piece
  pub owed : List ℕ
  pub out : List ℕ
  pub gone : Bool
  pub ended : Bool
  -- one above 64
  pub extra : Bool
  -- its last send of this turn took not all
  pub stopped : Bool
  pub role : Role

abbrev pub all_sent : Client → Bool
all_sent k = nat_eq (length k.out) (length k.owed)

abbrev pub has_whole : Client → Bool
has_whole k = whole_in k.role k.unread

abbrev pub has_bad : Client → Bool
has_bad k = bad_in k.role k.unread

-- paused: it holds a whole unserved piece or record, or, but for a feed, unsent bytes
abbrev pub waits : Client → Bool
waits k = (not (is_fed k.role) && not (all_sent k)) || has_whole k

abbrev pub is_ready : Client → Bool
is_ready k = not k.gone && all_sent k

-- to be closed; for what came of it a client only when all was sent
abbrev pub is_over : Client → Bool
is_over k = k.gone || (k.extra || ((is_link k.role || all_sent k) && (has_bad k || (k.ended && not (has_whole k)))))

-- after its sends it was sent all, or its last send said not yet, or gone
abbrev pub is_rested : Client → Bool
is_rested k = all_sent k || k.stopped

-- a client's next piece
abbrev pub piece_of : Client → Front Piece
piece_of k = if is_client k.role then piece_at k.unread else Err Part

abbrev pub front_of : Client → Front Piece
front_of k = if is_ready k then piece_of k else Err Part
