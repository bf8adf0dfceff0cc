-- A round: one piece of each connection that is ready, and then, on a replica, what the link brought.
use Rattle.std.specs.Prelude.{◌≡◌, ◌||◌, ◌&&◌, ℕ, Bool, true, false, not, List, [], ◌∷◌, ◌++◌, map, Ok, Err, nat_eq, if◌then◌else◌}
use Rattle.std.specs.Int.{w32, to_be_bytes}
use Rattle.tc_base.specs.Reading.{Front}
use Rattle.tc_base.specs.declared.request.Request.TheVariants.{Repl}
use Rattle.tc_model.specs.Contents.{Contents, Walk}
use Rattle.ty_memc.specs.declared.text.Piece.{Piece}
use Rattle.ty_memc.specs.declared.text.Piece.TheVariants as piece
use Rattle.ty_pieces.specs.Made.{Made, unmade, made_then}
use Rattle.ty_pieces.specs.Pieces.{Done, done}
use Rattle.ty_ulog.specs.declared.record.Record.{Record}
use Rattle.ty_ulog.specs.Log.{log_bytes, last_of, above}
use Rattle.ty_world.specs.Clients.{Client, Role, of_client, of_feed, to_master, front_of}
use Rattle.ty_world.specs.Links.{Looked, unmoved, look_all}
use Rattle.ty_world.specs.Logs.{Settings, is_replica}

-- ---- one connection

-- a repl without an update log, or with the own id, is refused
abbrev pub feeds : Settings → ℕ → Bool
feeds is server = is.logs && not (nat_eq server is.own)

-- what a repl is answered, which what a piece makes of the database leaves out
abbrev pub repl_reply : Settings → Piece → List ℕ
repl_reply is (piece.Request (Repl timestamp server)) = if feeds is server then to_be_bytes w32 is.own else 1 ∷ []
repl_reply is _ = []

-- what the connection is behind its piece, where it was owed this by then
abbrev pub role_after : Settings → Piece → List ℕ → Role → Role
role_after is (piece.Request (Repl timestamp server)) base role = if feeds is server then of_feed timestamp base else role
role_after is _ base role = role

abbrev pub owed_for : Settings → Piece → Done → List ℕ
owed_for is x d = d.reply ++ repl_reply is x

pub record Served : Type 0 where
  pub made : Made
  pub client : Client

abbrev pub with_served : Settings → Piece → List ℕ → Done → Client → Client
with_served is x rest d k = let owed = k.owed ++ owed_for is x d in record k { unread = rest; placed = k.placed ++ x ∷ []; owed = owed; role = role_after is x owed k.role }

abbrev pub serves : Settings → Client → Piece → List ℕ → Done → Served
serves is k x rest d = record { made = d.made; client = with_served is x rest d k }

abbrev pub served : Settings → Contents → Walk → Client → Front Piece → Served
served is c w k (Ok x) = serves is k x.0 x.1 (done (is_replica is) x.0 c w)
served is c w k (Err e) = record { made = unmade c w; client = k }

-- one connection's next piece, where it is ready and a whole one stands there
unfoldable pub round_one : Settings → Contents → Walk → Client → Served
round_one is c w k = served is c w k (front_of k)

-- ---- all

pub record Round : Type 0 where
  pub made : Made
  pub clients : List Client

-- one piece of each, in ascending number
abbrev pub round_all : Settings → Contents → Walk → List Client → Round
round_all is c w [] = record { made = unmade c w; clients = [] }
round_all is c w (k ∷ ks) =
    let one = round_one is c w k in
    let rest = round_all is one.made.contents one.made.walk ks in
    record { made = made_then one.made rest.made; clients = one.client ∷ rest.clients }

-- the clients' part, and then the link's
pub record Rounded : Type 0 where
  pub round : Round
  pub looked : Looked

-- on a replica the link has its part
abbrev pub look_of : Settings → List Record → Round → Looked
look_of is log r =
    if is_replica is then look_all is.own (last_of 0 log) r.made.contents r.made.walk r.clients
    else record { dealt_is = unmoved r.made.contents r.made.walk false; clients = r.clients }

abbrev pub rounded_by : Settings → List Record → Round → Rounded
rounded_by is log r = record { round = r; looked = look_of is log r }

-- a round over these
abbrev pub round_of_all : Settings → List Record → Contents → Walk → List Client → Rounded
round_of_all is log c w ks = rounded_by is log (round_all is c w ks)

abbrev pub has_any : {A : Type 0} → List A → Bool
has_any [] = false
has_any (x ∷ xs) = true

-- it updated, or took a record
abbrev pub marks_in : Rounded → Bool
marks_in d = has_any d.round.made.updates || has_any d.looked.dealt_is.taken

-- there is anything to commit
abbrev pub commits_of : Rounded → Bool
commits_of d = d.round.made.commits || has_any d.looked.dealt_is.taken

-- with neither it leaves the contents
abbrev pub LeavesIdle : Contents → Rounded → Type 0
LeavesIdle c d = marks_in d ≡ false → d.looked.dealt_is.contents ≡ c

-- with nothing to commit it did neither
abbrev pub MarksCommitted : Rounded → Type 0
MarksCommitted d = commits_of d ≡ false → marks_in d ≡ false

-- ---- feeds

-- a feed is owed all records above its timestamp
abbrev pub fed_by : List Record → Role → Client → Client
fed_by log of_client k = k
fed_by log (of_feed stamp base) k = record k { owed = base ++ log_bytes (above stamp log) }
fed_by log (to_master named broken) k = k

abbrev pub fed : List Record → Client → Client
fed log k = fed_by log k.role k

abbrev pub feed_all : Settings → List Record → List Client → List Client
feed_all is log ks = if is.logs then map (fed log) ks else ks
