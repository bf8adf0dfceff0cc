-- What a connection's fields say of it.
use Rattle.std.specs.Prelude.{◌==◌, ◌&&◌, ◌||◌, ℕ, Bool, true, false, not, List, length, map}
use Rattle.std.specs.List.{filter, list_any}
use Rattle.ty_memc.specs.Grammar.{piece_at}
use Rattle.ty_ulog.specs.Records.{record_at}
use Rattle.ty_world.specs.Frames.{is_bad, is_whole}
use Rattle.ty_rounds.specs.declared.peer.Peer.{Peer}
use Rattle.ty_rounds.specs.declared.peer.Role.{Role}
use Rattle.ty_rounds.specs.declared.peer.Role.TheVariants.{Client, Fed, Called}

abbrev pub is_client : Role → Bool
is_client Client = true
is_client (Fed f) = false
is_client (Called c) = false

abbrev pub is_fed : Role → Bool
is_fed Client = false
is_fed (Fed f) = true
is_fed (Called c) = false

abbrev pub is_called : Role → Bool
is_called Client = false
is_called (Fed f) = false
is_called (Called c) = true

-- the link, and to be closed for what was looked at
abbrev pub is_broken : Role → Bool
is_broken Client = false
is_broken (Fed f) = false
is_broken (Called c) = c.broken

abbrev pub whole_of : Role → List ℕ → Bool
whole_of Client unread = is_whole (piece_at unread)
whole_of (Fed f) unread = false
whole_of (Called c) unread = c.link.named && is_whole (record_at c.link.unread)

abbrev pub bad_of : Role → List ℕ → Bool
bad_of Client unread = is_bad (piece_at unread)
bad_of (Fed f) unread = false
bad_of (Called c) unread = c.broken || (c.link.named && is_bad (record_at c.link.unread))

abbrev pub has_whole : Peer → Bool
has_whole p = whole_of p.role p.session.unread

abbrev pub has_bad : Peer → Bool
has_bad p = bad_of p.role p.session.unread

abbrev pub all_taken : Peer → Bool
all_taken p = length p.session.waiting == 0

abbrev pub waits : Peer → Bool
waits p = (not (is_fed p.role) && not (all_taken p)) || has_whole p

abbrev pub is_over : Peer → Bool
is_over p = p.gone || (p.extra || ((is_called p.role || all_taken p) && (has_bad p || (p.ended && not (has_whole p)))))

-- a turn has anything to do for it; for a feed it always may
abbrev pub is_busy : Peer → Bool
is_busy p = is_fed p.role || (waits p || is_over p)

abbrev pub numbers : List Peer → List ℕ
numbers ps = map (λ p. p.conn) ps

abbrev pub waiting_numbers : List Peer → List ℕ
waiting_numbers ps = numbers (filter waits ps)

-- how many are clients or feeds: the link is none of the 64
abbrev pub count_clients : List Peer → ℕ
count_clients ps = length (filter (λ p. not (is_called p.role)) ps)

abbrev pub has_link : List Peer → Bool
has_link ps = list_any (λ p. is_called p.role) ps
