use Rattle.ty_ulog.proofs.Pieces.{piece_shows}
use Rattle.ty_ulog.proofs.heads.Piece.hold.Goals as goal

pub returns-clause-shows : goal.returns-clause-shows
returns-clause-shows g c = λ t. record { end_is = (c.requires.shows t).end_is; shows = piece_shows _ _ _ _ _ c.len-len.ensures (c.in_ok-read_front.ensures.bytes t) }
