use Rattle.std.proofs.Common.{arith}
use Rattle.ty_ulog.proofs.Pieces.{piece_shows}
use Rattle.ty_ulog.proofs.heads.Piece.read.Goals as goal

pub returns-clause-shows : goal.returns-clause-shows
returns-clause-shows g c = λ t. record { end_is = c.requires.end t; shows = piece_shows _ _ _ _ _ (omega (arith, c.min-len.ensures)) (c.in_ok-read_front.ensures.bytes t) }
