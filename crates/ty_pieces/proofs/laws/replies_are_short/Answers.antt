use Rattle.ty_pieces.proofs.PieceLaws.{piece_small}
use Rattle.ty_pieces.proofs.laws.replies_are_short.Goals as goal

pub returns : goal.returns
returns c = piece_small
