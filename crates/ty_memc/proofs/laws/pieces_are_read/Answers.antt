use Rattle.ty_memc.proofs.PieceGrammar.{pieces}
use Rattle.ty_memc.proofs.laws.pieces_are_read.Goals as goal

pub returns : goal.returns
returns c = pieces
