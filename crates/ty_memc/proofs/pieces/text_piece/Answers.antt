use Rattle.ty_memc.proofs.PieceGrammar.{again_text}
use Rattle.ty_memc.proofs.PieceFronts.{ok_text}
use Rattle.ty_memc.proofs.pieces.text_piece.Goals as goal

pub read_text-requires : goal.read_text-requires
read_text-requires c = ok_text c.args.bytes.now c.requires.first c.requires.whole

pub returns : goal.returns
returns c = let e = c.in_ok-text.ensures in (e.0, again_text c.in_ok-text.text c.args.bytes.now e.0 c.requires.first e.1)
