use Rattle.std.proofs.Common.{arith}
use Rattle.ty_memc.proofs.PieceGrammar.{again_request}
use Rattle.ty_memc.proofs.PieceFronts.{request_there}
use Rattle.ty_memc.proofs.pieces.request_piece.Goals as goal

pub read_request-requires : goal.read_request-requires
read_request-requires c = request_there c.args.bytes.now (λ i. omega (arith, c.type_inv.bytes i)) c.requires.first c.requires.whole

pub returns : goal.returns
returns c = let e = c.in_ok-request.ensures in (e.1.0, again_request c.in_ok-request.request c.args.bytes.now e.1.0 e.0 e.1.1)
