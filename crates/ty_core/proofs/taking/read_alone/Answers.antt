use Rattle.std.proofs.Common.{false, refl, arith}
use Rattle.ty_memc.specs.declared.text.Piece.TheVariants as piece
use Rattle.ty_memc.proofs.PieceFronts.{request_there}
use Rattle.ty_memc.proofs.PieceGrammar.{again_request}
use Rattle.ty_core.proofs.Fronts.{front_is, small_taken}
use Rattle.ty_core.proofs.taking.read_alone.Goals as goal

pub read_request-requires : goal.read_request-requires
read_request-requires c = request_there c.args.unread.now (λ i. omega (arith, c.type_inv.unread i)) c.requires.first c.requires.whole

pub returns : goal.returns
returns c =
    let e = c.in-Ok.ensures in
    λ n is. small_taken n c.args.unread.now _ false (λ i. omega (arith, c.type_inv.unread i)) (front_is n c.args.unread.now (piece.Request c.in-Ok.request) is (e.1.0, again_request c.in-Ok.request c.args.unread.now e.1.0 e.0 e.1.1)) refl
