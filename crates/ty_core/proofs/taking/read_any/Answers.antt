use Rattle.std.proofs.Common.{Bool, ap, ◌∙◌, take, arith}
use Rattle.std.specs.Prelude.{Some, None, if◌then◌else◌}
use Rattle.ty_core.proofs.Fronts.{front_is, is_ok_whole, small_taken}
use Rattle.ty_core.proofs.taking.read_any.Goals as goal

pub read_piece-requires : goal.read_piece-requires
read_piece-requires c = is_ok_whole c.args.whole c.args.unread.now c.requires

pub returns : goal.returns
returns c =
    small_taken c.args.whole c.args.unread.now _ c.args.logs (λ i. omega (arith, c.type_inv.unread i)) (front_is c.args.whole c.args.unread.now _ c.requires c.in_ok-piece.ensures)
    (c.in_ok-copied.ensures ∙ ap (λ (b : Bool). if b then Some (take c.args.whole c.args.unread.now) else None) c.is_copied.ensures)
