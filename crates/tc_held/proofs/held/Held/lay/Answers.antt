use Rattle.std.proofs.Common.{List, subst, sym}
use Rattle.tc_undo.specs.Pieces.{laid}
use Rattle.tc_undo.specs.declared.piece.Piece.{Piece}
use Rattle.tc_held.specs.Shown.{LaysAll, Shows}
use Rattle.tc_held.proofs.held.Held.lay.Goals as goal

pub returns-then-is_empty-clause-lays : goal.returns-then-is_empty-clause-lays
returns-then-is_empty-clause-lays c =
    let held = c.args.self.now in
    let into = c.args.into.now in
    let lays : LaysAll held.bytes.items held.pieces.items c.args.file c.args.at into into = record {
      each = λ old reached shows. subst (λ (ps : List Piece). Shows into c.args.at (laid held.bytes.items ps c.args.file old)) (sym (c.is_empty.ensures.none c.if-is_empty.true)) shows;
    } in
    lays
