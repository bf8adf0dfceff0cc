use Rattle.std.proofs.Common.{List, ℕ, [], subst, sym}
use Rattle.ty_memc.specs.Fronts.{IsPieceRead, IsPieceSeen, TakesPiece}
use Rattle.ty_core.proofs.unread.Unread.new.Goals as goal

pub look_piece-requires : goal.look_piece-requires
look_piece-requires c = c.new-seen.ensures []

pub invariant_of-result : goal.invariant_of-result
invariant_of-result c = record {
  sighted = record {
    takes = subst (λ (l : List ℕ). TakesPiece l c.look_piece.result) (sym c.new.ensures.items) c.look_piece.ensures.grammar;
    reads = subst (λ (l : List ℕ). IsPieceRead l c.look_piece.result) (sym c.new.ensures.items) c.look_piece.ensures.reading;
    sees = subst (λ (l : List ℕ). IsPieceSeen c.look_piece.new.seen l) (sym c.new.ensures.items) c.look_piece.ensures.seen;
  };
  gathers = tt;
}
