use Rattle.std.proofs.Common.{sym, subst, arith}
use Rattle.tc_undo.specs.Guards.{IsSmall}
use Rattle.tc_held.specs.Pieces.{blank}
use Rattle.tc_held.proofs.Taking.{lies_at}
use Rattle.tc_held.proofs.held.Held.piece_before.Goals as goal

pub ends_here-requires-clause-small : goal.ends_here-requires-clause-small
ends_here-requires-clause-small c = let is = c.in_ok-piece.ensures in
    subst IsSmall (sym is.is) (c.requires.tidy.small _ blank is.inside)

pub ends_here-requires-clause-low : goal.ends_here-requires-clause-low
ends_here-requires-clause-low c =
    let now = c.args.self.now in
    omega (arith, lies_at now.bytes.items now.pieces.items _ _ c.requires.tidy c.in_ok-piece.ensures, c.requires.tidy.few)

pub returns : goal.returns
returns c = let e = c.ends_here.ensures c.if-not-ends_here.false in
    record { front = omega (arith, c.if-i-eq0.false); is = c.in_ok-piece.ensures; file = e.0; ends = e.1; last = omega (arith, e.2, c.len.ensures, c.args.self.now.bytes.ok.0) }
