use Rattle.std.proofs.Common.{◌+◌, ◌<◌, drop, get_or, length, subst, arith, List}
use Rattle.tc_undo.specs.declared.piece.Piece.{Piece}
use Rattle.tc_undo.proofs.Putting.{next_pieces}
use Rattle.tc_held.specs.Pieces.{EndsBehind, blank}
use Rattle.tc_held.specs.Shown.{LaysSome}
use Rattle.tc_held.proofs.Ascending.{begins_if, rest_at}
use Rattle.tc_held.proofs.Showing.{some_first, some_last, some_more}
use Rattle.tc_held.proofs.overlay.lay_from.Goals as goal

pub loop-i-init : goal.loop-i-init
loop-i-init c = record {
  long = omega arith;
  from = omega arith;
  within = c.requires.parts.inside;
  some = λ old r shows. some_first c.args.bytes.now c.args.pieces.now c.args.file c.args.at old c.args.into.now c.args.first c.requires.lie c.requires.parts r shows;
}

pub lay_one-requires-clause-lies : goal.lay_one-requires-clause-lies
lay_one-requires-clause-lies c = c.requires.lie c.loop-i.i blank c.loop-i-test.true

pub lay_one-requires-clause-small : goal.lay_one-requires-clause-small
lay_one-requires-clause-small c = c.requires.small c.loop-i.i blank c.loop-i-test.true

pub loop-i-preserved : goal.loop-i-preserved
loop-i-preserved c =
    let ps = c.args.pieces.now in
    let i = c.loop-i.i in
    record {
      long = omega (arith, c.loop-i.invariant.long, c.lay_one.ensures.long);
      from = omega (arith, c.loop-i.invariant.from);
      within = omega (arith, c.loop-i-test.true);
      some = λ old r shows.
          let was = subst (λ (l : List Piece). LaysSome c.args.bytes.now ps c.args.file c.args.at old c.loop-i.into l) (next_pieces ps i c.loop-i-test.true) (c.loop-i.invariant.some old r shows) in
          some_more c.args.bytes.now ps c.args.file c.args.at old c.loop-i.into c.lay_one.new.into (get_or ps i blank) (drop (i + 1) ps) was c.lay_one.ensures.lays;
    }

pub returns-clause-lays : goal.returns-clause-lays
returns-clause-lays c = record {
  each = λ old r shows. some_last c.args.bytes.now c.args.pieces.now c.args.file c.args.at old c.loop-i.into c.loop-i.i c.requires.lie c.requires.ascend c.loop-i.invariant.within (λ low. absurd (omega (arith, low, c.loop-i-test.false))) (c.loop-i.invariant.some old r shows);
}

-- it meets a piece that begins behind the stretch
pub returns-then-is_past-clause-lays : goal.returns-then-is_past-clause-lays
returns-then-is_past-clause-lays c =
    let ps = c.args.pieces.now in
    let i = c.loop-i.i in
    let f = c.args.file in
    let p = get_or ps i blank in
    let into = c.loop-i.into in
    let low : i < length ps = c.loop-i-test.true in
    let behind = rest_at (EndsBehind f c.args.at) ps c.args.first i c.loop-i.invariant.from low c.requires.parts.rest in
    let next = begins_if f c.args.at (c.args.at + length into) p behind (λ same. omega (arith, c.is_past.ensures c.if-is_past.true same, c.saturating_add-end.ensures, (c.requires.small i blank low).small, c.loop-i.invariant.long)) in
    record { each = λ old r shows. some_last c.args.bytes.now ps f c.args.at old into i c.requires.lie c.requires.ascend c.loop-i.invariant.within (λ _. next) (c.loop-i.invariant.some old r shows) }
