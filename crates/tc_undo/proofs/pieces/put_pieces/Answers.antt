use Rattle.std.proofs.Common.{◌-◌, length, drop, subst, arith, List, length-take, length-drop}
use Rattle.std.proofs.lemmas.List.{take_all}
use Rattle.tc_undo.specs.Guards.{PutsRun}
use Rattle.tc_undo.specs.declared.piece.Piece.{Piece}
use Rattle.tc_undo.proofs.Running.{may_rest, puts_all, puts_none, puts_rest}
use Rattle.tc_undo.proofs.Volumes.{stays_quiet_refl, stays_quiet_then}
use Rattle.tc_undo.proofs.pieces.put_pieces.Goals as goal

pub loop-i-init : goal.loop-i-init
loop-i-init g c = record {
  low = omega arith;
  quiet = stays_quiet_refl g.V.Volume c.args.vol.now c.requires.bound;
  puts = puts_none _ _ _ _ c.requires.may.knows;
}

pub put_run-requires-clause-may : goal.put_run-requires-clause-may
put_run-requires-clause-may g c = may_rest _ _ _ _ _ _ _ _ _ c.loop-i.invariant.puts c.requires.may

pub loop-i-preserved : goal.loop-i-preserved
loop-i-preserved g c =
    let ps = c.args.pieces.now in
    let i = c.loop-i.i in
    let was = c.loop-i.invariant in
    record {
      low = omega (arith, c.in_ok-count.ensures.count, length-take (length ps - i) (drop i ps), length-drop i ps, was.low);
      quiet = stays_quiet_then g.V.Volume c.args.vol.now c.loop-i.vol c.put_run.new.vol was.quiet c.put_run.ensures.quiet;
      puts = puts_rest _ _ _ _ _ _ _ ps i was.puts _ _ _ _ c.in_ok-count.ensures.puts;
    }

pub returns-clause-puts : goal.returns-clause-puts
returns-clause-puts g c =
    let ps = c.args.pieces.now in
    let all = take_all c.loop-i.i ps c.loop-i-test.false in
    puts_all _ _ _ _ _ _ _ _ ps c.requires.may (subst (λ (l : List Piece). PutsRun g.V.Volume.tells (g.V.Volume.calls c.args.vol.now) (g.V.Volume.calls c.loop-i.vol) c.args.log.now c.loop-i.log c.args.lens.now c.loop-i.lens c.args.bytes.now l) all c.loop-i.invariant.puts)
