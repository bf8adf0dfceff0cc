use Rattle.std.proofs.Common.{arith}
use Rattle.tc_undo.proofs.Running.{first_secured, first_small, puts_first, run_first}
use Rattle.tc_undo.proofs.pieces.put_run.Goals as goal

pub put_piece-requires-clause-small : goal.put_piece-requires-clause-small
put_piece-requires-clause-small g c =
    let r = c.requires in
    first_small _ _ _ _ _ r.may 1 _ (omega arith) r.some (run_first _ _ r.some r.may.lie)

pub put_piece-requires-clause-secured : goal.put_piece-requires-clause-secured
put_piece-requires-clause-secured g c =
    let r = c.requires in
    first_secured _ _ _ _ _ r.may 1 _ (omega arith) r.some (run_first _ _ r.some r.may.lie)

pub returns-then-run-le1-clause-puts : goal.returns-then-run-le1-clause-puts
returns-then-run-le1-clause-puts g c =
    let r = c.requires in
    puts_first _ _ _ _ _ r.may 1 _ (omega arith) r.some (run_first _ _ r.some r.may.lie) _ _ _ c.in_ok-put_piece.ensures.puts

pub put_piece-requires-2-clause-small : goal.put_piece-requires-2-clause-small
put_piece-requires-2-clause-small g c =
    let r = c.requires in
    first_small _ _ _ _ _ r.may _ _ (omega (arith, c.if-run-le1.false)) r.some c.join-run.ensures.run

pub put_piece-requires-2-clause-secured : goal.put_piece-requires-2-clause-secured
put_piece-requires-2-clause-secured g c =
    let r = c.requires in
    first_secured _ _ _ _ _ r.may _ _ (omega (arith, c.if-run-le1.false)) r.some c.join-run.ensures.run

pub returns-clause-puts : goal.returns-clause-puts
returns-clause-puts g c =
    let r = c.requires in
    puts_first _ _ _ _ _ r.may _ _ (omega (arith, c.if-run-le1.false)) r.some c.join-run.ensures.run _ _ _ c.in_ok-put_piece-2.ensures.puts
