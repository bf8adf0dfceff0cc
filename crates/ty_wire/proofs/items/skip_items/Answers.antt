use Rattle.std.proofs.Common.{◌≡◌, ◌+◌, ◌-◌, suc, [], ◌∷◌, ◌++◌, arith}
use Rattle.std.proofs.lemmas.Result.{err_from_is_err_and}
use Rattle.ty_wire.proofs.ItemLoops.{ahead_step, ahead_stop}
use Rattle.ty_wire.proofs.items.skip_items.Goals as goal

pub returns-in_err-item : goal.returns-in_err-item
returns-in_err-item c =
    let one : c.args.count - c.loop-i.i ≡ suc (c.args.count - (c.loop-i.i + 1)) = omega (arith, c.loop-i-test.true) in
    let p = err_from_is_err_and c.from_residual.result c.from_residual.ensures.1 in
    rw (p.1, p.2) (ahead_stop _ _ _ _ _ _ _ _ _ _ _ c.loop-i.invariant.ahead.1 one c.min-limit.ensures c.in_err-item.ensures.item)

pub loop-i-preserved : goal.loop-i-preserved
loop-i-preserved c =
    let one : c.args.count - c.loop-i.i ≡ suc (c.args.count - (c.loop-i.i + 1)) = omega (arith, c.loop-i-test.true) in
    record {
      room = omega (arith, c.loop-i.invariant.room, c.min-limit.ensures, c.in_ok-item.ensures.short, one);
      ahead = (c.loop-i.invariant.ahead.0 ++ c.in_ok-item.item.now ∷ [], ahead_step _ _ _ _ _ _ _ _ _ _ _ _ c.loop-i.invariant.ahead.1 one c.min-limit.ensures c.in_ok-item.ensures.item);
    }
