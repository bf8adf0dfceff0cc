use Rattle.std.proofs.Common.{◌≡◌, ◌+◌, ◌-◌, ℕ, List, suc, [], ◌∷◌, ◌++◌, arith, length, sym, subst, ap, ◌∙◌}
use Rattle.ty_wire.proofs.ItemLoops.{Ahead, ahead_step, ahead_stop, not_refused}
use Rattle.ty_wire.proofs.items.copy_items.Goals as goal

pub unreachable-requires : goal.unreachable-requires
unreachable-requires c =
    let one : c.args.count - c.loop-i.i ≡ suc (c.args.count - (c.loop-i.i + 1)) = omega (arith, c.loop-i-test.true) in
    not_refused _ _ c.requires.whole (ahead_stop _ _ _ _ _ _ _ _ _ _ _ c.loop-i.invariant.ahead one c.min-limit.ensures c.in_default.ensures.item)

pub loop-i-preserved : goal.loop-i-preserved
loop-i-preserved c =
    let one : c.args.count - c.loop-i.i ≡ suc (c.args.count - (c.loop-i.i + 1)) = omega (arith, c.loop-i-test.true) in
    let more : c.push.new.self ≡ c.loop-i.items ++ c.in-Ok.item.now ∷ [] = c.in_ok-push.ensures.ok ∙ ap (λ (x : List ℕ). c.loop-i.items ++ x ∷ []) c.in_ok-from_slice.ensures in
    record {
      room = omega (arith, c.loop-i.invariant.room, c.min-limit.ensures, c.in-Ok.ensures.short, one);
      ahead = subst (Ahead c.args.most c.args.count c.args.left c.args.bytes.now (c.args.count - (c.loop-i.i + 1)) (c.loop-i.spare - 4 - length c.in-Ok.item.now) c.in-Ok.behind.now) (sym more)
          (ahead_step _ _ _ _ _ _ _ _ _ _ _ _ c.loop-i.invariant.ahead one c.min-limit.ensures c.in-Ok.ensures.item);
    }
