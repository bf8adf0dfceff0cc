use Rattle.std.proofs.lemmas.List.Elements.{All-push, All-same}
use Rattle.bt_slots.specs.Marks.{IsMark}
use Rattle.bt_cache.proofs.marking.mark_each.Goals as goal

pub returns-in_err-push-clause-each : goal.returns-in_err-push-clause-each
returns-in_err-push-clause-each c = All-same (IsMark c.args.leaf.now) _ _ c.in_err-push.ensures.items c.loop-i.invariant.each

pub loop-i-preserved : goal.loop-i-preserved
loop-i-preserved c =
    let e = c.nth-value.ensures.mark in
    record {
      last = e;
      each = All-same (IsMark c.args.leaf.now) _ _ c.in_ok-push.ensures.items (All-push (IsMark c.args.leaf.now) c.loop-i.each.items c.nth-value.new.mark c.loop-i.invariant.each e);
    }
