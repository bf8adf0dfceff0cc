use Rattle.std.proofs.Common.{◌≡◌, ◌∙◌, ◌-◌, ◌++◌, ◌∷◌, [], Some, List, ℕ, ap, arith, length}
use Rattle.bt_check.proofs.Rests.{entries_more, entries_end}
use Rattle.bt_check.proofs.walking.name_all.Goals as goal

pub loop-i-preserved : goal.loop-i-preserved
loop-i-preserved c =
    let pushed : c.push-in-loop-i.new.self ≡ c.loop-i.next ++ record { bound = Some c.next_entry-child.result.1.now; id = c.next_entry-child.result.0 } ∷ [] = c.in_ok-push-2.ensures.ok ∙ ap (λ (key : List ℕ). c.loop-i.next ++ record { bound = Some key; id = c.next_entry-child.result.0 } ∷ []) c.in_ok-from_slice.ensures in
    entries_more _ c.loop-i.i c.loop-i.rest.now _ _ _ _ _ (omega (arith, c.loop-i-test.true, c.len-i-end.ensures)) c.next_entry-child.ensures c.loop-i.invariant pushed

pub returns : goal.returns
returns c =
    let end : length c.args.node.now.entries - c.loop-i.i ≡ 0 = omega (arith, c.loop-i-test.false, c.len-i-end.ensures) in
    entries_end _ c.loop-i.i c.loop-i.rest.now _ c.loop-i.next end c.loop-i.invariant
