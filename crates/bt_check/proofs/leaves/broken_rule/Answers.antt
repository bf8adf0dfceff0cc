use Rattle.std.proofs.Common.{◌∙◌, sym}
use Rattle.bt_check.proofs.Seen.{is_zero, not_zero}
use Rattle.bt_check.proofs.Verdicts.{tied_fails, closed_fails, eighth_fails, leaves_hold}
use Rattle.bt_check.proofs.leaves.broken_rule.Goals as goal

pub returns-then-not-seen-2 : goal.returns-then-not-seen-2
returns-then-not-seen-2 c = λ before ls v. tied_fails before c.args.head.now ls c.args.seen.now v c.if-not-seen.false c.if-not-seen-2.true

pub returns-then-not-is_closed : goal.returns-then-not-is_closed
returns-then-not-is_closed c = λ before ls v. closed_fails before c.args.head.now ls c.args.seen.now v c.is_closed.result c.is_closed.ensures c.if-not-seen.false c.if-not-is_closed.true

pub returns-then-ne : goal.returns-then-ne
returns-then-ne c = λ before ls v. eighth_fails before c.args.head.now ls c.args.seen.now v c.is_closed.result c.is_closed.ensures c.if-not-seen.false c.if-not-seen-2.false c.if-not-is_closed.false (not_zero _ (sym c.if-ne.true ∙ c.ne.ensures))

pub returns : goal.returns
returns c = λ before ls v. leaves_hold before c.args.head.now ls c.args.seen.now v c.is_closed.result c.is_closed.ensures c.if-not-seen.false c.if-not-seen-2.false c.if-not-is_closed.false (is_zero _ (sym c.if-ne.false ∙ c.ne.ensures))
