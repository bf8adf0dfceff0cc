use Rattle.std.proofs.Common.{◌∙◌, ◌++◌, Some, refl, sym}
use Rattle.std.proofs.lemmas.Result.{IfOk-weaker}
use Rattle.tc_table.specs.Searching.{AreOne, found_row}
use Rattle.tc_table.proofs.Gathering.{as_one, is_asked, not_asked}
use Rattle.tc_table.proofs.searching.with_one.Goals as goal

pub returns-then-not-holds : goal.returns-then-not-holds
returns-then-not-holds c = not_asked c.args.q.now c.args.key.now c.args.row (Some c.args.row) c.args.rows refl (sym c.holds.ensures ∙ c.if-not-holds.true)

pub returns-then-not-are_many : goal.returns-then-not-are_many
returns-then-not-are_many c =
    as_one c.args.q.now c.push.new.self c.push.new.self (c.args.rows ++ found_row c.args.q.now c.args.key.now (Some c.args.row))
    (is_asked c.args.q.now c.args.key.now c.in_ok-at.at c.args.row (Some c.args.row) c.args.rows c.push.new.self refl (sym c.holds.ensures ∙ c.if-not-holds.false) c.in_ok-at.ensures c.in_ok-push.ensures.ok) (λ more. refl)

pub returns : goal.returns
returns c =
    IfOk-weaker _ _ (λ fs. AreOne c.args.q.now fs (c.args.rows ++ found_row c.args.q.now c.args.key.now (Some c.args.row))) (λ fs one.
    as_one c.args.q.now fs c.push.new.self (c.args.rows ++ found_row c.args.q.now c.args.key.now (Some c.args.row))
    (is_asked c.args.q.now c.args.key.now c.in_ok-at.at c.args.row (Some c.args.row) c.args.rows c.push.new.self refl (sym c.holds.ensures ∙ c.if-not-holds.false) c.in_ok-at.ensures c.in_ok-push.ensures.ok) one) c.cut.ensures.stands
