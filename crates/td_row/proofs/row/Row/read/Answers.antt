use Rattle.std.proofs.Common.{List, ℕ, sym, subst}
use Rattle.tc_base.specs.Lists.{pair}
use Rattle.tc_model.specs.Rows.{Row, has}
use Rattle.td_row.proofs.Reading.{Progress, progress_start, progress_put, stopped, repeated, ended, ended_only, shorter, none_left, some_left, is_absent, is_there}
use Rattle.td_row.proofs.row.Row.read.Goals as goal

pub loop-rest-init : goal.loop-rest-init
loop-rest-init c = subst (λ (r : Row). Progress c.args.bytes.now r c.args.bytes.now) (sym c.new-row.ensures) (progress_start c.args.bytes.now)

pub put-requires : goal.put-requires
put-requires c = c.in-Some.ensures.found.column

pub loop-rest-preserved : goal.loop-rest-preserved
loop-rest-preserved c =
    progress_put c.args.bytes.now c.loop-rest.row c.put.new.self c.loop-rest.rest.now (pair c.in-Some.name.now c.in-Some.value.now) c.in-Some.behind.now c.loop-rest.invariant c.in-Some.ensures.found c.in_ok-put.ensures.set
    (is_absent (has c.loop-rest.row c.in-Some.name.now) _ c.in_ok-put.ensures.new c.if-not-branch.false)

pub loop-rest-smaller : goal.loop-rest-smaller
loop-rest-smaller c = shorter c.loop-rest.rest.now (pair c.in-Some.name.now c.in-Some.value.now) c.in-Some.behind.now c.in-Some.ensures.found

pub returns-in_default-clause-bad : goal.returns-in_default-clause-bad
returns-in_default-clause-bad c = λ _. stopped c.args.bytes.now c.loop-rest.row c.loop-rest.rest.now (some_left c.loop-rest.rest.now c.loop-rest-test.ensures) c.loop-rest.invariant c.in_default.ensures.none

pub returns-then-not-branch-clause-bad : goal.returns-then-not-branch-clause-bad
returns-then-not-branch-clause-bad c = λ _.
    repeated c.args.bytes.now c.loop-rest.row c.loop-rest.rest.now (pair c.in-Some.name.now c.in-Some.value.now) c.in-Some.behind.now c.loop-rest.invariant c.in-Some.ensures.found
    (is_there (has c.loop-rest.row c.in-Some.name.now) _ c.in_ok-put.ensures.new c.if-not-branch.true)

pub returns-clause-found : goal.returns-clause-found
returns-clause-found c = ended c.args.bytes.now c.loop-rest.row (subst (λ (r : List ℕ). Progress c.args.bytes.now c.loop-rest.row r) (none_left c.loop-rest.rest.now c.loop-rest-test.ensures) c.loop-rest.invariant)

pub returns-clause-only : goal.returns-clause-only
returns-clause-only c = ended_only c.args.bytes.now c.loop-rest.row (subst (λ (r : List ℕ). Progress c.args.bytes.now c.loop-rest.row r) (none_left c.loop-rest.rest.now c.loop-rest-test.ensures) c.loop-rest.invariant)
