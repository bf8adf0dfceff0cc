use Rattle.std.proofs.Common.{◌≡◌, drop}
use Rattle.std.specs.List.{list_all}
use Rattle.tc_model.specs.Search.{holds, is_met}
use Rattle.td_query.proofs.conditions.holds.Given as goal

abbrev pub invariant-loop-cond : goal.invariant-loop-cond
invariant-loop-cond l = holds l.q (l.key, l.row) ≡ list_all (is_met (l.key, l.row)) (drop l.cond-index l.q.conds)
