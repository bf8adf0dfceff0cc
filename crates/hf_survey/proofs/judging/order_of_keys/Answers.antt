use Rattle.std.proofs.Common.{◌∙◌, sym}
use Rattle.hf_tree.proofs.Orders.{slice_equal}
use Rattle.hf_survey.proofs.KeyFronts.{order_of_fronts}
use Rattle.hf_survey.proofs.judging.order_of_keys.Goals as goal

pub order_behind-requires-clause-same : goal.order_behind-requires-clause-same
order_behind-requires-clause-same g c = (c.requires.same, slice_equal c.args.a.now.front c.args.b.now.front (sym c.cmp.ensures ∙ c.in-Equal.is))

pub returns-in_default-clause-order : goal.returns-in_default-clause-order
returns-in_default-clause-order g c = λ t. order_of_fronts c.args.a.now c.args.b.now (g.S.Space.now c.args.space.now c.args.file) (c.requires.first t) (c.requires.second t) c.requires.same c.cmp.result c.cmp.ensures c.in_default.not-Equal
