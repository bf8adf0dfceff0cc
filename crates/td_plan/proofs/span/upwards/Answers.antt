use mir.Syntax.{w128}
use mir.Val.{of_z, to_z}
use Rattle.std.proofs.Common.{◌≡◌, rules, true}
use Rattle.td_plan.specs.Spans.{lies}
use Rattle.td_plan.proofs.Comparing.{over, up_is}
use Rattle.td_plan.proofs.span.upwards.Goals as goal

pub returns : goal.returns
returns c = λ v.
    let low : to_z w128 (of_z w128 c.args.a) ≡ c.args.a = search rules in
    let high : to_z w128 (of_z w128 c.args.b) ≡ c.args.b = search rules in
    over (to_z w128 (of_z w128 c.args.a)) (to_z w128 (of_z w128 c.args.b)) c.args.a c.args.b v (lies v c.args.a c.args.b ≡ true) low high (up_is v c.args.a c.args.b c.requires)
