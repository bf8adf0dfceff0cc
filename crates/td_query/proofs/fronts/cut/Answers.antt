use Rattle.std.proofs.Common.{◌∙◌, ◌++◌, take, reverse, ap}
use Rattle.td_query.proofs.Cutting.{arranged_front, front_stands}
use Rattle.td_query.proofs.fronts.cut.Goals as goal

pub returns : goal.returns
returns c = record {
  stands = λ more. arranged_front c.args.q.now c.in-Some.most c.in-Some-checked_add.n (reverse (c.from_vec.result ++ more)) (reverse (c.args.rows ++ more)) c.in-Some.is c.in-Some-checked_add.ensures.1
      (front_stands c.args.q.now.sort c.in-Some-checked_add.n c.args.rows c.from_vec.result more (c.from_vec.ensures ∙ (c.truncate.ensures.items ∙ ap (take c.in-Some-checked_add.n) (c.into_vec-all.ensures ∙ c.in_ok-sorted.ensures))));
}
