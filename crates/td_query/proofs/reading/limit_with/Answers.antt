use Rattle.std.proofs.Common.{◌∙◌, ap}
use Rattle.tc_model.specs.Queries.{limit_of}
use Rattle.td_query.proofs.reading.limit_with.Goals as goal

pub returns : goal.returns
returns c = c.limit_of.ensures ∙ ap (limit_of c.args.text.now) c.count_of.ensures
