use Rattle.std.proofs.Common.{◌∙◌, sym}
use Rattle.tc_model.specs.Stores.{first_pair}
use Rattle.tc_engine.specs.Rows.{pair_rows}
use Rattle.ty_answers.proofs.Filling.{long_stays}
use Rattle.ty_answers.proofs.reads.fill_pair.Goals as goal

pub returns-then-is_long-clause-rows : goal.returns-then-is_long-clause-rows
returns-then-is_long-clause-rows g c = λ k held. long_stays c.args.into.now (pair_rows (first_pair k c.args.key.now)) (sym c.is_long.ensures ∙ c.if-is_long.true)
