use Rattle.std.proofs.Common.{◌∙◌, sym}
use Rattle.tc_model.specs.Stores.{all_pairs}
use Rattle.tc_engine.specs.Rows.{text_rows}
use Rattle.ty_answers.proofs.Filling.{long_stays}
use Rattle.ty_answers.proofs.reads.fill_each.Goals as goal

pub returns-then-is_long-clause-rows : goal.returns-then-is_long-clause-rows
returns-then-is_long-clause-rows g c = λ k held. long_stays c.args.into.now (text_rows (all_pairs k c.args.key.now)) (sym c.is_long.ensures ∙ c.if-is_long.true)
