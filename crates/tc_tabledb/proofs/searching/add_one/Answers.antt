use Rattle.std.proofs.Common.{◌∙◌}
use Rattle.std.proofs.lemmas.Result.{on_ok_weaker}
use Rattle.tc_tabledb.proofs.Searched.{one_added}
use Rattle.tc_tabledb.proofs.searching.add_one.Goals as goal

pub returns-clause-added : goal.returns-clause-added
returns-clause-added c = on_ok_weaker c.add_items.result (λ rows. one_added c.args.into.now c.add_items.new.rows c.args.row.now c.as_slice.result.now c.as_slice-2.result.now c.as_slice.ensures (c.as_slice-2.ensures ∙ c.in_ok-text.ensures) rows) c.add_items.ensures.rows
