use Rattle.std.proofs.Common.{◌∙◌, ap}
use Rattle.std.proofs.lemmas.Result.{IfOk-weaker}
use Rattle.bt_tree.specs.Meaning.{AnswersPairs}
use Rattle.bt_cursor.specs.Places.{end_first, ends_above}
use Rattle.bt_cursor.proofs.Movings.{inside_above}
use Rattle.bt_cursor.proofs.looking.above.Goals as goal

pub returns-clause-value : goal.returns-clause-value
returns-clause-value g c =
    IfOk-weaker _ _ (AnswersPairs g.R.S.Space g.R.Records g.O.Order (ends_above g.O.Order.cmp c.args.key.now) c.args.tree.now c.args.space.now) (λ end answers. λ ps means. answers ps means ∙ ap end_first (inside_above g.O.Order.cmp c.args.key.now ps)) c.first_in.ensures.value
