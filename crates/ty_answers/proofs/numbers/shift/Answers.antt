use Rattle.std.proofs.Common.{◌∙◌, true, ap, sym}
use Rattle.tc_model.specs.Misc.{tables}
use Rattle.tc_base.specs.declared.kind.Mode.TheVariants.{Over}
use Rattle.tc_base.specs.declared.request.Reply.TheVariants.{Done, Fail}
use Rattle.tc_engine.specs.Changes.{stored}
use Rattle.ty_answers.specs.Answers.{changed_by}
use Rattle.ty_answers.specs.Requests.{shifted}
use Rattle.ty_answers.proofs.Making.{after_reads, fails_by, if_ok}
use Rattle.ty_answers.proofs.Sums.{shows_shift, table_shifts_none, tables_are}
use Rattle.ty_answers.proofs.numbers.shift.Goals as goal

pub returns-clause-answers : goal.returns-clause-answers
returns-clause-answers g c = if_ok _ (λ done n.
    after_reads g.E.S.Space g.E.Storage.own g.E.Storage.layout g.E.Storage.holds (shifted c.args.key c.args.value.now c.args.width) (changed_by Done (stored Over c.args.key c.in_ok-after.after)) Fail true done _ _ _ _ _ _ _ _ c.in_ok-held.ensures.reads c.in_ok-held.ensures.keeps
    (λ m h. shows_shift m c.args.key c.args.value.now c.args.width c.in_ok-held.held c.in_ok-after.after (tables_are m ∙ ap tables (sym (c.kind.ensures _ m h.1)) ∙ sym c.is_table.ensures ∙ c.if-is_table.false) (c.in_ok-held.ensures.value m h) c.in_ok-after.ensures)
    n) c.store.ensures.answers

pub returns-then-is_table-clause-answers : goal.returns-then-is_table-clause-answers
returns-then-is_table-clause-answers g c =
    fails_by g.E.S.Space g.E.Storage.own g.E.Storage.layout g.E.Storage.holds (shifted c.args.key c.args.value.now c.args.width) Fail true c.args.engine.now c.args.space.now c.args.reply.now _ _ c.requires
    (λ m h. table_shifts_none m c.args.key c.args.value.now c.args.width (tables_are m ∙ ap tables (sym (c.kind.ensures _ m h.1)) ∙ sym c.is_table.ensures ∙ c.if-is_table.true))
    c.fail.ensures.said
