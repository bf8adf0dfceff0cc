use Rattle.std.proofs.Common.{false, Some, ap, ◌∙◌}
use Rattle.tc_base.specs.declared.request.Reply.TheVariants as reply
use Rattle.tc_model.specs.declared.misc.Misc.TheVariants as misc
use Rattle.tc_model.specs.Meaning.{ranged}
use Rattle.tc_model.specs.Rows.{texts_of}
use Rattle.tc_model.specs.Texts.{maximum_of}
use Rattle.ty_answers.specs.Answers.{told_by}
use Rattle.ty_answers.specs.Calls.{meant}
use Rattle.ty_answers.specs.declared.voice.Voice.TheVariants.{Misc}
use Rattle.ty_answers.proofs.Telling.{items_read, range_some, same_effect}
use Rattle.ty_answers.proofs.reads.misc_range.Goals as goal

pub returns-clause-answers : goal.returns-clause-answers
returns-clause-answers g c =
    same_effect g.E.S.Space g.E.Storage.own g.E.Storage.layout g.E.Storage.holds (told_by (λ k. Some (reply.List (texts_of (ranged k c.args.from c.args.to c.in-Some.most))))) (meant (misc.Range c.args.from c.args.maximum.now c.args.to)) reply.FailMisc false c.end_list.result c.args.engine.now c.fill_range-filled.new.engine c.args.space.now c.fill_range-filled.new.space c.args.reply.now c.end_list.new.reply
    (λ k. range_some k c.args.from c.args.maximum.now c.args.to c.in-Some.most (c.in-Some.ensures ∙ ap maximum_of c.as_slice.ensures))
    (items_read g.E.S.Space g.E.Storage.own g.E.Storage.layout g.E.Storage.holds (λ k. texts_of (ranged k c.args.from c.args.to c.in-Some.most)) Misc false c.end_list.result c.and.result c.fill_range-filled.result c.in_ok-rows.rows c.fill_range-filled.new.into c.len-begin.result c.args.engine.now c.fill_range-filled.new.engine c.args.space.now c.fill_range-filled.new.space c.args.reply.now c.end_list.new.reply
    c.len-begin.ensures c.in_ok-rows.ensures.ok c.fill_range-filled.ensures.front c.and.ensures c.fill_range-filled.ensures.rows c.fill_range-filled.ensures.reads c.fill_range-filled.ensures.keeps c.end_list.ensures.ok)
