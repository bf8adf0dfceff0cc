use Rattle.std.proofs.Common.{◌∙◌, ap, sym}
use Rattle.std.specs.Prelude.{◌%◌, ◌==◌, ◌&&◌}
use Rattle.tc_base.specs.declared.request.Reply.TheVariants.{FailMisc}
use Rattle.tc_model.specs.Apply.{called}
use Rattle.tc_model.specs.Misc.{misc_of, updates_call}
use Rattle.ty_answers.specs.Calls.{meant, misc_updates}
use Rattle.ty_answers.proofs.Calling.{called_is, called_long, quieter, shown, shown_full}
use Rattle.ty_answers.proofs.Making.{fails_by, if_ok}
use Rattle.ty_answers.proofs.Naming.{updates_named}
use Rattle.ty_answers.proofs.misc.call.Goals as goal

pub returns-then-not-has_short_keys-clause-answers : goal.returns-then-not-has_short_keys-clause-answers
returns-then-not-has_short_keys-clause-answers g c =
    let s = g.E.S.Space in
    let holds = g.E.Storage.holds in
    let name = c.args.name.now in
    let args = c.args.args in
    let options = c.args.options in
    let misc = c.in-Some.misc in
    let kept = ap (λ u. options % 2 == 1 && u) (sym c.requires.updating) ∙ (sym c.is_omitted.ensures ∙ c.if-is_omitted.false) in
    let read = ap (λ n. misc_of n args c.kind.result) (sym c.as_slice.ensures) ∙ (sym c.in_ok-misc.ensures ∙ c.in-Some.is) in
    let long = sym c.has_short_keys.ensures ∙ c.if-not-has_short_keys.true in
    fails_by s g.E.Storage.own g.E.Storage.layout holds (called name options args) FailMisc (updates_call name args) c.args.engine.now c.args.space.now c.args.reply.now _ _ c.requires.ready
    (λ m h. called_long name options args misc m kept (ap (misc_of name args) (sym (c.kind.ensures _ m h.1)) ∙ read) long)
    c.fail-then-not-has_short_keys.ensures.said

pub returns-clause-answers : goal.returns-clause-answers
returns-clause-answers g c =
    let s = g.E.S.Space in
    let holds = g.E.Storage.holds in
    let name = c.args.name.now in
    let args = c.args.args in
    let options = c.args.options in
    let misc = c.in-Some.misc in
    let kept = ap (λ u. options % 2 == 1 && u) (sym c.requires.updating) ∙ (sym c.is_omitted.ensures ∙ c.if-is_omitted.false) in
    let read = ap (λ n. misc_of n args c.kind.result) (sym c.as_slice.ensures) ∙ (sym c.in_ok-misc.ensures ∙ c.in-Some.is) in
    let short = sym c.has_short_keys.ensures ∙ c.if-not-has_short_keys.false in
    if_ok _ (λ done n.
    shown s g.E.Storage.own g.E.Storage.layout holds (called name options args) (meant misc) FailMisc (updates_call name args) done c.args.engine.now c.perform.new.engine c.args.space.now c.perform.new.space c.args.reply.now c.perform.new.reply
    (λ m h. called_is name options args misc m kept (ap (misc_of name args) (sym (c.kind.ensures _ m h.1)) ∙ read) short)
    (quieter s g.E.Storage.own g.E.Storage.layout holds (meant misc) FailMisc (misc_updates misc) (updates_call name args) done c.args.engine.now c.perform.new.engine c.args.space.now c.perform.new.space c.args.reply.now c.perform.new.reply (updates_named name args c.kind.result misc read) n)) c.perform.ensures.answers

pub returns-clause-full : goal.returns-clause-full
returns-clause-full g c =
    let s = g.E.S.Space in
    let holds = g.E.Storage.holds in
    let name = c.args.name.now in
    let args = c.args.args in
    let options = c.args.options in
    let misc = c.in-Some.misc in
    let kept = ap (λ u. options % 2 == 1 && u) (sym c.requires.updating) ∙ (sym c.is_omitted.ensures ∙ c.if-is_omitted.false) in
    let read = ap (λ n. misc_of n args c.kind.result) (sym c.as_slice.ensures) ∙ (sym c.in_ok-misc.ensures ∙ c.in-Some.is) in
    let short = sym c.has_short_keys.ensures ∙ c.if-not-has_short_keys.false in
    λ is. shown_full s holds g.E.Storage.fills (called name options args) (meant misc) c.args.engine.now c.args.space.now c.perform.new.space
    (λ m h. called_is name options args misc m kept (ap (misc_of name args) (sym (c.kind.ensures _ m h.1)) ∙ read) short)
    (c.perform.ensures.full is)

pub returns-clause-writes : goal.returns-clause-writes
returns-clause-writes g c =
    let name = c.args.name.now in
    let args = c.args.args in
    let read = ap (λ n. misc_of n args c.kind.result) (sym c.as_slice.ensures) ∙ (sym c.in_ok-misc.ensures ∙ c.in-Some.is) in
    λ is. updates_named name args c.kind.result c.in-Some.misc read (c.perform.ensures.writes is)
