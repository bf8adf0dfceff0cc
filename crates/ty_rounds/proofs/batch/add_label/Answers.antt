use Rattle.std.proofs.Common.{rules, subst, ◌≡◌}
use Rattle.std.specs.Prelude.{Option, IfSome}
use Rattle.tc_base.specs.LabelTexts.{text_of}
use Rattle.tc_base.specs.declared.label.Label.{Label}
use Rattle.ty_rounds.proofs.Batches.{more_labels, no_label}
use Rattle.ty_rounds.proofs.batch.add_label.Goals as goal

pub returns-in_default : goal.returns-in_default
returns-in_default c = absurd (no_label c.of.result c.args.text.now c.of.ensures.some c.requires.label (search rules))

pub returns : goal.returns
returns c = more_labels c.args.labels.now.items _ c.in-Some.label c.args.text.now c.in_ok-push.ensures.items (subst (λ (o : Option Label). IfSome o (λ l. text_of l ≡ c.args.text.now)) c.in-Some.is c.of.ensures.text)
