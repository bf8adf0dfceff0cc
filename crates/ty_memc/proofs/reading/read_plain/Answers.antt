use Rattle.std.proofs.Common.{rules, ap, ◌∙◌, sym}
use Rattle.ty_memc.specs.declared.text.Text.{Text}
use Rattle.ty_memc.specs.Words.{words}
use Rattle.ty_memc.specs.Lines.{says}
use Rattle.ty_memc.proofs.Headings.{no_words}
use Rattle.ty_memc.proofs.Copied.{if_ok, says_only}
use Rattle.ty_memc.proofs.reading.read_plain.Goals as goal

pub returns-in_default : goal.returns-in_default
returns-in_default c = no_words (words c.args.line.now) (search rules)

pub returns : goal.returns
returns c = if_ok c.read_keyed.result (λ (t : Text) is. says_only (words c.args.line.now) c.in-Some.word.now (words c.in-Some.rest.now) c.requires.0 c.in-Some.ensures.word c.requires.1 ∙ ap says (sym is)) c.read_keyed.ensures
