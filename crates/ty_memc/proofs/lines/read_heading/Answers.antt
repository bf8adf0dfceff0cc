use Rattle.std.proofs.Common.{rules}
use Rattle.ty_memc.specs.declared.text.Text.TheVariants.{Other}
use Rattle.ty_memc.specs.Words.{words}
use Rattle.ty_memc.specs.Lines.{or_other, plain}
use Rattle.ty_memc.proofs.Headings.{no_words, stores_line, bad_store, quits, says_plain}
use Rattle.ty_memc.proofs.lines.read_heading.Goals as goal

pub returns-in_default : goal.returns-in_default
returns-in_default c = (Other, no_words (words c.args.line.now) (search rules))

pub returns-in-Some-store_words : goal.returns-in-Some-store_words
returns-in-Some-store_words c = stores_line (words c.args.line.now) _ _ _ _ c.in-Some.ensures.word (search rules) c.in-Some-store_words.ensures

pub returns-in-None : goal.returns-in-None
returns-in-None c = bad_store (words c.args.line.now) _ _ _ c.in-Some.ensures.word (search rules) c.in-None.ensures

pub returns-then-is-is_done : goal.returns-then-is-is_done
returns-then-is-is_done c = quits (words c.args.line.now) _ _ c.in-Some.ensures.word (search rules) (search rules)

pub returns : goal.returns
returns c = (or_other (plain c.in-Some.word.now (words c.in-Some.rest.now)), says_plain (words c.args.line.now) _ _ c.in-Some.ensures.word (search rules) (search rules))
