use Rattle.std.proofs.Common.{◌∙◌}
use Rattle.tc_tabledb.proofs.Told.{none_words, words_more}
use Rattle.tc_tabledb.proofs.informing.+index_words.Goals as goal

pub returns-in_default : goal.returns-in_default
returns-in_default g t c = none_words c.args.sides.now c.new.result c.in_default.ensures.cases c.new.ensures

pub returns : goal.returns
returns g t c = words_more c.args.sides.now c.in-Some.rest.now c.in-Some.first.now c.in_ok-words.words c.set.new.self c.in_ok-name.name c.in_ok-word.word c.in-Some.ensures.cases.0 c.in_ok-words.ensures (c.in_ok-name.ensures ∙ (c.as_slice.ensures ∙ c.name.ensures)) (c.in_ok-word.ensures ∙ c.kind_word.ensures) c.in_ok-set.ensures.ok
