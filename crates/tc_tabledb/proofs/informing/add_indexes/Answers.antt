use Rattle.std.proofs.Common.{◌∙◌, ◌++◌, ap}
use Rattle.std.specs.FinMap.{entries}
use Rattle.std.proofs.lemmas.Result.{on_ok_weaker}
use Rattle.tc_base.specs.Maps.{Map}
use Rattle.tc_tabledb.proofs.Told.{lines}
use Rattle.tc_tabledb.proofs.informing.add_indexes.Goals as goal

pub add_words-requires : goal.add_words-requires
add_words-requires g c = c.new-least.ensures ∙ c.new.ensures

pub returns-clause-added : goal.returns-clause-added
returns-clause-added g c = on_ok_weaker c.add_words.result (λ added. added ∙ ap (λ (m : Map). c.args.into.now ++ lines (entries m)) c.in_ok-words.ensures) c.add_words.ensures.added
