use Rattle.std.proofs.Common.{◌≡◌, drop}
use Rattle.tk_words.specs.Options.{taken_by}
use Rattle.tk_words.specs.Seen.{opts}
use Rattle.tk_words.proofs.options.takes_in.Given as goal

abbrev pub invariant-loop-option : goal.invariant-loop-option
invariant-loop-option l = taken_by (opts (drop l.option-index l.table)) l.word ≡ taken_by (opts l.table) l.word
