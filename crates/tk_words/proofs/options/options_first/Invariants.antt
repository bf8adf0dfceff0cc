use Rattle.std.proofs.Common.{length}
use Rattle.tk_words.specs.Words.{texts}
use Rattle.tk_words.specs.Seen.{choices, opts}
use Rattle.tk_words.proofs.Reading.{GoesOn}
use Rattle.tk_words.proofs.options.options_first.Given as goal

abbrev pub invariant-loop-option : goal.invariant-loop-option
invariant-loop-option l = GoesOn (opts l.table) (texts l.words) (choices l.options.taken.items) (texts l.options.rest.now)

abbrev pub decreases-loop-option : goal.decreases-loop-option
decreases-loop-option l = length l.options.rest.now
