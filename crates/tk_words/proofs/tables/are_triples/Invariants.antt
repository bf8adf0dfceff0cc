use Rattle.std.proofs.Common.{◌≡◌, length}
use Rattle.tk_words.specs.Words.{texts}
use Rattle.tk_words.specs.Commands.{are_conditions}
use Rattle.tk_words.proofs.tables.are_triples.Given as goal

abbrev pub invariant-loop-operator : goal.invariant-loop-operator
invariant-loop-operator l = are_conditions (texts l.words) ≡ are_conditions (texts l.rest)

abbrev pub decreases-loop-operator : goal.decreases-loop-operator
decreases-loop-operator l = length l.rest
