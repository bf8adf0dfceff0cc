use Rattle.std.proofs.Common.{◌≡◌, drop}
use Rattle.tk_words.specs.Options.{given}
use Rattle.tk_words.specs.Seen.{choices}
use Rattle.tk_words.proofs.options.Options.arguments.Given as goal

abbrev pub invariant-loop-taken : goal.invariant-loop-taken
invariant-loop-taken l = given (choices (drop l.taken-index l.self.taken.items)) l.option ≡ given (choices l.self.taken.items) l.option
