use Rattle.std.proofs.Common.{◌≡◌, take}
use Rattle.tk_words.specs.Words.{texts}
use Rattle.tk_words.proofs.words.copies.Given as goal

abbrev pub invariant-loop-word : goal.invariant-loop-word
invariant-loop-word l = l.items ≡ texts (take l.word-index l.words)
