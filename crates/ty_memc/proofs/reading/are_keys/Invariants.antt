use Rattle.std.proofs.Common.{◌≡◌, length}
use Rattle.std.specs.List.{list_all}
use Rattle.ty_memc.specs.Words.{words}
use Rattle.ty_memc.specs.Lines.{is_key}
use Rattle.ty_memc.proofs.reading.are_keys.Given as goal

abbrev pub invariant-loop-word : goal.invariant-loop-word
invariant-loop-word l = list_all is_key (words l.left) ≡ list_all is_key (words l.rest)

abbrev pub decreases-loop-word : goal.decreases-loop-word
decreases-loop-word l = length l.left
