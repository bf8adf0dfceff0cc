use Rattle.std.proofs.Common.{◌≡◌, ◌++◌, take}
use Rattle.ty_wire.specs.Spelling.{pairs_bytes}
use Rattle.ty_wire.proofs.writing.spell_pairs.Given as goal

abbrev pub invariant-loop-pair : goal.invariant-loop-pair
invariant-loop-pair l = l.into ≡ l.fn.into ++ pairs_bytes (take l.pair-index l.pairs)
