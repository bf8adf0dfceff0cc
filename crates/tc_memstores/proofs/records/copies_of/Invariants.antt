use Rattle.std.proofs.Common.{◌≡◌, ◌++◌, drop}
use Rattle.tc_memstores.proofs.records.copies_of.Given as goal

abbrev pub invariant-loop-key : goal.invariant-loop-key
invariant-loop-key l = l.copies ++ drop l.key-index l.keys ≡ l.keys
