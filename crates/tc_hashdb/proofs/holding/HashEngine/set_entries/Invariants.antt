use Rattle.tc_hashdb.proofs.Setting.{SetSoFar}
use Rattle.tc_hashdb.proofs.holding.HashEngine.set_entries.Given as goal

abbrev pub invariant-loop-key : goal.invariant-loop-key
invariant-loop-key g l = SetSoFar g.S.Space l.fn.self l.self l.fn.space l.space l.initial.key-iterator l.key-iterator
