use Rattle.std.specs.Prelude.{take}
use Rattle.tc_space.specs.Frames.{Keeps, Writes}
use Rattle.tc_space.specs.Stores.{Only}
use Rattle.tc_hashdb.specs.Changing.{KeepsHead, all_out}
use Rattle.tc_hashdb.specs.Holding.{Means}
use Rattle.tc_hashdb.proofs.holding.HashEngine.drop_each.Given as goal

abbrev pub invariant-loop-key : goal.invariant-loop-key
invariant-loop-key g l = record {
  writes : Writes g.S.Space (Only 0) (Means g.S.Space) (all_out (take l.key-index l.keys)) l.fn.self l.self l.fn.space l.space;
  numbers : KeepsHead l.fn.self l.self;
  keeps : Keeps g.S.Space l.fn.space l.space;
}
