use Rattle.std.specs.Prelude.{take}
use Rattle.tc_space.specs.Frames.{Keeps, Writes}
use Rattle.tc_space.specs.Stores.{Only}
use Rattle.tc_fixed.specs.Holding.{Means, SameShape, max_id_of}
use Rattle.tc_fixeddb.specs.Changing.{all_out}
use Rattle.tc_fixeddb.proofs.holding.FixedEngine.out_each.Given as goal

abbrev pub invariant-loop-key : goal.invariant-loop-key
invariant-loop-key g l = record {
  writes : Writes g.S.Space (Only 0) (Means g.S.Space) (all_out (max_id_of l.fn.self.fixed) (take l.key-index l.keys)) l.fn.self.fixed l.self.fixed l.fn.space l.space;
  shape : SameShape l.fn.self.fixed l.self.fixed;
  keeps : Keeps g.S.Space l.fn.space l.space;
}
