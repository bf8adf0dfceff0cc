use Rattle.std.specs.Prelude.{take}
use Rattle.tc_space.specs.Frames.{Keeps, Writes}
use Rattle.tc_space.specs.Stores.{Only}
use Rattle.tc_fixed.specs.Holding.{Means, SameShape, max_id_of, width_of}
use Rattle.tc_fixeddb.specs.Changing.{all_set}
use Rattle.tc_fixeddb.proofs.holding.FixedEngine.set_each.Given as goal

abbrev pub invariant-loop-pair : goal.invariant-loop-pair
invariant-loop-pair g l = record {
  writes : Writes g.S.Space (Only 0) (Means g.S.Space) (all_set (width_of l.fn.self.fixed) (max_id_of l.fn.self.fixed) (take l.pair-index l.pairs)) l.fn.self.fixed l.self.fixed l.fn.space l.space;
  shape : SameShape l.fn.self.fixed l.self.fixed;
  keeps : Keeps g.S.Space l.fn.space l.space;
}
