use Rattle.tc_base.specs.Maps.{Map}
use Rattle.tc_space.specs.Frames.{OnlyReads}
use Rattle.hf_record.specs.Holding.{Has}
use Rattle.tc_hash.specs.Packing.{ArePairs}
use Rattle.tc_hash.proofs.enlarging.pairs_of.Given as goal

abbrev pub invariant-loop-key : goal.invariant-loop-key
invariant-loop-key g l = record {
  reads : OnlyReads g.S.Space l.fn.space l.space;
  are : g.S.Space.tells → (m : Map) → Has l.body (g.S.Space.now l.fn.space l.body.file) m → ArePairs m l.yielded l.pairs;
}
