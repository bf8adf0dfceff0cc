use Rattle.std.proofs.Common.{length}
use Rattle.tc_fakes.proofs.Feeds.{Fed}
use Rattle.tc_fakes.proofs.mem_wire.add_reads.Given as goal

abbrev pub invariant-loop-rest : goal.invariant-loop-rest
invariant-loop-rest l = Fed l.fn.bytes l.piece l.conn l.initial.acts.items l.acts.items l.rest

abbrev pub decreases-loop-rest : goal.decreases-loop-rest
decreases-loop-rest l = length l.rest
