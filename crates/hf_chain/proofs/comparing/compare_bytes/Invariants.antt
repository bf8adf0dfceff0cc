use Rattle.std.proofs.Common.{length, ◌-◌, ◌+◌, ◌≡◌, ◌≤◌, take, drop}
use Rattle.tc_space.specs.Frames.{OnlyReads}
use Rattle.hf_chain.proofs.comparing.compare_bytes.Given as goal

abbrev pub invariant-loop-done : goal.invariant-loop-done
invariant-loop-done g l = record {
  high : l.done ≤ length l.key;
  reads : OnlyReads g.S.Space l.initial.space l.space;
  counted : g.S.Space.bytes_read l.space ≤ g.S.Space.bytes_read l.initial.space + l.done;
  same : g.S.Space.tells → take l.done l.key ≡ take l.done (take (length l.key) (drop l.at (g.S.Space.now l.initial.space l.file)));
}

abbrev pub decreases-loop-done : goal.decreases-loop-done
decreases-loop-done g l = length l.key - l.done
