use Rattle.std.proofs.Common.{◌≡◌, ◌⊎◌, ◌-◌, ◌≤◌, replicate}
use Rattle.tc_base.specs.Files.{wrote}
use Rattle.tc_space.specs.Effects.{Changes}
use Rattle.tc_space.specs.Frames.{OnlyWrites}
use Rattle.tc_reach.proofs.zeros.write_zeros.Given as goal

abbrev pub invariant-loop-at : goal.invariant-loop-at
invariant-loop-at g l = record {
  on : l.from ≤ l.at;
  high : (l.at ≤ l.to) ⊎ (l.at ≡ l.from);
  sound : g.S.Space.sound l.space;
  writes : OnlyWrites g.S.Space l.initial.space l.space;
  wrote : g.S.Space.tells → Changes g.S.Space.now l.file (wrote l.from (replicate (l.at - l.from) 0) (g.S.Space.now l.initial.space l.file)) l.initial.space l.space;
}

abbrev pub decreases-loop-at : goal.decreases-loop-at
decreases-loop-at g l = l.to - l.at
