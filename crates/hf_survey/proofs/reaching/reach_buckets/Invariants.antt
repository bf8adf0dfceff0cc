use Rattle.std.proofs.Common.{◌≡◌, ◌-◌, ◌≤◌, length}
use Rattle.tc_space.specs.Frames.{OnlyReads}
use Rattle.hf_survey.specs.Passes.{Looks}
use Rattle.hf_survey.specs.Trees.{WereFollowed}
use Rattle.hf_survey.proofs.reaching.reach_buckets.Given as goal

abbrev pub invariant-loop-first : goal.invariant-loop-first
invariant-loop-first g l = record {
  reads : OnlyReads g.S.Space l.fn.space l.space;
  looks : Looks g.S.Space l.space l.file l.window;
  most : l.first ≤ l.head.buckets;
  long : length l.marks ≡ length l.facts;
  followed : WereFollowed g.S.Space.tells l.head (g.S.Space.now l.fn.space l.file) l.facts l.first l.marks l.verdict;
}

abbrev pub decreases-loop-first : goal.decreases-loop-first
decreases-loop-first g l = l.head.buckets - l.first
