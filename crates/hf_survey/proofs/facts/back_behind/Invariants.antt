use Rattle.std.proofs.Common.{◌≡◌, ◌+◌, ◌-◌, ◌≤◌, take, drop}
use Rattle.hf_survey.specs.Hashing.{back_from}
use Rattle.tc_space.specs.Frames.{OnlyReads}
use Rattle.hf_survey.specs.Passes.{LooksAt}
use Rattle.hf_survey.proofs.facts.back_behind.Given as goal

abbrev pub invariant-loop-left : goal.invariant-loop-left
invariant-loop-left g l = record {
  reads : OnlyReads g.S.Space l.initial.space l.space;
  looks : LooksAt g.S.Space l.space l.file l.start l.long l.window;
  within : l.left ≤ l.long;
  hash : g.S.Space.tells → l.hash ≡ back_from 751 (take (l.long - l.left) (drop (l.start + l.left) (g.S.Space.now l.initial.space l.file)));
}

abbrev pub decreases-loop-left : goal.decreases-loop-left
decreases-loop-left g l = l.left
