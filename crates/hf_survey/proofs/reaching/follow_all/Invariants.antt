use Rattle.std.proofs.Common.{◌≡◌, ◌≤◌, ◌-◌, length}
use Rattle.hf_survey.specs.Batches.{ChainsOn}
use Rattle.hf_survey.proofs.reaching.follow_all.Given as goal

abbrev pub invariant-loop-k : goal.invariant-loop-k
invariant-loop-k l = record {
  long : length l.marks ≡ length l.facts;
  most : l.k ≤ length l.items;
  chains : ChainsOn l.facts l.fn.items l.fn.marks l.items l.marks 0 l.k;
}

abbrev pub decreases-loop-k : goal.decreases-loop-k
decreases-loop-k l = length l.facts - l.k
