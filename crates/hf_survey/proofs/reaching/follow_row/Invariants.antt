use Rattle.std.proofs.Common.{◌≡◌, length}
use Rattle.hf_survey.specs.Batches.{ChainsOn}
use Rattle.hf_survey.proofs.reaching.follow_row.Given as goal

abbrev pub invariant-loop-k : goal.invariant-loop-k
invariant-loop-k l = record {
  long : length l.marks ≡ length l.facts;
  chains : ChainsOn l.facts l.fn.items l.fn.marks l.items l.marks l.from l.k;
}
