use Rattle.std.proofs.Common.{◌≡◌, ◌≤◌, length}
use Rattle.hf_survey.proofs.reaching.gather.Given as goal

abbrev pub invariant-loop-i : goal.invariant-loop-i
invariant-loop-i l = record {
  few : l.count ≤ l.i;
  long : length l.named ≡ length l.fn.named;
}
