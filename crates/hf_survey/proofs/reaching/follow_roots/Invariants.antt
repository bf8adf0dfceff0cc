use Rattle.std.proofs.Common.{◌≡◌, ◌≤◌, length}
use Rattle.hf_survey.specs.Batches.{RootsOn}
use Rattle.hf_survey.proofs.reaching.follow_roots.Given as goal

abbrev pub invariant-loop-i : goal.invariant-loop-i
invariant-loop-i l = record {
  next : l.next ≤ l.i;
  long : length l.marks ≡ length l.facts;
  roots : RootsOn l.facts l.first l.places l.fn.items l.fn.marks l.items l.marks l.i;
}
