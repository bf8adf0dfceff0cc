use Rattle.std.proofs.Common.{◌≡◌, drop}
use Rattle.tc_fakes.specs.Answers.{answer_to}
use Rattle.tc_fakes.proofs.mem_wire.answer_of.Given as goal

abbrev pub invariant-loop-call : goal.invariant-loop-call
invariant-loop-call l = answer_to l.answers l.number l.offered ≡ answer_to (drop l.call-index l.answers) l.number l.offered
