use Rattle.std.proofs.Common.{◌≡◌, drop}
use Rattle.std.specs.Prelude.{fold}
use Rattle.tc_model.specs.Replay.{after}
use Rattle.tc_plain.proofs.apply.replay.Given as goal

abbrev pub invariant-loop-r : goal.invariant-loop-r
invariant-loop-r l = fold after l.now (drop l.r-index l.requests) ≡ fold after l.initial.now l.requests
