use Rattle.std.proofs.Common.{◌≡◌, drop, length, ◌-◌}
use Rattle.tc_io.specs.Script.{next_act}
use Rattle.tc_fakes.proofs.playing.choose.Given as goal

abbrev pub decreases-loop-at : goal.decreases-loop-at
decreases-loop-at l = length l.script - l.at

abbrev pub invariant-loop-at : goal.invariant-loop-at
invariant-loop-at l = next_act (drop l.start l.script) (record { conns = l.conns; ended = l.ended; given = l.given }) l.paused l.busy ≡ next_act (drop l.at l.script) (record { conns = l.conns; ended = l.ended; given = l.given }) l.paused l.busy
