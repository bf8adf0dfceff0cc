use Rattle.std.proofs.Common.{◌≡◌, false}
use Rattle.tests_wire.proofs.sockets.open_some.Given as goal

abbrev pub invariant-loop-port : goal.invariant-loop-port
invariant-loop-port g l = g.W.Wire.opened l.wire ≡ false
