use Rattle.std.proofs.Common.{◌≡◌, take}
use Rattle.ty_rounds.specs.Peers.{waiting_numbers}
use Rattle.ty_rounds.proofs.listening.list_waiting.Given as goal

abbrev pub invariant-loop-i : goal.invariant-loop-i
invariant-loop-i l = l.paused.items ≡ waiting_numbers (take l.i l.peers)
