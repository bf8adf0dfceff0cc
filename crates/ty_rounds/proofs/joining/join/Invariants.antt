use Rattle.std.proofs.Common.{◌≡◌}
use Rattle.ty_rounds.proofs.JoinLaws.{held_front}
use Rattle.ty_rounds.proofs.joining.join.Given as goal

abbrev pub invariant-loop-i : goal.invariant-loop-i
invariant-loop-i l = record {
  told : l.peers.items ≡ held_front l.last l.fn.peers.items l.i;
}
