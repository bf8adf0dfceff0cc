use Rattle.std.proofs.Common.{◌≡◌, false, take}
use Rattle.std.specs.Prelude.{nat_eq}
use Rattle.std.specs.List.{list_any}
use Rattle.ty_rounds.specs.Peers.{numbers}
use Rattle.ty_rounds.proofs.listening.scanned_for.Given as goal

abbrev pub invariant-loop-i : goal.invariant-loop-i
invariant-loop-i l = list_any (nat_eq l.conn) (numbers (take l.i l.peers)) ≡ false
