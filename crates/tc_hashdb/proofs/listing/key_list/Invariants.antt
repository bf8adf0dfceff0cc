use Rattle.std.proofs.Common.{◌≡◌}
use Rattle.tc_hashdb.proofs.listing.key_list.Given as goal

abbrev pub invariant-loop-text : goal.invariant-loop-text
invariant-loop-text l = l.keys ≡ l.yielded
