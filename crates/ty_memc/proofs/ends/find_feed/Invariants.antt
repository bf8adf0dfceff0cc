use Rattle.std.proofs.Common.{◌≤◌}
use Rattle.ty_memc.specs.Reading.{line_len}
use Rattle.ty_memc.proofs.ends.find_feed.Given as goal

abbrev pub invariant-loop-i : goal.invariant-loop-i
invariant-loop-i l = l.i ≤ line_len l.bytes
