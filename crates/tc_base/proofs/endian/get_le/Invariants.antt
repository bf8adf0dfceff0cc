use Rattle.std.proofs.Common.{◌≡◌, ◌-◌, ◌^◌, ◌<◌, drop}
use Rattle.tc_base.specs.Endian.{le_number, field}
use Rattle.tc_base.proofs.endian.get_le.Given as goal

abbrev pub invariant-loop-i : goal.invariant-loop-i
invariant-loop-i l = (l.n ≡ le_number (drop (l.width - l.i) (field l.at l.width l.bytes))) × (l.n < 256 ^ l.i)
