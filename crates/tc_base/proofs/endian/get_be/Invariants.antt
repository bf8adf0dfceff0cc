use Rattle.std.proofs.Common.{◌≡◌, ◌^◌, ◌<◌, take}
use Rattle.tc_base.specs.Endian.{be_number, field}
use Rattle.tc_base.proofs.endian.get_be.Given as goal

abbrev pub invariant-loop-i : goal.invariant-loop-i
invariant-loop-i l = (l.n ≡ be_number (take l.i (field l.at l.width l.bytes))) × (l.n < 256 ^ l.i)
