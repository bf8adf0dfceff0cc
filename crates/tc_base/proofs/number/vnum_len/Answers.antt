use Rattle.std.proofs.Common.{length, sym, ap}
use Rattle.tc_base.specs.Vnum.{vnum}
use Rattle.tc_base.proofs.Vnums.{groups-low}
use Rattle.tc_base.proofs.number.vnum_len.Goals as goal

pub returns-then-n-lt128 : goal.returns-then-n-lt128
unfolding vnum
returns-then-n-lt128 c = sym (ap length (groups-low 9 c.args.n c.if-n-lt128.true))
