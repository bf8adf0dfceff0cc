use Rattle.std.proofs.Common.{rules}
use Rattle.tc_base.specs.Vnum.{vnum}
use Rattle.tc_base.proofs.Vnums.{groups-low}
use Rattle.tc_base.proofs.number.put_vnum.Goals as goal

pub returns-then-n-lt128-clause-ok : goal.returns-then-n-lt128-clause-ok
unfolding vnum
returns-then-n-lt128-clause-ok c = let one = groups-low 9 c.args.n c.if-n-lt128.true in search (rules, one)
