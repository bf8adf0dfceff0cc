use Rattle.std.proofs.Common.{◌-◌, arith, drop, length, length-drop}
use Rattle.std.proofs.lemmas.List.{take_all}
use Rattle.ty_ulog.proofs.ahead.behind_head.Goals as goal

pub returns : goal.returns
returns c = take_all (length c.args.held.now - 25) (drop 25 c.args.held.now) (omega (arith, length-drop 25 c.args.held.now))
