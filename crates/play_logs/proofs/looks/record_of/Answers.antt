use Rattle.std.proofs.Common.{arith}
use Rattle.ty_ulog.proofs.Taken.{taken}
use Rattle.play_logs.proofs.looks.record_of.Goals as goal

pub returns : goal.returns
returns c = let read = c.in_ok-r.ensures in (taken c.args.bytes.now c.in_ok-r.r read.0 (λ i. omega (arith, c.type_inv.bytes i)) read.1.is).fits
