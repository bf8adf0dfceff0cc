use Rattle.std.proofs.Common.{◌∙◌, ℕ, Ok, get_or, refl, ap, arith}
use Rattle.tc_base.proofs.Vnums.{scanned_one}
use Rattle.tc_base.proofs.number.scan_front.Goals as goal

pub returns-then-b-lt128-clause-read : goal.returns-then-b-lt128-clause-read
returns-then-b-lt128-clause-read c = ap (λ (n : ℕ). Ok (n, 1)) c.from.ensures ∙ scanned_one (get_or c.args.bytes.now 0 0) c.args.bytes.now (omega arith) refl c.if-b-lt128.true
