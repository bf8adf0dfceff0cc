use Rattle.std.proofs.Common.{◌≡◌, ℕ, ◌+◌, get_or, ap, arith}
use Rattle.tc_base.specs.Endian.{field}
use Rattle.tc_base.proofs.Endians.{field_at, length-field, le_four}
use Rattle.tc_base.proofs.endian.get_four.Goals as goal

pub returns-clause-value : goal.returns-clause-value
returns-clause-value c =
    let at : ℕ = c.args.at in
    let bytes = c.args.bytes.now in
    let a = field_at at 4 0 bytes (omega arith) in
    let b = field_at at 4 1 bytes (omega arith) in
    let d = field_at at 4 2 bytes (omega arith) in
    let e = field_at at 4 3 bytes (omega arith) in
    let n = le_four (field at 4 bytes) (length-field at 4 bytes c.requires.inside) in
    let here : at + 0 ≡ at = omega arith in
    let first = ap (λ (m : ℕ). get_or bytes m 0) here in
    omega (arith, n, a, b, d, e, first)
