use Rattle.std.proofs.Common.{◌≡◌, ◌∙◌, ◌+◌, ◌-◌, ◌*◌, ◌^◌, Bool, cond, sym, ap, arith}
use Rattle.std.proofs.lemmas.Nat.{pow-add}
use Rattle.hf_head.specs.Heads.{unit}
use Rattle.hf_record.proofs.Bytes.{unit_small}
use Rattle.hf_record.proofs.Writing.{reach_small}
use Rattle.hf_record.proofs.adding.reach.Goals as goal

pub returns-then-is_large : goal.returns-then-is_large
returns-then-is_large c = sym (ap (λ (b : Bool). cond b (2 ^ 64 - 1) (2 ^ (32 + c.args.head.now.apow))) (sym c.is_large.ensures ∙ c.if-is_large.true))

pub returns-else-is_large : goal.returns-else-is_large
returns-else-is_large c =
    let h = c.args.head.now in
    let e : 2 ^ (32 + h.apow) ≡ 2 ^ 32 * unit h = pow-add 2 32 h.apow in
    let is : c.saturating_mul.result ≡ 2 ^ (32 + h.apow) = omega (arith, c.saturating_mul.ensures, c.unit.ensures, e, unit_small h c.requires.head) in
    is ∙ sym (reach_small h (sym c.is_large.ensures ∙ c.if-is_large.false))
