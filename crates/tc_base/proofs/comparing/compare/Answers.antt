use Rattle.std.proofs.Common.{◌<◌, ℕ, length, sym, ap, ◌∙◌, arith}
use Rattle.std.specs.Ordering.{nat_cmp}
use Rattle.tc_base.proofs.Foreseeing.{decided_at, ended_at, same_at}
use Rattle.tc_base.proofs.comparing.compare.Goals.{then-eight-test+else-at-b, else-eight-test}
use Rattle.tc_base.proofs.comparing.compare.Goals as goal

pub returns-then-left-right : goal.returns-then-left-right
returns-then-left-right c =
    let left = c.number_at-left.ensures.value in
    let right = c.number_at-right.ensures.value in
    c.cmp.ensures ∙ ap (λ (n : ℕ). nat_cmp n c.number_at-right.result) left ∙ ap (nat_cmp _) right
    ∙ decided_at c.eight.at c.args.a.now c.args.b.now c.number_at-left.ensures.bytes c.number_at-right.ensures.bytes c.eight.invariant (λ same. c.if-left-right.true (left ∙ same ∙ sym right))

pub eight-preserved : goal.eight-preserved
eight-preserved c = same_at c.eight.at c.args.a.now c.args.b.now c.eight.invariant (sym c.number_at-left.ensures.value ∙ c.if-left-right.false ∙ c.number_at-right.ensures.value)

pub returns : goal.returns
returns c =
    let end : c.eight.at < length c.args.a.now → c.eight.at < length c.args.b.now → ⊥ = λ a b. elim c.eight-test.branch [
      | then-eight-test+else-at-b w ↦ omega (arith, b, w.if-at-b)
      | else-eight-test w ↦ omega (arith, a, w.eight-test)
    ] in
    c.cmp-2.ensures ∙ ended_at c.eight.at 0 c.args.a.now c.args.b.now (λ i. omega (arith, c.type_inv.a i)) (λ i. omega (arith, c.type_inv.b i)) end c.eight.invariant
