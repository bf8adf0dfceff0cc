use Rattle.std.proofs.Common.{◌≡◌, ◌≢◌, ◌++◌, ℕ, List, length, drop, sym, ap, ◌∙◌, arith}
use Rattle.std.proofs.lemmas.Bool.{eqb-true, eqb-false}
use Rattle.std.proofs.lemmas.List.{take-append-drop}
use Rattle.tc_fakes.proofs.Feeds.{fed_none, fed_more, fed_all}
use Rattle.tc_fakes.proofs.mem_wire.add_reads.Goals as goal

pub loop-rest-init : goal.loop-rest-init
loop-rest-init c = fed_none _ _ _ _

pub loop-rest-preserved : goal.loop-rest-preserved
loop-rest-preserved c =
    let some : length c.loop-rest.rest.now ≢ 0 = eqb-false _ _ (sym c.loop-rest-test.ensures) in
    let front : c.in_ok-part.part ≡ c.split_at.result.0.now = c.in_ok-part.ensures in
    let split = sym (take-append-drop c.min.result c.loop-rest.rest.now) ∙ ap (λ (l : List ℕ). l ++ drop c.min.result c.loop-rest.rest.now) (sym (front ∙ c.split_at.ensures.front)) ∙ ap (λ (l : List ℕ). c.in_ok-part.part ++ l) (sym c.split_at.ensures.back) in
    let len : length c.in_ok-part.part ≡ c.min.result = ap length front ∙ c.split_at.ensures.front_len in
    fed_more _ _ _ _ _ _ _ c.in_ok-part.part _ c.loop-rest.invariant split (omega (arith, c.min.ensures, c.requires, some, len)) (omega (arith, c.min.ensures, len)) c.in_ok-push.ensures.items

pub returns-clause-ok : goal.returns-clause-ok
returns-clause-ok c = fed_all _ _ _ _ _ _ c.loop-rest.invariant (eqb-true _ _ (sym c.loop-rest-test.ensures))
