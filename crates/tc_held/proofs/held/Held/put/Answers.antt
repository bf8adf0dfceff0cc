use Rattle.std.proofs.Common.{◌≡◌, ◌+◌, ◌-◌, length, take, ℕ, List, ap, ◌∙◌, subst, arith, length-drop}
use Rattle.tc_held.specs.Held.{Takes}
use Rattle.tc_held.proofs.Taking.{takes_none, takes_on}
use Rattle.tc_held.proofs.held.Held.put.Goals as goal

pub loop-done-init : goal.loop-done-init
loop-done-init c = record { le = omega arith; takes = takes_none c.args.file c.args.at c.args.self.now.bytes.items c.args.self.now.pieces.items c.requires.tidy }

pub put_some-n-requires-clause-tidy : goal.put_some-n-requires-clause-tidy
put_some-n-requires-clause-tidy c = c.loop-done.invariant.takes.tidy

pub put_some-n-requires-clause-small : goal.put_some-n-requires-clause-small
put_some-n-requires-clause-small c = omega (arith, c.requires.small, c.loop-done.invariant.le, ap (λ (l : List ℕ). length l) c.behind.ensures, length-drop c.loop-done.done c.args.data.now)

pub put_some-n-requires-clause-some : goal.put_some-n-requires-clause-some
put_some-n-requires-clause-some c = omega (arith, c.loop-done-test.true, ap (λ (l : List ℕ). length l) c.behind.ensures, length-drop c.loop-done.done c.args.data.now)

pub loop-done-preserved : goal.loop-done-preserved
loop-done-preserved c =
    let rest : length c.behind.result.now ≡ length c.args.data.now - c.loop-done.done = ap (λ (l : List ℕ). length l) c.behind.ensures ∙ length-drop c.loop-done.done c.args.data.now in
    record {
      le = omega (arith, c.loop-done.invariant.le, c.put_some-n.ensures.most, rest);
      takes = takes_on c.args.file c.args.at c.args.data.now c.behind.result.now c.loop-done.done c.put_some-n.result c.args.self.now c.loop-done.self c.put_some-n.new.self c.loop-done.invariant.le c.behind.ensures c.loop-done.invariant.takes c.put_some-n.ensures.takes (omega (arith, c.put_some-n.ensures.most, rest));
    }

-- there is no room for what is left
pub returns-then-n-eq0-clause-takes : goal.returns-then-n-eq0-clause-takes
returns-then-n-eq0-clause-takes c =
    let rest : length c.behind.result.now ≡ length c.args.data.now - c.loop-done.done = ap (λ (l : List ℕ). length l) c.behind.ensures ∙ length-drop c.loop-done.done c.args.data.now in
    let none : c.loop-done.done + c.put_some-n.result ≡ c.loop-done.done = omega (arith, c.if-n-eq0.true) in
    subst (λ k. Takes c.args.file c.args.at (take k c.args.data.now) c.args.self.now c.put_some-n.new.self) none
    (takes_on c.args.file c.args.at c.args.data.now c.behind.result.now c.loop-done.done c.put_some-n.result c.args.self.now c.loop-done.self c.put_some-n.new.self c.loop-done.invariant.le c.behind.ensures c.loop-done.invariant.takes c.put_some-n.ensures.takes (omega (arith, c.put_some-n.ensures.most, rest)))
