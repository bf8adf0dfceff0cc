use Rattle.std.proofs.Common.{◌≡◌, ◌∙◌, ◌++◌, ◌∷◌, [], List, Some, None, length, ap, sym}
use Rattle.std.proofs.lemmas.Iterator.Adapters.{YieldsList-from_vec}
use Rattle.std.proofs.lemmas.Iterator.Consumers.{YieldsList-end}
use Rattle.tc_base.specs.declared.seq.Pair.{Pair}
use Rattle.tc_base.specs.Lists.{pair}
use Rattle.tc_model.proofs.Paired.{even, laid, laid_pair, odd}
use Rattle.tc_model.proofs.reading.pairs.Goals as goal

pub loop-text-preserved : goal.loop-text-preserved
loop-text-preserved c =
    let found = c.loop-text.found.items in
    let more = found ++ pair c.in-Some-take.key c.in-Some.text ∷ [] in
    let pushed : c.push.new.self.items ≡ more = c.in_ok-push.ensures.items in
    let was = c.loop-text.invariant ∙ ap (laid found) (sym c.in-Some-take.ensures.value) in
    let is : laid c.push.new.self.items c.take.new.self ≡ laid more None = λ i. laid (pushed i) (c.in-Some-take.ensures.after i) in
    laid_pair c.loop-text.yielded found c.in-Some-take.key c.in-Some.text was ∙ sym is

pub returns-then-is_some : goal.returns-then-is_some
returns-then-is_some c =
    let gives = c.into_iter-text-iterator.ensures.into_iter_gives in
    let road = YieldsList-from_vec {s = c.into_iter-text-iterator.result} c.args.args (gives.0 ∙ c.into_vec-text-items.ensures) (gives.1 ∙ (c.into_vec-text-items.result.ok.0 ∙ ap length c.into_vec-text-items.ensures)) in
    let end = YieldsList-end road c.loop-text.yielded c.loop-text.text-iterator c.loop-text.yielded_by c.next.result c.next.new.self c.in-None.is c.next.ensures.steps in
    odd c.args.args c.loop-text.yielded c.loop-text.found.items c.loop-text.front end.0 c.loop-text.invariant (sym c.is_some.ensures ∙ c.if-is_some.true)

pub returns : goal.returns
returns c =
    let gives = c.into_iter-text-iterator.ensures.into_iter_gives in
    let road = YieldsList-from_vec {s = c.into_iter-text-iterator.result} c.args.args (gives.0 ∙ c.into_vec-text-items.ensures) (gives.1 ∙ (c.into_vec-text-items.result.ok.0 ∙ ap length c.into_vec-text-items.ensures)) in
    let end = YieldsList-end road c.loop-text.yielded c.loop-text.text-iterator c.loop-text.yielded_by c.next.result c.next.new.self c.in-None.is c.next.ensures.steps in
    ap (λ (ps : List Pair). Some ps) c.from_vec.ensures
    ∙ even c.args.args c.loop-text.yielded c.loop-text.found.items c.loop-text.front end.0 c.loop-text.invariant (sym c.is_some.ensures ∙ c.if-is_some.false)
