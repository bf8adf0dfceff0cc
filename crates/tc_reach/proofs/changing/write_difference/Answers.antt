use Rattle.std.proofs.Common.{◌∙◌, ◌-◌, ◌≤◌, length, take, drop, sym, ap, refl, arith}
use Rattle.std.proofs.lemmas.List.{length-take-le}
use Rattle.tc_base.specs.Files.{wrote as wrote_at}
use Rattle.std.proofs.lemmas.Result.{on_ok_weaker}
use Rattle.tc_reach.proofs.Written.{wrote_between, wrote_same}
use Rattle.tc_reach.proofs.changing.write_difference.Goals as goal

pub returns-then-is_same-clause-wrote : goal.returns-then-is_same-clause-wrote
returns-then-is_same-clause-wrote g c = λ t. record {
  here = sym (wrote_same c.args.at c.args.bytes.now (g.S.Space.now c.args.space.now c.args.file) (sym (c.requires.old.1 t) ∙ c.is_same.ensures.0 c.if-is_same.true));
  others = λ f ne. refl;
}

pub returns-clause-wrote : goal.returns-clause-wrote
returns-clause-wrote g c =
    let f = g.S.Space.now c.args.space.now c.args.file in
    let x = c.args.bytes.now in
    let end = c.same_back-end.result in
    let front = c.same_front-front.result in
    let inside : front ≤ end = omega (arith, c.same_front-front.ensures.most, length-take-le end c.args.old.now c.same_back-end.ensures.most) in
    let most : end ≤ length x = omega (arith, c.same_back-end.ensures.most, c.requires.old.0) in
    on_ok_weaker c.write_over.result (λ wrote t. record {
      here = (wrote t).here ∙ ap (λ n. wrote_at n (take (end - front) (drop front x)) f) (grind (arith, c.in-Some.is, c.checked_add.ensures, inside, most)) ∙ wrote_between c.args.at front end c.args.old.now x f c.requires.old.0 (c.requires.old.1 t) inside most c.same_front-front.ensures.same c.same_back-end.ensures.same;
      others = (wrote t).others;
    }) c.write_over.ensures.wrote
