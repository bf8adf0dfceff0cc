use Rattle.std.proofs.Common.{◌≡◌, true, false, arith, ap, sym, ◌∙◌}
use Rattle.std.specs.Fmt.{decimal}
use Rattle.tc_fixeddb.proofs.Spelled.{none_spelled, other_spelled}
use Rattle.tc_fixeddb.proofs.numbers.id_spelled.Goals as goal

pub returns-in_default : goal.returns-in_default
returns-in_default c = none_spelled c.args.text.now c.in_default.ensures

pub returns-then-n-eq0 : goal.returns-then-n-eq0
returns-then-n-eq0 c = λ j one most is. omega (arith, c.if-n-eq0.true, one, other_spelled c.args.text.now c.in-Some.n c.in-Some.ensures.1 j one most is)

pub returns-then-n : goal.returns-then-n
returns-then-n c = λ j one most is. omega (arith, c.if-n.true, most, other_spelled c.args.text.now c.in-Some.n c.in-Some.ensures.1 j one most is)

pub returns-else-is_text_of : goal.returns-else-is_text_of
returns-else-is_text_of c = λ j one most is. let never : false ≡ true = c.if-is_text_of.ensures.1 (is ∙ ap decimal (sym (other_spelled c.args.text.now c.in-Some.n c.in-Some.ensures.1 j one most is))) in absurd cc
