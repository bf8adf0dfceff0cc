use Rattle.std.proofs.Common.{◌∙◌, ◌+◌, drop, get_or, length, sym, ap, arith, length-drop}
use Rattle.std.proofs.lemmas.List.{drop_more, drop_all}
use Rattle.tc_model.specs.Texts.{tokens}
use Rattle.td_query.proofs.Blanks.{begins, blank_first}
use Rattle.td_query.proofs.tokens.token_of.Goals as goal

pub loop-i-preserved : goal.loop-i-preserved
loop-i-preserved c =
    c.loop-i.invariant ∙ ap (λ t. tokens t) (drop_more c.args.text.now c.loop-i.i 0 c.loop-i-test.true)
    ∙ blank_first (get_or c.args.text.now c.loop-i.i 0) (drop (c.loop-i.i + 1) c.args.text.now) (sym c.is_blank.ensures ∙ c.if-not-is_blank.false)

pub parted-requires : goal.parted-requires
parted-requires c = begins c.args.text.now c.behind.result.now c.loop-i.i c.loop-i-test.true (sym c.is_blank.ensures ∙ c.if-not-is_blank.true) c.behind.ensures

pub returns-then-not-is_blank : goal.returns-then-not-is_blank
returns-then-not-is_blank c = (
  c.loop-i.invariant ∙ ap (λ t. tokens t) (sym c.behind.ensures) ∙ c.parted.ensures.parts,
  omega (arith, c.parted.ensures.shorter, ap length c.behind.ensures, length-drop c.loop-i.i c.args.text.now),
)

pub returns : goal.returns
returns c = c.loop-i.invariant ∙ ap (λ t. tokens t) (drop_all c.loop-i.i c.args.text.now c.loop-i-test.false)
