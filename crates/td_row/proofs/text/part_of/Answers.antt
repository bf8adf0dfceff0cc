use Rattle.std.proofs.Common.{◌∙◌, ◌∷◌, ◌+◌, ℕ, List, take, sym, ap, arith}
use Rattle.std.proofs.lemmas.List.{take_rest}
use Rattle.tc_model.specs.Texts.{parts}
use Rattle.td_row.proofs.Parts.{part_at, part_alone}
use Rattle.td_row.proofs.text.part_of.Goals as goal

pub returns-then-text-i-eq0-clause-parts : goal.returns-then-text-i-eq0-clause-parts
returns-then-text-i-eq0-clause-parts c =
    part_at c.args.text.now c.loop-i.i (omega (arith, c.loop-i-test.true)) c.loop-i.invariant c.if-text-i-eq0.true ∙ ap (λ (l : List ℕ). take c.loop-i.i c.args.text.now ∷ parts l) (sym (take_rest c.args.text.now (c.loop-i.i + 1)))

pub returns-clause-parts : goal.returns-clause-parts
returns-clause-parts c = part_alone c.args.text.now (λ k h. c.loop-i.invariant k (omega (arith, h, c.loop-i-test.false)))
