use Rattle.std.proofs.Common.{◌≡◌, ◌∙◌, ℕ, List, [], inl, inr, sym, ap}
use Rattle.std.proofs.lemmas.Bool.{eqb-true}
use Rattle.tc_base.specs.Decimal.{decimal, nine, fraction}
use Rattle.tc_base.proofs.Decimals.{nine-nil, fraction_none}
use Rattle.tc_base.proofs.decimal.behind_point.Goals as goal
use Rattle.tc_base.proofs.decimal.behind_point.Goals.{then-is_empty-via-then-is_empty, then-is_empty-via-else-is_empty+then-text-ne46}

none : (c : goal.Joined-then-is_empty) → fraction c.args.text.now ≡ []
none c = elim c.then-is_empty.branch [
  | then-is_empty-via-then-is_empty w ↦ fraction_none c.args.text.now (inl (eqb-true _ 0 (sym c.is_empty.ensures ∙ w.if-is_empty.true)))
  | then-is_empty-via-else-is_empty+then-text-ne46 w ↦ fraction_none c.args.text.now (inr w.if-text-ne46.true)
]

pub returns-then-is_empty-clause-value : goal.returns-then-is_empty-clause-value
returns-then-is_empty-clause-value c = sym (ap (λ (l : List ℕ). decimal (nine l)) (none c) ∙ nine-nil)
