use Rattle.std.proofs.Common.{◌∙◌, ℕ, List, sym, ap}
use Rattle.std.specs.FinMap.{get}
use Rattle.tc_hash.proofs.enlarging.add_pair.Goals as goal

pub returns-clause-added : goal.returns-clause-added
returns-clause-added g c = λ t m has. (
  c.in-Some.value,
  ap (λ (k : List ℕ). get m k) (sym c.as_slice.ensures) ∙ sym (c.in_ok-value.ensures.value t m has) ∙ c.in-Some.is,
  c.in_ok-push.ensures.ok,
)
