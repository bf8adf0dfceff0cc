use Rattle.std.proofs.Common.{◌≡◌, ◌<◌, ℕ, Some}
use Rattle.std.specs.Prelude.{slice_get}
use Rattle.hf_survey.specs.declared.reaching.Item.{Item}
use Rattle.hf_survey.specs.Reaching.{IsHomeBy}
use Rattle.hf_survey.proofs.judging.all_home.Given as goal

abbrev pub invariant-loop-k : goal.invariant-loop-k
invariant-loop-k l = (k : ℕ) (x : Item) → k < l.k → slice_get l.items k ≡ Some x → IsHomeBy l.facts x
