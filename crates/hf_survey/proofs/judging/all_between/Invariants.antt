use Rattle.std.proofs.Common.{◌≡◌, ◌<◌, ℕ, Some}
use Rattle.std.specs.Prelude.{slice_get}
use Rattle.tc_space.specs.Frames.{OnlyReads}
use Rattle.hf_survey.specs.declared.reaching.Item.{Item}
use Rattle.hf_survey.specs.Orders.{IsBetweenBy}
use Rattle.hf_survey.proofs.judging.all_between.Given as goal

abbrev pub invariant-loop-k : goal.invariant-loop-k
invariant-loop-k g l = record {
  reads : OnlyReads g.S.Space l.fn.space l.space;
  yes : g.S.Space.tells → (k : ℕ) (x : Item) → k < l.k → slice_get l.items k ≡ Some x → IsBetweenBy l.facts x (g.S.Space.now l.fn.space l.file);
}
