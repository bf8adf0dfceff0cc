use Rattle.std.proofs.Common.{ap, ◌∙◌, List, ℕ, ◌++◌}
use Rattle.ty_rounds.proofs.Batches.{listed_entries}
use Rattle.ty_rounds.proofs.batch.Batch.add.Goals as goal

pub returns-clause-updates : goal.returns-clause-updates
returns-clause-updates c = c.in_ok-push_one.ensures ∙ ap (λ (l : List (List ℕ)). c.args.self.now.updates.items ++ l) (listed_entries c.args.served.update)
