use Rattle.std.proofs.Common.{rules}
use Rattle.ty_rounds.proofs.Batches.{none_there}
use Rattle.ty_rounds.proofs.batch.empty.Goals as goal

pub returns-then-is_empty : goal.returns-then-is_empty
returns-then-is_empty g c = none_there c.args.items.now.items (search rules)
