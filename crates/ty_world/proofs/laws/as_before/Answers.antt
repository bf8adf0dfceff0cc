use Rattle.ty_world.proofs.AsAsked.{asked_of, came_of, commits_so, same_of}
use Rattle.ty_world.proofs.AsBefore.{started_as}
use Rattle.ty_world.proofs.laws.as_before.Goals as goal

pub returns-clause-begins : goal.returns-clause-begins
returns-clause-begins c = started_as

pub returns-clause-same : goal.returns-clause-same
returns-clause-same c = same_of

pub returns-clause-asked : goal.returns-clause-asked
returns-clause-asked c = asked_of

pub returns-clause-came : goal.returns-clause-came
returns-clause-came c = came_of

pub returns-clause-commits : goal.returns-clause-commits
returns-clause-commits c = commits_so
