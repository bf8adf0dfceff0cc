use Rattle.std.proofs.Common.{rules}
use Rattle.tc_fakes.proofs.PlayedReads.{read_given}
use Rattle.tc_fakes.proofs.playing.gives.Goals as goal

pub returns-else-contains-clause-is : goal.returns-else-contains-clause-is
returns-else-contains-clause-is c = read_given c.args.act.now c.in-Read.c c.in-Read.bytes _ _ _ _ (search rules) (search rules) (search rules) (search rules) (search rules) (search rules)
