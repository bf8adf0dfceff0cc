use Rattle.std.proofs.Common.{rules}
use Rattle.ty_core.proofs.Gathering.{full_of}
use Rattle.ty_core.proofs.taking.take_front.Goals as goal

pub take_large-requires-clause-full : goal.take_large-requires-clause-full
take_large-requires-clause-full c = full_of c.args.large.now c.in-Some.large c.args.bytes.now.items c.args.whole (search rules) c.requires.gathers c.requires.whole
