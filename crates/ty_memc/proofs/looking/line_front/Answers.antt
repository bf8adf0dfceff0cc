use Rattle.ty_memc.proofs.Fronts.{line_awaits, line_whole, line_closes}
use Rattle.ty_memc.proofs.looking.line_front.Goals as goal

pub value_front-requires : goal.value_front-requires
value_front-requires c = line_awaits c.args.bytes.now _ c.args.at _ _ _ _ c.requires.end c.split_line.ensures.line c.in-Stores.ensures

pub returns-in-Stores-clause-seen : goal.returns-in-Stores-clause-seen
returns-in-Stores-clause-seen c = record { passed = c.requires.seen.passed; value = line_awaits c.args.bytes.now _ c.args.at _ _ _ _ c.requires.end c.split_line.ensures.line c.in-Stores.ensures }

pub returns-in-Says-clause-reading : goal.returns-in-Says-clause-reading
returns-in-Says-clause-reading c = line_whole c.args.bytes.now _ c.args.at _ c.requires.end c.split_line.ensures.line c.in-Says.ensures.1

pub returns-in-Closes-clause-reading : goal.returns-in-Closes-clause-reading
returns-in-Closes-clause-reading c = line_closes c.args.bytes.now _ c.args.at c.requires.end c.split_line.ensures.line c.in-Closes.ensures
