use Rattle.std.proofs.Common.{rules}
use Rattle.ty_rounds.proofs.Places.{not_yet, none_yet}
use Rattle.ty_rounds.proofs.listening.scanned_for.Goals as goal

pub loop-i-preserved : goal.loop-i-preserved
loop-i-preserved c = not_yet c.args.conn _ c.loop-i.i c.index-peers-i.result (search rules) (search rules) (search rules) c.loop-i.invariant

pub returns-clause-none : goal.returns-clause-none
returns-clause-none c = none_yet _ _ c.loop-i.i c.loop-i-test.false c.loop-i.invariant
