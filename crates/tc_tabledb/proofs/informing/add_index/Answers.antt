use Rattle.tc_tabledb.proofs.Told.{line_added}
use Rattle.tc_tabledb.proofs.informing.add_index.Goals as goal

pub returns-clause-added : goal.returns-clause-added
returns-clause-added c = line_added _ _ _ _ _ _ c.args.name.now c.args.word.now c.in_ok-append.ensures.ok c.in_ok-append-2.ensures.ok c.in_ok-append-3.ensures.ok c.in_ok-append-4.ensures.ok c.in_ok-push.ensures.ok
