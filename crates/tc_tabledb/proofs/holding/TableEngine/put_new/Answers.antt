use Rattle.tc_space.specs.Frames.{keeps_then}
use Rattle.tc_model.specs.Contents.{table}
use Rattle.std.specs.FinMap.{insert}
use Rattle.tc_tabledb.proofs.Limits.{fills_given}
use Rattle.tc_tabledb.proofs.holding.TableEngine.put_new.Goals as goal

pub make_index-requires-clause-ready : goal.make_index-requires-clause-ready
make_index-requires-clause-ready g c = c.requires.ready

pub make_index-requires-clause-named : goal.make_index-requires-clause-named
make_index-requires-clause-named g c = c.requires.named

pub make_index-requires-clause-new : goal.make_index-requires-clause-new
make_index-requires-clause-new g c = c.requires.new

pub returns-in-Err-clause-full : goal.returns-in-Err-clause-full
returns-in-Err-clause-full g c = λ full x h rows indexes is i not. fills_given g.S.Space _ _ _ _ _ c.table_stores.ensures c.make_index.new.space c.give_up.new.space (table rows i) (table rows (insert indexes c.args.name c.args.kind)) h.0 c.give_up.ensures (c.in-Err.ensures.full full x h rows indexes is i not)

pub returns-in-Err-clause-keeps : goal.returns-in-Err-clause-keeps
returns-in-Err-clause-keeps g c = keeps_then g.S.Space c.args.space.now c.make_index.new.space c.give_up.new.space c.make_index.ensures.keeps c.give_up.ensures.keeps
