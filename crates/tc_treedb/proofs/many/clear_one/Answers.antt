use Rattle.std.proofs.Common.{true}
use Rattle.tc_space.specs.Frames.{keeps_then}
use Rattle.tc_space.specs.Stores.{ready_reads}
use Rattle.bt_page.proofs.Runs.{err_handed}
use Rattle.bt_tree.specs.Meaning.{Means}
use Rattle.bt_ways.specs.Changes.{removed}
use Rattle.tc_treedb.specs.Changing.{cleared_in}
use Rattle.tc_treedb.proofs.Severals.{cleared_out, counts_cleared}
use Rattle.tc_treedb.proofs.Stored.{fills_behind, fills_here, fills_remove, less_behind, less_looked}
use Rattle.tc_treedb.proofs.many.clear_one.Goals as goal

pub returns-in_err-less-clause-stays : goal.returns-in_err-less-clause-stays
returns-in_err-less-clause-stays g c = less_looked g.R.S.Space g.R.Records g.O.Order _ _ _ _ c.key_bytes.ensures.looks

pub remove-requires : goal.remove-requires
remove-requires g c = ready_reads g.R.S.Space (Means g.R.S.Space g.R.Records g.O.Order) _ _ _ _ c.key_bytes.ensures.looks.reads (record { sound = c.requires.sound; held = c.requires.held })

pub returns-in_err-_held-clause-full : goal.returns-in_err-_held-clause-full
returns-in_err-_held-clause-full g c = λ full.
    fills_behind g.R.S.Space g.R.Records g.O.Order (cleared_in g.O.Order.cmp c.args.key.now) _ _ _ _ _ c.key_bytes.ensures.looks
    (fills_here g.R.S.Space g.R.Records g.O.Order (removed g.O.Order.cmp true c.args.key.now) _ _ _ c.remove.ensures.keeps
    (fills_remove g.R.S.Space g.R.Records g.O.Order true c.args.key.now _ _ _ (c.in_err-_held.ensures.full (err_handed c.from_residual-in_err-_held.result c.in_err-_held.field-0.0 _ c.from_residual-in_err-_held.ensures.1 full))))

pub returns-in_err-_held-clause-keeps : goal.returns-in_err-_held-clause-keeps
returns-in_err-_held-clause-keeps g c = keeps_then g.R.S.Space _ _ _ c.key_bytes.ensures.looks.keeps c.remove.ensures.keeps

pub returns-in_err-_held-clause-stays : goal.returns-in_err-_held-clause-stays
returns-in_err-_held-clause-stays g c = less_behind g.R.S.Space g.R.Records g.O.Order _ _ _ _ _ c.key_bytes.ensures.looks c.remove.ensures.stays c.remove.ensures.ids

pub returns-clause-cleared : goal.returns-clause-cleared
returns-clause-cleared g c = cleared_out g.R.S.Space g.R.Records g.O.Order g.met.O.Order.total g.met.O.Order.exact c.args.key.now _ _ _ _ _ _ _ c.key_bytes.ensures.looks c.in_ok-_held.ensures.out

pub returns-clause-counted : goal.returns-clause-counted
returns-clause-counted g c = counts_cleared g.R.S.Space g.R.Records g.O.Order g.met.O.Order.total g.met.O.Order.exact c.args.key.now c.args.total c.in_ok-less.less _ _ _ c.in_ok-less.ensures.value c.counted_less.ensures

pub returns-clause-keeps : goal.returns-clause-keeps
returns-clause-keeps g c = keeps_then g.R.S.Space _ _ _ c.key_bytes.ensures.looks.keeps c.remove.ensures.keeps

pub returns-clause-stays : goal.returns-clause-stays
returns-clause-stays g c = less_behind g.R.S.Space g.R.Records g.O.Order _ _ _ _ _ c.key_bytes.ensures.looks c.remove.ensures.stays c.remove.ensures.ids
