use Rattle.std.proofs.Common.{inr}
use Rattle.std.proofs.lemmas.Result.{IfOk-weaker}
use Rattle.tc_space.specs.Frames.{keeps_then}
use Rattle.tc_space.specs.Stores.{ready_reads}
use Rattle.bt_page.proofs.Runs.{on_err_any}
use Rattle.bt_tree.specs.Meaning.{Means}
use Rattle.tc_treedb.specs.Changing.{after, put_in}
use Rattle.tc_treedb.proofs.Stored.{fills_behind, grown_behind, grown_looked, lengths_all, lengths_over, refused_behind, takes_behind}
use Rattle.tc_treedb.proofs.storing.over.Goals as goal

pub returns-in_err-old-clause-refused : goal.returns-in_err-old-clause-refused
returns-in_err-old-clause-refused g c = on_err_any _ (inr c.first_len.ensures.looks.reads)

pub returns-in_err-old-clause-stays : goal.returns-in_err-old-clause-stays
returns-in_err-old-clause-stays g c = grown_looked g.R.S.Space g.R.Records g.O.Order _ _ _ _ _ c.first_len.ensures.looks

pub returns-clause-takes : goal.returns-clause-takes
returns-clause-takes g c = IfOk-weaker _ _ _ (λ done takes. takes_behind g.R.S.Space g.R.Records g.O.Order (put_in g.O.Order.cmp c.args.key.now c.args.value.now) _ _ _ _ _ _ _ c.first_len.ensures.looks takes) c.put.ensures.takes

pub returns-clause-lengths : goal.returns-clause-lengths
returns-clause-lengths g c = IfOk-weaker _ _ _ (λ done told. lengths_all done (λ l is ps h. lengths_over c.args.key.now c.args.value.now ps l c.in_ok-old.old (c.in_ok-old.ensures.value ps h) is) told) c.put.ensures.lengths

pub returns-clause-refused : goal.returns-clause-refused
returns-clause-refused g c = refused_behind g.R.S.Space g.R.Records g.O.Order c.put.result _ _ _ _ _ _ c.first_len.ensures.looks c.put.ensures.refused

pub returns-clause-full : goal.returns-clause-full
returns-clause-full g c = λ full. fills_behind g.R.S.Space g.R.Records g.O.Order (after (put_in g.O.Order.cmp c.args.key.now c.args.value.now)) _ _ _ _ _ c.first_len.ensures.looks (c.put.ensures.full full)

pub returns-clause-stays : goal.returns-clause-stays
returns-clause-stays g c = grown_behind g.R.S.Space g.R.Records g.O.Order c.put.result _ _ _ _ _ _ c.first_len.ensures.looks c.put.ensures.stays

pub put-requires : goal.put-requires
put-requires g c = ready_reads g.R.S.Space (Means g.R.S.Space g.R.Records g.O.Order) _ _ _ _ c.first_len.ensures.looks.reads (record { sound = c.requires.sound; held = c.requires.held })

pub returns-clause-keeps : goal.returns-clause-keeps
returns-clause-keeps g c = keeps_then g.R.S.Space _ _ _ c.first_len.ensures.looks.keeps c.put.ensures.keeps
