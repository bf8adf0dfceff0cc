use Rattle.std.proofs.Common.{◌∙◌, ap, false}
use Rattle.std.specs.Prelude.{length, option_map}
use Rattle.tc_base.specs.Lists.{first}
use Rattle.tc_space.specs.Frames.{keeps_then}
use Rattle.tc_space.specs.Stores.{ready_reads}
use Rattle.bt_tree.specs.Meaning.{Means}
use Rattle.bt_ways.specs.Changes.{inserted}
use Rattle.tc_treedb.proofs.Severals.{changes_behind, counts_set, inserted_as}
use Rattle.tc_treedb.proofs.Stored.{made_behind, made_looked}
use Rattle.tc_treedb.proofs.many.set_one.Goals as goal

pub returns-in_err-old-clause-stays : goal.returns-in_err-old-clause-stays
returns-in_err-old-clause-stays g c = made_looked g.R.S.Space g.R.Records g.O.Order _ _ _ _ c.first_len.ensures.looks

pub insert-requires : goal.insert-requires
insert-requires g c = ready_reads g.R.S.Space (Means g.R.S.Space g.R.Records g.O.Order) _ _ _ _ c.first_len.ensures.looks.reads (record { sound = c.requires.sound; held = c.requires.held })

pub returns-in_err-insert-clause-keeps : goal.returns-in_err-insert-clause-keeps
returns-in_err-insert-clause-keeps g c = keeps_then g.R.S.Space _ _ _ c.first_len.ensures.looks.keeps c.insert.ensures.keeps

pub returns-in_err-insert-clause-stays : goal.returns-in_err-insert-clause-stays
returns-in_err-insert-clause-stays g c = made_behind g.R.S.Space g.R.Records g.O.Order _ _ _ _ _ c.first_len.ensures.looks c.insert.ensures.stays

pub returns-clause-set : goal.returns-clause-set
returns-clause-set g c = changes_behind g.R.S.Space g.R.Records g.O.Order (inserted g.O.Order.cmp false c.args.pair.now.key c.args.pair.now.value) _ _ _ _ _ _ c.first_len.ensures.looks
    (inserted_as g.R.S.Space g.R.Records g.O.Order false c.args.pair.now.key _ c.args.pair.now.value _ _ _ _ _ c.as_slice-key.ensures c.as_slice.ensures c.in_ok-insert.ensures.inserted)

pub returns-clause-counted : goal.returns-clause-counted
returns-clause-counted g c = counts_set g.R.S.Space g.R.Records g.O.Order g.met.O.Order.total g.met.O.Order.exact c.args.pair.now c.args.total _ c.in_ok-old.old _ _ _ _ (ap length c.as_slice-key.ensures) c.len.ensures
    (λ ps h. c.in_ok-old.ensures.value ps h ∙ ap (λ k. option_map length (first ps k)) c.as_slice-key.ensures) c.counted_with.ensures

pub returns-clause-keeps : goal.returns-clause-keeps
returns-clause-keeps g c = keeps_then g.R.S.Space _ _ _ c.first_len.ensures.looks.keeps c.insert.ensures.keeps

pub returns-clause-stays : goal.returns-clause-stays
returns-clause-stays g c = made_behind g.R.S.Space g.R.Records g.O.Order _ _ _ _ _ c.first_len.ensures.looks c.insert.ensures.stays
