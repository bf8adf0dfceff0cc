use Rattle.std.proofs.Common.{◌∙◌, ap, inr}
use Rattle.std.specs.Prelude.{unwrap_or}
use Rattle.std.proofs.lemmas.Result.{IfOk-weaker}
use Rattle.tc_base.specs.declared.kind.Mode.TheVariants.{Cat}
use Rattle.tc_space.specs.Frames.{keeps_then}
use Rattle.tc_space.specs.Stores.{ready_reads}
use Rattle.bt_page.proofs.Runs.{on_err_any}
use Rattle.bt_tree.specs.Meaning.{Means}
use Rattle.tc_treedb.specs.Changing.{after, put_in, stored_in}
use Rattle.tc_treedb.proofs.Looked.{looks_asks}
use Rattle.tc_treedb.proofs.Stored.{fills_as, fills_behind, grown_behind, grown_looked, joined_is, joined_long, lengths_all, lengths_joined, no_room, refused_behind, takes_as, takes_behind, takes_looked}
use Rattle.tc_treedb.proofs.storing.join.Goals as goal

pub returns-in_err-found-clause-refused : goal.returns-in_err-found-clause-refused
returns-in_err-found-clause-refused g c = on_err_any _ (inr c.first_value.ensures.asks.reads)

pub returns-in_err-found-clause-keeps : goal.returns-in_err-found-clause-keeps
returns-in_err-found-clause-keeps g c = c.first_value.ensures.asks.looks.keeps

pub returns-in_err-found-clause-stays : goal.returns-in_err-found-clause-stays
returns-in_err-found-clause-stays g c = grown_looked g.R.S.Space g.R.Records g.O.Order _ _ _ _ _ (looks_asks g.R.S.Space g.R.Records g.O.Order _ _ _ _ _ _ _ c.first_value.ensures.asks)

pub returns-then-not-has_room-clause-takes : goal.returns-then-not-has_room-clause-takes
returns-then-not-has_room-clause-takes g c = takes_looked g.R.S.Space g.R.Records g.O.Order (stored_in g.O.Order.cmp Cat c.args.key.now c.args.more.now) _ _ _ _ (looks_asks g.R.S.Space g.R.Records g.O.Order _ _ _ _ _ _ _ c.first_value.ensures.asks)
    (λ ps h. joined_long g.O.Order.cmp c.args.key.now c.args.more.now ps c.in_ok-found.found (c.in_ok-found.ensures.value ps h) (no_room c.in_ok-found.found c.args.more.now c.has_room.result c.has_room.ensures c.if-not-has_room.true))

pub returns-then-not-has_room-clause-keeps : goal.returns-then-not-has_room-clause-keeps
returns-then-not-has_room-clause-keeps g c = c.first_value.ensures.asks.looks.keeps

pub returns-then-not-has_room-clause-stays : goal.returns-then-not-has_room-clause-stays
returns-then-not-has_room-clause-stays g c = grown_looked g.R.S.Space g.R.Records g.O.Order _ _ _ _ _ (looks_asks g.R.S.Space g.R.Records g.O.Order _ _ _ _ _ _ _ c.first_value.ensures.asks)

pub returns-in_err-all-clause-refused : goal.returns-in_err-all-clause-refused
returns-in_err-all-clause-refused g c = on_err_any _ (inr c.first_value.ensures.asks.reads)

pub returns-in_err-all-clause-keeps : goal.returns-in_err-all-clause-keeps
returns-in_err-all-clause-keeps g c = c.first_value.ensures.asks.looks.keeps

pub returns-in_err-all-clause-stays : goal.returns-in_err-all-clause-stays
returns-in_err-all-clause-stays g c = grown_looked g.R.S.Space g.R.Records g.O.Order _ _ _ _ _ (looks_asks g.R.S.Space g.R.Records g.O.Order _ _ _ _ _ _ _ c.first_value.ensures.asks)

pub put-requires : goal.put-requires
put-requires g c = ready_reads g.R.S.Space (Means g.R.S.Space g.R.Records g.O.Order) _ _ _ _ c.first_value.ensures.asks.reads (record { sound = c.requires.sound; held = c.requires.held })

pub returns-clause-takes : goal.returns-clause-takes
returns-clause-takes g c = IfOk-weaker _ _ _
    (λ done takes. takes_as g.R.S.Space g.R.Records g.O.Order (put_in g.O.Order.cmp c.args.key.now c.as_slice.result.now) (stored_in g.O.Order.cmp Cat c.args.key.now c.args.more.now) _ _ _ _ _
    (λ ps h. joined_is g.O.Order.cmp c.args.key.now c.args.more.now c.as_slice.result.now ps c.in_ok-found.found (c.in_ok-found.ensures.value ps h) (c.as_slice.ensures ∙ c.in_ok-all.ensures))
    (takes_behind g.R.S.Space g.R.Records g.O.Order (put_in g.O.Order.cmp c.args.key.now c.as_slice.result.now) _ _ _ _ _ _ _ (looks_asks g.R.S.Space g.R.Records g.O.Order _ _ _ _ _ _ _ c.first_value.ensures.asks) takes))
    c.put.ensures.takes

pub returns-clause-lengths : goal.returns-clause-lengths
returns-clause-lengths g c = IfOk-weaker _ _ _
    (λ done told. lengths_all done (λ l is ps h. lengths_joined c.args.key.now c.args.more.now c.as_slice.result.now ps l _ c.in_ok-found.found (c.in_ok-found.ensures.value ps h) c.len_of-old.ensures (c.as_slice.ensures ∙ c.in_ok-all.ensures) is) told)
    c.put.ensures.lengths

pub returns-clause-refused : goal.returns-clause-refused
returns-clause-refused g c = refused_behind g.R.S.Space g.R.Records g.O.Order c.put.result _ _ _ _ _ _ (looks_asks g.R.S.Space g.R.Records g.O.Order _ _ _ _ _ _ _ c.first_value.ensures.asks) c.put.ensures.refused

pub returns-clause-full : goal.returns-clause-full
returns-clause-full g c = λ full.
    fills_as g.R.S.Space g.R.Records g.O.Order (after (put_in g.O.Order.cmp c.args.key.now c.as_slice.result.now)) (after (stored_in g.O.Order.cmp Cat c.args.key.now c.args.more.now)) _ _ _
    (λ ps h. ap (λ o. unwrap_or o ps) (joined_is g.O.Order.cmp c.args.key.now c.args.more.now c.as_slice.result.now ps c.in_ok-found.found (c.in_ok-found.ensures.value ps h) (c.as_slice.ensures ∙ c.in_ok-all.ensures)))
    (fills_behind g.R.S.Space g.R.Records g.O.Order (after (put_in g.O.Order.cmp c.args.key.now c.as_slice.result.now)) _ _ _ _ _ (looks_asks g.R.S.Space g.R.Records g.O.Order _ _ _ _ _ _ _ c.first_value.ensures.asks) (c.put.ensures.full full))

pub returns-clause-keeps : goal.returns-clause-keeps
returns-clause-keeps g c = keeps_then g.R.S.Space _ _ _ c.first_value.ensures.asks.looks.keeps c.put.ensures.keeps

pub returns-clause-stays : goal.returns-clause-stays
returns-clause-stays g c = grown_behind g.R.S.Space g.R.Records g.O.Order c.put.result _ _ _ _ _ _ (looks_asks g.R.S.Space g.R.Records g.O.Order _ _ _ _ _ _ _ c.first_value.ensures.asks) c.put.ensures.stays
