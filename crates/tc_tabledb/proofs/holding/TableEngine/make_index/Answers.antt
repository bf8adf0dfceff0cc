use Rattle.std.proofs.lemmas.Result.{on_ok_weaker}
use Rattle.td_index.proofs.Handed.{err_handed}
use Rattle.tc_tabledb.proofs.Admitted.{free_here, place_empty, place_full, side_added, side_away, side_full, side_ready}
use Rattle.tc_tabledb.proofs.Made.{side_comes}
use Rattle.tc_tabledb.proofs.holding.TableEngine.make_index.Goals as goal

pub make_side-requires-clause-empty : goal.make_side-requires-clause-empty
make_side-requires-clause-empty g c = place_empty g.S.Space _ _ _ _ _ c.table_stores.ensures c.in-Some.file c.args.self.now c.args.space.now c.requires.ready c.in-Some.ensures.place (free_here g.S.Space _ _ _ _ _ c.table_stores.ensures c.in-Some.file c.as_slice.result.now c.args.self.now.table.sides.items c.as_slice.ensures.value c.in-Some.ensures.free)

pub make_side-requires-clause-place : goal.make_side-requires-clause-place
make_side-requires-clause-place g c = c.in-Some.ensures.place

pub make_side-requires-clause-named : goal.make_side-requires-clause-named
make_side-requires-clause-named g c = c.requires.named

pub returns-in_err-side-clause-full : goal.returns-in_err-side-clause-full
returns-in_err-side-clause-full g c = λ full. place_full g.S.Space _ _ _ _ _ c.table_stores.ensures c.args.kind c.args.name c.in-Some.file c.args.self.now c.args.space.now c.make_side.new.space c.in-Some.ensures.place (c.in_err-side.ensures.full (err_handed c.from_residual.result c.in_err-side.field-0.0 _ c.from_residual.ensures.1 full))

pub add_index-requires-clause-ready : goal.add_index-requires-clause-ready
add_index-requires-clause-ready g c = side_ready g.S.Space _ _ _ _ _ c.table_stores.ensures c.args.kind c.args.name c.in-Some.file c.in_ok-side.side c.args.self.now c.args.space.now c.make_side.new.space c.in-Some.ensures.place (free_here g.S.Space _ _ _ _ _ c.table_stores.ensures c.in-Some.file c.as_slice.result.now c.args.self.now.table.sides.items c.as_slice.ensures.value c.in-Some.ensures.free) c.in_ok-side.ensures.made c.requires.ready

pub add_index-requires-clause-new : goal.add_index-requires-clause-new
add_index-requires-clause-new g c = record { ready = c.in_ok-side.ensures.made.ready; away = side_away g.S.Space _ _ _ _ _ c.table_stores.ensures c.args.kind c.args.name c.in-Some.file c.in_ok-side.side c.args.self.now c.args.space.now c.make_side.new.space c.in-Some.ensures.place (free_here g.S.Space _ _ _ _ _ c.table_stores.ensures c.in-Some.file c.as_slice.result.now c.args.self.now.table.sides.items c.as_slice.ensures.value c.in-Some.ensures.free) c.in_ok-side.ensures.made c.requires.ready; none = c.in_ok-side.ensures.made.none }

pub returns-clause-made : goal.returns-clause-made
returns-clause-made g c = on_ok_weaker c.add_index.result (λ adds. side_added g.S.Space _ _ _ _ _ c.table_stores.ensures c.args.kind c.args.name c.in-Some.file c.in_ok-side.side c.args.self.now c.args.space.now c.make_side.new.space c.in-Some.ensures.place (free_here g.S.Space _ _ _ _ _ c.table_stores.ensures c.in-Some.file c.as_slice.result.now c.args.self.now.table.sides.items c.as_slice.ensures.value c.in-Some.ensures.free) c.in_ok-side.ensures.made c.add_index.new.self c.add_index.new.space c.requires.new adds) c.add_index.ensures.adds

pub returns-clause-full : goal.returns-clause-full
returns-clause-full g c = λ full. side_full g.S.Space _ _ _ _ _ c.table_stores.ensures c.args.kind c.args.name c.in-Some.file c.in_ok-side.side c.args.self.now c.args.space.now c.make_side.new.space c.in-Some.ensures.place (free_here g.S.Space _ _ _ _ _ c.table_stores.ensures c.in-Some.file c.as_slice.result.now c.args.self.now.table.sides.items c.as_slice.ensures.value c.in-Some.ensures.free) c.in_ok-side.ensures.made c.add_index.new.space (c.add_index.ensures.full full)

pub returns-clause-comes : goal.returns-clause-comes
returns-clause-comes g c = on_ok_weaker c.add_index.result (λ adds. side_comes g.S.Space _ _ _ c.args.kind c.args.name c.in-Some.file c.in_ok-side.side c.args.self.now.table c.add_index.new.self c.as_slice.result.now c.args.space.now c.make_side.new.space c.add_index.new.space c.as_slice.ensures.value c.in-Some.ensures.place c.in-Some.ensures.free c.in-Some.ensures.lowest c.in_ok-side.ensures.made adds) c.add_index.ensures.adds
