use Rattle.std.proofs.Common.{inl, inr}
use Rattle.tc_reach.proofs.Handed.{err_handed, on_err_any}
use Rattle.tc_tabledb.specs.Indexing.{unindexed}
use Rattle.tc_tabledb.proofs.Indexed.{index_left, index_removed, log_full, never_elsewhere, none_left, none_removed}
use Rattle.tc_tabledb.proofs.Opened.{place_data}
use Rattle.tc_tabledb.proofs.holding.TableEngine.drop_index.Goals as goal

pub returns-in_default-clause-makes : goal.returns-in_default-clause-makes
returns-in_default-clause-makes g c = none_removed g.S.Space _ _ _ _ _ c.table_stores.ensures c.args.name.now c.args.self.now c.remove_index.new.self c.args.space.now c.requires.sound c.in_default.ensures

pub returns-in_default-clause-none : goal.returns-in_default-clause-none
returns-in_default-clause-none g c = λ t. none_left g.S.Space _ _ _ _ _ c.table_stores.ensures c.args.name.now c.args.self.now.table c.remove_index.new.self c.in_default.ensures

pub returns-then-not-is_place-clause-refused : goal.returns-then-not-is_place-clause-refused
returns-then-not-is_place-clause-refused g c = inr (never_elsewhere g.S.Space _ _ _ _ _ c.table_stores.ensures c.args.name.now c.in-Some.side c.args.self.now c.remove_index.new.self c.args.space.now c.in-Some.ensures c.file_of-file.result c.file_of-file.ensures (c.is_place.ensures.other c.if-not-is_place.true) c.requires.sound)

pub cut_to-requires-clause-sound : goal.cut_to-requires-clause-sound
cut_to-requires-clause-sound g c = c.requires.sound

pub cut_to-requires-clause-file : goal.cut_to-requires-clause-file
cut_to-requires-clause-file g c = place_data c.file_of-file.result (c.is_place.ensures.place c.if-not-is_place.false)

pub returns-in_err-cut_to-clause-refused : goal.returns-in_err-cut_to-clause-refused
returns-in_err-cut_to-clause-refused g c = on_err_any _ (inl c.in_err-cut_to.ensures.outcome.err)

pub returns-in_err-cut_to-clause-full : goal.returns-in_err-cut_to-clause-full
returns-in_err-cut_to-clause-full g c = λ full. log_full g.S.Space _ _ _ _ _ c.table_stores.ensures (unindexed c.args.name.now) c.args.self.now c.args.space.now c.cut_to.new.space (c.in_err-cut_to.ensures.full (err_handed c.from_residual.result c.in_err-cut_to.field-0.0 _ c.from_residual.ensures.1 full))

pub returns-in_err-cut_to-clause-log : goal.returns-in_err-cut_to-clause-log
returns-in_err-cut_to-clause-log g c = λ full. c.in_err-cut_to.ensures.full (err_handed c.from_residual.result c.in_err-cut_to.field-0.0 _ c.from_residual.ensures.1 full)

pub returns-in_err-cut_to-clause-keeps : goal.returns-in_err-cut_to-clause-keeps
returns-in_err-cut_to-clause-keeps g c = c.cut_to.ensures.writes.keeps

pub returns-clause-makes : goal.returns-clause-makes
returns-clause-makes g c = index_removed g.S.Space _ _ _ _ _ c.table_stores.ensures c.args.name.now c.in-Some.side c.args.self.now c.remove_index.new.self c.args.space.now c.in-Some.ensures c.file_of-file.result c.cut_to.new.space c.file_of-file.ensures (c.is_place.ensures.place c.if-not-is_place.false) c.in_ok-cut_to.ensures.outcome.ok c.in_ok-cut_to.ensures.cut

pub returns-clause-none : goal.returns-clause-none
returns-clause-none g c = λ t. let h = c.requires.held t in index_left g.S.Space _ _ _ _ _ c.table_stores.ensures c.args.name.now c.in-Some.side c.args.self.now c.remove_index.new.self c.args.space.now c.in-Some.ensures h.0 (t, h.1)

pub returns-clause-keeps : goal.returns-clause-keeps
returns-clause-keeps g c = c.cut_to.ensures.writes.keeps
