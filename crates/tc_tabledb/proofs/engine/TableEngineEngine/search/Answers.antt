use Rattle.std.proofs.Common.{◌∙◌, inr, sym}
use Rattle.tc_reach.proofs.Handed.{err_handed, on_err_any}
use Rattle.tc_space.specs.Frames.{reads_refl}
use Rattle.tc_engine.specs.Changes.{found_by}
use Rattle.tc_model.specs.Contents.{table}
use Rattle.tc_tabledb.proofs.Deeds.{deed_is_out, never_asked, out_is_asked}
use Rattle.tc_tabledb.proofs.Lifting.{makes_none}
use Rattle.tc_tabledb.proofs.Searched.{none_asked, none_told, search_full, search_makes, search_says}
use Rattle.tc_tabledb.proofs.engine.TableEngineEngine.search.Goals as goal

pub returns-in_err-query-clause-refused : goal.returns-in_err-query-clause-refused
returns-in_err-query-clause-refused g c = on_err_any _ (inr (reads_refl g.S.Space _ c.args.self.now c.args.space.now c.requires.sound))

pub returns-in_default-clause-makes : goal.returns-in_default-clause-makes
returns-in_default-clause-makes g c = makes_none g.S.Space _ _ _ c.table_stores.ensures.store (found_by c.args.conditions.now) c.args.self.now c.args.space.now c.requires.sound (λ rows indexes. none_asked c.args.conditions.now (table rows indexes) (sym c.in_ok-query.ensures ∙ c.in_default.is))

pub returns-in_default-clause-says : goal.returns-in_default-clause-says
returns-in_default-clause-says g c = λ x h. none_told c.args.conditions.now x c.args.into.now (sym c.in_ok-query.ensures ∙ c.in_default.is)

pub returns-in_err-search_by-clause-quiet : goal.returns-in_err-search_by-clause-quiet
returns-in_err-search_by-clause-quiet g c = λ out. c.search_by.ensures.quiet (deed_is_out c.args.conditions.now c.in-Some.query (sym c.in_ok-query.ensures ∙ c.in-Some.is) out)

pub returns-in_err-search_by-clause-reads : goal.returns-in_err-search_by-clause-reads
returns-in_err-search_by-clause-reads g c = λ plain. (c.search_by.ensures.reads (never_asked c.args.conditions.now c.in-Some.query (sym c.in_ok-query.ensures ∙ c.in-Some.is) plain)).reads

pub returns-in_err-search_by-clause-writes : goal.returns-in_err-search_by-clause-writes
returns-in_err-search_by-clause-writes g c = λ full. out_is_asked c.args.conditions.now c.in-Some.query (sym c.in_ok-query.ensures ∙ c.in-Some.is) (c.in_err-search_by.ensures.writes (err_handed c.from_residual-in_err-search_by.result c.in_err-search_by.field-0.0 _ c.from_residual-in_err-search_by.ensures.1 full))

pub returns-in_err-search_by-clause-refused : goal.returns-in_err-search_by-clause-refused
returns-in_err-search_by-clause-refused g c = on_err_any _ c.in_err-search_by.ensures.refused

pub returns-in_err-search_by-clause-full : goal.returns-in_err-search_by-clause-full
returns-in_err-search_by-clause-full g c = λ full. search_full g.S.Space _ _ _ c.args.conditions.now c.in-Some.query (sym c.in_ok-query.ensures ∙ c.in-Some.is) c.args.self.now c.args.space.now c.search_by.new.space (c.in_err-search_by.ensures.full (err_handed c.from_residual-in_err-search_by.result c.in_err-search_by.field-0.0 _ c.from_residual-in_err-search_by.ensures.1 full))

pub returns-clause-makes : goal.returns-clause-makes
returns-clause-makes g c = search_makes g.S.Space _ _ _ c.args.conditions.now c.in-Some.query (sym c.in_ok-query.ensures ∙ c.in-Some.is) c.args.self.now c.search_by.new.self c.args.space.now c.search_by.new.space c.args.into.now c.search_by.new.into c.in_ok-search_by.ensures.does

pub returns-clause-says : goal.returns-clause-says
returns-clause-says g c = search_says g.S.Space _ _ _ c.args.conditions.now c.in-Some.query (sym c.in_ok-query.ensures ∙ c.in-Some.is) c.args.self.now c.search_by.new.self c.args.space.now c.search_by.new.space c.args.into.now c.search_by.new.into c.in_ok-search_by.ensures.does

pub returns-clause-quiet : goal.returns-clause-quiet
returns-clause-quiet g c = λ out. c.search_by.ensures.quiet (deed_is_out c.args.conditions.now c.in-Some.query (sym c.in_ok-query.ensures ∙ c.in-Some.is) out)

pub returns-clause-reads : goal.returns-clause-reads
returns-clause-reads g c = λ plain. (c.search_by.ensures.reads (never_asked c.args.conditions.now c.in-Some.query (sym c.in_ok-query.ensures ∙ c.in-Some.is) plain)).reads
