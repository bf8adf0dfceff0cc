use Rattle.std.proofs.Common.{◌∙◌, List, ℕ, refl, sym, ap, subst}
use Rattle.tc_engine.specs.Rows.{Adds, adds_nothing, text_rows}
use Rattle.tc_base.specs.declared.seq.Pair.{Pair}
use Rattle.tc_tabledb.proofs.Lifting.{all_told, items_told, ready_down, still_up, told_text}
use Rattle.tc_tabledb.proofs.engine.TableEngineEngine.pairs.Goals as goal

pub text_at-requires : goal.text_at-requires
text_at-requires g c = ready_down g.S.Space _ _ _ c.args.self.now c.args.space.now c.requires

pub returns-clause-reads : goal.returns-clause-reads
returns-clause-reads g c = still_up g.S.Space _ _ _ _ _ _ _ refl c.text_at.ensures.reads.stays c.text_at.ensures.reads.rows

pub returns-in_default-clause-reads : goal.returns-in_default-clause-reads
returns-in_default-clause-reads g c = still_up g.S.Space _ _ _ _ _ _ _ refl c.text_at.ensures.reads.stays c.text_at.ensures.reads.rows

pub returns-in_err-text-clause-reads : goal.returns-in_err-text-clause-reads
returns-in_err-text-clause-reads g c = still_up g.S.Space _ _ _ _ _ _ _ refl c.text_at.ensures.reads.stays c.text_at.ensures.reads.rows

pub returns-in_err-add_items-clause-reads : goal.returns-in_err-add_items-clause-reads
returns-in_err-add_items-clause-reads g c = still_up g.S.Space _ _ _ _ _ _ _ refl c.text_at.ensures.reads.stays c.text_at.ensures.reads.rows

pub returns-in_default-clause-rows : goal.returns-in_default-clause-rows
returns-in_default-clause-rows g c = λ x h. subst (λ (ps : List Pair). Adds c.args.into.now c.args.into.now (text_rows ps)) (sym (all_told g.S.Space _ _ _ c.args.self.now c.args.space.now x c.args.key.now _ h (sym c.in_default.is ∙ told_text g.S.Space _ _ _ c.args.self.now c.args.space.now c.args.key.now c.as_slice.result.now _ c.as_slice.ensures c.in_ok-text.ensures.text x h))) (adds_nothing c.args.into.now)

pub returns-clause-rows : goal.returns-clause-rows
returns-clause-rows g c = λ x h. items_told g.S.Space _ _ _ c.args.self.now c.args.space.now x c.args.key.now c.in-Some.text c.as_slice-2.result.now c.as_slice-3.result.now c.args.into.now c.add_items.new.rows h (sym c.in-Some.is ∙ told_text g.S.Space _ _ _ c.args.self.now c.args.space.now c.args.key.now c.as_slice.result.now _ c.as_slice.ensures c.in_ok-text.ensures.text x h) c.as_slice-2.ensures c.as_slice-3.ensures c.in_ok-add_items.ensures.rows
