use Rattle.std.proofs.Common.{◌∙◌, refl, sym}
use Rattle.tc_tabledb.proofs.Lifting.{item_none, item_told, ready_down, still_up, told_text}
use Rattle.tc_tabledb.proofs.engine.TableEngineEngine.item.Goals as goal

pub text_at-requires : goal.text_at-requires
text_at-requires g c = ready_down g.S.Space _ _ _ c.args.self.now c.args.space.now c.requires

pub returns-clause-reads : goal.returns-clause-reads
returns-clause-reads g c = still_up g.S.Space _ _ _ _ _ _ _ refl c.text_at.ensures.reads.stays c.text_at.ensures.reads.rows

pub returns-in_default-clause-reads : goal.returns-in_default-clause-reads
returns-in_default-clause-reads g c = still_up g.S.Space _ _ _ _ _ _ _ refl c.text_at.ensures.reads.stays c.text_at.ensures.reads.rows

pub returns-in_err-text-clause-reads : goal.returns-in_err-text-clause-reads
returns-in_err-text-clause-reads g c = still_up g.S.Space _ _ _ _ _ _ _ refl c.text_at.ensures.reads.stays c.text_at.ensures.reads.rows

pub returns-in_err-item-clause-reads : goal.returns-in_err-item-clause-reads
returns-in_err-item-clause-reads g c = still_up g.S.Space _ _ _ _ _ _ _ refl c.text_at.ensures.reads.stays c.text_at.ensures.reads.rows

pub returns-in_default-clause-value : goal.returns-in_default-clause-value
returns-in_default-clause-value g c = λ x h. item_none _ c.args.into.now (sym c.in_default.is ∙ told_text g.S.Space _ _ _ c.args.self.now c.args.space.now c.args.key.now c.as_slice.result.now _ c.as_slice.ensures c.in_ok-text.ensures.text x h)

pub returns-clause-value : goal.returns-clause-value
returns-clause-value g c = λ x h. item_told _ c.in-Some.text c.as_slice-2.result.now c.args.into.now c.item.new.self (sym c.in-Some.is ∙ told_text g.S.Space _ _ _ c.args.self.now c.args.space.now c.args.key.now c.as_slice.result.now _ c.as_slice.ensures c.in_ok-text.ensures.text x h) c.as_slice-2.ensures c.in_ok-item.ensures.added
