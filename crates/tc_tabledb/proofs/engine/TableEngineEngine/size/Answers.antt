use Rattle.std.proofs.Common.{◌∙◌, ap, refl, sym}
use Rattle.tc_model.specs.Stores.{size_of}
use Rattle.tc_tabledb.proofs.Lifting.{ready_down, reads_up, rows_held, size_told, still_up}
use Rattle.tc_tabledb.proofs.engine.TableEngineEngine.size.Goals as goal

pub returns-in-Some-clause-value : goal.returns-in-Some-clause-value
returns-in-Some-clause-value g c = λ x h. size_told c.args.self.now.total c.in-Some.total (size_of x) c.in-Some.is h.1.counted

pub all_bytes-requires : goal.all_bytes-requires
all_bytes-requires g c = ready_down g.S.Space _ _ _ c.args.self.now c.args.space.now c.requires

pub returns-in_err-total-clause-reads : goal.returns-in_err-total-clause-reads
returns-in_err-total-clause-reads g c = still_up g.S.Space _ _ _ _ _ _ _ refl c.all_bytes.ensures.reads.stays c.all_bytes.ensures.reads.rows

pub returns-clause-value : goal.returns-clause-value
returns-clause-value g c = λ x h. c.in_ok-total.ensures.size h.1.rows (rows_held g.S.Space _ _ _ c.args.self.now c.args.space.now x h) ∙ ap size_of (sym h.1.is)

pub returns-clause-reads : goal.returns-clause-reads
returns-clause-reads g c = reads_up g.S.Space _ _ _ c.args.self.now _ _ _ c.all_bytes.ensures.reads.stays c.all_bytes.ensures.reads.rows (λ x h counted. c.in_ok-total.ensures.size h.1.rows (rows_held g.S.Space _ _ _ c.args.self.now c.args.space.now x h) ∙ ap size_of (sym h.1.is))
