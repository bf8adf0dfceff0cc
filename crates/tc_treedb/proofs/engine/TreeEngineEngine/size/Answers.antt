use Rattle.std.proofs.Common.{◌∙◌, ap, refl, sym}
use Rattle.tc_model.specs.Stores.{size_of}
use Rattle.tc_treedb.specs.Lifting.{counts_up, means_of, ready_down, reads_up}
use Rattle.tc_treedb.proofs.Asked.{size_told}
use Rattle.tc_treedb.proofs.engine.TreeEngineEngine.size.Goals as goal

pub returns-in-Some-clause-value : goal.returns-in-Some-clause-value
returns-in-Some-clause-value g c = λ d h. size_told g.S.Space c.args.self.now c.args.space.now c.in-Some.total d c.in-Some.is h

pub all_bytes-requires : goal.all_bytes-requires
all_bytes-requires g c = ready_down g.S.Space c.args.self.now c.args.space.now c.requires

pub returns-in_err-total-clause-reads : goal.returns-in_err-total-clause-reads
returns-in_err-total-clause-reads g c = reads_up g.S.Space _ _ _ _ c.all_bytes.ensures.looks.reads refl

pub returns-clause-value : goal.returns-clause-value
returns-clause-value g c = λ d h. c.in_ok-total.ensures.value h.1.held (means_of g.S.Space _ _ d h) ∙ ap size_of (sym h.1.is)

pub returns-clause-reads : goal.returns-clause-reads
returns-clause-reads g c = counts_up g.S.Space c.args.self.now _ c.args.space.now c.all_bytes.new.space c.all_bytes.ensures.looks.reads (λ m h counted. c.in_ok-total.ensures.value m h)
