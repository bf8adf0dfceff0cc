use Rattle.tc_hashdb.specs.Lifting.{ready_down, reads_up}
use Rattle.tc_hashdb.proofs.Asked.{listed}
use Rattle.tc_hashdb.proofs.engine.HashEngineEngine.keys_from.Goals as goal

pub list-requires : goal.list-requires
list-requires g c = ready_down g.S.Space c.args.self.now c.args.space.now c.requires

pub returns-in_err-all-clause-reads : goal.returns-in_err-all-clause-reads
returns-in_err-all-clause-reads g c = reads_up g.S.Space _ _ _ _ c.list.ensures.reads

pub returns-in_err-found-clause-reads : goal.returns-in_err-found-clause-reads
returns-in_err-found-clause-reads g c = reads_up g.S.Space _ _ _ _ c.list.ensures.reads

pub returns-in_err-add_texts-clause-reads : goal.returns-in_err-add_texts-clause-reads
returns-in_err-add_texts-clause-reads g c = reads_up g.S.Space _ _ _ _ c.list.ensures.reads

pub returns-clause-reads : goal.returns-clause-reads
returns-clause-reads g c = reads_up g.S.Space _ _ _ _ c.list.ensures.reads

pub returns-clause-rows : goal.returns-clause-rows
returns-clause-rows g c = λ k h. listed g.S.Space c.args.self.now c.args.space.now k c.args.prefix.now c.as_slice.result.now c.args.most c.in_ok-all.all c.in_ok-found.found c.as_slice-2.result.now c.args.into.now c.add_texts.new.rows c.as_slice.ensures c.as_slice-2.ensures c.in_ok-all.ensures.value c.in_ok-found.ensures h c.in_ok-add_texts.ensures.rows
