use Rattle.std.proofs.Common.{length}
use Rattle.hf_pool.specs.Pools.{frees}
use Rattle.hf_chain.specs.Costs.{step_most}
use Rattle.hf_record.proofs.Bucketing.{search_within}
use Rattle.hf_record.proofs.Finding.{has_tree}
use Rattle.hf_record.proofs.Searched.{ends_so}
use Rattle.hf_record.proofs.Valid.{is_valid}
use Rattle.hf_record.proofs.body.Body.search.Goals as goal

pub find-requires-clause-tree : goal.find-requires-clause-tree
find-requires-clause-tree g c = λ t.
    let self = c.args.self.now in
    let w = c.requires.held t in
    has_tree self.head self.pool.size (frees self.pool) w.0 (g.S.Space.now c.args.space.now self.file) c.args.key.now (is_valid self.head self.valid) w.1

pub returns-clause-ends : goal.returns-clause-ends
returns-clause-ends g c =
    let self = c.args.self.now in
    ends_so g.S.Space self c.args.key.now c.args.space.now c.find.new.space c.find.result c.find.ensures.reads c.find.ensures.found c.find.ensures.head

pub returns-clause-within : goal.returns-clause-within
returns-clause-within g c = λ t m has.
    let self = c.args.self.now in
    search_within self.head self.pool.size (frees self.pool) m (g.S.Space.now c.args.space.now self.file) c.args.key.now (step_most (length c.args.key.now)) c.args.steps.now c.find.new.steps (g.S.Space.bytes_read c.args.space.now) (g.S.Space.bytes_read c.find.new.space) (is_valid self.head self.valid) has (c.find.ensures.within t)
