use Rattle.std.proofs.Common.{inl, length, arith}
use Rattle.hf_chain.proofs.Paying.{paid_then}
use Rattle.hf_record.proofs.Paying.{paid_more}
use Rattle.hf_chain.specs.Costs.{step_most}
use Rattle.hf_pool.specs.Pools.{frees}
use Rattle.hf_record.proofs.Records.{stood}
use Rattle.hf_record.proofs.Valid.{is_valid}
use Rattle.tc_base.specs.declared.kind.Mode.TheVariants.{Over}
use Rattle.tc_hash.proofs.Stored.{from_done, from_refused, gives_again, lacks_again, lacks_log}
use Rattle.tc_hash.specs.Keeping.{Means}
use Rattle.tc_reach.proofs.Handed.{err_handed, on_err_any, on_err_of}
use Rattle.tc_space.specs.Changes.{out_of}
use Rattle.tc_space.specs.Stores.{Only, ready_writes}
use Rattle.tc_hash.proofs.hash.Hash.move_to_larger.Goals as goal

pub insert_absent-requires : goal.insert_absent-requires
insert_absent-requires g c = record { ready = ready_writes g.S.Space (Means g.S.Space) (Only c.args.self.now.body.file) (out_of c.args.key.now) c.args.self.now c.take_record.new.self c.args.space.now c.take_record.new.space c.in_ok-take_record.ensures.taken.writes c.requires.block.ready }

pub returns-clause-put : goal.returns-clause-put
returns-clause-put g c = from_done _ c.insert_absent.ensures.put (λ given. gives_again g.S.Space c.args.key.now c.args.value.now c.args.place.now.at c.args.room c.args.self.now c.take_record.new.self c.insert_absent.new.self c.args.space.now c.take_record.new.space c.insert_absent.new.space c.take_record.ensures.stays.map.file c.requires.few (λ m w. stood c.args.self.now.body.head c.args.self.now.body.pool.size (frees c.args.self.now.body.pool) m (g.S.Space.now c.args.space.now c.args.self.now.body.file) c.args.key.now (is_valid c.args.self.now.body.head c.args.self.now.body.valid) w.1.map.has c.args.place.now.at c.args.place.now.from (c.requires.block.found.here w.0) c.args.room (c.requires.block.block w.0)) c.in_ok-take_record.ensures.taken given.gives)

pub returns-clause-refused : goal.returns-clause-refused
returns-clause-refused g c = from_refused _ c.insert_absent.ensures.outcome.err (λ f. inl f)

pub returns-clause-full : goal.returns-clause-full
returns-clause-full g c = λ full. lacks_again g.S.Space c.args.key.now c.args.value.now c.args.place.now.at c.args.room c.args.self.now c.take_record.new.self c.args.space.now c.take_record.new.space c.insert_absent.new.space c.take_record.ensures.stays.map.file (on_err_of _ _ c.insert_absent.ensures.outcome.err full) c.requires.few (λ m w. stood c.args.self.now.body.head c.args.self.now.body.pool.size (frees c.args.self.now.body.pool) m (g.S.Space.now c.args.space.now c.args.self.now.body.file) c.args.key.now (is_valid c.args.self.now.body.head c.args.self.now.body.valid) w.1.map.has c.args.place.now.at c.args.place.now.from (c.requires.block.found.here w.0) c.args.room (c.requires.block.block w.0)) c.in_ok-take_record.ensures.taken (c.insert_absent.ensures.full full)

pub returns-in_err-take_record-clause-refused : goal.returns-in_err-take_record-clause-refused
returns-in_err-take_record-clause-refused g c = on_err_any c.from_residual.result c.in_err-take_record.ensures.refused

pub returns-in_err-take_record-clause-full : goal.returns-in_err-take_record-clause-full
returns-in_err-take_record-clause-full g c = λ full.
    let log = c.in_err-take_record.ensures.full (err_handed c.from_residual.result c.in_err-take_record.field-0.0 _ c.from_residual.ensures.1 full) in
    lacks_log g.S.Space Over c.args.key.now c.args.value.now c.args.self.now c.args.space.now c.take_record.new.space log.0 log.1

pub returns-clause-paid : goal.returns-clause-paid
returns-clause-paid g c = paid_then _ _ _ _ _ _ _ (paid_more 40 (step_most (length c.args.key.now)) _ _ _ _ (omega arith) c.take_record.ensures.paid) c.insert_absent.ensures.paid

pub returns-in_err-take_record-clause-paid : goal.returns-in_err-take_record-clause-paid
returns-in_err-take_record-clause-paid g c = paid_more 40 (step_most (length c.args.key.now)) _ _ _ _ (omega arith) c.take_record.ensures.paid
