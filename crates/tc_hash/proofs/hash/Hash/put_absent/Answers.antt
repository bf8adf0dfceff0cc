use Rattle.std.proofs.Common.{inl, arith}
use Rattle.tc_hash.proofs.Answered.{lacks_new, lacks_there, past_new, stores_new}
use Rattle.tc_reach.proofs.Handed.{err_handed, on_err_any}
use Rattle.tc_hash.proofs.hash.Hash.put_absent.Goals as goal

pub returns-then-value-most-clause-put : goal.returns-then-value-most-clause-put
returns-then-value-most-clause-put g c = λ mode. past_new g.S.Space mode c.args.key.now c.args.value.now c.args.most c.args.self.now c.args.self.now c.args.space.now c.args.space.now c.args.to.now c.requires.gap c.requires.ready.sound (omega (arith, c.if-value-most.true))

pub returns-clause-put : goal.returns-clause-put
returns-clause-put g c = λ mode. stores_new g.S.Space mode c.args.key.now c.args.value.now c.args.most c.args.self.now c.insert.new.self c.args.space.now c.insert.new.space c.args.to.now c.requires.gap (omega (arith, c.if-value-most.false)) c.in_ok-insert.ensures.put.gives

pub returns-in_err-insert-clause-refused : goal.returns-in_err-insert-clause-refused
returns-in_err-insert-clause-refused g c = on_err_any c.from_residual.result (inl c.in_err-insert.ensures.outcome.err)

pub returns-in_err-insert-clause-full : goal.returns-in_err-insert-clause-full
returns-in_err-insert-clause-full g c = λ full mode. lacks_new g.S.Space mode c.args.key.now c.args.value.now c.args.most c.args.self.now c.insert.new.self c.args.space.now c.insert.new.space c.args.to.now c.requires.gap (omega (arith, c.if-value-most.false)) (lacks_there g.S.Space mode c.args.key.now c.args.value.now c.args.most c.args.self.now c.insert.new.self c.args.space.now c.insert.new.space c.args.to.now c.requires.gap c.in_err-insert.ensures.outcome.err (c.in_err-insert.ensures.full (err_handed c.from_residual.result c.in_err-insert.field-0.0 _ c.from_residual.ensures.1 full)))
