use Rattle.std.proofs.Common.{inr}
use Rattle.hf_chain.proofs.Paying.{paid_none}
use Rattle.hf_record.proofs.Paying.{value_paid}
use Rattle.tc_base.specs.declared.kind.Mode.TheVariants.{Cat}
use Rattle.tc_hash.proofs.Records.{can_change, found_after, looks_again, refuses_after, still_ready}
use Rattle.tc_hash.proofs.Stored.{from_done, from_refused, gives_after, gives_as, joined_as, lacks_after, lacks_as}
use Rattle.tc_reach.proofs.Handed.{on_err_any}
use Rattle.tc_hash.proofs.hash.Hash.join.Goals as goal

pub value_at-requires-clause-may : goal.value_at-requires-clause-may
value_at-requires-clause-may g c = can_change g.S.Space c.args.self.now c.args.space.now c.requires.ready

pub replace-requires : goal.replace-requires
replace-requires g c = record {
  ready = still_ready g.S.Space c.args.self.now c.args.space.now c.value_at.new.space c.value_at.ensures.reads c.requires.ready;
  found = found_after g.S.Space c.args.self.now.body c.args.key.now c.args.space.now c.value_at.new.space c.args.place.now c.value_at.ensures.reads c.requires.found;
}

pub returns-clause-put : goal.returns-clause-put
returns-clause-put g c = from_done _ c.replace.ensures.put (λ given. gives_after g.S.Space Cat c.args.key.now c.args.more.now 34 c.args.self.now c.replace.new.self c.args.space.now c.value_at.new.space c.replace.new.space c.value_at.ensures.reads (gives_as g.S.Space Cat c.args.key.now c.args.more.now c.as_slice.result.now 34 c.args.self.now c.replace.new.self c.value_at.new.space c.replace.new.space (joined_as g.S.Space c.args.key.now c.args.more.now c.append.new.self c.as_slice.result.now c.in_ok-longer.longer c.args.self.now c.args.space.now c.value_at.new.space c.value_at.ensures.reads c.in_ok-longer.ensures.value c.as_slice.ensures c.in_ok-append.ensures.ok) given))

pub returns-clause-refused : goal.returns-clause-refused
returns-clause-refused g c = from_refused _ c.replace.ensures.refused (λ refused. refuses_after g.S.Space c.args.self.now c.replace.new.self c.args.space.now c.value_at.new.space c.replace.new.space c.value_at.ensures.reads refused)

pub returns-clause-full : goal.returns-clause-full
returns-clause-full g c = λ full. lacks_after g.S.Space Cat c.args.key.now c.args.more.now c.args.self.now c.args.space.now c.value_at.new.space c.replace.new.space c.value_at.ensures.reads (lacks_as g.S.Space Cat c.args.key.now c.args.more.now c.as_slice.result.now c.args.self.now c.value_at.new.space c.replace.new.space (joined_as g.S.Space c.args.key.now c.args.more.now c.append.new.self c.as_slice.result.now c.in_ok-longer.longer c.args.self.now c.args.space.now c.value_at.new.space c.value_at.ensures.reads c.in_ok-longer.ensures.value c.as_slice.ensures c.in_ok-append.ensures.ok) (c.replace.ensures.full full))

pub returns-in_err-longer-clause-refused : goal.returns-in_err-longer-clause-refused
returns-in_err-longer-clause-refused g c = on_err_any c.from_residual.result (inr (looks_again g.S.Space c.args.self.now c.args.space.now c.value_at.new.space c.value_at.ensures.reads))

pub returns-in_err-append-clause-refused : goal.returns-in_err-append-clause-refused
returns-in_err-append-clause-refused g c = on_err_any c.from_residual-in_err-append.result (inr (looks_again g.S.Space c.args.self.now c.args.space.now c.value_at.new.space c.value_at.ensures.reads))

pub returns-clause-paid : goal.returns-clause-paid
returns-clause-paid g c = value_paid _ _ _ _ _ _ _ c.value_at.ensures.counted c.replace.ensures.paid

pub returns-in_err-longer-clause-paid : goal.returns-in_err-longer-clause-paid
returns-in_err-longer-clause-paid g c = paid_none _ _ _ _ c.value_at.ensures.counted

pub returns-in_err-append-clause-paid : goal.returns-in_err-append-clause-paid
returns-in_err-append-clause-paid g c = paid_none _ _ _ _ c.value_at.ensures.counted
