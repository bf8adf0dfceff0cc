use Rattle.std.proofs.Common.{inr, length, arith}
use Rattle.hf_chain.proofs.Paying.{paid_none, paid_then}
use Rattle.hf_chain.specs.Costs.{step_most}
use Rattle.hf_record.proofs.Paying.{paid_behind, paid_within}
use Rattle.hf_record.proofs.Searched.{found_so, gap_so}
use Rattle.tc_hash.proofs.Answered.{answers_after, lacks_behind}
use Rattle.tc_hash.proofs.Records.{can_change, looks_again, refuses_after, still_ready}
use Rattle.tc_hash.proofs.Stored.{any_ok, from_ok, from_refused}
use Rattle.tc_hash.specs.Putting.{joined_to}
use Rattle.tc_reach.proofs.Handed.{on_err_any}
use Rattle.tc_hash.proofs.hash.Hash.put_within.Goals as goal

pub search-requires : goal.search-requires
search-requires g c = can_change g.S.Space c.args.self.now c.args.space.now c.requires

pub put_absent-requires-clause-ready : goal.put_absent-requires-clause-ready
put_absent-requires-clause-ready g c = still_ready g.S.Space c.args.self.now c.args.space.now c.search.new.space c.search.ensures.reads c.requires

pub put_absent-requires-clause-gap : goal.put_absent-requires-clause-gap
put_absent-requires-clause-gap g c = gap_so g.S.Space c.args.self.now.body c.args.key.now c.search.new.space _ _ c.in-Gap.is c.in_ok-to.ensures.ends

pub put_held-requires : goal.put_held-requires
put_held-requires g c = record {
  ready = still_ready g.S.Space c.args.self.now c.args.space.now c.search.new.space c.search.ensures.reads c.requires;
  found = found_so g.S.Space c.args.self.now.body c.args.key.now c.search.new.space _ _ c.in-Here.is c.in_ok-to.ensures.ends;
}

pub returns-in_err-to-clause-refused : goal.returns-in_err-to-clause-refused
returns-in_err-to-clause-refused g c = on_err_any c.from_residual.result (inr (looks_again g.S.Space c.args.self.now c.args.space.now c.search.new.space c.search.ensures.reads))

pub returns-in-Gap-clause-put : goal.returns-in-Gap-clause-put
returns-in-Gap-clause-put g c = from_ok _ c.put_absent.ensures.put (λ p x. answers_after g.S.Space c.args.mode c.args.key.now c.args.value.now c.args.most p c.args.self.now c.put_absent.new.self c.args.space.now c.search.new.space c.put_absent.new.space c.search.ensures.reads (x c.args.mode))

pub returns-in-Gap-clause-refused : goal.returns-in-Gap-clause-refused
returns-in-Gap-clause-refused g c = from_refused _ c.put_absent.ensures.refused (λ refused. refuses_after g.S.Space c.args.self.now c.put_absent.new.self c.args.space.now c.search.new.space c.put_absent.new.space c.search.ensures.reads refused)

pub returns-in-Gap-clause-full : goal.returns-in-Gap-clause-full
returns-in-Gap-clause-full g c = λ full. lacks_behind g.S.Space c.args.mode c.args.key.now c.args.value.now c.args.most c.args.self.now c.args.space.now c.search.new.space c.put_absent.new.space c.search.ensures.reads (c.put_absent.ensures.full full c.args.mode)

pub returns-in-Here-clause-put : goal.returns-in-Here-clause-put
returns-in-Here-clause-put g c = from_ok _ c.put_held.ensures.put (λ p x. answers_after g.S.Space c.args.mode c.args.key.now c.args.value.now c.args.most p c.args.self.now c.put_held.new.self c.args.space.now c.search.new.space c.put_held.new.space c.search.ensures.reads x)

pub returns-in-Here-clause-refused : goal.returns-in-Here-clause-refused
returns-in-Here-clause-refused g c = from_refused _ c.put_held.ensures.refused (λ refused. refuses_after g.S.Space c.args.self.now c.put_held.new.self c.args.space.now c.search.new.space c.put_held.new.space c.search.ensures.reads refused)

pub returns-in-Here-clause-full : goal.returns-in-Here-clause-full
returns-in-Here-clause-full g c = λ full. lacks_behind g.S.Space c.args.mode c.args.key.now c.args.value.now c.args.most c.args.self.now c.args.space.now c.search.new.space c.put_held.new.space c.search.ensures.reads (c.put_held.ensures.full full)

pub returns-in-Gap-clause-paid : goal.returns-in-Gap-clause-paid
returns-in-Gap-clause-paid g c = any_ok _ (λ p. paid_within _ _ _ _ _ _ (paid_then _ _ _ _ _ _ _ c.search.ensures.paid (paid_none _ _ _ _ (omega (arith, c.put_absent.ensures.counted)))))

pub returns-in-Here-clause-paid : goal.returns-in-Here-clause-paid
returns-in-Here-clause-paid g c = from_ok c.put_held.result c.put_held.ensures.paid (λ p paid. paid_behind (step_most (length c.args.key.now)) (joined_to c.args.mode p) c.args.steps.now c.search.new.steps c.put_held.new.steps (g.S.Space.bytes_read c.args.space.now) (g.S.Space.bytes_read c.search.new.space) (g.S.Space.bytes_read c.put_held.new.space) c.search.ensures.paid paid)
