use Rattle.std.proofs.Common.{inr, length, arith}
use Rattle.hf_chain.proofs.Paying.{paid_then}
use Rattle.hf_record.proofs.Paying.{paid_more}
use Rattle.hf_chain.specs.Costs.{step_most}
use Rattle.hf_record.proofs.Searched.{found_so, gap_so}
use Rattle.tc_hash.proofs.Answered.{takes_len, takes_none}
use Rattle.tc_hash.proofs.Records.{can_change, looks_again, refuses_after, still_ready}
use Rattle.tc_reach.proofs.Handed.{on_err_any}
use Rattle.tc_hash.proofs.hash.Hash.out.Goals as goal

pub search-requires : goal.search-requires
search-requires g c = can_change g.S.Space c.args.self.now c.args.space.now c.requires

pub take_record-requires : goal.take_record-requires
take_record-requires g c =
    let found = found_so g.S.Space c.args.self.now.body c.args.key.now c.search.new.space _ _ c.in-Here.is c.in_ok-place.ensures.ends in
    record {
      ready = still_ready g.S.Space c.args.self.now c.args.space.now c.search.new.space c.search.ensures.reads c.requires;
      found = found;
      block = λ t. c.block_of-room.ensures _ _ _ (found.known.is t);
    }

pub returns-in_ok-take_record-in-Here-clause-out : goal.returns-in_ok-take_record-in-Here-clause-out
returns-in_ok-take_record-in-Here-clause-out g c =
    let found = found_so g.S.Space c.args.self.now.body c.args.key.now c.search.new.space _ _ c.in-Here.is c.in_ok-place.ensures.ends in
    takes_len g.S.Space c.args.key.now c.in-Here.place c.block_of-room.result c.args.self.now c.take_record.new.self c.args.space.now c.search.new.space c.take_record.new.space c.search.ensures.reads found (λ t. c.block_of-room.ensures _ _ _ (found.known.is t)) c.in_ok-take_record-in-Here.ensures.taken

pub returns-in-Gap-clause-out : goal.returns-in-Gap-clause-out
returns-in-Gap-clause-out g c = takes_none g.S.Space c.args.key.now c.in-Gap.field-0 c.args.self.now c.args.space.now c.search.new.space c.search.ensures.reads (gap_so g.S.Space c.args.self.now.body c.args.key.now c.search.new.space _ _ c.in-Gap.is c.in_ok-place.ensures.ends)

pub returns-in_err-place-clause-refused : goal.returns-in_err-place-clause-refused
returns-in_err-place-clause-refused g c = on_err_any c.from_residual.result (inr (looks_again g.S.Space c.args.self.now c.args.space.now c.search.new.space c.search.ensures.reads))

pub returns-in_err-take_record-in-Here-clause-refused : goal.returns-in_err-take_record-in-Here-clause-refused
returns-in_err-take_record-in-Here-clause-refused g c = on_err_any c.from_residual-in_err-take_record-in-Here.result (refuses_after g.S.Space c.args.self.now c.take_record.new.self c.args.space.now c.search.new.space c.take_record.new.space c.search.ensures.reads c.in_err-take_record-in-Here.ensures.refused)

pub returns-in_ok-take_record-in-Here-clause-paid : goal.returns-in_ok-take_record-in-Here-clause-paid
returns-in_ok-take_record-in-Here-clause-paid g c = paid_then _ _ _ _ _ _ _ c.search.ensures.paid (paid_more 40 (step_most (length c.args.key.now)) _ _ _ _ (omega arith) c.take_record.ensures.paid)

pub returns-in_err-take_record-in-Here-clause-paid : goal.returns-in_err-take_record-in-Here-clause-paid
returns-in_err-take_record-in-Here-clause-paid g c = paid_then _ _ _ _ _ _ _ c.search.ensures.paid (paid_more 40 (step_most (length c.args.key.now)) _ _ _ _ (omega arith) c.take_record.ensures.paid)
