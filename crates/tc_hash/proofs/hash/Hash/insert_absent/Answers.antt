use Rattle.std.proofs.Common.{◌∙◌, inl, inr, ⊎_elim, arith}
use Rattle.hf_chain.proofs.Paying.{paid_none, paid_then}
use Rattle.hf_record.proofs.Searched.{gap_so}
use Rattle.tc_hash.proofs.Records.{can_change, still_ready}
use Rattle.tc_hash.proofs.Stored.{from_done, new_after}
use Rattle.tc_hash.proofs.hash.Hash.insert_absent.Goals as goal

pub search-requires : goal.search-requires
search-requires g c = can_change g.S.Space c.args.self.now c.args.space.now c.requires.ready

pub insert-requires-clause-ready : goal.insert-requires-clause-ready
insert-requires-clause-ready g c = still_ready g.S.Space c.args.self.now c.args.space.now c.search.new.space c.search.ensures.reads c.requires.ready

pub insert-requires-clause-gap : goal.insert-requires-clause-gap
insert-requires-clause-gap g c = gap_so g.S.Space c.args.self.now.body c.args.key.now c.search.new.space _ _ c.in-Ok-Gap.field-0-is c.in-Ok-Gap.ensures.ends

pub returns-in-Ok-Gap-clause-put : goal.returns-in-Ok-Gap-clause-put
returns-in-Ok-Gap-clause-put g c = from_done _ c.insert.ensures.put (λ given. new_after g.S.Space c.args.key.now c.args.value.now c.args.self.now c.insert.new.self c.args.space.now c.search.new.space c.insert.new.space c.search.ensures.reads given)

pub returns-in-Ok-Gap-clause-paid : goal.returns-in-Ok-Gap-clause-paid
returns-in-Ok-Gap-clause-paid g c = paid_then _ _ _ _ _ _ _ c.search.ensures.paid (paid_none _ _ _ _ (omega (arith, c.insert.ensures.counted)))

pub returns-in-Ok-Here-clause-paid : goal.returns-in-Ok-Here-clause-paid
returns-in-Ok-Here-clause-paid g c = paid_then _ _ _ _ _ _ _ c.search.ensures.paid (paid_none _ _ _ _ (omega (arith, c.give_up.ensures.writes.counted)))

pub returns-in-Err-clause-paid : goal.returns-in-Err-clause-paid
returns-in-Err-clause-paid g c = paid_then _ _ _ _ _ _ _ c.search.ensures.paid (paid_none _ _ _ _ (omega (arith, c.give_up-in-Err.ensures.writes.counted)))

pub returns-in-Ok-Gap-clause-full : goal.returns-in-Ok-Gap-clause-full
returns-in-Ok-Gap-clause-full g c = λ full t. ⊎_elim
    (λ log. inl log)
    (λ why. inr (record { brought = why.0.brought; same = λ u. why.0.same u ∙ c.search.ensures.reads.files u c.args.self.now.body.file }, why.1))
    (c.insert.ensures.full full t)
