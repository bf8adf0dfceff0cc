use Rattle.std.proofs.Common.{sym}
use Rattle.hf_record.proofs.Paying.{within_then}
use Rattle.hf_record.proofs.Records.{can_after}
use Rattle.hf_record.proofs.Searched.{found_so, gap_so, gap_value, read_most}
use Rattle.hf_record.proofs.body.Body.value.Goals as goal

pub value_at-requires-clause-may : goal.value_at-requires-clause-may
value_at-requires-clause-may g c = can_after g.S.Space c.args.self.now c.args.space.now c.search.new.space c.search.ensures.reads c.requires

pub returns-in_err-value_at-in-Here-clause-within : goal.returns-in_err-value_at-in-Here-clause-within
returns-in_err-value_at-in-Here-clause-within g c = λ t m has.
    let self = c.args.self.now in
    let f = found_so g.S.Space self c.args.key.now c.search.new.space _ _ c.in-Here.is c.in_ok-place.ensures.ends in
    within_then _ _ _ _ _ _ _ _ (c.search.ensures.within t m has)
    (read_most g.S.Space self c.args.key.now c.args.space.now c.search.new.space c.in-Here.place m _ _ t c.search.ensures.reads has f c.value_at.ensures.counted)

pub returns-in-Gap-clause-value : goal.returns-in-Gap-clause-value
returns-in-Gap-clause-value g c = λ t m has.
    let self = c.args.self.now in
    let gap = gap_so g.S.Space self c.args.key.now c.search.new.space _ _ c.in-Gap.is c.in_ok-place.ensures.ends in
    sym (gap_value g.S.Space self c.args.key.now c.args.space.now c.search.new.space _ m t c.search.ensures.reads has gap)
