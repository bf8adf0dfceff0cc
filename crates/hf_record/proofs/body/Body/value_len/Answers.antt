use Rattle.std.proofs.Common.{List, ℕ, length, ap, sym, Option}
use Rattle.std.specs.Prelude.{option_map}
use Rattle.hf_record.proofs.Searched.{found_len, found_so, gap_so, gap_value}
use Rattle.hf_record.proofs.body.Body.value_len.Goals as goal

pub returns-in-Here-clause-len : goal.returns-in-Here-clause-len
returns-in-Here-clause-len g c = λ t m has.
    let self = c.args.self.now in
    let f = found_so g.S.Space self c.args.key.now c.search.new.space _ _ c.in-Here.is c.in_ok-place.ensures.ends in
    found_len g.S.Space self c.args.key.now c.args.space.now c.search.new.space c.in-Here.place m t c.search.ensures.reads has f

pub returns-in-Gap-clause-len : goal.returns-in-Gap-clause-len
returns-in-Gap-clause-len g c = λ t m has.
    let self = c.args.self.now in
    let gap = gap_so g.S.Space self c.args.key.now c.search.new.space _ _ c.in-Gap.is c.in_ok-place.ensures.ends in
    sym (ap (λ (o : Option (List ℕ)). option_map length o) (gap_value g.S.Space self c.args.key.now c.args.space.now c.search.new.space _ m t c.search.ensures.reads has gap))
