use Rattle.std.proofs.Common.{◌≡◌, ◌∙◌, ◌*◌, length, arith, ap}
use Rattle.hf_chain.specs.declared.heads.RecHead.{RecHead}
use Rattle.hf_chain.specs.Heads.{capped, head_size}
use Rattle.hf_survey.proofs.facts.fact_with.Goals as goal

pub returns : goal.returns
returns c = λ r head marks bounds.
    let ahead : c.min-ahead.result ≡ head_size r = (let e = ap (λ (x : RecHead). x.head) head in omega (arith, e, bounds.0, c.min-ahead.ensures)) in
    let long : c.min-long.result ≡ length r.key = (let e = ap (λ (x : RecHead). x.key) head in omega (arith, e, bounds.1, c.min-long.ensures, c.from.ensures)) in
    λ i. record {
      place = c.args.place;
      left = (c.place_named.ensures ∙ (λ j. capped (c.unit-unit.ensures j * (head j).left))) i;
      right = (c.place_named-2.ensures ∙ (λ j. capped (c.unit-unit.ensures j * (head j).right))) i;
      bucket = (marks i).bucket;
      second = (marks i).second;
      hash = (head i).hash;
      ahead = ahead i;
      long = long i;
      front = (marks i).front;
    }
