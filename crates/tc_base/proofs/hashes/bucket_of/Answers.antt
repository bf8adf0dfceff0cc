use Rattle.std.proofs.Common.{◌≡◌, ◌∙◌, ℕ, ◌%◌, List, take, sym, ap}
use Rattle.std.specs.List.{fold}
use Rattle.std.proofs.lemmas.List.{take_all}
use Rattle.tc_base.specs.Hashes.{front_step}
use Rattle.tc_base.proofs.Hashing.{front_is}
use Rattle.tc_base.proofs.hashes.bucket_of.Goals as goal

pub returns-clause-value : goal.returns-clause-value
returns-clause-value c =
    let whole : take c.loop-b.b-index c.args.key.now ≡ c.args.key.now = take_all c.loop-b.b-index c.args.key.now c.loop-b-test.false in
    ap (λ (h : ℕ). h % c.args.buckets) (c.loop-b.invariant ∙ ap (λ (k : List ℕ). fold front_step 19780211 k) whole ∙ sym (front_is c.args.key.now))
