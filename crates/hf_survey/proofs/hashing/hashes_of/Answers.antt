use Rattle.std.proofs.Common.{◌≡◌, ◌∙◌, ◌-◌, ℕ, ◌%◌, List, length, take, drop, refl, sym, ap, arith}
use Rattle.std.specs.List.{fold}
use Rattle.std.proofs.lemmas.List.{drop_all, take_all}
use Rattle.tc_base.specs.Hashes.{front_step, back_hash}
use Rattle.tc_base.proofs.Hashing.{back-nil, back_more, front_is, front_more}
use Rattle.hf_survey.proofs.hashing.hashes_of.Goals as goal

pub loop-i-init : goal.loop-i-init
loop-i-init c = record { front = refl; back = sym (ap back_hash (drop_all (length c.args.key.now - 0) c.args.key.now (omega arith)) ∙ back-nil) }

pub loop-i-preserved : goal.loop-i-preserved
loop-i-preserved c = record {
  front = front_more c.args.key.now c.loop-i.i c.loop-i.front c.from.result c.loop-i-test.true c.loop-i.invariant.front c.from.ensures;
  back = back_more c.args.key.now c.loop-i.i c.loop-i.back c.from-in-loop-i.result c.loop-i-test.true c.loop-i.invariant.back c.from-in-loop-i.ensures;
}

pub returns : goal.returns
returns c =
    let all : take c.loop-i.i c.args.key.now ≡ c.args.key.now = take_all c.loop-i.i c.args.key.now c.loop-i-test.false in
    let whole : length c.args.key.now - c.loop-i.i ≡ 0 = omega (arith, c.loop-i-test.false) in (
      ap (λ (h : ℕ). h % c.args.buckets) (c.loop-i.invariant.front ∙ ap (λ (k : List ℕ). fold front_step 19780211 k) all ∙ sym (front_is c.args.key.now)),
      ap (λ (h : ℕ). h % 256) (c.loop-i.invariant.back ∙ ap (λ (n : ℕ). back_hash (drop n c.args.key.now)) whole),
    )
