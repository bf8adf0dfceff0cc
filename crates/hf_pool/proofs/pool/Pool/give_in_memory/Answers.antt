use Rattle.std.proofs.Common.{◌≡◌, ◌∙◌, ℕ, ◌%◌, ◌+◌, ◌≤◌, sym, subst}
use Rattle.hf_pool.specs.Multiples.{AreMultiples, LieWithin}
use Rattle.hf_pool.specs.Pools.{frees}
use Rattle.hf_pool.proofs.Aligned.{multiples_insert, front_aligned, back_aligned, within_insert, front_inside, back_inside}
use Rattle.hf_pool.proofs.pool.Pool.give_in_memory.Goals as goal

pub invariant_of-self-2-clause-multiples : goal.invariant_of-self-2-clause-multiples
invariant_of-self-2-clause-multiples c =
    let unit : ℕ = c.args.self.now.unit in
    let mid = c.join_front-start.new.self in
    let last = c.join_back-total.new.self in
    let same : last.unit ≡ unit = c.join_back-total.ensures.unit ∙ c.join_front-start.ensures.unit in
    let front = front_aligned unit (frees c.args.self.now) (frees mid) c.args.at c.args.size c.join_front-start.result.0 c.join_front-start.result.1 c.args.self.now.multiples c.requires.aligned.0 c.requires.aligned.1 c.join_front-start.ensures.joined in
    let back = back_aligned unit (frees mid) (frees last) _ c.join_front-start.result.1 c.join_back-total.result (subst (λ (n : ℕ). AreMultiples n (frees mid)) c.join_front-start.ensures.unit mid.multiples) front.1 c.join_back-total.ensures.joined in
    multiples_insert c.insert.result last.unit (frees last) _ c.join_front-start.result.0 c.join_back-total.result last.multiples (subst (λ (n : ℕ). c.join_front-start.result.0 % n ≡ 0) (sym same) front.0) (subst (λ (n : ℕ). c.join_back-total.result % n ≡ 0) (sym same) back) c.insert.ensures.ok c.insert.ensures.err

pub invariant_of-self-2-clause-within : goal.invariant_of-self-2-clause-within
invariant_of-self-2-clause-within c =
    let end : ℕ = c.args.self.now.size in
    let mid = c.join_front-start.new.self in
    let last = c.join_back-total.new.self in
    let same : last.size ≡ end = c.join_back-total.ensures.end ∙ c.join_front-start.ensures.end in
    let front = front_inside end (frees c.args.self.now) (frees mid) c.args.at c.args.size c.join_front-start.result.0 c.join_front-start.result.1 c.args.self.now.within c.requires.some c.requires.below c.join_front-start.ensures.joined in
    let back = back_inside end (frees mid) (frees last) c.join_front-start.result.0 _ c.join_front-start.result.1 c.join_back-total.result (subst (λ (n : ℕ). LieWithin n (frees mid)) c.join_front-start.ensures.end mid.within) front.0 front.1 front.2 c.requires.within c.join_back-total.ensures.joined in
    within_insert c.insert.result last.size (frees last) _ c.join_front-start.result.0 c.join_back-total.result last.within back.0 back.1 (subst (λ (n : ℕ). c.join_front-start.result.0 + c.join_back-total.result ≤ n) (sym same) back.2) c.insert.ensures.ok c.insert.ensures.err
