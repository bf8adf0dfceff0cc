use Rattle.std.proofs.Common.{◌≡◌, ◌∙◌, ℕ, ◌/◌, List, ◌++◌, length, ap, subst}
use Rattle.tc_base.specs.Vnum.{vnum}
use Rattle.hf_pool.specs.Sections.{pair}
use Rattle.hf_pool.proofs.Sectioning.{Pairing, pairing_more, pairing_full, pairing_end}
use Rattle.hf_pool.proofs.pool.Pool.put_pairs.Goals as goal

pub returns-then-n-room-clause-ok : goal.returns-then-n-room-clause-ok
returns-then-n-room-clause-ok c =
    let unit = c.args.self.now.unit in
    let all = c.args.self.now.index.by_place.entries in
    let b : ℕ × ℕ = (c.in-Some.place.now, c.in-Some.size.now) in
    let h = subst (λ (rest : List (ℕ × ℕ)). Pairing unit c.loop-place.before c.loop-place.room c.args.len rest all c.args.into.now c.loop-place.into) c.in-Some.ensures.steps c.loop-place.invariant in
    let long : c.pair_len-n.result ≡ length (pair unit c.loop-place.before b) = c.pair_len-n.ensures.value ∙ ap (λ (d : ℕ). length (vnum d ++ vnum (b.1 / unit))) c.saturating_sub-difference.ensures in
    pairing_full unit c.loop-place.before c.loop-place.room c.args.len b c.next.new.self all c.args.into.now c.loop-place.into c.pair_len-n.result long c.if-n-room.true h

pub loop-place-preserved : goal.loop-place-preserved
loop-place-preserved c =
    let unit = c.args.self.now.unit in
    let all = c.args.self.now.index.by_place.entries in
    let b : ℕ × ℕ = (c.in-Some.place.now, c.in-Some.size.now) in
    let h = subst (λ (rest : List (ℕ × ℕ)). Pairing unit c.loop-place.before c.loop-place.room c.args.len rest all c.args.into.now c.loop-place.into) c.in-Some.ensures.steps c.loop-place.invariant in
    let long : c.pair_len-n.result ≡ length (pair unit c.loop-place.before b) = c.pair_len-n.ensures.value ∙ ap (λ (d : ℕ). length (vnum d ++ vnum (b.1 / unit))) c.saturating_sub-difference.ensures in
    let first = c.in_ok-put_vnum.ensures.ok ∙ ap (λ (d : ℕ). c.loop-place.into ++ vnum d) c.saturating_sub-difference.ensures in
    pairing_more unit c.loop-place.before c.loop-place.room c.args.len b c.next.new.self all c.args.into.now c.loop-place.into c.pair_len-n.result c.put_vnum.new.into c.put_vnum-in-loop-place.new.into long c.if-n-room.false first c.in_ok-put_vnum-2.ensures.ok h

pub returns-clause-ok : goal.returns-clause-ok
returns-clause-ok c =
    pairing_end c.args.self.now.unit c.loop-place.before c.loop-place.room c.args.len c.args.self.now.index.by_place.entries c.args.into.now c.loop-place.into
    (subst (λ (rest : List (ℕ × ℕ)). Pairing c.args.self.now.unit c.loop-place.before c.loop-place.room c.args.len rest c.args.self.now.index.by_place.entries c.args.into.now c.loop-place.into) c.in-None.ensures.steps.0 c.loop-place.invariant)
