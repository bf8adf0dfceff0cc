use Rattle.std.proofs.Common.{ℕ, ◌+◌, List, false, get_or, refl, sym, subst}
use Rattle.std.specs.BTreeMap as tree
use Rattle.std.specs.Ordering.{nat_cmp}
use Rattle.std.proofs.lemmas.List.{get_or_default}
use Rattle.hf_block.specs.declared.block.BlockAt.{BlockAt}
use Rattle.hf_pool.specs.declared.index.Index.{Index}
use Rattle.hf_block.specs.Rows.{IsListed}
use Rattle.hf_block.specs.Pieces.{placed}
use Rattle.hf_pool.proofs.Building.{Built, apart_end, all_multiples, all_within, next_is, absent, built_skip, built_more, built_all}
use Rattle.hf_layout.proofs.Listed.{listed_pool}
use Rattle.hf_pool.proofs.pool.Pool.build.Goals as goal
use Rattle.hf_pool.proofs.pool.Pool.build.Goals.{then-block+in_ok-insert, else-block}

pub insert-requires-clause-absent : goal.insert-requires-clause-absent
insert-requires-clause-absent c =
    let bs : List BlockAt = c.as_slice-block-items.result.now in
    let i : ℕ = c.loop-block.block-index in
    let b : BlockAt = get_or bs i (record { place = 0; size = 0; free = false }) in
    let v = c.loop-block.invariant in
    let n = next_is c.args.unit c.args.size i bs b v.at c.loop-block-test.true (get_or_default bs i (record { place = 0; size = 0; free = false }) b c.loop-block-test.true) v.apart in
    absent c.args.unit v.at b.place (λ (q : ℕ). tree.get nat_cmp c.loop-block.index.by_place q) n.0 v.sizes v.below

pub loop-block-preserved : goal.loop-block-preserved
loop-block-preserved c =
    let bs : List BlockAt = c.as_slice-block-items.result.now in
    let i : ℕ = c.loop-block.block-index in
    let b : BlockAt = get_or bs i (record { place = 0; size = 0; free = false }) in
    let is = get_or_default bs i (record { place = 0; size = 0; free = false }) b c.loop-block-test.true in
    elim c.if-block.branch [
      | then-block+in_ok-insert w ↦
          subst (λ (x : Index). Built c.args.unit c.args.size (i + 1) bs (λ (q : ℕ). tree.get nat_cmp x.by_place q)) (sym w.index-is)
          (built_more c.args.unit c.args.size i bs b (λ (q : ℕ). tree.get nat_cmp c.loop-block.index.by_place q) _ c.loop-block-test.true is w.if-block.true w.in_ok-insert.ensures.ok c.loop-block.invariant)
      | else-block w ↦
          subst (λ (x : Index). Built c.args.unit c.args.size (i + 1) bs (λ (q : ℕ). tree.get nat_cmp x.by_place q)) (sym w.index-is)
          (built_skip c.args.unit c.args.size i bs b (λ (q : ℕ). tree.get nat_cmp c.loop-block.index.by_place q) c.loop-block-test.true is w.if-block.false c.loop-block.invariant)
    ]

pub returns-clause-free : goal.returns-clause-free
returns-clause-free c = λ q t.
    let all = built_all c.args.unit c.args.size c.loop-block.block-index c.as_slice-block-items.result.now (λ (p : ℕ). tree.get nat_cmp c.loop-block.index.by_place p) c.loop-block-test.false c.loop-block.invariant q t in
    (λ there. subst (λ (l : List BlockAt). IsListed l q t) c.as_slice-block-items.ensures (all.0 there), λ k. all.1 (subst (λ (l : List BlockAt). IsListed l q t) (sym c.as_slice-block-items.ensures) k))

pub returns-clause-laid : goal.returns-clause-laid
returns-clause-laid c = λ pieces bytes within filled same.
    let free = returns-clause-free c in
    listed_pool c.args.unit c.args.first c.args.size pieces (placed c.args.first pieces) (λ (q : ℕ). tree.get nat_cmp c.loop-block.index.by_place q) bytes c.requires.unit (apart_end c.args.unit c.args.first c.args.size c.args.blocks.now c.requires.blocks) within filled refl
    (λ q t. (λ there. (same q t).0 ((free q t).0 there), λ k. (free q t).1 ((same q t).1 k)))

pub invariant_of-result-clause-multiples : goal.invariant_of-result-clause-multiples
invariant_of-result-clause-multiples c = all_multiples c.args.unit c.args.size c.loop-block.block-index c.as_slice-block-items.result.now (λ (q : ℕ). tree.get nat_cmp c.loop-block.index.by_place q) c.loop-block.invariant

pub invariant_of-result-clause-within : goal.invariant_of-result-clause-within
invariant_of-result-clause-within c = all_within c.args.unit c.args.size c.loop-block.block-index c.as_slice-block-items.result.now (λ (q : ℕ). tree.get nat_cmp c.loop-block.index.by_place q) c.loop-block.invariant
