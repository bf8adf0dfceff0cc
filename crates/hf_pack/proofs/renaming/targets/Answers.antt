use Rattle.std.proofs.Common.{ℕ, List, ap, arith}
use Rattle.std.specs.Ordering.{nat_cmp}
use Rattle.std.specs.BTreeMap.{is_at}
use Rattle.std.specs.Map.{lookup}
use Rattle.hf_pool.proofs.Indexing.{now_with}
use Rattle.hf_pack.proofs.Moved.{room_for, targets_all, targets_free, targets_held, targets_start}
use Rattle.hf_pack.proofs.renaming.targets.Goals as goal

pub loop-i-init : goal.loop-i-init
loop-i-init c = λ u ps whole listed short. targets_start c.args.first ps _ (λ q. ap (λ (es : List (ℕ × ℕ)). lookup (is_at (nat_cmp q)) es) c.new-all.ensures.empty)

pub loop-i-preserved-then-block : goal.loop-i-preserved-then-block
loop-i-preserved-then-block c = λ u ps whole listed short.
    targets_free c.args.first ps c.args.blocks.now c.loop-i.i c.loop-i.to _ c.at-block.result.now (c.loop-i.invariant u ps whole listed short) listed c.at-block.ensures c.if-block.true

pub loop-i-preserved : goal.loop-i-preserved
loop-i-preserved c = λ u ps whole listed short.
    let t = c.loop-i.invariant u ps whole listed short in
    let b = c.at-block.result.now in
    let room = room_for c.args.first ps c.args.blocks.now c.loop-i.i c.loop-i.to _ b t listed c.at-block.ensures c.if-block.false in
    targets_held c.args.first ps c.args.blocks.now c.loop-i.i c.loop-i.to _ b t listed c.at-block.ensures u c.saturating_add-to.result _ whole c.if-block.false
    (now_with _ _ b.place c.loop-i.to c.in-Ok.ensures.updates.0) (omega (arith, c.saturating_add-to.ensures, room, short))

pub returns : goal.returns
returns c = λ u ps whole listed short q. targets_all c.args.first ps c.args.blocks.now c.loop-i.i c.loop-i.to _ (c.loop-i.invariant u ps whole listed short) listed (omega (arith, c.loop-i-test.false, c.len-i-end.ensures)) q
