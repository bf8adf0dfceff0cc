use Rattle.std.proofs.Common.{subst, arith}
use Rattle.hf_block.specs.declared.block.Block.{Block}
use Rattle.hf_head.specs.Heads.{wide}
use Rattle.hf_block.specs.Heads.{Fits}
use Rattle.hf_block.proofs.Blocking.{vnum_most, wide_most}
use Rattle.hf_block.proofs.walking.measure.Goals as goal

pub overflow_add-size : goal.overflow_add-size
overflow_add-size c =
    let f = subst (λ (b : Block). Fits (wide c.args.large) b) c.in-Rec.is c.requires.fits in
    omega (arith, wide_most c.args.large, f.6, vnum_most c.in-Rec.key f.4, vnum_most c.in-Rec.value f.5)

pub overflow_add-size-in-Rec : goal.overflow_add-size-in-Rec
overflow_add-size-in-Rec c =
    let f = subst (λ (b : Block). Fits (wide c.args.large) b) c.in-Rec.is c.requires.fits in
    omega (arith, wide_most c.args.large, f.6, vnum_most c.in-Rec.key f.4, vnum_most c.in-Rec.value f.5)

pub overflow_add-size-in-Rec-2 : goal.overflow_add-size-in-Rec-2
overflow_add-size-in-Rec-2 c =
    let f = subst (λ (b : Block). Fits (wide c.args.large) b) c.in-Rec.is c.requires.fits in
    omega (arith, wide_most c.args.large, f.3, f.6, c.from.ensures, vnum_most c.in-Rec.key f.4, vnum_most c.in-Rec.value f.5)
