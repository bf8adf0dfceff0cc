use Rattle.std.proofs.Common.{◌≡◌, ◌∙◌, ◌⊎◌, ℕ, ◌≤◌, inl, inr, sym, subst, ap, arith}
use Rattle.hf_block.specs.declared.block.Block.{Block}
use Rattle.hf_head.specs.Heads.{wide}
use Rattle.hf_block.specs.Pieces.{IsSize}
use Rattle.hf_block.specs.Walks.{total, HasNext}
use Rattle.hf_block.proofs.Blocking.{wide_most}
use Rattle.hf_block.proofs.NextBlock.{is_next, no_blocks}
use Rattle.hf_block.proofs.walking.next_block.Goals as goal

-- the condition on the front, of bytes of that length
enough : (n left long : ℕ) → long ≡ left → (n ≡ left) ⊎ (40 ≤ n) → (n ≡ long) ⊎ (40 ≤ n)
enough n left long e (inl h) = inl (h ∙ sym e)
enough n left long e (inr h) = inr h

pub returns-in_default-clause-none : goal.returns-in_default-clause-none
returns-in_default-clause-none c = λ bytes part long.
    no_blocks (wide c.args.large) c.args.unit c.read_block.result bytes c.args.front.now (omega (arith, long, c.requires.some, c.requires.within)) (wide_most c.args.large) c.read_block.ensures.again part (enough _ c.args.left _ long c.requires.enough) (λ b e is le. let f = c.in_default.is in cc)

pub returns-in_default-measure-clause-none : goal.returns-in_default-measure-clause-none
returns-in_default-measure-clause-none c = λ bytes part long.
    no_blocks (wide c.args.large) c.args.unit c.read_block.result bytes c.args.front.now (omega (arith, long, c.requires.some, c.requires.within)) (wide_most c.args.large) c.read_block.ensures.again part (enough _ c.args.left _ long c.requires.enough)
    (λ b e is le. let same : b ≡ c.in-Ok.block = let f = c.in-Ok.is in cc in c.in_default-measure.ensures.none (subst (λ (x : Block). IsSize c.args.unit (total x)) same is))

pub returns-then-size-left-clause-none : goal.returns-then-size-left-clause-none
returns-then-size-left-clause-none c = λ bytes part long.
    no_blocks (wide c.args.large) c.args.unit c.read_block.result bytes c.args.front.now (omega (arith, long, c.requires.some, c.requires.within)) (wide_most c.args.large) c.read_block.ensures.again part (enough _ c.args.left _ long c.requires.enough)
    (λ b e is le. let same : b ≡ c.in-Ok.block = let f = c.in-Ok.is in cc in let n = ap total same in omega (arith, n, le, long, c.if-size-left.true, c.in-Some.ensures.some.0))

pub returns-clause-next : goal.returns-clause-next
returns-clause-next c = λ bytes part long.
    let m = c.in-Some.ensures.some in
    let n = is_next (wide c.args.large) c.args.unit c.in-Ok.block bytes c.args.front.now (wide_most c.args.large) c.requires.unit (λ b fits pre. sym c.in-Ok.is ∙ c.read_block.ensures.again b fits pre) c.in-Ok.ensures.found.0 c.in-Ok.ensures.found.1 part (enough _ c.args.left _ long c.requires.enough)
    (subst (λ (k : ℕ). IsSize c.args.unit k) m.0 m.1) (omega (arith, m.0, long, c.if-size-left.false)) in
    subst (λ (k : ℕ). HasNext (wide c.args.large) c.args.unit k c.in-Ok.block bytes) (sym m.0) n
