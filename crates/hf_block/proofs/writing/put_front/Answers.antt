use Rattle.std.proofs.Common.{◌∙◌, ℕ, List, ◌++◌, ap, arith}
use Rattle.std.proofs.lemmas.Result.{on_ok_weaker}
use Rattle.hf_head.specs.Heads.{wide}
use Rattle.hf_block.specs.Written.{linked_front}
use Rattle.hf_block.proofs.Padding.{front_is}
use Rattle.hf_block.proofs.writing.put_front.Goals as goal

pub returns-clause-ok : goal.returns-clause-ok
returns-clause-ok c =
    on_ok_weaker c.put_le.result
    (λ e. front_is (wide c.args.large) c.args.hash c.args.left c.args.right c.args.pad c.args.into.now c.append.new.self c.put_le.new.into (omega (arith, c.ranges.hash))
    (c.in_ok-append.ensures.ok ∙ ap (λ (l : List ℕ). c.args.into.now ++ l) (c.links_front.ensures ∙ ap (λ (w : ℕ). linked_front w c.args.hash c.args.left c.args.right) c.width-width.ensures.value)) e)
    c.put_le.ensures.ok
