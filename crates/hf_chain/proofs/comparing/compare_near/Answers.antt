use Rattle.std.proofs.Common.{◌∙◌, ℕ, length, arith, ap, List}
use Rattle.std.specs.Ordering.{nat_cmp}
use Rattle.std.specs.Cmp.Lexicographic.{slice_cmp}
use Rattle.hf_chain.proofs.Fronts.{near_is}
use Rattle.hf_chain.proofs.comparing.compare_near.Goals as goal

pub returns-then-key-front-clause-order : goal.returns-then-key-front-clause-order
returns-then-key-front-clause-order g c = λ t. c.cmp.ensures ∙ ap (λ (l : List ℕ). slice_cmp nat_cmp c.args.key.now l) (near_is (length c.args.front.now) c.args.from c.args.skip (length c.args.key.now) c.args.front.now (g.S.Space.now c.args.space.now c.args.file) (c.requires.front t) (omega arith))
