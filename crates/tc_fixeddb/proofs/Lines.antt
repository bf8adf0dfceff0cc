-- Lines one behind the other.
use Rattle.std.proofs.Common.{◌≡◌, ◌∙◌, ℕ, List, ◌++◌, ap, append_assoc}
use Rattle.std.specs.Prelude.{codes}
use Rattle.hf_head.specs.declared.fixed.FixedHead.{FixedHead}
use Rattle.tc_engine.specs.Lines.{line}
use Rattle.tc_fixeddb.specs.Holding.{lines_of}

three_lines : (a b c d x y z : List ℕ) → b ≡ a ++ x → c ≡ b ++ y → d ≡ c ++ z → d ≡ a ++ (x ++ (y ++ z))
three_lines a b c d x y z first second third = third ∙ (ap (λ t. t ++ z) (second ∙ ap (λ t. t ++ y) first) ∙ (append_assoc (a ++ x) y z ∙ append_assoc a x (y ++ z)))

pub lines_added : (a b c d : List ℕ) (h : FixedHead) (width : ℕ) → width ≡ h.width → b ≡ a ++ line (codes "width: ") width → c ≡ b ++ line (codes "greatest id: ") h.greatest → d ≡ c ++ line (codes "file size: ") h.size → d ≡ a ++ lines_of h
lines_added a b c d h width is first second third = three_lines a b c d (line (codes "width: ") h.width) (line (codes "greatest id: ") h.greatest) (line (codes "file size: ") h.size) (first ∙ ap (λ n. a ++ line (codes "width: ") n) is) second third
