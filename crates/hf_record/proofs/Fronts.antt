-- What stands in front of the blocks stays.
use Rattle.std.proofs.Common.{◌≡◌, ◌∙◌, ℕ, ◌+◌, ◌*◌, ◌≤◌, List, take, sym, ap, arith}
use Rattle.std.proofs.lemmas.List.{places, same_lists}
use Rattle.hf_head.specs.declared.head.Head.{Head}
use Rattle.hf_head.specs.Heads.{IsValid}
use Rattle.hf_block.specs.Walks.{between}
use Rattle.hf_tree.specs.Links.{array, width}
use Rattle.hf_tree.proofs.Fields.{sections_first}

between_front : (from to first : ℕ) (bytes : List ℕ) → to ≤ first → between from to (take first bytes) ≡ between from to bytes
between_front from to first bytes low = same_lists _ _ (grind (arith, places)) (λ i d g. grind (arith, places))

pub between_same : (from to first : ℕ) (old new : List ℕ) → to ≤ first → take first new ≡ take first old → between from to new ≡ between from to old
between_same from to first old new low e = sym (between_front from to first new low) ∙ ap (between from to) e ∙ between_front from to first old low

pub array_same : (h : Head) (old new : List ℕ) → IsValid h → take h.first new ≡ take h.first old → array h new ≡ array h old
array_same h old new v e = between_same 256 (256 + width h * h.buckets) h.first old new (omega (arith, sections_first h v)) e
