use Rattle.std.proofs.Common.{◌∙◌, sym, ap}
use Rattle.tc_maps.specs.Sizes.{size_of}
use Rattle.tc_maps.proofs.Mapped.{map_of}
use Rattle.tc_maps.proofs.Bytes.{size-empty}
use Rattle.tc_maps.proofs.bytemap.Bytemap.clear.Goals as goal

pub invariant_of-self : goal.invariant_of-self
invariant_of-self c = record { sorted = c.clear.ensures.ordered; size = sym (ap (λ es. size_of (map_of es)) c.clear.ensures.empty ∙ size-empty) }
