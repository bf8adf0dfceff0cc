use Rattle.std.proofs.Common.{◌∙◌, sym, ap}
use Rattle.tc_maps.specs.Sizes.{size_of}
use Rattle.tc_maps.proofs.Mapped.{map_of}
use Rattle.tc_maps.proofs.Bytes.{size-empty}
use Rattle.tc_maps.proofs.bytemap.Bytemap.new.Goals as goal

pub invariant_of-result : goal.invariant_of-result
invariant_of-result c = record { sorted = c.new.ensures.ordered; size = sym (ap (λ es. size_of (map_of es)) c.new.ensures.empty ∙ size-empty) }
