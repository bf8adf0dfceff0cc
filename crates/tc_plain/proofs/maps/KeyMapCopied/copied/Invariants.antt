use Rattle.std.specs.Ordering.{nat_cmp}
use Rattle.std.specs.Cmp.Lexicographic.{slice_cmp, nat_list_cmp_total}
use Rattle.std.proofs.lemmas.Map.Lookups.{exact_bytes}
use Rattle.tc_plain.proofs.Entries.{Covers}
use Rattle.tc_plain.proofs.maps.KeyMapCopied.copied.Given as goal

abbrev pub invariant-loop-key : goal.invariant-loop-key
invariant-loop-key g l = Covers (slice_cmp nat_cmp) nat_list_cmp_total exact_bytes l.initial.key-iterator l.key-iterator l.copy
