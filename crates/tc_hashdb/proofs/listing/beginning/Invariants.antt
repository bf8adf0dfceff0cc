use Rattle.std.proofs.Common.{◌≡◌}
use Rattle.std.specs.Prelude.{filter, nat_eq, length}
use Rattle.std.specs.List.{starts_with}
use Rattle.tc_hashdb.proofs.Listed.{Fits}
use Rattle.tc_hashdb.proofs.listing.beginning.Given as goal

abbrev pub invariant-loop-text : goal.invariant-loop-text
invariant-loop-text l = record {
  found : l.found ≡ filter (λ k. starts_with nat_eq k l.prefix) l.yielded;
  fits : Fits l.most (length l.found);
}
