use Rattle.std.proofs.Common.{◌≡◌, ◌+◌, ◌-◌}
use Rattle.tc_space.specs.Frames.{Keeps, Reads}
use Rattle.tc_model.specs.Arrays.{Array}
use Rattle.tc_fixed.specs.Holding.{Means, SameShape}
use Rattle.tc_fixed.specs.Listing.{first_of}
use Rattle.tc_fixeddb.proofs.Beginning.{begun}
use Rattle.tc_fixeddb.proofs.Fronts.{IsRange}
use Rattle.tc_fixeddb.proofs.prefixes.ids_beginning.Given as goal

abbrev pub invariant-loop-from : goal.invariant-loop-from
invariant-loop-from g l = record {
  range : IsRange l.n l.from l.to;
  found : (m : Array) → Means g.S.Space l.fn.fixed l.fn.space m → l.found.items ≡ first_of l.most (begun l.n m l.from);
  reads : Reads g.S.Space (Means g.S.Space) l.fn.fixed l.fixed l.fn.space l.space;
  keeps : Keeps g.S.Space l.fn.space l.space;
  shape : SameShape l.fn.fixed l.fixed;
}

abbrev pub decreases-loop-from : goal.decreases-loop-from
decreases-loop-from g l = l.greatest + 1 - l.from
