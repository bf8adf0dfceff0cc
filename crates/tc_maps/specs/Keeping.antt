-- What a map of pairs keeps beside its entries.
use Rattle.std.specs.BTreeMap.{IsOrdered, BTreeMap}
use Rattle.std.specs.Prelude.{ℕ, List}
use Rattle.tc_base.specs.Orders.{lexical}
use Rattle.tc_maps.specs.declared.totals.Totals.{Totals}
use Rattle.tc_maps.specs.Entries.{Held, seen}
use Rattle.tc_maps.specs.Totals.{AreTotals}

pub record IsKept (m : BTreeMap (List ℕ) Held) (t : Totals) : Type 0 where
  pub sorted : IsOrdered lexical m
  pub totals : AreTotals t (seen m)
