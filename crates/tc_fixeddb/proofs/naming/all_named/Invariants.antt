use Rattle.std.proofs.Common.{◌≡◌, drop}
use Rattle.tc_fixeddb.specs.Naming.{all_named}
use Rattle.tc_fixeddb.proofs.naming.all_named.Given as goal

abbrev pub invariant-loop-pair : goal.invariant-loop-pair
invariant-loop-pair l = all_named l.most l.least l.greatest (drop l.pair-index l.pairs) ≡ all_named l.fn.most l.fn.least l.fn.greatest l.pairs
