use Rattle.std.proofs.Common.{◌≡◌, ◌++◌}
use Rattle.ty_wire.specs.Prefixes.{IsPrefix}
use Rattle.tc_tabledb.proofs.Told.{lines}
use Rattle.tc_tabledb.proofs.informing.add_words.Given as goal

abbrev pub invariant-loop-name : goal.invariant-loop-name
invariant-loop-name l = record {
  added : l.into ++ lines l.name-iterator ≡ l.fn.into ++ lines l.initial.name-iterator;
  front : IsPrefix l.fn.into l.into;
}
