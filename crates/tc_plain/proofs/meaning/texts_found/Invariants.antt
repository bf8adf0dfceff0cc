use Rattle.std.proofs.Common.{◌≡◌, ◌++◌, drop}
use Rattle.std.specs.Prelude.{flat_map}
use Rattle.tc_model.specs.Meaning.{reply_of}
use Rattle.tc_plain.proofs.meaning.texts_found.Given as goal

abbrev pub invariant-loop-row : goal.invariant-loop-row
invariant-loop-row l = l.items ++ flat_map reply_of (drop l.row-index l.rows) ≡ flat_map reply_of l.rows
