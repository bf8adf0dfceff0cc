use Rattle.std.proofs.Common.{◌≡◌, take}
use Rattle.tc_model.specs.Rows.{texts_of}
use Rattle.tc_model.specs.Stores.{bytes_of}
use Rattle.tc_tabledb.proofs.reading.row_size.Given as goal

abbrev pub invariant-loop-i : goal.invariant-loop-i
invariant-loop-i l = l.total ≡ bytes_of (texts_of (take l.i l.row))
