use Rattle.std.proofs.Common.{subst}
use Rattle.tc_fixed.specs.declared.cells.Look.{Look}
use Rattle.tc_fixed.specs.Cells.{cell_at}
use Rattle.tc_fixed.specs.Looks.{Sees}
use Rattle.tc_fixed.proofs.Counted.{counted_absent, counted_value}
use Rattle.tc_fixed.proofs.open.count_cell.Goals as goal

pub returns-in-Value-clause-some : goal.returns-in-Value-clause-some
returns-in-Value-clause-some c = λ width bytes wide counted sees. counted_value width c.args.id c.in-Value.long c.args.tally.now c.with.result bytes c.requires.id wide c.requires.id_most counted
    (subst (λ (look : Look). Sees width look (cell_at width c.args.id bytes)) c.in-Value.is sees) c.with.ensures.counts

pub returns-in-Absent-clause-some : goal.returns-in-Absent-clause-some
returns-in-Absent-clause-some c = λ width bytes wide counted sees. counted_absent width c.args.id c.args.tally.now bytes c.requires.id counted (subst (λ (look : Look). Sees width look (cell_at width c.args.id bytes)) c.in-Absent.is sees)
