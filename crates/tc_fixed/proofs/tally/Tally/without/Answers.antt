use Rattle.std.proofs.Common.{arith}
use Rattle.tc_fixed.proofs.Tallied.{len_less, bytes_less}
use Rattle.tc_fixed.proofs.tally.Tally.without.Goals as goal

pub returns-clause-counts : goal.returns-clause-counts
returns-clause-counts c = λ m v counts small is long least greatest. record {
  records = omega (arith, c.saturating_sub.ensures, counts.records, len_less m c.args.id v is);
  size = omega (arith, c.saturating_sub-2.ensures, c.saturating_sub-3.ensures, c.digits.ensures.value, counts.size, long, bytes_less m c.args.id v is);
  least = least;
  greatest = greatest;
}
