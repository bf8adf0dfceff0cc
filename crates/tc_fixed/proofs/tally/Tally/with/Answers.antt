use Rattle.std.proofs.Common.{◌∙◌, ap}
use Rattle.std.specs.Prelude.{max}
use Rattle.tc_fixed.proofs.Tallied.{greatest_with}
use Rattle.tc_fixed.proofs.tally.Tally.with.Goals as goal

pub returns-clause-counts : goal.returns-clause-counts
returns-clause-counts c = λ m v counts small old long now. record {
  records = c.records_with.ensures m c.args.id v counts small old;
  size = c.size_with.ensures m v counts small old long now;
  least = c.least_with.ensures m v counts small;
  greatest = c.max.ensures ∙ ap (λ n. max n c.args.id) counts.greatest ∙ greatest_with m c.args.id v c.requires.id;
}
