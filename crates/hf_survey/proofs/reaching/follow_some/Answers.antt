use Rattle.std.proofs.Common.{length}
use Rattle.hf_survey.proofs.Batches.{marked_low}
use Rattle.hf_survey.proofs.reaching.follow_some.Goals as goal

pub chains_of-requires-clause-low : goal.chains_of-requires-clause-low
chains_of-requires-clause-low c = marked_low c.args.items.now c.args.marks.now (length c.args.facts.now) c.requires.long c.requires.marked
