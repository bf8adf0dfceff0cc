use Rattle.std.proofs.Common.{arith}
use Rattle.hf_survey.proofs.Rows.{entry_alone}
use Rattle.hf_survey.proofs.naming.entry.Goals as goal

pub returns-clause-place : goal.returns-clause-place
returns-clause-place g c = λ t. entry_alone c.args.head.now c.args.bucket c.entries.new.places (g.S.Space.now c.args.space.now c.args.file) (omega (arith, c.entries.auto.places)) (c.in_ok-entries.ensures.places t)
