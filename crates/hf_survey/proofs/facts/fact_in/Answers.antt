use Rattle.std.proofs.Common.{◌∙◌, ap}
use Rattle.hf_survey.specs.Facts.{marks_of}
use Rattle.hf_survey.proofs.facts.fact_in.Goals as goal

pub returns : goal.returns
returns c = λ r head key bounds. c.fact_with.ensures r head (c.marks_in-marks.ensures ∙ ap (marks_of c.args.head.now.buckets) key) bounds
