use Rattle.std.proofs.Common.{◌∙◌, ap, false, replicate}
use Rattle.hf_survey.proofs.reaching.reach.Goals as goal

pub reach_buckets-requires-clause-unset : goal.reach_buckets-requires-clause-unset
reach_buckets-requires-clause-unset g c = c.deref_mut.ensures.value ∙ c.in_ok-marks.ensures ∙ ap (λ n. replicate n false) c.len.ensures
