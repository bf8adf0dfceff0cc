use Rattle.hf_tree.specs.Keys.{bucket_of}
use Rattle.hf_survey.proofs.facts.marks_in.Goals as goal

pub returns : goal.returns
unfolding bucket_of
returns c = λ i. record { bucket = c.hashes_of-bucket.ensures.0 i; second = c.hashes_of-bucket.ensures.1 i; front = c.front_in.ensures i }
