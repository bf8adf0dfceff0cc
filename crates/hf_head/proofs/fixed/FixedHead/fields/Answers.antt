use Rattle.hf_head.specs.FixedHeads.{fixed_in}
use Rattle.hf_head.proofs.fixed.FixedHead.fields.Goals as goal

pub returns : goal.returns
unfolding fixed_in
returns c = λ i. record {
  records = c.get_le.ensures.value i;
  size = c.get_le-2.ensures.value i;
  width = c.get_le-3.ensures.value i;
  limit = c.get_le-4.ensures.value i;
  least = c.get_le-5.ensures.value i;
  greatest = c.get_le-6.ensures.value i;
}
