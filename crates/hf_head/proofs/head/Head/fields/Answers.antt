use Rattle.std.proofs.Common.{slice_index_or}
use Rattle.hf_head.specs.Heads.{head_in}
use Rattle.hf_head.proofs.head.Head.fields.Goals as goal

pub returns : goal.returns
unfolding head_in
returns c = λ i. record {
  kind = slice_index_or c.args.bytes.now 32 0;
  apow = slice_index_or c.args.bytes.now 34 0;
  fpow = slice_index_or c.args.bytes.now 35 0;
  options = slice_index_or c.args.bytes.now 36 0;
  buckets = c.get_le.ensures.value i;
  records = c.get_le-2.ensures.value i;
  size = c.get_le-3.ensures.value i;
  first = c.get_le-4.ensures.value i;
  opaque = c.copy_from_slice.ensures.after i;
}
