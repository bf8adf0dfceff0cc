use Rattle.std.proofs.Common.{arith}
use Rattle.ty_core.proofs.Gathering.{begins_put}
use Rattle.ty_core.proofs.large.sizes_at.Goals as goal

pub returns : goal.returns
returns c = begins_put c.args.bytes.now _ _ _ _ _ _ (λ i. omega (arith, c.type_inv.bytes i)) c.in-Ok.ensures.size c.in-Ok-read_size.ensures.size c.in-Ok-read_bytes.ensures
