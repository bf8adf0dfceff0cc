use Rattle.std.proofs.Common.{[], arith}
use Rattle.play_codec.proofs.Fronts.{seen_longer}
use Rattle.play_codec.proofs.wire.ready_at.Goals as goal

pub loop-n-init : goal.loop-n-init
loop-n-init c = record { inside = omega arith; seen = c.new-seen.ensures [] }

pub look-requires : goal.look-requires
look-requires c = seen_longer c.loop-n.seen c.args.bytes.now c.loop-n.n c.min-n.result c.loop-n.invariant.seen
