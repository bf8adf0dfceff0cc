use Rattle.std.proofs.Common.{[], arith}
use Rattle.play_codec.proofs.Fronts.{text_seen_longer}
use Rattle.play_codec.proofs.texts.agrees.Goals as goal

pub loop-n-init : goal.loop-n-init
loop-n-init c = record { inside = omega arith; seen = c.new-seen.ensures [] }

pub look_text-requires : goal.look_text-requires
look_text-requires c = text_seen_longer c.loop-n.seen c.args.bytes.now c.loop-n.n c.min-n.result c.loop-n.invariant.seen
