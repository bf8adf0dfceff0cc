use Rattle.std.proofs.Common.{[], arith}
use Rattle.play_codec.proofs.Fronts.{piece_seen_longer}
use Rattle.play_codec.proofs.texts.is_whole_at_last.Goals as goal

pub loop-n-init : goal.loop-n-init
loop-n-init c = record { inside = omega arith; seen = c.new-seen.ensures [] }

pub look_piece-front-requires : goal.look_piece-front-requires
look_piece-front-requires c = piece_seen_longer c.loop-n.seen c.args.bytes.now c.loop-n.n 1 c.loop-n.invariant.seen
