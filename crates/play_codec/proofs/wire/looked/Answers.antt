use Rattle.play_codec.proofs.wire.looked.Goals as goal

pub look-front-requires : goal.look-front-requires
look-front-requires c = c.new-seen.ensures c.args.bytes.now
