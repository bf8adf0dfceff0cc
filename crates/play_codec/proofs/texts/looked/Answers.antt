use Rattle.play_codec.proofs.texts.looked.Goals as goal

pub look_piece-front-requires : goal.look_piece-front-requires
look_piece-front-requires c = c.new-seen.ensures c.args.bytes.now
