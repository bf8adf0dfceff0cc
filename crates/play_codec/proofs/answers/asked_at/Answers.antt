use Rattle.play_codec.proofs.answers.asked_at.Goals as goal

pub asked_of-requires : goal.asked_of-requires
asked_of-requires c = (_, c.in_ok-text.ensures.0, c.in_ok-text.ensures.1)
