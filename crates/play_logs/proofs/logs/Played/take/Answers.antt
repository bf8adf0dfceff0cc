use Rattle.play_logs.proofs.logs.Played.take.Goals as goal

pub returns : goal.returns
returns g c = c.in_ok-append.ensures.notes.writes.sound
