use Rattle.play_logs.proofs.logs.Played.write_round.Goals as goal

pub returns : goal.returns
returns g c = c.in_ok-append_updates.ensures.asks.notes.writes.sound
