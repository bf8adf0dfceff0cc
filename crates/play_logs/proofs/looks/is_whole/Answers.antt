use Rattle.play_logs.proofs.looks.is_whole.Goals as goal

pub returns-in-Whole : goal.returns-in-Whole
returns-in-Whole c = λ is. let read = c.in-Whole.ensures.reading in (read.0, _, record { is = read.2 })
