use Rattle.play_logs.proofs.opening.play_all.Given as goal

abbrev pub invariant-loop : goal.invariant-loop
invariant-loop g l = g.S.Space.sound l.space
