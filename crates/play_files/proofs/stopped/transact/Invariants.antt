use Rattle.play_files.proofs.stopped.transact.Given as goal

abbrev pub invariant-loop : goal.invariant-loop
invariant-loop g l = g.S.Space.sound l.space
