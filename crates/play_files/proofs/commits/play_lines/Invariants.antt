use Rattle.play_files.proofs.commits.play_lines.Given as goal

abbrev pub invariant-loop : goal.invariant-loop
invariant-loop g l = g.S.Space.sound l.space
