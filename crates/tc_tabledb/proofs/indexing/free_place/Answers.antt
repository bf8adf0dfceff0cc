use Rattle.std.proofs.Common.{◌≡◌, true, false, arith}
use Rattle.tc_tabledb.proofs.Places.{none_looked, one_looked}
use Rattle.tc_tabledb.proofs.indexing.free_place.Goals as goal

pub loop-file-init : goal.loop-file-init
loop-file-init g c = record { least = omega arith; none = none_looked g.L.Multi g.D.Multi c.args.sides.now }

pub loop-file-preserved : goal.loop-file-preserved
loop-file-preserved g c = record { least = omega (arith, c.loop-file.invariant.least); none = one_looked g.L.Multi g.D.Multi c.args.sides.now c.loop-file.file (c.is_taken.ensures.taken c.if-not-is_taken.false) c.loop-file.invariant.none }

pub returns-then-not-is_taken-clause-place : goal.returns-then-not-is_taken-clause-place
returns-then-not-is_taken-clause-place g c = (c.loop-file.invariant.least, omega arith)

pub returns-then-not-is_taken-clause-free : goal.returns-then-not-is_taken-clause-free
returns-then-not-is_taken-clause-free g c = c.is_taken.ensures.free c.if-not-is_taken.true

pub returns-then-not-is_taken-clause-lowest : goal.returns-then-not-is_taken-clause-lowest
returns-then-not-is_taken-clause-lowest g c = c.loop-file.invariant.none

pub returns-then-not-is_taken-clause-none : goal.returns-then-not-is_taken-clause-none
returns-then-not-is_taken-clause-none g c = λ is. absurd (let bad : false ≡ true = is in cc)

pub returns-clause-none : goal.returns-clause-none
returns-clause-none g c = λ is n at free. c.loop-file.invariant.none n at (let most = at.1 in omega (arith, most, c.loop-file-test.false)) free
