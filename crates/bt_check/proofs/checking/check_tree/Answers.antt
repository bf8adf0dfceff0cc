use Rattle.bt_check.proofs.checking.check_tree.Goals as goal

pub returns-clause-stands : goal.returns-clause-stands
returns-clause-stands g c = λ m i. (c.in_ok-measure_tree.ensures.stands m i).0
