use Rattle.tc_fixed.proofs.Changed.{clear_holds}
use Rattle.tc_fixed.proofs.fixed.Fixed.clear.Goals as goal

pub returns-clause-clear : goal.returns-clause-clear
returns-clause-clear g c = record {
  sound = c.in_ok-cut_to.ensures.outcome.ok;
  means = λ m means. (means.0, clear_holds c.args.self.now.width c.args.self.now.limit c.args.self.now.tally c.none-self.result m (g.S.Space.now c.args.space.now 0) (g.S.Space.now c.cut_to.new.space 0) means.1 (c.in_ok-cut_to.ensures.cut means.0).here c.none-self.ensures.greatest c.none-self.ensures.counts);
  others = record { same = λ t g other. (c.in_ok-cut_to.ensures.cut t).others g other };
}

pub returns-clause-wrote : goal.returns-clause-wrote
returns-clause-wrote g c = c.in_ok-cut_to.ensures.cut
