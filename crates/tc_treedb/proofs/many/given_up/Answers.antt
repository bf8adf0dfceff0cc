use Rattle.tc_treedb.proofs.many.given_up.Goals as goal

pub returns-clause-given : goal.returns-clause-given
returns-clause-given g c = record {
  flag = c.spoil.ensures.spoiled;
  keeps = record {
    steady = c.spoil.ensures.stays.steady;
    same_limit = c.spoil.ensures.stays.follows.same_limit;
    same_names = c.spoil.ensures.stays.follows.same_names;
    later = c.spoil.ensures.stays.follows.later;
  };
  files = c.spoil.ensures.now;
  log = c.spoil.ensures.log;
  brought = c.spoil.ensures.brought;
}
