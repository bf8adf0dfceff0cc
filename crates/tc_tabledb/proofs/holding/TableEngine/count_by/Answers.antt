use Rattle.std.proofs.Common.{refl}
use Rattle.tc_tabledb.proofs.Lifting.{ready_down, still_up}
use Rattle.tc_tabledb.proofs.Searched.{count_stays, looks_found, says_counted}
use Rattle.tc_tabledb.proofs.holding.TableEngine.count_by.Goals as goal

pub count_found-requires : goal.count_found-requires
count_found-requires g c = ready_down g.S.Space _ _ _ c.args.self.now c.args.space.now c.requires.ready

pub returns-in_err-n-clause-reads : goal.returns-in_err-n-clause-reads
returns-in_err-n-clause-reads g c = record { reads = still_up g.S.Space _ _ _ c.args.self.now _ c.args.space.now c.count_found.new.space refl c.count_found.ensures.stays c.count_found.ensures.reads; named = c.count_found.ensures.planned }

pub returns-in_err-add_count-clause-reads : goal.returns-in_err-add_count-clause-reads
returns-in_err-add_count-clause-reads g c = record { reads = still_up g.S.Space _ _ _ c.args.self.now _ c.args.space.now c.count_found.new.space refl c.count_found.ensures.stays c.count_found.ensures.reads; named = c.count_found.ensures.planned }

pub returns-clause-reads : goal.returns-clause-reads
returns-clause-reads g c = record { reads = still_up g.S.Space _ _ _ c.args.self.now _ c.args.space.now c.count_found.new.space refl c.count_found.ensures.stays c.count_found.ensures.reads; named = c.count_found.ensures.planned }

pub returns-clause-does : goal.returns-clause-does
returns-clause-does g c = record {
  turns = looks_found g.S.Space _ _ _ c.args.query.now c.args.self.now _ c.args.space.now c.count_found.new.space (count_stays c.args.query.now.deed c.requires.count) (still_up g.S.Space _ _ _ c.args.self.now _ c.args.space.now c.count_found.new.space refl c.count_found.ensures.stays c.count_found.ensures.reads);
  says = says_counted g.S.Space _ _ _ c.args.query.now c.args.self.now c.args.space.now c.in_ok-n.n c.args.into.now c.add_count.new.into c.requires.count c.in_ok-n.ensures.found c.in_ok-add_count.ensures.added;
}
