use Rattle.std.proofs.Common.{inr, refl}
use Rattle.tc_reach.proofs.Handed.{on_err_any}
use Rattle.tc_space.specs.Frames.{keeps_then, refuses_then}
use Rattle.std.proofs.lemmas.Result.{on_err_weaker, on_ok_weaker}
use Rattle.tc_tabledb.proofs.Lifting.{ready_down, still_up}
use Rattle.tc_tabledb.proofs.Searched.{count_stays, gone_found, gone_full, keys_stay, looks_found, ready_still, says_found}
use Rattle.tc_tabledb.proofs.holding.TableEngine.search_by.Goals as goal

pub search-requires : goal.search-requires
search-requires g c = ready_down g.S.Space _ _ _ c.args.self.now c.args.space.now c.requires

pub returns-in_err-found-clause-reads : goal.returns-in_err-found-clause-reads
returns-in_err-found-clause-reads g c = λ other. record { reads = still_up g.S.Space _ _ _ c.args.self.now _ c.args.space.now c.search.new.space refl c.search.ensures.stays c.search.ensures.reads; named = c.search.ensures.planned }

pub returns-in_err-found-clause-refused : goal.returns-in_err-found-clause-refused
returns-in_err-found-clause-refused g c = on_err_any _ (inr (still_up g.S.Space _ _ _ c.args.self.now _ c.args.space.now c.search.new.space refl c.search.ensures.stays c.search.ensures.reads))

pub returns-in_err-say_found-clause-reads : goal.returns-in_err-say_found-clause-reads
returns-in_err-say_found-clause-reads g c = λ other. record { reads = still_up g.S.Space _ _ _ c.args.self.now _ c.args.space.now c.search.new.space refl c.search.ensures.stays c.search.ensures.reads; named = c.search.ensures.planned }

pub returns-in_err-say_found-clause-refused : goal.returns-in_err-say_found-clause-refused
returns-in_err-say_found-clause-refused g c = on_err_any _ (inr (still_up g.S.Space _ _ _ c.args.self.now _ c.args.space.now c.search.new.space refl c.search.ensures.stays c.search.ensures.reads))

pub returns-then-not-takes_out-clause-reads : goal.returns-then-not-takes_out-clause-reads
returns-then-not-takes_out-clause-reads g c = λ other. record { reads = still_up g.S.Space _ _ _ c.args.self.now _ c.args.space.now c.search.new.space refl c.search.ensures.stays c.search.ensures.reads; named = c.search.ensures.planned }

pub returns-then-not-takes_out-clause-does : goal.returns-then-not-takes_out-clause-does
returns-then-not-takes_out-clause-does g c = record {
  turns = looks_found g.S.Space _ _ _ c.args.query.now c.args.self.now _ c.args.space.now c.search.new.space (c.takes_out.ensures.other c.if-not-takes_out.true) (still_up g.S.Space _ _ _ c.args.self.now _ c.args.space.now c.search.new.space refl c.search.ensures.stays c.search.ensures.reads);
  says = says_found g.S.Space _ _ _ c.args.query.now c.args.self.now c.args.space.now c.in_ok-found.found c.args.into.now c.say_found.new.into c.in_ok-found.ensures.found c.in_ok-say_found.ensures.said;
}

pub drop_found-requires : goal.drop_found-requires
drop_found-requires g c = ready_still g.S.Space _ _ _ c.args.self.now _ c.args.space.now c.search.new.space (still_up g.S.Space _ _ _ c.args.self.now _ c.args.space.now c.search.new.space refl c.search.ensures.stays c.search.ensures.reads) c.requires

pub returns-clause-does : goal.returns-clause-does
returns-clause-does g c = on_ok_weaker c.drop_found.result (λ drops. record {
  turns = gone_found g.S.Space _ _ _ c.args.query.now c.args.self.now _ c.drop_found.new.self c.args.space.now c.search.new.space c.drop_found.new.space c.in_ok-found.found (c.takes_out.ensures.out c.if-not-takes_out.false) c.in_ok-found.ensures.found (still_up g.S.Space _ _ _ c.args.self.now _ c.args.space.now c.search.new.space refl c.search.ensures.stays c.search.ensures.reads) drops;
  says = says_found g.S.Space _ _ _ c.args.query.now c.args.self.now c.args.space.now c.in_ok-found.found c.args.into.now c.say_found.new.into c.in_ok-found.ensures.found c.in_ok-say_found.ensures.said;
}) c.drop_found.ensures.drops

pub returns-clause-quiet : goal.returns-clause-quiet
returns-clause-quiet g c = λ out. c.say_found.ensures.quiet out

pub returns-clause-reads : goal.returns-clause-reads
returns-clause-reads g c = λ other. absurd (other (c.takes_out.ensures.out c.if-not-takes_out.false))

pub returns-clause-writes : goal.returns-clause-writes
returns-clause-writes g c = λ full. c.takes_out.ensures.out c.if-not-takes_out.false

pub returns-clause-refused : goal.returns-clause-refused
returns-clause-refused g c = on_err_weaker c.drop_found.result (λ refused. refuses_then g.S.Space _ c.args.self.now _ c.drop_found.new.self c.args.space.now c.search.new.space c.drop_found.new.space (still_up g.S.Space _ _ _ c.args.self.now _ c.args.space.now c.search.new.space refl c.search.ensures.stays c.search.ensures.reads) refused) c.drop_found.ensures.refused

pub returns-clause-full : goal.returns-clause-full
returns-clause-full g c = λ full. gone_full g.S.Space _ _ _ c.args.query.now c.args.self.now _ c.args.space.now c.search.new.space c.drop_found.new.space c.in_ok-found.found (c.takes_out.ensures.out c.if-not-takes_out.false) c.in_ok-found.ensures.found (still_up g.S.Space _ _ _ c.args.self.now _ c.args.space.now c.search.new.space refl c.search.ensures.stays c.search.ensures.reads) (c.drop_found.ensures.full full)

pub returns-clause-keeps : goal.returns-clause-keeps
returns-clause-keeps g c = keeps_then g.S.Space c.args.space.now c.search.new.space c.drop_found.new.space c.search.ensures.keeps c.drop_found.ensures.keeps

pub count_by-requires-clause-ready : goal.count_by-requires-clause-ready
count_by-requires-clause-ready g c = c.requires

pub count_by-requires-clause-count : goal.count_by-requires-clause-count
count_by-requires-clause-count g c = c.asks_count.ensures c.if-asks_count.true

pub returns-then-asks_count-clause-quiet : goal.returns-then-asks_count-clause-quiet
returns-then-asks_count-clause-quiet g c = λ out. absurd (count_stays c.args.query.now.deed (c.asks_count.ensures c.if-asks_count.true) out)

pub returns-then-asks_count-clause-reads : goal.returns-then-asks_count-clause-reads
returns-then-asks_count-clause-reads g c = λ other. c.count_by.ensures.reads

pub returns-then-asks_count-clause-writes : goal.returns-then-asks_count-clause-writes
returns-then-asks_count-clause-writes g c = λ full. absurd (c.count_by.ensures.cause.1 full)

pub returns-then-asks_count-clause-refused : goal.returns-then-asks_count-clause-refused
returns-then-asks_count-clause-refused g c = on_err_any _ (inr c.count_by.ensures.reads.reads)

pub returns-then-asks_count-clause-full : goal.returns-then-asks_count-clause-full
returns-then-asks_count-clause-full g c = λ full. absurd (c.count_by.ensures.cause.1 full)

pub returns-then-asks_count-clause-cause : goal.returns-then-asks_count-clause-cause
returns-then-asks_count-clause-cause g c = c.count_by.ensures.cause.0

pub keys_by-requires-clause-ready : goal.keys_by-requires-clause-ready
keys_by-requires-clause-ready g c = c.requires

pub keys_by-requires-clause-keys : goal.keys_by-requires-clause-keys
keys_by-requires-clause-keys g c = c.asks_keys.ensures c.if-asks_keys.true

pub returns-then-asks_keys-clause-quiet : goal.returns-then-asks_keys-clause-quiet
returns-then-asks_keys-clause-quiet g c = λ out. absurd (keys_stay c.args.query.now.deed (c.asks_keys.ensures c.if-asks_keys.true) out)

pub returns-then-asks_keys-clause-reads : goal.returns-then-asks_keys-clause-reads
returns-then-asks_keys-clause-reads g c = λ other. c.keys_by.ensures.reads

pub returns-then-asks_keys-clause-writes : goal.returns-then-asks_keys-clause-writes
returns-then-asks_keys-clause-writes g c = λ full. absurd (c.keys_by.ensures.cause.1 full)

pub returns-then-asks_keys-clause-refused : goal.returns-then-asks_keys-clause-refused
returns-then-asks_keys-clause-refused g c = on_err_any _ (inr c.keys_by.ensures.reads.reads)

pub returns-then-asks_keys-clause-full : goal.returns-then-asks_keys-clause-full
returns-then-asks_keys-clause-full g c = λ full. absurd (c.keys_by.ensures.cause.1 full)

pub returns-then-asks_keys-clause-cause : goal.returns-then-asks_keys-clause-cause
returns-then-asks_keys-clause-cause g c = c.keys_by.ensures.cause.0
