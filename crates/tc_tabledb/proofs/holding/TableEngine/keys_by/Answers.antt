use Rattle.std.proofs.Common.{ℕ, List, map, refl, subst}
use Rattle.tc_engine.specs.Rows.{Adds, item_row}
use Rattle.tc_tabledb.proofs.Lifting.{ready_down, still_up}
use Rattle.tc_tabledb.proofs.Searched.{keys_stay, looks_found, says_keys}
use Rattle.tc_tabledb.proofs.holding.TableEngine.keys_by.Goals as goal

pub search_keys-requires : goal.search_keys-requires
search_keys-requires g c = ready_down g.S.Space _ _ _ c.args.self.now c.args.space.now c.requires.ready

pub returns-in_err-keys-clause-reads : goal.returns-in_err-keys-clause-reads
returns-in_err-keys-clause-reads g c = record { reads = still_up g.S.Space _ _ _ c.args.self.now _ c.args.space.now c.search_keys.new.space refl c.search_keys.ensures.stays c.search_keys.ensures.reads; named = c.search_keys.ensures.planned }

pub returns-in_err-add_texts-clause-reads : goal.returns-in_err-add_texts-clause-reads
returns-in_err-add_texts-clause-reads g c = record { reads = still_up g.S.Space _ _ _ c.args.self.now _ c.args.space.now c.search_keys.new.space refl c.search_keys.ensures.stays c.search_keys.ensures.reads; named = c.search_keys.ensures.planned }

pub returns-clause-reads : goal.returns-clause-reads
returns-clause-reads g c = record { reads = still_up g.S.Space _ _ _ c.args.self.now _ c.args.space.now c.search_keys.new.space refl c.search_keys.ensures.stays c.search_keys.ensures.reads; named = c.search_keys.ensures.planned }

pub returns-clause-does : goal.returns-clause-does
returns-clause-does g c = record {
  turns = looks_found g.S.Space _ _ _ c.args.query.now c.args.self.now _ c.args.space.now c.search_keys.new.space (keys_stay c.args.query.now.deed c.requires.keys) (still_up g.S.Space _ _ _ c.args.self.now _ c.args.space.now c.search_keys.new.space refl c.search_keys.ensures.stays c.search_keys.ensures.reads);
  says = says_keys g.S.Space _ _ _ c.args.query.now c.args.self.now c.args.space.now c.in_ok-keys.keys c.args.into.now c.add_texts.new.rows c.requires.keys c.in_ok-keys.ensures.found (subst (λ (ks : List (List ℕ)). Adds c.args.into.now c.add_texts.new.rows (map item_row ks)) c.as_slice.ensures c.in_ok-add_texts.ensures.rows);
}
