use Rattle.std.proofs.Common.{ap}
use Rattle.std.specs.Prelude.{Some, None}
use Rattle.std.proofs.lemmas.Result.{IfOk-weaker, on_ok_weaker}
use Rattle.tc_space.specs.Frames.{keeps_refl, reads_refl}
use Rattle.bt_cache.specs.Effects.{same_store_refl}
use Rattle.bt_cache.specs.Held.{Pages}
use Rattle.bt_cache.proofs.Changes.{drop_list}
use Rattle.bt_cache.proofs.Uses.{asked_hit, asked_miss, counts_hit, counts_miss, ready_store, taken_has, taken_page, taken_reads}
use Rattle.bt_cache.proofs.cache.Cache.take.Goals as goal

pub read_page-requires : goal.read_page-requires
read_page-requires g c = ready_store g.R.S.Space g.R.Records c.args.self.now.pages c.args.store.now c.args.space.now c.requires

pub returns-in-Some-clause-page : goal.returns-in-Some-clause-page
returns-in-Some-clause-page g c = λ m p b h. taken_page c.args.self.now.pages c.pop.new.self c.args.id c.pop.result c.pop.ensures.value c.pop.ensures.entries m c.in-Some.page p c.in-Some.is b.1 h

pub returns-in-Some-clause-list : goal.returns-in-Some-clause-list
returns-in-Some-clause-list g c = drop_list c.args.self.now.pages c.pop.new.self c.args.id c.len-count.ensures.valid c.pop.ensures.entries

pub returns-in-Some-clause-looks : goal.returns-in-Some-clause-looks
returns-in-Some-clause-looks g c = record {
  reads = taken_reads c.args.self.now.pages c.pop.new.self c.args.id c.pop.result c.pop.ensures.value c.pop.ensures.entries g.R.S.Space g.R.Records c.args.store.now c.args.store.now c.args.space.now c.args.space.now (reads_refl _ _ c.args.store.now c.args.space.now c.requires.sound);
  keeps = keeps_refl _ c.args.space.now;
  room = ap (λ (k : Pages). k.cap) c.pop.ensures.entries;
  made = same_store_refl g.R.Records c.args.store.now;
  tight = λ from form bytes t. t;
}

pub returns-in-Some-clause-counts : goal.returns-in-Some-clause-counts
returns-in-Some-clause-counts g c = counts_hit g.R.Records c.args.id c.args.self.now c.args.store.now c.args.steps.now (taken_has c.args.self.now.pages c.pop.new.self c.args.id c.pop.result c.pop.ensures.value c.pop.ensures.entries (Some c.in-Some.page) c.in-Some.is)

pub returns-in-Some-clause-asked : goal.returns-in-Some-clause-asked
returns-in-Some-clause-asked g c = asked_hit _ _ (taken_has c.args.self.now.pages c.pop.new.self c.args.id c.pop.result c.pop.ensures.value c.pop.ensures.entries (Some c.in-Some.page) c.in-Some.is)

pub returns-clause-page : goal.returns-clause-page
returns-clause-page g c = IfOk-weaker c.read_page.result _ _ (λ x is m p b h. (is m m p b.0 b.0 h).0) c.read_page.ensures.page

pub returns-clause-list : goal.returns-clause-list
returns-clause-list g c = drop_list c.args.self.now.pages c.pop.new.self c.args.id c.len-count.ensures.valid c.pop.ensures.entries

pub returns-clause-looks : goal.returns-clause-looks
returns-clause-looks g c = record {
  reads = taken_reads c.args.self.now.pages c.pop.new.self c.args.id c.pop.result c.pop.ensures.value c.pop.ensures.entries g.R.S.Space g.R.Records c.args.store.now c.read_page.new.store c.args.space.now c.read_page.new.space c.read_page.ensures.reads;
  keeps = c.read_page.ensures.keeps;
  room = ap (λ (k : Pages). k.cap) c.pop.ensures.entries;
  made = c.read_page.ensures.asks.made;
  tight = c.read_page.ensures.asks.tight;
}

pub returns-clause-counts : goal.returns-clause-counts
returns-clause-counts g c = counts_miss g.R.Records c.args.id c.args.self.now c.args.store.now c.read_page.new.store c.args.steps.now c.tick.new.self
    (taken_has c.args.self.now.pages c.pop.new.self c.args.id c.pop.result c.pop.ensures.value c.pop.ensures.entries None c.in_default.is) c.read_page.ensures.asks c.tick.ensures

pub returns-clause-asked : goal.returns-clause-asked
returns-clause-asked g c = on_ok_weaker c.read_page.result (λ asked. asked_miss _ _ _ (taken_has c.args.self.now.pages c.pop.new.self c.args.id c.pop.result c.pop.ensures.value c.pop.ensures.entries None c.in_default.is) asked) c.read_page.ensures.asked
