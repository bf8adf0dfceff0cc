use Rattle.std.proofs.Common.{◌∙◌, ap}
use Rattle.tc_space.specs.Frames.{keeps_refl}
use Rattle.bt_cache.specs.Effects.{same_store_refl}
use Rattle.bt_cache.specs.Held.{Pages}
use Rattle.bt_cache.proofs.Uses.{held_has, hit_list, hit_first, hit_reads, not_promoted, ready_store, same_reads, miss_reads, miss_list, miss_first, counts_hit, counts_miss, asked_hit, asked_miss}
use Rattle.bt_cache.proofs.cache.Cache.bring.Goals as goal

pub returns-then-promote-clause-list : goal.returns-then-promote-clause-list
returns-then-promote-clause-list g c = hit_list c.args.self.now.pages c.promote.new.self c.args.id c.promote.result c.len-count.ensures.valid c.promote.ensures.value c.promote.ensures.entries c.if-promote.true

pub returns-then-promote-clause-front : goal.returns-then-promote-clause-front
returns-then-promote-clause-front g c = hit_first c.args.self.now.pages c.promote.new.self c.args.id c.promote.result c.len-count.ensures.valid c.promote.ensures.value c.promote.ensures.entries c.if-promote.true

pub returns-then-promote-clause-looks : goal.returns-then-promote-clause-looks
returns-then-promote-clause-looks g c = record {
  reads = hit_reads c.args.self.now.pages c.promote.new.self c.args.id c.promote.result c.len-count.ensures.valid c.promote.ensures.value c.promote.ensures.entries g.R.S.Space g.R.Records c.args.store.now c.args.space.now c.if-promote.true c.requires.ready.sound;
  keeps = keeps_refl _ c.args.space.now;
  room = ap (λ (k : Pages). k.cap) c.promote.ensures.entries;
  made = same_store_refl g.R.Records c.args.store.now;
  tight = λ from form bytes t. t;
}

pub returns-then-promote-clause-counts : goal.returns-then-promote-clause-counts
returns-then-promote-clause-counts g c = counts_hit g.R.Records c.args.id c.args.self.now c.args.store.now c.args.steps.now (held_has c.args.self.now.pages c.promote.new.self c.args.id c.promote.result c.len-count.ensures.valid c.promote.ensures.value c.promote.ensures.entries ∙ c.if-promote.true)

pub returns-then-promote-clause-asked : goal.returns-then-promote-clause-asked
returns-then-promote-clause-asked g c = asked_hit _ _ (held_has c.args.self.now.pages c.promote.new.self c.args.id c.promote.result c.len-count.ensures.valid c.promote.ensures.value c.promote.ensures.entries ∙ c.if-promote.true)

pub read_page-requires : goal.read_page-requires
read_page-requires g c = ready_store g.R.S.Space g.R.Records c.args.self.now.pages c.args.store.now c.args.space.now c.requires.ready

pub returns-in_err-page-clause-looks : goal.returns-in_err-page-clause-looks
returns-in_err-page-clause-looks g c = record {
  reads = same_reads g.R.S.Space g.R.Records c.args.self.now.pages c.promote.new.self c.args.store.now c.read_page.new.store c.args.space.now c.read_page.new.space
      (not_promoted c.args.self.now.pages c.promote.new.self c.args.id c.promote.result c.len-count.ensures.valid c.promote.ensures.value c.promote.ensures.entries c.if-promote.false) c.read_page.ensures.reads;
  keeps = c.read_page.ensures.keeps;
  room = ap (λ (k : Pages). k.cap) c.promote.ensures.entries;
  made = c.read_page.ensures.asks.made;
  tight = c.read_page.ensures.asks.tight;
}

pub returns-in_err-page-clause-counts : goal.returns-in_err-page-clause-counts
returns-in_err-page-clause-counts g c = counts_miss g.R.Records c.args.id c.args.self.now c.args.store.now c.read_page.new.store c.args.steps.now c.tick.new.self
    (held_has c.args.self.now.pages c.promote.new.self c.args.id c.promote.result c.len-count.ensures.valid c.promote.ensures.value c.promote.ensures.entries ∙ c.if-promote.false) c.read_page.ensures.asks c.tick.ensures

pub returns-in_default-clause-looks : goal.returns-in_default-clause-looks
returns-in_default-clause-looks g c = record {
  reads = same_reads g.R.S.Space g.R.Records c.args.self.now.pages c.put.new.self c.args.store.now c.read_page.new.store c.args.space.now c.read_page.new.space
      (c.in_default.ensures.err ∙ not_promoted c.args.self.now.pages c.promote.new.self c.args.id c.promote.result c.len-count.ensures.valid c.promote.ensures.value c.promote.ensures.entries c.if-promote.false) c.read_page.ensures.reads;
  keeps = c.read_page.ensures.keeps;
  room = ap (λ (k : Pages). k.cap) (c.in_default.ensures.err ∙ c.promote.ensures.entries);
  made = c.read_page.ensures.asks.made;
  tight = c.read_page.ensures.asks.tight;
}

pub returns-in_default-clause-counts : goal.returns-in_default-clause-counts
returns-in_default-clause-counts g c = counts_miss g.R.Records c.args.id c.args.self.now c.args.store.now c.read_page.new.store c.args.steps.now c.tick.new.self
    (held_has c.args.self.now.pages c.promote.new.self c.args.id c.promote.result c.len-count.ensures.valid c.promote.ensures.value c.promote.ensures.entries ∙ c.if-promote.false) c.read_page.ensures.asks c.tick.ensures

pub returns-clause-list : goal.returns-clause-list
returns-clause-list g c = miss_list c.args.self.now.pages c.promote.new.self c.put.new.self c.args.id c.in_ok-page.page
    (not_promoted c.args.self.now.pages c.promote.new.self c.args.id c.promote.result c.len-count.ensures.valid c.promote.ensures.value c.promote.ensures.entries c.if-promote.false) c.len-count.ensures.valid c.in-Ok.ensures.entries

pub returns-clause-front : goal.returns-clause-front
returns-clause-front g c = miss_first c.args.self.now.pages c.promote.new.self c.put.new.self c.args.id c.in_ok-page.page
    (not_promoted c.args.self.now.pages c.promote.new.self c.args.id c.promote.result c.len-count.ensures.valid c.promote.ensures.value c.promote.ensures.entries c.if-promote.false) c.len-count.ensures.valid c.in-Ok.ensures.entries

pub returns-clause-looks : goal.returns-clause-looks
returns-clause-looks g c = record {
  reads = miss_reads g.R.S.Space g.R.Records c.args.self.now.pages c.promote.new.self c.put.new.self c.args.id c.in_ok-page.page c.args.store.now c.read_page.new.store c.args.space.now c.read_page.new.space
      (not_promoted c.args.self.now.pages c.promote.new.self c.args.id c.promote.result c.len-count.ensures.valid c.promote.ensures.value c.promote.ensures.entries c.if-promote.false) c.len-count.ensures.valid c.in-Ok.ensures.entries c.read_page.ensures.reads
      c.in_ok-page.ensures.page c.requires.there;
  keeps = c.read_page.ensures.keeps;
  room = ap (λ (k : Pages). k.cap) c.in-Ok.ensures.entries ∙ ap (λ (k : Pages). k.cap) c.promote.ensures.entries;
  made = c.read_page.ensures.asks.made;
  tight = c.read_page.ensures.asks.tight;
}

pub returns-clause-counts : goal.returns-clause-counts
returns-clause-counts g c = counts_miss g.R.Records c.args.id c.args.self.now c.args.store.now c.read_page.new.store c.args.steps.now c.tick.new.self
    (held_has c.args.self.now.pages c.promote.new.self c.args.id c.promote.result c.len-count.ensures.valid c.promote.ensures.value c.promote.ensures.entries ∙ c.if-promote.false) c.read_page.ensures.asks c.tick.ensures

pub returns-clause-asked : goal.returns-clause-asked
returns-clause-asked g c = asked_miss _ _ _ (held_has c.args.self.now.pages c.promote.new.self c.args.id c.promote.result c.len-count.ensures.valid c.promote.ensures.value c.promote.ensures.entries ∙ c.if-promote.false) c.in_ok-page.ensures.asked
