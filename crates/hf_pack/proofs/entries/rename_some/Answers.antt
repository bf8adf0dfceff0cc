use Rattle.std.proofs.Common.{◌∙◌, ℕ, List, subst, sym}
use Rattle.std.specs.Vec.{with_items}
use Rattle.std.proofs.lemmas.List.{with_items_is}
use Rattle.std.proofs.lemmas.Result.{on_ok_weaker}
use Rattle.std.specs.Ordering.{nat_cmp}
use Rattle.std.specs.BTreeMap as tree
use Rattle.hf_head.specs.Heads.{unit}
use Rattle.hf_tree.specs.Links.{width}
use Rattle.hf_pack.specs.Streams.{Pushed}
use Rattle.hf_pack.proofs.Numbers.{fit_is, written_is}
use Rattle.hf_pack.proofs.Streaming.{pushed_as, pushed_from}
use Rattle.hf_pack.proofs.entries.rename_some.Goals as goal

pub returns-clause-pushed : goal.returns-clause-pushed
returns-clause-pushed g c = on_ok_weaker c.push_room.result (λ pushed t.
    let places = λ (q : ℕ). tree.get nat_cmp c.args.targets.now q in
    let old : List ℕ = g.S.Space.now c.args.space.now c.args.file in
    let new : List ℕ = g.S.Space.now c.push_room.new.space c.args.file in
    let read = c.deref_mut.ensures.value ∙ c.in_ok-load.ensures.loaded t in
    let e = written_is places (unit c.args.head.now) c.unit.result (width c.args.head.now) c.width-width.result c.args.count c.args.at old c.deref_mut.result.now c.rename_each.new.entries c.unit.ensures c.width-width.ensures.value read c.rename_each.ensures.renamed in
    let is = with_items_is c.load.new.self.room c.rename_each.new.entries (c.rename_each.auto.entries ∙ c.deref_mut.ensures.len) ∙ e in
    let p = subst (λ (l : List ℕ). Pushed (record { at = c.load.new.self.at; out = c.load.new.self.out; room = with_items c.load.new.self.room c.rename_each.new.entries }) c.push_room.new.self l new (with_items c.load.new.self.room c.rename_each.new.entries).items) (c.in_ok-load.ensures.reads.files t c.args.file) (pushed t) in
    record {
      pushed = pushed_from c.args.stream.now _ c.push_room.new.self old new _ c.load.ensures.same.0 c.load.ensures.same.1 (pushed_as _ c.push_room.new.self old new (with_items c.load.new.self.room c.rename_each.new.entries).items _ (sym is) p);
      fit = fit_is places (unit c.args.head.now) c.unit.result (width c.args.head.now) c.width-width.result c.args.count c.args.at old c.deref_mut.result.now c.unit.ensures c.width-width.ensures.value read c.rename_each.ensures.low;
    }) c.push_room.ensures.pushed
