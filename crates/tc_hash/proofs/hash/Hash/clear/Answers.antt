use Rattle.std.proofs.Common.{◌∙◌, ◌≤◌, sym, ap, subst, arith}
use Rattle.hf_head.specs.declared.head.Head.{Head}
use Rattle.hf_head.specs.Heads.{is_large}
use Rattle.hf_pool.specs.Pools.{frees}
use Rattle.hf_pool.specs.declared.pool.Pool.{Pool}
use Rattle.hf_record.proofs.Valid.{is_data}
use Rattle.tc_hash.specs.Creating.{IsNew, new_bytes, with_region}
use Rattle.tc_hash.proofs.Cleared.{cleared, emptied, same_options, shows_with, some_zeros, within_log}
use Rattle.tc_hash.proofs.Kept.{reaches}
use Rattle.tc_hash.proofs.Numbered.{anew_leads}
use Rattle.tc_hash.specs.Keeping.{lead_of}
use Rattle.tc_hash.specs.Standing.{lead_in}
use Rattle.tc_reach.proofs.Handed.{err_handed}
use Rattle.tc_hash.proofs.hash.Hash.clear.Goals as goal

pub write_anew-requires-clause-always : goal.write_anew-requires-clause-always
write_anew-requires-clause-always g c = (c.requires.sound, is_data c.args.self.now.body.file c.args.self.now.body.data)

pub write_anew-requires-clause-long : goal.write_anew-requires-clause-long
write_anew-requires-clause-long g c = omega (arith, c.head_anew-head.ensures.fields.numbers.first_behind, ap (λ (h : Head). h.first) c.head_with-written.ensures)

pub write_anew-requires-clause-zeros : goal.write_anew-requires-clause-zeros
write_anew-requires-clause-zeros g c = some_zeros c.deref.result.now 65536 (omega arith) (c.deref.ensures.value ∙ c.in_ok-zeros.ensures.items_if_clones_equal (λ y e. e))

pub returns-clause-cleared : goal.returns-clause-cleared
returns-clause-cleared g c =
    let self = c.args.self.now in
    let e = c.empty.ensures in
    let done = c.in_ok-write_anew.ensures in
    emptied g.S.Space self c.empty.new.self c.head_anew-head.result c.head_with-written.result self.region c.in_ok-pool.pool c.args.space.now c.write_anew.new.space e.body.0 e.body.1 e.body.2 e.numbers.0 e.numbers.1 c.in_ok-pool.ensures.noted done.outcome.ok
    c.head_with-written.ensures done.spells.0 done.spells.1 done.wrote
    (λ t. cleared self.body.head c.head_anew-head.result c.head_with-written.result self.region c.in_ok-pool.pool (g.S.Space.now c.write_anew.new.space self.body.file) self.body.valid c.head_anew-head.ensures.new c.head_with-written.ensures c.in_ok-pool.ensures.unit c.in_ok-pool.ensures.size c.in_ok-pool.ensures.none c.in_ok-pool.ensures.laid
    done.spells.0 done.spells.1 (done.wrote t).here)

pub returns-clause-made : goal.returns-clause-made
returns-clause-made g c =
    let self = c.args.self.now in
    let h : Head = c.head_anew-head.result in
    let e = c.empty.ensures in
    let done = c.in_ok-write_anew.ensures in
    let new = c.head_anew-head.ensures.new in
    record {
      is_new = subst (λ (x : Head). IsNew self.body.head.kind self.body.head.apow self.body.head.fpow self.body.head.buckets (is_large self.body.head) x) (sym e.body.1) new;
      made = λ t. (done.wrote t).here ∙ ap new_bytes c.head_with-written.ensures ∙ ap (λ (x : Head). new_bytes (with_region x self.region)) (sym e.body.1);
      region = λ t. shows_with c.empty.new.self h c.head_with-written.result self.region (g.S.Space.now c.write_anew.new.space self.body.file) e.stays.0 c.head_with-written.ensures done.spells.0 done.spells.1 (done.wrote t).here;
      nothing = λ q. ap (λ (p : Pool). frees p q) e.body.2 ∙ c.in_ok-pool.ensures.none q;
      ends = ap (λ (p : Pool). p.size) e.body.2 ∙ c.in_ok-pool.ensures.size ∙ new.size ∙ ap (λ (x : Head). x.first) (sym e.body.1);
    }

pub returns-clause-shape : goal.returns-clause-shape
returns-clause-shape g c =
    let e = c.empty.ensures.body.1 in
    let is = c.head_anew-head.ensures.new in
    record {
      kind = ap (λ (h : Head). h.kind) e ∙ is.kind_is;
      apow = ap (λ (h : Head). h.apow) e ∙ is.apow_is;
      fpow = ap (λ (h : Head). h.fpow) e ∙ is.fpow_is;
      buckets = ap (λ (h : Head). h.buckets) e ∙ is.buckets_is;
      options = ap (λ (h : Head). h.options) e ∙ same_options _ _ is.options_most c.args.self.now.body.valid.options is.form;
      leads = record { most = subst (λ (x : Head). lead_in x ≤ lead_of c.args.self.now) (sym e) (anew_leads c.head_anew-head.result (lead_of c.args.self.now) is) };
    }

pub returns-in_err-write_anew-clause-full : goal.returns-in_err-write_anew-clause-full
returns-in_err-write_anew-clause-full g c = λ full t.
    let self = c.args.self.now in
    let w = c.requires.held t in
    within_log g.S.Space g.met.S.Space.within self.body.file c.head_with-written.result.first c.args.space.now t c.requires.sound (is_data self.body.file self.body.data)
    (omega (arith, ap (λ (h : Head). h.first) c.head_with-written.ensures, c.head_anew-head.ensures.low, reaches self.body.head self.body.pool.size self.records (frees self.body.pool) w.0 (g.S.Space.now c.args.space.now self.body.file) w.1.1.map))
    (c.in_err-write_anew.ensures.full (err_handed c.from_residual-in_err-write_anew.result c.in_err-write_anew.field-0.0 _ c.from_residual-in_err-write_anew.ensures.1 full) t)

pub returns-clause-stays : goal.returns-clause-stays
returns-clause-stays g c =
    let e = c.empty.ensures in
    record { file = e.body.0; sort_same = ap (λ (h : Head). h.kind) e.body.1 ∙ c.head_anew-head.ensures.new.kind_is; region_same = e.stays.0; gets_same = e.stays.1 }
