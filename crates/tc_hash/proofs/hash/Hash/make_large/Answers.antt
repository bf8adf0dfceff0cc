use Rattle.std.proofs.Common.{◌∙◌, ◌<◌, inl, inr, ⊎_elim, ℕ, refl, sym, ap, subst, arith}
use Rattle.hf_head.specs.declared.head.Head.{Head}
use Rattle.hf_pool.specs.Pools.{frees}
use Rattle.hf_pool.specs.declared.pool.Pool.{Pool}
use Rattle.hf_record.proofs.Valid.{is_data}
use Rattle.tc_hash.proofs.Cleared.{emptied, shows_with, some_zeros}
use Rattle.tc_hash.proofs.Enlarged.{large_fields, large_holds}
use Rattle.tc_hash.specs.Keeping.{ShowsRegion}
use Rattle.tc_hash.specs.Packing.{IsLargeOf}
use Rattle.tc_reach.proofs.Handed.{err_handed, on_err_any}
use Rattle.tc_hash.proofs.hash.Hash.make_large.Goals as goal

pub new_pool-requires-clause-valid : goal.new_pool-requires-clause-valid
new_pool-requires-clause-valid g c = large_fields c.args.self.now.body.head c.large_head-head.result c.args.self.now.body.valid c.large_head-head.ensures.new (omega (arith, c.if-head-gt-FILE_MOST.false))

pub write_anew-requires-clause-always : goal.write_anew-requires-clause-always
write_anew-requires-clause-always g c = (c.requires.sound, is_data c.args.self.now.body.file c.args.self.now.body.data)

pub write_anew-requires-clause-zeros : goal.write_anew-requires-clause-zeros
write_anew-requires-clause-zeros g c = some_zeros c.deref.result.now 65536 (omega arith) (c.deref.ensures.value ∙ c.in_ok-zeros.ensures.items_if_clones_equal (λ y e. e))

pub empty-requires-clause-head : goal.empty-requires-clause-head
empty-requires-clause-head g c = large_fields c.args.self.now.body.head c.large_head-head.result c.args.self.now.body.valid c.large_head-head.ensures.new (omega (arith, c.if-head-gt-FILE_MOST.false))

pub returns-clause-made : goal.returns-clause-made
returns-clause-made g c =
    let self = c.args.self.now in
    let e = c.empty.ensures in
    let new = c.large_head-head.ensures.new in
    let done = c.in_ok-write_anew.ensures in
    record {
      empties = emptied g.S.Space self c.empty.new.self c.large_head-head.result c.head_with-written.result self.region c.in_ok-pool.pool c.args.space.now c.write_anew.new.space e.body.0 e.body.1 e.body.2 e.numbers.0 e.numbers.1 c.in_ok-pool.ensures.noted done.outcome.ok
          c.head_with-written.ensures done.spells.0 done.spells.1 done.wrote
          (λ t. large_holds self.body.head c.large_head-head.result c.head_with-written.result self.region c.in_ok-pool.pool (g.S.Space.now c.write_anew.new.space self.body.file) self.body.valid new (omega (arith, c.if-head-gt-FILE_MOST.false)) c.head_with-written.ensures c.in_ok-pool.ensures.unit c.in_ok-pool.ensures.size c.in_ok-pool.ensures.none c.in_ok-pool.ensures.laid
          done.spells.0 done.spells.1 (done.wrote t).here);
      is_new = subst (λ (h : Head). IsLargeOf self h) (sym e.body.1) new;
      nothing = λ q. ap (λ (p : Pool). frees p q) e.body.2 ∙ c.in_ok-pool.ensures.none q;
      ends = ap (λ (p : Pool). p.size) e.body.2 ∙ c.in_ok-pool.ensures.size ∙ new.size ∙ ap (λ (h : Head). h.first) (sym e.body.1);
      region = λ t.
          subst (λ (f : ℕ). ShowsRegion c.empty.new.self (g.S.Space.now c.write_anew.new.space f)) (sym e.body.0)
          (shows_with c.empty.new.self c.large_head-head.result c.head_with-written.result self.region (g.S.Space.now c.write_anew.new.space self.body.file) e.stays.0 c.head_with-written.ensures done.spells.0 done.spells.1 (done.wrote t).here);
    }

pub returns-clause-stays : goal.returns-clause-stays
returns-clause-stays g c =
    let e = c.empty.ensures in
    let is = c.large_head-head.ensures.new in
    record {
      map = record { file = e.body.0; sort_same = ap (λ (h : Head). h.kind) e.body.1 ∙ is.kind_is; region_same = e.stays.0; gets_same = e.stays.1 };
      apow = ap (λ (h : Head). h.apow) e.body.1 ∙ is.apow_is;
      fpow = ap (λ (h : Head). h.fpow) e.body.1 ∙ is.fpow_is;
      buckets = ap (λ (h : Head). h.buckets) e.body.1 ∙ is.buckets_is;
    }

pub returns-in_err-write_anew-clause-full : goal.returns-in_err-write_anew-clause-full
returns-in_err-write_anew-clause-full g c = λ full t. ⊎_elim
    (λ past. inr (record {
      head = c.large_head-head.result;
      is_new = c.large_head-head.ensures.new;
      lacks = inl (subst (λ (n : ℕ). g.S.Space.limit c.write_anew.new.space c.args.self.now.body.file < n) (ap (λ (h : Head). h.first) c.head_with-written.ensures)
          (subst (λ (l : ℕ → ℕ). l c.args.self.now.body.file < c.head_with-written.result.first) (sym c.write_anew.ensures.keeps.same_limit) past));
    }))
    (λ log. inl log)
    (c.in_err-write_anew.ensures.full (err_handed c.from_residual-in_err-write_anew.result c.in_err-write_anew.field-0.0 _ c.from_residual-in_err-write_anew.ensures.1 full) t)

pub returns-then-head-gt-FILE_MOST-clause-full : goal.returns-then-head-gt-FILE_MOST-clause-full
returns-then-head-gt-FILE_MOST-clause-full g c = λ full t. inr (record { head = c.large_head-head.result; is_new = c.large_head-head.ensures.new; lacks = inr (omega (arith, c.large_head-head.ensures.new.size, c.if-head-gt-FILE_MOST.true)) })

pub returns-then-head-gt-FILE_MOST-clause-left : goal.returns-then-head-gt-FILE_MOST-clause-left
returns-then-head-gt-FILE_MOST-clause-left g c = inr refl

pub returns-in_err-zeros-clause-left : goal.returns-in_err-zeros-clause-left
returns-in_err-zeros-clause-left g c = on_err_any _ (inr refl)

pub returns-in_err-pool-clause-left : goal.returns-in_err-pool-clause-left
returns-in_err-pool-clause-left g c = on_err_any _ (inr refl)

pub returns-in_err-write_anew-clause-left : goal.returns-in_err-write_anew-clause-left
returns-in_err-write_anew-clause-left g c = on_err_any _ (inr refl)
