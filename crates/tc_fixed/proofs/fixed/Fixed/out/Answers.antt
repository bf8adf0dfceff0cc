use Rattle.std.proofs.Common.{◌≡◌, ◌∙◌, ℕ, List, inr, length, true, false, ap, arith, sym}
use Rattle.std.specs.Prelude.{Some, is_some}
use Rattle.std.specs.FinMap.{get}
use Rattle.tc_base.specs.Files.{wrote}
use Rattle.tc_model.specs.Arrays.{Array}
use Rattle.tc_space.specs.Frames.{only_reads_then}
use Rattle.tc_reach.proofs.Handed.{on_err_any}
use Rattle.tc_fixed.specs.Holding.{Means}
use Rattle.tc_fixed.proofs.Changed.{out_holds}
use Rattle.tc_fixed.proofs.Ready.{means_after, ready_after}
use Rattle.tc_fixed.proofs.Tallied.{some_long}
use Rattle.tc_fixed.proofs.fixed.Fixed.out.Goals as goal

pub least_without-requires-clause-ready : goal.least_without-requires-clause-ready
least_without-requires-clause-ready g c = ready_after g.S.Space c.args.self.now c.args.space.now c.held_at.new.space c.held_at.ensures.reads c.requires.ready

pub greatest_without-requires-clause-ready : goal.greatest_without-requires-clause-ready
greatest_without-requires-clause-ready g c = ready_after g.S.Space c.args.self.now c.held_at.new.space c.least_without.new.space c.least_without.ensures.reads (ready_after g.S.Space c.args.self.now c.args.space.now c.held_at.new.space c.held_at.ensures.reads c.requires.ready)

pub returns-in_err-blank-clause-refused : goal.returns-in_err-blank-clause-refused
returns-in_err-blank-clause-refused g c =
    let f = c.args.self.now in
    let old = c.args.space.now in
    let read = c.greatest_without.new.space in
    let reads = only_reads_then g.S.Space old c.least_without.new.space read (only_reads_then g.S.Space old c.held_at.new.space c.least_without.new.space c.held_at.ensures.reads c.least_without.ensures.reads) c.greatest_without.ensures.reads in
    on_err_any c.from_residual-in_err-blank.result (inr (record { now = reads.files; touched = reads.untouched; sound = reads.is_sound; means = means_after g.S.Space f old read reads }))

pub returns-clause-out : goal.returns-clause-out
returns-clause-out g c =
    let f = c.args.self.now in
    let old = c.args.space.now in
    let read = c.greatest_without.new.space in
    let reads = only_reads_then g.S.Space old c.least_without.new.space read (only_reads_then g.S.Space old c.held_at.new.space c.least_without.new.space c.held_at.ensures.reads c.least_without.ensures.reads) c.greatest_without.ensures.reads in
    let value : (m : Array) → Means g.S.Space f old m → (v : List ℕ) × (get m c.args.id ≡ Some v) × (c.in-Some.long ≡ length v) = λ m means. some_long c.in-Some.long (get m c.args.id) (sym c.in-Some.is ∙ c.in_ok-long.ensures.held m means) in
    record {
      held = λ m means. sym (ap is_some (value m means).1);
      out = λ taken. record {
        sound = c.in_ok-write_over.ensures.outcome.ok;
        means = λ m means.
            let t = means.0 in
            let v = value m means in
            let some = ap is_some v.1 in
            let within = means.1.fills.map.within c.args.id some in
            let first = means_after g.S.Space f old c.held_at.new.space c.held_at.ensures.reads m means in
            let next = means_after g.S.Space f c.held_at.new.space c.least_without.new.space c.least_without.ensures.reads m first in (
              t,
              out_holds f.width f.limit c.args.id f.tally c.without-self.result m (g.S.Space.now old 0) (g.S.Space.now c.write_over.new.space 0) means.1 within.0 within.1
                  ((c.in_ok-write_over.ensures.wrote t).here ∙ (λ i. wrote (c.place.ensures.value i) ((c.deref.ensures.value ∙ c.in_ok-blank.ensures) i) (reads.files t 0 i)))
                  (omega (arith, c.without-self.ensures.greatest, c.in_ok-greatest.ensures.few))
                  (λ counts small. c.without-self.ensures.counts m v.0 counts small v.1 v.2 (c.in_ok-least.ensures.value m first some) (c.in_ok-greatest.ensures.value m next some)),
            );
        others = record { same = λ t n other. (c.in_ok-write_over.ensures.wrote t).others n other ∙ reads.files t n };
      };
      none = λ not. absurd (let never : true ≡ false = not in cc);
    }

pub returns-in_default-clause-wrote : goal.returns-in_default-clause-wrote
returns-in_default-clause-wrote g c = λ yes. absurd cc

pub returns-clause-wrote : goal.returns-clause-wrote
returns-clause-wrote g c = λ yes t.
    let f = c.args.self.now in
    let old = c.args.space.now in
    let reads = only_reads_then g.S.Space old c.least_without.new.space c.greatest_without.new.space (only_reads_then g.S.Space old c.held_at.new.space c.least_without.new.space c.held_at.ensures.reads c.least_without.ensures.reads) c.greatest_without.ensures.reads in
    let w = c.in_ok-write_over.ensures.wrote t in record {
      here = w.here ∙ (λ i. wrote (c.place.ensures.value i) ((c.deref.ensures.value ∙ c.in_ok-blank.ensures) i) (reads.files t 0 i));
      others = λ n other. w.others n other ∙ reads.files t n;
    }
