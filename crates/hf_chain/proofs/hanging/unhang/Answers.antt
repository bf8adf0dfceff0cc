use Rattle.std.proofs.Common.{◌∙◌, length, arith, refl, ap, inl}
use Rattle.std.proofs.lemmas.Result.{on_ok_weaker}
use Rattle.tc_space.specs.Frames.{keeps_then}
use Rattle.tc_reach.proofs.Handed.{err_handed, on_err_any, on_err_of, on_ok_any}
use Rattle.hf_tree.specs.Links.{view_of}
use Rattle.hf_chain.specs.Chains.{around}
use Rattle.hf_chain.proofs.Descents.{unit_small}
use Rattle.hf_chain.proofs.Paying.{paid_none, paid_then, within_by}
use Rattle.hf_chain.proofs.Filling.{full_then}
use Rattle.hf_chain.proofs.Settings.{from_inside, some_around, left_tree, left_within, last_inside, second_long, out_right, out_left, out_both}
use Rattle.hf_chain.proofs.hanging.unhang.Goals as goal

pub place_named-top-requires : goal.place_named-top-requires
place_named-top-requires g c = omega (arith, unit_small c.args.head.now c.requires.ready.valid, c.unit.ensures)

-- ---- no left child

pub set_link-requires-clause-inside : goal.set_link-requires-clause-inside
set_link-requires-clause-inside g c = λ t. from_inside c.args.head.now c.args.place.now.at c.args.place.now.from (g.S.Space.now c.args.space.now c.args.file) (g.S.Space.now c.args.space.now c.args.file) c.requires.ready.valid (c.requires.hangs.here t) refl

pub returns-then-rec-eq0-clause-out : goal.returns-then-rec-eq0-clause-out
returns-then-rec-eq0-clause-out g c = on_ok_weaker c.set_link.result (λ wrote. record {
  here = λ t end ps frees lent places key laid widths here.
      out_right c.args.head.now end ps frees lent (g.S.Space.now c.args.space.now c.args.file) (g.S.Space.now c.args.space.now c.args.file) (g.S.Space.now c.set_link.new.space c.args.file) places key c.args.place.now.at c.args.place.now.from c.args.place.now.rec c.requires.ready.valid laid widths here (c.requires.hangs.known.is t) c.if-rec-eq0.true c.requires.hangs.known.fits.right refl (wrote t).here;
  others = record { same = λ t f other. (wrote t).others f other };
})
    c.set_link.ensures.wrote

pub returns-then-rec-eq0-clause-within : goal.returns-then-rec-eq0-clause-within
returns-then-rec-eq0-clause-within g c = λ t end ps places key b w.
    within_by (around (view_of c.args.head.now ps (g.S.Space.now c.args.space.now c.args.file)) c.args.head.now.buckets places key c.args.place.now.at c.args.place.now.from w) 1 40 c.args.steps.now c.args.steps.now (g.S.Space.bytes_read c.args.space.now) (g.S.Space.bytes_read c.set_link.new.space) (omega arith) (omega (arith, c.set_link.ensures.writes.counted)) (some_around c.args.head.now end ps (g.S.Space.now c.args.space.now c.args.file) places key c.args.place.now.at c.args.place.now.from c.requires.ready.valid b w)

pub returns-then-rec-eq0-clause-paid : goal.returns-then-rec-eq0-clause-paid
returns-then-rec-eq0-clause-paid g c = paid_none 40 c.args.steps.now (g.S.Space.bytes_read c.args.space.now) (g.S.Space.bytes_read c.set_link.new.space) (omega (arith, c.set_link.ensures.writes.counted))

pub returns-then-rec-eq0-clause-full : goal.returns-then-rec-eq0-clause-full
returns-then-rec-eq0-clause-full g c = λ e. (on_err_of _ _ c.set_link.ensures.outcome.err e, full_then g.S.Space c.args.head.now c.args.file c.args.space.now c.args.space.now c.set_link.new.space refl (λ t. refl) (c.set_link.ensures.full e))

-- ---- no right child

pub set_link-requires-then-rec-eq0-2-clause-inside : goal.set_link-requires-then-rec-eq0-2-clause-inside
set_link-requires-then-rec-eq0-2-clause-inside g c = λ t. from_inside c.args.head.now c.args.place.now.at c.args.place.now.from (g.S.Space.now c.args.space.now c.args.file) (g.S.Space.now c.args.space.now c.args.file) c.requires.ready.valid (c.requires.hangs.here t) refl

pub returns-then-rec-eq0-2-clause-out : goal.returns-then-rec-eq0-2-clause-out
returns-then-rec-eq0-2-clause-out g c = on_ok_weaker c.set_link-then-rec-eq0-2.result (λ wrote. record {
  here = λ t end ps frees lent places key laid widths here.
      out_left c.args.head.now end ps frees lent (g.S.Space.now c.args.space.now c.args.file) (g.S.Space.now c.args.space.now c.args.file) (g.S.Space.now c.set_link-then-rec-eq0-2.new.space c.args.file) places key c.args.place.now.at c.args.place.now.from c.args.place.now.rec c.requires.ready.valid laid widths here (c.requires.hangs.known.is t) c.if-rec-eq0-2.true c.requires.hangs.known.fits.left refl (wrote t).here;
  others = record { same = λ t f other. (wrote t).others f other };
})
    c.set_link-then-rec-eq0-2.ensures.wrote

pub returns-then-rec-eq0-2-clause-within : goal.returns-then-rec-eq0-2-clause-within
returns-then-rec-eq0-2-clause-within g c = λ t end ps places key b w.
    within_by (around (view_of c.args.head.now ps (g.S.Space.now c.args.space.now c.args.file)) c.args.head.now.buckets places key c.args.place.now.at c.args.place.now.from w) 1 40 c.args.steps.now c.args.steps.now (g.S.Space.bytes_read c.args.space.now) (g.S.Space.bytes_read c.set_link-then-rec-eq0-2.new.space) (omega arith) (omega (arith, c.set_link-then-rec-eq0-2.ensures.writes.counted)) (some_around c.args.head.now end ps (g.S.Space.now c.args.space.now c.args.file) places key c.args.place.now.at c.args.place.now.from c.requires.ready.valid b w)

pub returns-then-rec-eq0-2-clause-paid : goal.returns-then-rec-eq0-2-clause-paid
returns-then-rec-eq0-2-clause-paid g c = paid_none 40 c.args.steps.now (g.S.Space.bytes_read c.args.space.now) (g.S.Space.bytes_read c.set_link-then-rec-eq0-2.new.space) (omega (arith, c.set_link-then-rec-eq0-2.ensures.writes.counted))

pub returns-then-rec-eq0-2-clause-full : goal.returns-then-rec-eq0-2-clause-full
returns-then-rec-eq0-2-clause-full g c = λ e. (on_err_of _ _ c.set_link-then-rec-eq0-2.ensures.outcome.err e, full_then g.S.Space c.args.head.now c.args.file c.args.space.now c.args.space.now c.set_link-then-rec-eq0-2.new.space refl (λ t. refl) (c.set_link-then-rec-eq0-2.ensures.full e))

-- ---- two children

pub rightmost-requires-clause-tree : goal.rightmost-requires-clause-tree
rightmost-requires-clause-tree g c = λ t. left_tree c.args.head.now c.args.place.now.at c.args.place.now.from (g.S.Space.now c.args.space.now c.args.file) (g.S.Space.now c.args.space.now c.args.file) c.args.place.now.rec c.unit.result c.place_named-top.result c.requires.ready.valid c.unit.ensures (c.requires.hangs.here t) (c.requires.hangs.known.is t) c.place_named-top.ensures (c.requires.hangs.known.long t) c.if-rec-eq0.false refl

pub returns-in_err-end-clause-within : goal.returns-in_err-end-clause-within
returns-in_err-end-clause-within g c = λ t end ps places key b w.
    left_within c.args.head.now end ps (g.S.Space.now c.args.space.now c.args.file) (g.S.Space.now c.args.space.now c.args.file) places key c.args.place.now.at c.args.place.now.from c.args.place.now.rec c.unit.result c.place_named-top.result c.args.steps.now c.args.steps.now c.rightmost.new.steps (g.S.Space.bytes_read c.args.space.now) (g.S.Space.bytes_read c.args.space.now) (g.S.Space.bytes_read c.rightmost.new.space) c.requires.ready.valid c.unit.ensures b w (c.requires.hangs.known.is t) c.place_named-top.ensures (c.requires.hangs.known.long t) refl (omega arith) (omega arith) (c.rightmost.ensures.within t)

pub returns-in_err-end-clause-paid : goal.returns-in_err-end-clause-paid
returns-in_err-end-clause-paid g c = c.rightmost.ensures.paid

pub set_link-requires-2-clause-inside : goal.set_link-requires-2-clause-inside
set_link-requires-2-clause-inside g c = λ t.
    let e = refl in
    let f = c.rightmost.ensures.reads.files t c.args.file in
    let s = left_tree c.args.head.now c.args.place.now.at c.args.place.now.from (g.S.Space.now c.args.space.now c.args.file) (g.S.Space.now c.args.space.now c.args.file) c.args.place.now.rec c.unit.result c.place_named-top.result c.requires.ready.valid c.unit.ensures (c.requires.hangs.here t) (c.requires.hangs.known.is t) c.place_named-top.ensures (c.requires.hangs.known.long t) c.if-rec-eq0.false e in
    last_inside c.args.head.now c.place_named-top.result c.in_ok-end.end (g.S.Space.now c.args.space.now c.args.file) (g.S.Space.now c.rightmost.new.space c.args.file) c.requires.ready.valid s f (c.in_ok-end.ensures.last t)

pub set_link-requires-3-clause-inside : goal.set_link-requires-3-clause-inside
set_link-requires-3-clause-inside g c = λ t.
    let low = from_inside c.args.head.now c.args.place.now.at c.args.place.now.from (g.S.Space.now c.args.space.now c.args.file) (g.S.Space.now c.args.space.now c.args.file) c.requires.ready.valid (c.requires.hangs.here t) refl in
    omega (arith, low, second_long c.args.head.now c.args.place.now.at c.args.place.now.from (g.S.Space.now c.args.space.now c.args.file) (g.S.Space.now c.args.space.now c.args.file) (g.S.Space.now c.rightmost.new.space c.args.file) (g.S.Space.now c.set_link-2.new.space c.args.file) c.args.place.now.rec c.unit.result c.place_named-top.result c.in_ok-end.end c.requires.ready.valid c.unit.ensures (c.requires.hangs.here t) (c.requires.hangs.known.is t) c.place_named-top.ensures (c.requires.hangs.known.long t) c.if-rec-eq0.false refl (c.rightmost.ensures.reads.files t c.args.file) (c.in_ok-end.ensures.last t) (c.in_ok-set_link.ensures.wrote t).here)

pub returns-clause-out : goal.returns-clause-out
returns-clause-out g c = on_ok_weaker c.set_link-3.result (λ wrote. record {
  here = λ t end ps frees lent places key laid widths here.
      let e = refl in
      out_both c.args.head.now end ps frees lent (g.S.Space.now c.args.space.now c.args.file) (g.S.Space.now c.args.space.now c.args.file) (g.S.Space.now c.rightmost.new.space c.args.file) (g.S.Space.now c.set_link-2.new.space c.args.file) (g.S.Space.now c.set_link-3.new.space c.args.file) places key c.args.place.now.at c.args.place.now.from c.args.place.now.rec c.unit.result c.place_named-top.result c.in_ok-end.end c.requires.ready.valid c.unit.ensures laid widths here (c.requires.hangs.known.is t) c.place_named-top.ensures (c.requires.hangs.known.long t) c.if-rec-eq0.false c.requires.hangs.known.fits.left c.requires.hangs.known.fits.right e (c.in_ok-end.ensures.last t) (c.rightmost.ensures.reads.files t c.args.file ∙ e) (c.in_ok-set_link.ensures.wrote t).here (wrote t).here;
  others = record { same = λ t f other. (wrote t).others f other ∙ (c.in_ok-set_link.ensures.wrote t).others f other ∙ c.rightmost.ensures.reads.files t f };
})
    c.set_link-3.ensures.wrote

pub returns-clause-within : goal.returns-clause-within
returns-clause-within g c = λ t end ps places key b w.
    left_within c.args.head.now end ps (g.S.Space.now c.args.space.now c.args.file) (g.S.Space.now c.args.space.now c.args.file) places key c.args.place.now.at c.args.place.now.from c.args.place.now.rec c.unit.result c.place_named-top.result c.args.steps.now c.args.steps.now c.rightmost.new.steps (g.S.Space.bytes_read c.args.space.now) (g.S.Space.bytes_read c.args.space.now) (g.S.Space.bytes_read c.set_link-3.new.space) c.requires.ready.valid c.unit.ensures b w (c.requires.hangs.known.is t) c.place_named-top.ensures (c.requires.hangs.known.long t) refl (omega arith) (omega arith) (λ end ps u b hang. let x = c.rightmost.ensures.within t end ps u b hang in record { few = x.few; short = omega (arith, x.short, c.set_link-3.ensures.writes.counted, c.set_link-2.ensures.writes.counted) })

pub returns-clause-paid : goal.returns-clause-paid
returns-clause-paid g c = paid_then 40 c.args.steps.now c.rightmost.new.steps c.rightmost.new.steps (g.S.Space.bytes_read c.args.space.now) (g.S.Space.bytes_read c.rightmost.new.space) (g.S.Space.bytes_read c.set_link-3.new.space) c.rightmost.ensures.paid (paid_none 40 c.rightmost.new.steps (g.S.Space.bytes_read c.rightmost.new.space) (g.S.Space.bytes_read c.set_link-3.new.space) (omega (arith, c.set_link-3.ensures.writes.counted, c.set_link-2.ensures.writes.counted)))

pub returns-in_err-set_link-clause-within : goal.returns-in_err-set_link-clause-within
returns-in_err-set_link-clause-within g c = λ t end ps places key b w.
    left_within c.args.head.now end ps (g.S.Space.now c.args.space.now c.args.file) (g.S.Space.now c.args.space.now c.args.file) places key c.args.place.now.at c.args.place.now.from c.args.place.now.rec c.unit.result c.place_named-top.result c.args.steps.now c.args.steps.now c.rightmost.new.steps (g.S.Space.bytes_read c.args.space.now) (g.S.Space.bytes_read c.args.space.now) (g.S.Space.bytes_read c.set_link-2.new.space) c.requires.ready.valid c.unit.ensures b w (c.requires.hangs.known.is t) c.place_named-top.ensures (c.requires.hangs.known.long t) refl (omega arith) (omega arith) (λ end ps u b hang. let x = c.rightmost.ensures.within t end ps u b hang in record { few = x.few; short = omega (arith, x.short, c.set_link-2.ensures.writes.counted) })

pub returns-in_err-set_link-clause-paid : goal.returns-in_err-set_link-clause-paid
returns-in_err-set_link-clause-paid g c = paid_then 40 c.args.steps.now c.rightmost.new.steps c.rightmost.new.steps (g.S.Space.bytes_read c.args.space.now) (g.S.Space.bytes_read c.rightmost.new.space) (g.S.Space.bytes_read c.set_link-2.new.space) c.rightmost.ensures.paid (paid_none 40 c.rightmost.new.steps (g.S.Space.bytes_read c.rightmost.new.space) (g.S.Space.bytes_read c.set_link-2.new.space) (omega (arith, c.set_link-2.ensures.writes.counted)))

pub returns-clause-full : goal.returns-clause-full
returns-clause-full g c = λ e. (on_err_of _ _ c.set_link-3.ensures.outcome.err e, full_then g.S.Space c.args.head.now c.args.file c.args.space.now c.set_link-2.new.space c.set_link-3.new.space (c.set_link-2.ensures.writes.keeps.same_limit ∙ c.rightmost.ensures.reads.keeps.same_limit) (λ t. second_long c.args.head.now c.args.place.now.at c.args.place.now.from (g.S.Space.now c.args.space.now c.args.file) (g.S.Space.now c.args.space.now c.args.file) (g.S.Space.now c.rightmost.new.space c.args.file) (g.S.Space.now c.set_link-2.new.space c.args.file) c.args.place.now.rec c.unit.result c.place_named-top.result c.in_ok-end.end c.requires.ready.valid c.unit.ensures (c.requires.hangs.here t) (c.requires.hangs.known.is t) c.place_named-top.ensures (c.requires.hangs.known.long t) c.if-rec-eq0.false refl (c.rightmost.ensures.reads.files t c.args.file) (c.in_ok-end.ensures.last t) (c.in_ok-set_link.ensures.wrote t).here) (c.set_link-3.ensures.full e))

pub returns-in_err-set_link-clause-full : goal.returns-in_err-set_link-clause-full
returns-in_err-set_link-clause-full g c = λ e. (c.in_err-set_link.ensures.outcome.err, full_then g.S.Space c.args.head.now c.args.file c.args.space.now c.rightmost.new.space c.set_link-2.new.space (c.rightmost.ensures.reads.keeps.same_limit) (λ t. ap length (c.rightmost.ensures.reads.files t c.args.file)) (c.in_err-set_link.ensures.full (err_handed c.from_residual-in_err-set_link.result c.in_err-set_link.field-0.0 _ c.from_residual-in_err-set_link.ensures.1 e)))

pub returns-in_err-end-clause-outcome : goal.returns-in_err-end-clause-outcome
returns-in_err-end-clause-outcome g c =
    let reads = c.rightmost.ensures.reads in
    record { ok = on_ok_any c.from_residual.result reads.is_sound; err = on_err_any c.from_residual.result (inl reads) }

pub returns-clause-keeps : goal.returns-clause-keeps
returns-clause-keeps g c = keeps_then g.S.Space c.args.space.now c.set_link-2.new.space c.set_link-3.new.space (keeps_then g.S.Space c.args.space.now c.rightmost.new.space c.set_link-2.new.space c.rightmost.ensures.reads.keeps c.set_link-2.ensures.writes.keeps) c.set_link-3.ensures.writes.keeps
