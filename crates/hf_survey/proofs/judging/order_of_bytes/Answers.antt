use Rattle.std.proofs.Common.{◌≡◌, ◌∙◌, ◌+◌, ◌≤◌, length, take, drop, arith, sym, ap}
use Rattle.std.specs.Ordering.{nat_cmp}
use Rattle.std.specs.Cmp.Lexicographic.{slice_cmp}
use Rattle.tc_space.specs.Frames.{only_reads_then}
use Rattle.hf_survey.proofs.TwoPlaces.{same_more, order_stops, all_same}
use Rattle.hf_survey.proofs.judging.order_of_bytes.Goals as goal

pub order_of_part-requires-clause-first : goal.order_of_part-requires-clause-first
order_of_part-requires-clause-first g c = λ t. omega (arith, c.saturating_add-first.ensures, c.min-n.ensures, c.requires.first t, ap length (c.loop-done.invariant.reads.files t c.args.file))

pub order_of_part-requires-clause-second : goal.order_of_part-requires-clause-second
order_of_part-requires-clause-second g c = λ t. omega (arith, c.saturating_add-second.ensures, c.min-n.ensures, c.requires.second t, ap length (c.loop-done.invariant.reads.files t c.args.file))

pub order_of_part-requires-clause-few : goal.order_of_part-requires-clause-few
order_of_part-requires-clause-few g c = (omega (arith, c.min-n.ensures), λ t. omega (arith, c.requires.few t, ap length (c.loop-done.invariant.reads.files t c.args.file)))

pub loop-done-preserved : goal.loop-done-preserved
loop-done-preserved g c =
    let d = c.loop-done.done in let n = c.min-n.result in
    let le : d + n ≤ c.args.long = omega (arith, c.min-n.ensures) in
    record {
      high = le;
      reads = only_reads_then g.S.Space c.args.space.now c.loop-done.space c.order_of_part.new.space c.loop-done.invariant.reads c.order_of_part.ensures.reads;
      same = λ t.
          let e = c.loop-done.invariant.reads.files t c.args.file in
          let first : c.saturating_add-first.result ≡ c.args.a + d = omega (arith, c.saturating_add-first.ensures, c.requires.first t, c.requires.few t, le) in
          let second : c.saturating_add-second.result ≡ c.args.b + d = omega (arith, c.saturating_add-second.ensures, c.requires.second t, c.requires.few t, le) in
          same_more (g.S.Space.now c.args.space.now c.args.file) c.args.a c.args.b c.args.long d n le (c.loop-done.invariant.same t)
          (sym c.in-Equal.is ∙ c.in_ok-order.ensures.order t ∙ (λ i. slice_cmp nat_cmp (take n (drop (first i) (e i))) (take n (drop (second i) (e i)))));
    }

pub returns-in_default-clause-order : goal.returns-in_default-clause-order
returns-in_default-clause-order g c = λ t.
    let d = c.loop-done.done in let n = c.min-n.result in
    let le : d + n ≤ c.args.long = omega (arith, c.min-n.ensures) in
    let e = c.loop-done.invariant.reads.files t c.args.file in
    let first : c.saturating_add-first.result ≡ c.args.a + d = omega (arith, c.saturating_add-first.ensures, c.requires.first t, c.requires.few t, le) in
    let second : c.saturating_add-second.result ≡ c.args.b + d = omega (arith, c.saturating_add-second.ensures, c.requires.second t, c.requires.few t, le) in
    order_stops (g.S.Space.now c.args.space.now c.args.file) c.args.a c.args.b c.args.long d n c.in_ok-order.order le (c.requires.first t) (c.requires.second t) (c.loop-done.invariant.same t)
    (c.in_ok-order.ensures.order t ∙ (λ i. slice_cmp nat_cmp (take n (drop (first i) (e i))) (take n (drop (second i) (e i))))) c.in_default.not-Equal

pub returns-in_default-clause-reads : goal.returns-in_default-clause-reads
returns-in_default-clause-reads g c = only_reads_then g.S.Space c.args.space.now c.loop-done.space c.order_of_part.new.space c.loop-done.invariant.reads c.order_of_part.ensures.reads

pub returns-clause-order : goal.returns-clause-order
returns-clause-order g c = λ t. all_same (g.S.Space.now c.args.space.now c.args.file) c.args.a c.args.b c.args.long c.loop-done.done c.loop-done-test.false (c.loop-done.invariant.same t)
