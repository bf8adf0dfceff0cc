use Rattle.std.proofs.Common.{◌≡◌, ◌∙◌, ◌+◌, ◌-◌, ◌≤◌, length, take, drop, arith, sym, ap}
use Rattle.std.specs.Ordering.{nat_cmp}
use Rattle.std.specs.Cmp.Lexicographic.{slice_cmp}
use Rattle.tc_space.specs.Frames.{only_reads_then}
use Rattle.hf_chain.proofs.Pieces.{piece_short, piece_more, piece_stops, pieces_done}
use Rattle.hf_chain.proofs.comparing.compare_bytes.Goals as goal

pub returns-clause-order : goal.returns-clause-order
returns-clause-order g c = λ t. pieces_done c.args.key.now (g.S.Space.now c.args.space.now c.args.file) c.args.at c.loop-done.done c.loop-done-test.false (c.requires.inside t) (c.loop-done.invariant.same t)

pub compare_piece-requires-clause-inside : goal.compare_piece-requires-clause-inside
compare_piece-requires-clause-inside g c = λ t.
    let key = c.args.key.now in let d = c.loop-done.done in let n = c.min-n.result in
    let j : n ≡ Prim.Native.Nat.min (length key - d) 64 = c.min-n.ensures in
    let e = ap length (c.loop-done.invariant.reads.files t c.args.file) in
    omega (arith, c.saturating_add.ensures, c.requires.inside t, e, c.loop-done.invariant.high, piece_short d n key)

pub returns-in_default-clause-order : goal.returns-in_default-clause-order
returns-in_default-clause-order g c = λ t.
    let key = c.args.key.now in let d = c.loop-done.done in let n = c.min-n.result in
    let j : n ≡ Prim.Native.Nat.min (length key - d) 64 = c.min-n.ensures in
    let le : d + n ≤ length key = omega (arith, c.loop-done.invariant.high) in
    let e = c.loop-done.invariant.reads.files t c.args.file in
    let at : c.saturating_add.result ≡ c.args.at + d = omega (arith, c.saturating_add.ensures, c.requires.inside t, c.requires.long t, le) in
    piece_stops key (g.S.Space.now c.args.space.now c.args.file) c.args.at d n c.in_ok-order.order le (c.requires.inside t) (c.loop-done.invariant.same t)
    (c.in_ok-order.ensures.order t ∙ (λ i. slice_cmp nat_cmp (take (d + n - d) (drop d key)) (take (length (take (d + n - d) (drop d key))) (drop (at i) (e i))))) c.in_default.not-Equal

pub returns-in_default-clause-reads : goal.returns-in_default-clause-reads
returns-in_default-clause-reads g c = only_reads_then g.S.Space c.args.space.now c.loop-done.space c.compare_piece.new.space c.loop-done.invariant.reads c.compare_piece.ensures.reads

pub loop-done-preserved : goal.loop-done-preserved
loop-done-preserved g c =
    let key = c.args.key.now in let d = c.loop-done.done in let n = c.min-n.result in
    let j : n ≡ Prim.Native.Nat.min (length key - d) 64 = c.min-n.ensures in
    let le : d + n ≤ length key = omega (arith, c.loop-done.invariant.high) in
    let size : length (take (d + n - d) (drop d key)) ≤ n = piece_short d n key in
    record {
      high = le;
      reads = only_reads_then g.S.Space c.args.space.now c.loop-done.space c.compare_piece.new.space c.loop-done.invariant.reads c.compare_piece.ensures.reads;
      counted = omega (arith, c.loop-done.invariant.counted, c.compare_piece.ensures.counted, size);
      same = λ t.
          let e = c.loop-done.invariant.reads.files t c.args.file in
          let at : c.saturating_add.result ≡ c.args.at + d = omega (arith, c.saturating_add.ensures, c.requires.inside t, c.requires.long t, le) in
          piece_more key (g.S.Space.now c.args.space.now c.args.file) c.args.at d n le (c.requires.inside t) (c.loop-done.invariant.same t)
          (sym c.in-Equal.is ∙ c.in_ok-order.ensures.order t ∙ (λ i. slice_cmp nat_cmp (take (d + n - d) (drop d key)) (take (length (take (d + n - d) (drop d key))) (drop (at i) (e i)))));
    }
