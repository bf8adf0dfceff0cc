use Rattle.std.proofs.Common.{rules, ◌^◌, ◌<◌, ℕ, List, length, ap, arith}
use Rattle.hf_block.specs.Pieces.{spell_all}
use Rattle.hf_pack.specs.Moving.{moved, renamed_in}
use Rattle.hf_pack.proofs.Records.{moved_inside}
use Rattle.hf_pack.proofs.Streaming.{flushed_then}
use Rattle.hf_pack.proofs.packing.pack_records.Goals as goal

pub flush-requires-clause-reaches : goal.flush-requires-clause-reaches
flush-requires-clause-reaches g c = record {
  file = c.requires.ready.is_data;
  inside = λ t.
      let w = c.requires.listed t in
      let p = c.in_ok-move_records.ensures.moved t w.pieces w.is in
      let inside = moved_inside (renamed_in c.args.head.now c.args.targets.now) c.args.head.now w.pieces (g.S.Space.now c.args.space.now c.args.file) c.args.blocks.now w.is in
      omega (arith, p.ends, p.long, c.new-stream.ensures.at, ap length c.new-stream.ensures.none, inside);
}

pub returns-clause-packed : goal.returns-clause-packed
returns-clause-packed g c = λ t ps listed.
    let f : ℕ → ℕ = renamed_in c.args.head.now c.args.targets.now in
    let old : List ℕ = g.S.Space.now c.args.space.now c.args.file in
    let xs : List ℕ = spell_all (moved f ps) in
    let first = c.in_ok-move_records.ensures.moved t ps listed in
    let second = c.in_ok-flush.ensures.pushed t in
    let inside = moved_inside f c.args.head.now ps old c.args.blocks.now listed in
    let long = c.len.ensures t in
    let r : c.len.result < 2 ^ 64 = search rules in
    let none = ap length c.new-stream.ensures.none in
    let exact = c.end.ensures.exact (omega (arith, r, long, first.ends, first.long, second.ends, second.long, inside, c.new-stream.ensures.at, none)) in
    flushed_then c.new-stream.result c.move_records.new.stream c.flush.new.self c.args.head.now.first c.min.result old (g.S.Space.now c.move_records.new.space c.args.file) (g.S.Space.now c.flush.new.space c.args.file) xs c.new-stream.ensures.at c.new-stream.ensures.none c.in_ok-flush.ensures.none
    (omega (arith, c.min.ensures, exact, long, first.ends, first.long, second.ends, second.long, inside, c.new-stream.ensures.at, none)) first second
