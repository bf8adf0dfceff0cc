use Rattle.std.proofs.Common.{◌+◌, ◌*◌, ℕ, List, length, drop, ap, arith}
use Rattle.hf_tree.specs.Links.{width}
use Rattle.hf_pack.specs.Moving.{entries_as, renamed_in}
use Rattle.hf_pack.proofs.Renamed.{length-entries}
use Rattle.hf_pack.proofs.Streaming.{flushed_then}
use Rattle.hf_pack.proofs.packing.pack_entries.Goals as goal

pub flush-requires-clause-reaches : goal.flush-requires-clause-reaches
flush-requires-clause-reaches g c = record {
  file = c.requires.ready.is_data;
  inside = λ t.
      let p = (c.in_ok-rename_entries.ensures.pushed t).pushed in
      let long = length-entries (renamed_in c.args.head.now c.args.targets.now) (width c.args.head.now) c.args.head.now.buckets (drop 256 (g.S.Space.now c.args.space.now c.args.file)) in
      omega (arith, p.ends, p.long, c.new-stream.ensures.at, ap length c.new-stream.ensures.none, c.requires.inside t, long);
}

pub returns-clause-renamed : goal.returns-clause-renamed
returns-clause-renamed g c = λ t.
    let f : ℕ → ℕ = renamed_in c.args.head.now c.args.targets.now in
    let w : ℕ = width c.args.head.now in
    let n : ℕ = c.args.head.now.buckets in
    let old : List ℕ = g.S.Space.now c.args.space.now c.args.file in
    let xs : List ℕ = entries_as f w n (drop 256 old) in
    let long = length-entries f w n (drop 256 old) in
    flushed_then c.new-stream.result c.rename_entries.new.stream c.flush.new.self 256 (256 + w * n) old (g.S.Space.now c.rename_entries.new.space c.args.file) (g.S.Space.now c.flush.new.space c.args.file) xs c.new-stream.ensures.at c.new-stream.ensures.none c.in_ok-flush.ensures.none (omega (arith, long)) (c.in_ok-rename_entries.ensures.pushed t).pushed (c.in_ok-flush.ensures.pushed t)
