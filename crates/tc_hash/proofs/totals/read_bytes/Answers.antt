use Rattle.std.proofs.Common.{ℕ, List, arith, sym, subst}
use Rattle.tc_space.specs.Frames.{only_reads_refl, only_reads_then}
use Rattle.hf_chain.specs.Heads.{IsRecordAt, HasRecord}
use Rattle.tc_reach.proofs.Viewing.{shows_at}
use Rattle.tc_hash.proofs.BytesRead.{bytes_start, bytes_free, bytes_more, bytes_all, record_here}
use Rattle.tc_hash.proofs.totals.read_bytes.Goals as goal

pub loop-i-init : goal.loop-i-init
loop-i-init g c = record {
  reads = only_reads_refl g.S.Space c.args.space.now c.requires.sound;
  shows = λ t. c.new-window.ensures _;
  so = λ t ps listed. bytes_start c.args.head.now ps;
}

pub loop-i-preserved-then-block : goal.loop-i-preserved-then-block
loop-i-preserved-then-block g c = record {
  reads = c.loop-i.invariant.reads;
  shows = c.loop-i.invariant.shows;
  so = λ t ps listed. bytes_free c.args.head.now ps _ c.args.blocks.now c.loop-i.i c.loop-i.total listed (c.loop-i.invariant.so t ps listed) c.at-block.result.now c.at-block.ensures c.if-block.true;
}

pub add_bytes-requires-clause-there : goal.add_bytes-requires-clause-there
add_bytes-requires-clause-there g c = λ t.
    let w = c.requires.listed t in
    let f : List ℕ = g.S.Space.now c.args.space.now c.args.file in
    let now : List ℕ = g.S.Space.now c.loop-i.space c.args.file in
    let e = c.loop-i.invariant.reads.files t c.args.file in (
      subst (λ (l : List ℕ). IsRecordAt c.args.head.now c.at-block.result.now.place l) (sym e)
          (record_here c.args.head.now w.pieces f c.args.blocks.now c.loop-i.i c.loop-i.total w.is (c.loop-i.invariant.so t w.pieces w.is) c.at-block.result.now c.at-block.ensures c.if-block.false),
      shows_at c.loop-i.window f now (sym e) (c.loop-i.invariant.shows t),
    )

pub loop-i-preserved : goal.loop-i-preserved
loop-i-preserved g c =
    let f : List ℕ = g.S.Space.now c.args.space.now c.args.file in
    let now : List ℕ = g.S.Space.now c.loop-i.space c.args.file in
    record {
      reads = only_reads_then g.S.Space c.args.space.now c.loop-i.space c.add_bytes.new.space c.loop-i.invariant.reads c.add_bytes.ensures.reads;
      shows = λ t. shows_at c.add_bytes.new.window now f (c.loop-i.invariant.reads.files t c.args.file) (c.in_ok-total.ensures.shows t);
      so = λ t ps listed.
          bytes_more c.args.head.now ps f c.args.blocks.now c.loop-i.i c.loop-i.total listed (c.loop-i.invariant.so t ps listed) c.at-block.result.now c.at-block.ensures c.if-block.false c.in_ok-total.total
          (λ r has. c.in_ok-total.ensures.added t r (subst (λ (l : List ℕ). HasRecord c.args.head.now r c.at-block.result.now.place l) (sym (c.loop-i.invariant.reads.files t c.args.file)) has));
    }

pub returns-clause-bytes : goal.returns-clause-bytes
returns-clause-bytes g c = λ t ps listed. bytes_all c.args.head.now ps _ c.args.blocks.now c.loop-i.i c.loop-i.total listed (c.loop-i.invariant.so t ps listed) (omega (arith, c.loop-i-test.false, c.len-i-end.ensures))
