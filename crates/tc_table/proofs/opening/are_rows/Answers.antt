use Rattle.std.proofs.Common.{◌<◌, ◌≤◌, length, subst, arith}
use Rattle.tc_space.specs.Frames.{In, keeps_refl, keeps_then, reads_refl, reads_then}
use Rattle.tc_space.specs.Stores.{ready_reads}
use Rattle.td_index.proofs.Keeping.{rows_stay, rows_then}
use Rattle.tc_table.specs.Opening.{TellsRow}
use Rattle.tc_table.proofs.Opened.{all_at, none_at, not_at, one_more_at}
use Rattle.tc_table.proofs.opening.are_rows.Goals as goal

pub loop-i-init : goal.loop-i-init
loop-i-init g c = record {
  reads = reads_refl g.R.S.Space (In g.R.S.Space g.R.Records.file_of g.R.Records.holds) c.args.rows.now c.args.space.now c.requires.sound;
  keeps = keeps_refl g.R.S.Space c.args.space.now;
  ready = c.requires;
  stays = rows_stay g.R.Records c.args.rows.now;
  so_far = λ m h. none_at m;
}

pub loop-i-preserved : goal.loop-i-preserved
loop-i-preserved g c =
    let less : c.loop-i.i < length c.args.row_keys.now = omega arith in
    record {
      reads = reads_then g.R.S.Space (In g.R.S.Space g.R.Records.file_of g.R.Records.holds) c.args.rows.now c.loop-i.rows c.row_at.new.rows c.args.space.now c.loop-i.space c.row_at.new.space c.loop-i.invariant.reads c.row_at.ensures.reads;
      keeps = keeps_then g.R.S.Space c.args.space.now c.loop-i.space c.row_at.new.space c.loop-i.invariant.keeps c.row_at.ensures.keeps;
      ready = ready_reads g.R.S.Space (In g.R.S.Space g.R.Records.file_of g.R.Records.holds) c.loop-i.rows c.row_at.new.rows c.loop-i.space c.row_at.new.space c.row_at.ensures.reads c.loop-i.invariant.ready;
      stays = rows_then g.R.Records c.args.rows.now c.loop-i.rows c.row_at.new.rows c.loop-i.invariant.stays c.row_at.ensures.stays;
      so_far = λ m h. one_more_at m c.args.row_keys.now c.loop-i.i c.index-row_keys-i.result c.as_slice.result.now less c.index-row_keys-i.is c.as_slice.ensures (c.loop-i.invariant.so_far m h)
          (subst (TellsRow m c.as_slice.result.now) c.if-not-branch.false (c.in_ok-row_at.ensures.told m (c.loop-i.invariant.reads.means m h)));
    }

pub returns-then-not-branch-clause-judged : goal.returns-then-not-branch-clause-judged
returns-then-not-branch-clause-judged g c = λ m h. not_at m c.as_slice.result.now (subst (TellsRow m c.as_slice.result.now) c.if-not-branch.true (c.in_ok-row_at.ensures.told m (c.loop-i.invariant.reads.means m h)))

pub returns-clause-judged : goal.returns-clause-judged
returns-clause-judged g c = λ m h.
    let all : length c.args.row_keys.now ≤ c.loop-i.i = omega arith in
    λ are. all_at m c.args.row_keys.now c.loop-i.i all are (c.loop-i.invariant.so_far m h)
