use Rattle.std.proofs.Common.{rules, ◌∙◌, ◌+◌, ◌<◌, ℕ, length, take, sym, subst, arith}
use Rattle.tc_space.specs.Frames.{In, keeps_refl, keeps_then, reads_refl, reads_then}
use Rattle.td_index.specs.Checks.{AreBoth, firsts_by}
use Rattle.td_index.proofs.Keeping.{both_stay, both_then}
use Rattle.td_index.proofs.Looking.{SoFar, judged, lacks_is, not_owed, so_far_next, so_far_none}
use Rattle.td_index.proofs.check.check_entries.Goals as goal

pub loop-i-init : goal.loop-i-init
loop-i-init g c = record {
  reads = reads_refl g.R.S.Space (AreBoth g.R.S.Space g.R.Records g.M.Multi) (c.args.rows.now, c.args.tree.now) c.args.space.now c.requires.rows.sound;
  keeps = keeps_refl g.R.S.Space c.args.space.now;
  stays = both_stay g.R.Records g.M.Multi (c.args.rows.now, c.args.tree.now);
  few = omega arith;
  so_far = λ b h. so_far_none (firsts_by (g.P.Picks.parts_of c.args.picks.now) b.0) b.1;
  rows_ready = c.requires.rows;
  tree_ready = c.requires.tree;
}

pub loop-i-preserved : goal.loop-i-preserved
loop-i-preserved g c =
    let less : c.loop-i.i < length c.args.row_keys.now = omega arith in
    record {
      reads = reads_then g.R.S.Space (AreBoth g.R.S.Space g.R.Records g.M.Multi) (c.args.rows.now, c.args.tree.now) (c.loop-i.rows, c.loop-i.tree) (c.look.new.rows, c.look.new.tree) c.args.space.now c.loop-i.space c.look.new.space c.loop-i.invariant.reads c.look.ensures.reads;
      keeps = keeps_then g.R.S.Space c.args.space.now c.loop-i.space c.look.new.space c.loop-i.invariant.keeps c.look.ensures.keeps;
      stays = both_then g.R.Records g.M.Multi (c.args.rows.now, c.args.tree.now) (c.loop-i.rows, c.loop-i.tree) (c.look.new.rows, c.look.new.tree) c.loop-i.invariant.stays c.look.ensures.stays;
      few = search rules;
      so_far = λ b h. subst (λ (n : ℕ). SoFar (firsts_by (g.P.Picks.parts_of c.args.picks.now) b.0) (take (c.loop-i.i + 1) c.args.row_keys.now) b.1 (c.loop-i.found + n)) (sym c.from-found.ensures)
          (so_far_next (firsts_by (g.P.Picks.parts_of c.args.picks.now) b.0) c.args.row_keys.now c.loop-i.i c.index-row_keys-i.result c.as_slice.result.now b.1 c.loop-i.found c.in-Some.n c.in_ok-n.field-0 less c.index-row_keys-i.is c.as_slice.ensures (c.loop-i.invariant.so_far b h) c.in-Some.is (c.in_ok-n.ensures.looked b (c.loop-i.invariant.reads.means b h)));
      rows_ready = c.look.ensures.rows;
      tree_ready = c.look.ensures.tree;
    }

pub returns-in_default-clause-exact : goal.returns-in_default-clause-exact
returns-in_default-clause-exact g c = λ b h are.
    (λ yes. absurd cc, λ owed_is. absurd (not_owed (g.P.Picks.parts_of c.args.picks.now) (g.met.P.Picks.whole c.args.picks.now) (g.met.P.Picks.once c.args.picks.now) b.0 b.1 c.as_slice.result.now (lacks_is (firsts_by (g.P.Picks.parts_of c.args.picks.now) b.0) c.as_slice.result.now b.1 c.in_ok-n.field-0 c.in_default.is (c.in_ok-n.ensures.looked b (c.loop-i.invariant.reads.means b h))) owed_is))

pub returns-clause-exact : goal.returns-clause-exact
returns-clause-exact g c = λ b h are.
    judged (g.P.Picks.parts_of c.args.picks.now) (g.met.P.Picks.whole c.args.picks.now) (g.met.P.Picks.once c.args.picks.now) b.0 b.1 c.args.row_keys.now c.loop-i.i c.loop-i.found c.from.result (c.loop-i.invariant.so_far b h) (omega arith) are (c.from.ensures ∙ c.count.ensures _ b.1 ((c.loop-i.invariant.reads.means b h).1.1))
