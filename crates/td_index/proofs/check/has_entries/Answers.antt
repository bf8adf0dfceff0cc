use Rattle.std.proofs.Common.{◌≡◌, ◌∙◌, ◌<◌, ◌≤◌, ℕ, List, length, sym, ap, arith}
use Rattle.std.specs.Prelude.{is_some}
use Rattle.tc_base.specs.Lists.{first}
use Rattle.tc_space.specs.Frames.{In, keeps_refl, keeps_then, reads_refl, reads_then}
use Rattle.tc_space.specs.Stores.{ready_reads}
use Rattle.td_index.proofs.Listed.{stays_refl, stays_then}
use Rattle.td_index.proofs.Looking.{held_all, held_more, held_none, held_not}
use Rattle.td_index.proofs.check.has_entries.Goals as goal

pub loop-i-init : goal.loop-i-init
loop-i-init g c = record {
  reads = reads_refl g.M.S.Space (In g.M.S.Space g.M.Multi.file_of g.M.Multi.holds) c.args.tree.now c.args.space.now c.requires.sound;
  keeps = keeps_refl g.M.S.Space c.args.space.now;
  ready = c.requires;
  stays = stays_refl g.M.Multi.file_of g.M.Multi.made g.M.Multi.lead c.args.tree.now;
  so_far = λ ps h. held_none c.args.key.now ps;
}

pub loop-i-preserved : goal.loop-i-preserved
loop-i-preserved g c =
    let less : c.loop-i.i < length c.args.parts.now = omega arith in
    record {
      reads = reads_then g.M.S.Space (In g.M.S.Space g.M.Multi.file_of g.M.Multi.holds) c.args.tree.now c.loop-i.tree c.has_entry.new.tree c.args.space.now c.loop-i.space c.has_entry.new.space c.loop-i.invariant.reads c.has_entry.ensures.reads;
      keeps = keeps_then g.M.S.Space c.args.space.now c.loop-i.space c.has_entry.new.space c.loop-i.invariant.keeps c.has_entry.ensures.keeps;
      ready = ready_reads g.M.S.Space (In g.M.S.Space g.M.Multi.file_of g.M.Multi.holds) c.loop-i.tree c.has_entry.new.tree c.loop-i.space c.has_entry.new.space c.has_entry.ensures.reads c.loop-i.invariant.ready;
      stays = stays_then g.M.Multi.file_of g.M.Multi.made g.M.Multi.lead c.args.tree.now c.loop-i.tree c.has_entry.new.tree c.loop-i.invariant.stays c.has_entry.ensures.stays;
      so_far = λ ps h. held_more c.args.parts.now c.loop-i.i c.index-parts-i.result c.as_slice.result.now c.args.key.now ps less c.index-parts-i.is c.as_slice.ensures
          (sym (c.in_ok-has_entry.ensures.held ps (c.loop-i.invariant.reads.means ps h)) ∙ c.if-not-branch.false) (c.loop-i.invariant.so_far ps h);
    }

pub returns-then-not-branch-clause-held : goal.returns-then-not-branch-clause-held
returns-then-not-branch-clause-held g c = λ ps h.
    let less : c.loop-i.i < length c.args.parts.now = omega arith in
    held_not c.args.parts.now c.loop-i.i c.index-parts-i.result c.as_slice.result.now c.args.key.now ps less c.index-parts-i.is c.as_slice.ensures
    (sym (c.in_ok-has_entry.ensures.held ps (c.loop-i.invariant.reads.means ps h)) ∙ c.if-not-branch.true)

pub returns-clause-held : goal.returns-clause-held
returns-clause-held g c = λ ps h.
    let all : length c.args.parts.now ≤ c.loop-i.i = omega arith in
    held_all c.args.parts.now c.loop-i.i c.args.key.now ps all (c.loop-i.invariant.so_far ps h)
