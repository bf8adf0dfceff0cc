use Rattle.std.proofs.Common.{◌∙◌, ◌<◌, ◌≤◌, length, ap, arith}
use Rattle.tc_space.specs.Frames.{In, keeps_refl, keeps_then, reads_refl, reads_then}
use Rattle.tc_space.specs.Stores.{ready_reads}
use Rattle.td_index.specs.Entries.{times}
use Rattle.td_index.proofs.Listed.{stays_refl, stays_then}
use Rattle.tc_table.specs.Parts.{parts_of}
use Rattle.tc_table.proofs.Asking.{stands_reads}
use Rattle.tc_table.proofs.Naming.{left_end, left_none, left_step, once_parts}
use Rattle.tc_table.proofs.planning.keep_all.Goals as goal

pub loop-i-init : goal.loop-i-init
loop-i-init g c = record {
  reads = reads_refl g.M.S.Space (In g.M.S.Space g.M.Multi.file_of g.M.Multi.holds) c.args.tree.now c.args.space.now c.requires.sound;
  keeps = keeps_refl g.M.S.Space c.args.space.now;
  ready = c.requires;
  stays = stays_refl g.M.Multi.file_of g.M.Multi.made g.M.Multi.lead c.args.tree.now;
  so_far = λ kind name rows are st. left_none (parts_of kind name rows) c.args.first;
}

pub loop-i-preserved : goal.loop-i-preserved
loop-i-preserved g c =
    let less : c.loop-i.i < length c.args.wanted.now = omega arith in
    record {
      reads = reads_then g.M.S.Space (In g.M.S.Space g.M.Multi.file_of g.M.Multi.holds) c.args.tree.now c.loop-i.tree c.keys_with.new.tree c.args.space.now c.loop-i.space c.keys_with.new.space c.loop-i.invariant.reads c.keys_with.ensures.reads;
      keeps = keeps_then g.M.S.Space c.args.space.now c.loop-i.space c.keys_with.new.space c.loop-i.invariant.keeps c.keys_with.ensures.keeps;
      ready = ready_reads g.M.S.Space (In g.M.S.Space g.M.Multi.file_of g.M.Multi.holds) c.loop-i.tree c.keys_with.new.tree c.loop-i.space c.keys_with.new.space c.keys_with.ensures.reads c.loop-i.invariant.ready;
      stays = stays_then g.M.Multi.file_of g.M.Multi.made g.M.Multi.lead c.args.tree.now c.loop-i.tree c.keys_with.new.tree c.loop-i.invariant.stays c.keys_with.ensures.stays;
      so_far = λ kind name rows are st. left_step (parts_of kind name rows) c.args.wanted.now c.args.first c.loop-i.found c.as_slice.result.now c.in_ok-found.found c.loop-i.i c.index-wanted-i.result less c.index-wanted-i.is (λ k. once_parts kind name rows k c.index-wanted-i.result) (c.loop-i.invariant.so_far kind name rows are st)
          (λ k. ap (times k) c.as_slice.ensures ∙ c.in_ok-others.ensures.named kind name rows are (stands_reads g.M.S.Space g.M.Multi c.args.tree.now c.loop-i.tree c.args.space.now c.loop-i.space (parts_of kind name rows) c.loop-i.invariant.reads st) k) c.in_ok-found.ensures;
    }

pub returns-clause-named : goal.returns-clause-named
returns-clause-named g c = λ kind name rows are st.
    let all : length c.args.wanted.now ≤ c.loop-i.i = omega arith in
    left_end (parts_of kind name rows) c.args.wanted.now c.args.first c.loop-i.found c.loop-i.i all (c.loop-i.invariant.so_far kind name rows are st)
