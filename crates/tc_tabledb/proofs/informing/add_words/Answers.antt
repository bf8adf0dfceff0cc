use Rattle.std.proofs.Common.{◌∙◌, ap, refl}
use Rattle.tc_maps.specs.Sizes.{entries_on}
use Rattle.tc_treedb.proofs.Told.{fronts_then}
use Rattle.tc_tabledb.proofs.Told.{lines_end, lines_more}
use Rattle.tc_tabledb.proofs.informing.add_words.Goals as goal

pub loop-name-preserved : goal.loop-name-preserved
loop-name-preserved c = record {
  added = lines_more c.loop-name.into c.add_index.new.into c.args.into.now _ _ _ (c.in-Some.name.now, c.in-Some.word.now) c.as_slice.result.now c.as_slice-in-loop-name.result.now c.loop-name.invariant.added c.in-Some.ensures.steps c.as_slice.ensures c.as_slice-in-loop-name.ensures c.in_ok-add_index.ensures.added;
  front = fronts_then c.args.into.now c.loop-name.into c.add_index.new.into c.loop-name.invariant.front c.add_index.ensures.front;
}

pub returns-clause-added : goal.returns-clause-added
returns-clause-added c = lines_end c.loop-name.into c.args.into.now _ _ c.args.words.now c.loop-name.invariant.added c.in-None.ensures.steps.0 (c.into_iter-name-iterator.ensures.into_iter_gives ∙ (c.entries_from-name-items.ensures.entries ∙ ap (λ k. entries_on k c.args.words.now) c.requires))
