use Rattle.std.proofs.Common.{◌∙◌, ◌<◌, ◌≤◌, length, ap, arith}
use Rattle.tc_space.specs.Frames.{keeps_refl, keeps_then}
use Rattle.td_index.specs.Entries.{has_zero}
use Rattle.td_index.proofs.Handed.{err_handed, on_err_any}
use Rattle.td_index.proofs.Listed.{gains_end, gains_more, gains_none, gains_stopped, put_full, stays_refl, stays_then}
use Rattle.td_index.proofs.index.put_entries.Goals as goal

pub loop-i-init : goal.loop-i-init
loop-i-init g c = record {
  so_far = gains_none g.M.S.Space g.M.Multi c.args.tree.now c.args.space.now c.args.key.now c.requires.ready.sound;
  ready = c.requires.ready;
  keeps = keeps_refl g.M.S.Space c.args.space.now;
  stays = stays_refl g.M.Multi.file_of g.M.Multi.made g.M.Multi.lead c.args.tree.now;
}

pub put_entry-requires-clause-whole : goal.put_entry-requires-clause-whole
put_entry-requires-clause-whole g c =
    let less : c.loop-i.i < length c.args.parts.now = omega arith in
    ap (λ v. has_zero v) (c.as_slice.ensures ∙ c.index-parts-i.is) ∙ c.requires.whole c.loop-i.i c.index-parts-i.result less

pub loop-i-preserved : goal.loop-i-preserved
loop-i-preserved g c =
    let less : c.loop-i.i < length c.args.parts.now = omega arith in
    record {
      so_far = gains_more g.M.S.Space g.M.Multi c.args.tree.now c.loop-i.tree c.put_entry.new.tree c.args.space.now c.loop-i.space c.put_entry.new.space c.args.parts.now c.loop-i.i c.index-parts-i.result c.as_slice.result.now c.args.key.now less c.index-parts-i.is c.as_slice.ensures c.loop-i.invariant.stays.file c.loop-i.invariant.so_far c.in_ok-put_entry.ensures.put;
      ready = c.in_ok-put_entry.ensures.ready;
      keeps = keeps_then g.M.S.Space c.args.space.now c.loop-i.space c.put_entry.new.space c.loop-i.invariant.keeps c.put_entry.ensures.keeps;
      stays = stays_then g.M.Multi.file_of g.M.Multi.made g.M.Multi.lead c.args.tree.now c.loop-i.tree c.put_entry.new.tree c.loop-i.invariant.stays c.put_entry.ensures.stays;
    }

pub returns-clause-put : goal.returns-clause-put
returns-clause-put g c =
    let all : length c.args.parts.now ≤ c.loop-i.i = omega arith in
    gains_end g.M.S.Space g.M.Multi c.args.tree.now c.loop-i.tree c.args.space.now c.loop-i.space c.args.parts.now c.loop-i.i c.args.key.now all c.loop-i.invariant.so_far

pub returns-in_err-put_entry-clause-refused : goal.returns-in_err-put_entry-clause-refused
returns-in_err-put_entry-clause-refused g c =
    let less : c.loop-i.i ≤ length c.args.parts.now = omega arith in
    on_err_any _ (gains_stopped g.M.S.Space g.M.Multi c.args.tree.now c.loop-i.tree c.put_entry.new.tree c.args.space.now c.loop-i.space c.put_entry.new.space c.args.parts.now c.loop-i.i c.args.key.now less c.loop-i.invariant.so_far c.in_err-put_entry.ensures.refused)

pub returns-in_err-put_entry-clause-full : goal.returns-in_err-put_entry-clause-full
returns-in_err-put_entry-clause-full g c = λ is.
    let less : c.loop-i.i < length c.args.parts.now = omega arith in
    put_full g.M.S.Space g.M.Multi g.M.O.Order.cmp c.args.tree.now c.loop-i.tree c.args.space.now c.loop-i.space c.put_entry.new.space c.args.parts.now c.loop-i.i c.index-parts-i.result c.as_slice.result.now c.args.key.now less c.index-parts-i.is c.as_slice.ensures c.loop-i.invariant.so_far c.loop-i.invariant.keeps c.loop-i.invariant.stays (c.in_err-put_entry.ensures.full (err_handed c.from_residual.result c.in_err-put_entry.field-0.0 _ c.from_residual.ensures.1 is))
