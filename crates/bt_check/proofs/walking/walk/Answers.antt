use Rattle.std.proofs.Common.{List, length, ap, refl, arith}
use Rattle.std.specs.FinMap.{get}
use Rattle.tc_space.specs.Frames.{In}
use Rattle.tc_space.specs.Stores.{ready_reads}
use Rattle.bt_rows.specs.declared.page.Slot.{Slot}
use Rattle.bt_check.specs.Looks.{looks_then, looks_refl}
use Rattle.bt_check.proofs.Walked.{no_row, uneven_as, walking_end, walking_left, walking_more, walking_none, walking_over, walking_stuck, walking_there}
use Rattle.bt_check.proofs.walking.walk.Goals as goal

pub rows-init : goal.rows-init
rows-init g c = record {
  looks = looks_refl _ _ _ _ c.requires.sound;
  few = omega (arith, ap (λ (l : List Slot). length l) c.new-leaves.ensures);
  room = omega arith;
  some = λ none. omega (arith, none, ap (λ (l : List Slot). length l) c.in_ok-row.ensures);
  walking = λ m i h pages a all. walking_none pages c.args.root c.args.ids _ _ c.in_ok-row.ensures c.new-leaves.ensures all;
}

pub pass-requires : goal.pass-requires
pass-requires g c = ready_reads g.R.S.Space (In g.R.S.Space g.R.Records.file_of g.R.Records.holds) _ _ _ _ c.rows.invariant.looks.reads c.requires

pub rows-preserved : goal.rows-preserved
rows-preserved g c =
    let v = c.rows.invariant in
    let t = c.if-not-take_row.ensures in
    let e = c.in_ok-next.ensures in
    record {
      looks = looks_then _ _ _ _ _ _ _ _ v.looks e.looks;
      few = omega (arith, v.few, e.asks, t.len refl);
      room = omega (arith, v.room, t.len refl, c.rows-test.true);
      some = λ none. omega arith;
      walking = λ m i h pages a all.
          let w = v.walking m i h pages a all in
          let there = walking_there pages c.args.root c.rows.row c.rows.leaves c.rows.ids c.take_row.new.ids c.rows.uneven c.rows.height w (t.taken refl) in
          walking_more h (get m) pages a c.args.root c.rows.row c.rows.leaves _ c.pass.new.leaves c.rows.ids c.take_row.new.ids c.rows.uneven _ c.rows.height (omega (arith, c.rows-test.true)) w (t.taken refl)
          ((e.next m (v.looks.reads.means m i) h pages a there).all c.if-next.false) e.leaves (uneven_as _ _ _ _ _ _ c.len-above.ensures c.len-in-rows-2.ensures c.is_uneven-uneven.ensures);
    }

pub rows-smaller : goal.rows-smaller
rows-smaller g c = let t = c.if-not-take_row.ensures in omega (arith, t.len refl, c.rows-test.true)

pub returns-then-not-take_row-clause-walked : goal.returns-then-not-take_row-clause-walked
returns-then-not-take_row-clause-walked g c = λ m i h pages a all.
    walking_stuck pages c.args.root c.rows.row c.rows.leaves c.rows.ids c.rows.uneven c.rows.height (c.rows.invariant.walking m i h pages a all) (c.if-not-take_row.ensures.stuck refl)

pub returns-then-next-clause-walked : goal.returns-then-next-clause-walked
returns-then-next-clause-walked g c = λ m i h pages a all.
    let v = c.rows.invariant in
    let w = v.walking m i h pages a all in
    let t = c.if-not-take_row.ensures in
    let there = walking_there pages c.args.root c.rows.row c.rows.leaves c.rows.ids c.take_row.new.ids c.rows.uneven c.rows.height w (t.taken refl) in
    walking_over pages c.args.root c.rows.row c.rows.leaves c.rows.ids c.take_row.new.ids c.rows.uneven c.rows.height _ w (t.taken refl) c.len-in-rows.ensures.len ((c.in_ok-next.ensures.next m (v.looks.reads.means m i) h pages a there).over c.if-next.true)

pub returns-then-not-is_empty-clause-walked : goal.returns-then-not-is_empty-clause-walked
returns-then-not-is_empty-clause-walked g c = λ m i h pages a all.
    let one = c.if-not-is_empty.ensures.some refl in
    walking_left pages c.args.root c.rows.row c.rows.leaves c.rows.ids c.rows.uneven c.rows.height one.0 (c.rows.invariant.walking m i h pages a all) (no_row c.rows.row (omega (arith, c.rows-test.false))) one.1

pub returns-clause-walked : goal.returns-clause-walked
returns-clause-walked g c = λ m i h pages a all.
    walking_end pages c.args.root c.rows.row c.rows.ids _ (c.rows.invariant.walking m i h pages a all) (no_row c.rows.row (omega (arith, c.rows-test.false))) (c.if-not-is_empty.ensures.none refl)
