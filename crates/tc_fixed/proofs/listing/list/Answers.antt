use Rattle.std.proofs.Common.{ℕ, List, length, length-append, arith, ap, subst}
use Rattle.tc_space.specs.Frames.{only_reads_refl, only_reads_then}
use Rattle.tc_fixed.proofs.Listed.{listed_none, listed_more, listed_all, listed_full}
use Rattle.tc_reach.proofs.Viewing.{shows_at}
use Rattle.tc_fixed.specs.Cells.{cell_at}
use Rattle.tc_fixed.specs.Looks.{Sees}
use Rattle.tc_fixed.specs.Listing.{noted}
use Rattle.tc_fixed.proofs.listing.list.Goals as goal
use Rattle.tc_fixed.proofs.listing.list.Goals.{then-loop-id-test+else-has_room, else-loop-id-test}

pub loop-id-init : goal.loop-id-init
loop-id-init g c = record {
  on = omega arith;
  more = omega arith;
  reads = only_reads_refl g.S.Space c.args.space.now c.requires.sound;
  shows = λ t. c.new-window.ensures (g.S.Space.now c.args.space.now 0);
  so = λ t m cells. listed_none m c.args.from c.args.to c.args.most c.args.into.now.items;
}

pub loop-id-preserved : goal.loop-id-preserved
loop-id-preserved g c =
    let v = c.loop-id.invariant in
    record {
      on = omega (arith, v.on);
      more = omega (arith, v.more, ap (λ (l : List ℕ). length l) c.in_ok-note.ensures, length-append c.loop-id.into.items (noted c.in_ok-found.found c.loop-id.id));
      reads = only_reads_then g.S.Space c.args.space.now c.loop-id.space c.look.new.space v.reads c.look.ensures.reads;
      shows = λ t. shows_at c.look.new.window (g.S.Space.now c.loop-id.space 0) (g.S.Space.now c.args.space.now 0) (v.reads.files t 0) (c.in_ok-found.ensures.shows t);
      so = λ t m cells. listed_more m c.args.width c.args.from c.loop-id.id c.args.to c.args.most c.args.into.now.items c.loop-id.into.items c.note.new.into.items (g.S.Space.now c.args.space.now 0) c.in_ok-found.found _
          (v.so t m cells) v.on c.requires.ids.0 c.loop-id-test.true cells (subst (λ (l : List ℕ). Sees c.args.width c.in_ok-found.found (cell_at c.args.width c.loop-id.id l)) (v.reads.files t 0) (c.in_ok-found.ensures.sees t))
          (omega (arith, c.len.ensures, c.len-start.ensures)) (c.has_room.ensures.yes c.if-has_room.true) c.in_ok-note.ensures;
    }

pub returns-clause-listed : goal.returns-clause-listed
returns-clause-listed g c = λ t m cells. elim c.loop-id-test.branch [
  | then-loop-id-test+else-has_room w ↦ listed_full m c.args.from c.loop-id.id c.args.to c.args.most c.args.into.now.items c.loop-id.into.items _ (c.loop-id.invariant.so t m cells) c.loop-id.invariant.on w.loop-id-test.true
      (omega (arith, w.len.ensures, c.len-start.ensures)) (w.has_room.ensures.no w.if-has_room.false)
  | else-loop-id-test w ↦ listed_all m c.args.from c.loop-id.id c.args.to c.args.most c.args.into.now.items c.loop-id.into.items (c.loop-id.invariant.so t m cells) c.loop-id.invariant.on (omega (arith, w.loop-id-test.false))
]
