use Rattle.std.proofs.Common.{◌∙◌, ◌∷◌, [], List, ap, arith, length, length-append, subst}
use Rattle.std.proofs.lemmas.Iterator.Adapters.{YieldsList-from_vec}
use Rattle.std.proofs.lemmas.Iterator.Consumers.{YieldsList-end, YieldsList-turn}
use Rattle.tc_space.specs.Frames.{In}
use Rattle.tc_space.specs.Stores.{ready_reads}
use Rattle.bt_rows.specs.declared.page.Slot.{Slot}
use Rattle.bt_rows.specs.Orders.{before_by}
use Rattle.bt_rows.specs.Rows.{leaves_among}
use Rattle.bt_check.specs.Leaves.{IsSeen}
use Rattle.bt_check.specs.Looks.{looks_then}
use Rattle.bt_check.specs.Walks.{AreThere}
use Rattle.bt_check.proofs.Seen.{seen_at}
use Rattle.bt_check.proofs.Walked.{given_all}
use Rattle.bt_check.proofs.leaves.see_all.Goals as goal

pub leaf_in-requires : goal.leaf_in-requires
leaf_in-requires g c = ready_reads g.R.S.Space (In g.R.S.Space g.R.Records.file_of g.R.Records.holds) _ _ _ _ c.loop-slot.invariant.looks.reads c.requires

pub loop-slot-preserved : goal.loop-slot-preserved
loop-slot-preserved g c =
    let v = c.loop-slot.invariant in
    let e = c.in_ok-there.ensures in
    record {
      looks = looks_then _ _ _ _ _ _ _ _ v.looks e.looks;
      asks = omega (arith, v.asks, e.asks, length-append c.loop-slot.yielded (c.in-Some.slot ∷ []));
      seen = λ m i h pages a. seen_at (before_by g.O.Order.cmp) c.args.head.now pages c.loop-slot.yielded c.in-Some.slot c.in_ok-there.there c.loop-slot.seen c.see.new.self c.see.ensures (e.leaf m (v.looks.reads.means m i) h pages a) (v.seen m i h pages a);
    }

pub returns-in_err-there-clause-asks : goal.returns-in_err-there-clause-asks
returns-in_err-there-clause-asks g c =
    let gives = c.into_iter-slot-iterator.ensures.into_iter_gives in
    let road = YieldsList-from_vec {s = c.into_iter-slot-iterator.result} c.args.places (gives.0 ∙ c.into_vec-slot-items.ensures) (gives.1 ∙ (c.into_vec-slot-items.result.ok.0 ∙ ap length c.into_vec-slot-items.ensures)) in
    let turn = YieldsList-turn road c.loop-slot.yielded c.loop-slot.slot-iterator c.loop-slot.yielded_by c.next.result c.next.new.self c.in-Some.slot c.in-Some.is c.next.ensures.steps in
    omega (arith, c.loop-slot.invariant.asks, c.leaf_in.ensures.asks, turn.0)

pub returns-clause-seen : goal.returns-clause-seen
returns-clause-seen g c = λ m i h pages a.
    let gives = c.into_iter-slot-iterator.ensures.into_iter_gives in
    let road = YieldsList-from_vec {s = c.into_iter-slot-iterator.result} c.args.places (gives.0 ∙ c.into_vec-slot-items.ensures) (gives.1 ∙ (c.into_vec-slot-items.result.ok.0 ∙ ap length c.into_vec-slot-items.ensures)) in
    let end = YieldsList-end road c.loop-slot.yielded c.loop-slot.slot-iterator c.loop-slot.yielded_by c.next.result c.next.new.self c.in-None.is c.next.ensures.steps in
    subst (λ (r : List Slot). AreThere pages r → IsSeen (before_by g.O.Order.cmp) c.args.head.now (leaves_among pages r) c.loop-slot.seen) (given_all c.args.places c.loop-slot.yielded end.0) (c.loop-slot.invariant.seen m i h pages a)

pub returns-clause-asks : goal.returns-clause-asks
returns-clause-asks g c =
    let gives = c.into_iter-slot-iterator.ensures.into_iter_gives in
    let road = YieldsList-from_vec {s = c.into_iter-slot-iterator.result} c.args.places (gives.0 ∙ c.into_vec-slot-items.ensures) (gives.1 ∙ (c.into_vec-slot-items.result.ok.0 ∙ ap length c.into_vec-slot-items.ensures)) in
    let end = YieldsList-end road c.loop-slot.yielded c.loop-slot.slot-iterator c.loop-slot.yielded_by c.next.result c.next.new.self c.in-None.is c.next.ensures.steps in
    omega (arith, c.loop-slot.invariant.asks, end.1)
