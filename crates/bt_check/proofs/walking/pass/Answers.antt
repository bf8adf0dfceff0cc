use Rattle.std.proofs.Common.{◌≡◌, ◌∙◌, List, ap, arith, length, length-append, ◌∷◌, [], subst, ◌++◌}
use Rattle.std.proofs.lemmas.Iterator.Adapters.{YieldsList-from_vec}
use Rattle.std.proofs.lemmas.Iterator.Consumers.{YieldsList-end, YieldsList-turn}
use Rattle.tc_space.specs.Frames.{In}
use Rattle.tc_space.specs.Stores.{ready_reads}
use Rattle.bt_rows.specs.declared.page.Slot.{Slot}
use Rattle.bt_rows.specs.Rows.{next_row}
use Rattle.bt_check.specs.Looks.{looks_then}
use Rattle.bt_check.specs.Walks.{AreThere, IsNextOf, leaf_places}
use Rattle.bt_check.proofs.Walked.{given_all, kept_more, next_more}
use Rattle.bt_check.proofs.walking.pass.Goals as goal

pub pass_one-requires : goal.pass_one-requires
pass_one-requires g c = ready_reads g.R.S.Space (In g.R.S.Space g.R.Records.file_of g.R.Records.holds) _ _ _ _ c.loop-slot.invariant.looks.reads c.requires

pub loop-slot-preserved : goal.loop-slot-preserved
loop-slot-preserved g c =
    let v = c.loop-slot.invariant in
    let e = c.in_ok-pass_one.ensures in
    record {
      looks = looks_then _ _ _ _ _ _ _ _ v.looks e.looks;
      asks = omega (arith, v.asks, e.asks, length-append c.loop-slot.yielded (c.in-Some.slot ∷ []));
      kept = kept_more c.loop-slot.yielded c.in-Some.slot c.args.leaves.now c.loop-slot.leaves c.pass_one.new.leaves v.kept e.leaves;
      room = e.room ∙ v.room;
      few = omega (arith, e.few (omega (arith, v.few, v.room)), e.room, v.room);
      next_is = λ m i h pages a. next_more pages c.loop-slot.yielded c.in-Some.slot c.args.room c.loop-slot.next c.pass_one.new.next v.room (v.next_is m i h pages a) (e.next m (v.looks.reads.means m i) h pages a);
    }

pub returns-in_err-pass_one-clause-asks : goal.returns-in_err-pass_one-clause-asks
returns-in_err-pass_one-clause-asks g c =
    let gives = c.into_iter-slot-iterator.ensures.into_iter_gives in
    let road = YieldsList-from_vec {s = c.into_iter-slot-iterator.result} c.args.row (gives.0 ∙ c.into_vec-slot-items.ensures) (gives.1 ∙ (c.into_vec-slot-items.result.ok.0 ∙ ap length c.into_vec-slot-items.ensures)) in
    let turn = YieldsList-turn road c.loop-slot.yielded c.loop-slot.slot-iterator c.loop-slot.yielded_by c.next.result c.next.new.self c.in-Some.slot c.in-Some.is c.next.ensures.steps in
    omega (arith, c.loop-slot.invariant.asks, c.pass_one.ensures.asks, turn.0)

pub returns-clause-next : goal.returns-clause-next
returns-clause-next g c = λ m i h pages a.
    let gives = c.into_iter-slot-iterator.ensures.into_iter_gives in
    let road = YieldsList-from_vec {s = c.into_iter-slot-iterator.result} c.args.row (gives.0 ∙ c.into_vec-slot-items.ensures) (gives.1 ∙ (c.into_vec-slot-items.result.ok.0 ∙ ap length c.into_vec-slot-items.ensures)) in
    let end = YieldsList-end road c.loop-slot.yielded c.loop-slot.slot-iterator c.loop-slot.yielded_by c.next.result c.next.new.self c.in-None.is c.next.ensures.steps in
    subst (λ (r : List Slot). AreThere pages r → IsNextOf (next_row pages r) c.args.room c.loop-slot.next) (given_all c.args.row c.loop-slot.yielded end.0) (c.loop-slot.invariant.next_is m i h pages a)

pub returns-clause-leaves : goal.returns-clause-leaves
returns-clause-leaves g c =
    let gives = c.into_iter-slot-iterator.ensures.into_iter_gives in
    let road = YieldsList-from_vec {s = c.into_iter-slot-iterator.result} c.args.row (gives.0 ∙ c.into_vec-slot-items.ensures) (gives.1 ∙ (c.into_vec-slot-items.result.ok.0 ∙ ap length c.into_vec-slot-items.ensures)) in
    let end = YieldsList-end road c.loop-slot.yielded c.loop-slot.slot-iterator c.loop-slot.yielded_by c.next.result c.next.new.self c.in-None.is c.next.ensures.steps in
    c.loop-slot.invariant.kept ∙ ap (λ (r : List Slot). c.args.leaves.now ++ leaf_places r) (given_all c.args.row c.loop-slot.yielded end.0)

pub returns-clause-asks : goal.returns-clause-asks
returns-clause-asks g c =
    let gives = c.into_iter-slot-iterator.ensures.into_iter_gives in
    let road = YieldsList-from_vec {s = c.into_iter-slot-iterator.result} c.args.row (gives.0 ∙ c.into_vec-slot-items.ensures) (gives.1 ∙ (c.into_vec-slot-items.result.ok.0 ∙ ap length c.into_vec-slot-items.ensures)) in
    let end = YieldsList-end road c.loop-slot.yielded c.loop-slot.slot-iterator c.loop-slot.yielded_by c.next.result c.next.new.self c.in-None.is c.next.ensures.steps in
    omega (arith, c.loop-slot.invariant.asks, end.1)
