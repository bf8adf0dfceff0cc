use Rattle.std.proofs.Common.{◌≡◌, ◌∙◌, ℕ, length, take, drop, arith, sym, ap, subst, List}
use Rattle.hf_head.specs.Heads.{wide, unit}
use Rattle.hf_tree.specs.Keys.{key_cmp}
use Rattle.hf_chain.specs.Fronts.{WasRead}
use Rattle.hf_chain.specs.Heads.{HasRecord, head_of}
use Rattle.hf_chain.specs.Chains.{step_of}
use Rattle.hf_chain.proofs.Descents.{unit_small}
use Rattle.hf_chain.proofs.Fronts.{front_cut}
use Rattle.hf_chain.proofs.finding.look_front.Goals as goal

pub read_into-requires-clause-reaches : goal.read_into-requires-clause-reaches
read_into-requires-clause-reaches g c = record { file = c.requires.ready.is_data; inside = λ t. (c.requires.front t).room.inside }

pub compare-requires-clause-read : goal.compare-requires-clause-read
compare-requires-clause-read g c = λ t.
    let x = c.requires.front t in
    let a = x.there in
    let f : List ℕ = g.S.Space.now c.args.space.now c.args.file in
    let w = front_cut (length c.args.front.now) c.args.at (unit c.args.head.now) a.r f c.read_into.new.into a.has.is (c.in_ok-read_into.ensures.bytes t) x.room.inside x.room.enough in
    let same : length c.read_into.new.into ≡ length c.args.front.now = c.read_into.auto.into in
    subst (λ (l : List ℕ). WasRead c.args.head.now c.head_in-rec.result c.args.at c.read_into.new.into l) (sym (c.in_ok-read_into.ensures.reads.files t c.args.file)) (record {
      there = record { r = a.r; has = a.has; head = c.head_in-rec.ensures.head (unit c.args.head.now) a.r a.has.is.rest (a.has.wide ∙ ap wide (sym c.is_large.ensures)) a.has.is.whole w.0 w.1 };
      is = c.in_ok-read_into.ensures.bytes t ∙ (λ i. take (sym same i) (drop c.args.at f));
      long = x.long;
    })

pub turn-step-requires : goal.turn-step-requires
turn-step-requires g c = omega (arith, unit_small c.args.head.now c.requires.ready.valid, c.unit.ensures)

pub returns-clause-step : goal.returns-clause-step
returns-clause-step g c = λ t r a hash.
    let x = c.requires.front t in
    let f : List ℕ = g.S.Space.now c.args.space.now c.args.file in
    let w = front_cut (length c.args.front.now) c.args.at (unit c.args.head.now) r f c.read_into.new.into a.is (c.in_ok-read_into.ensures.bytes t) x.room.inside x.room.enough in
    let h : c.head_in-rec.result ≡ head_of r = c.head_in-rec.ensures.head (unit c.args.head.now) r a.is.rest (a.wide ∙ ap wide (sym c.is_large.ensures)) a.is.whole w.0 w.1 in
    let now = subst (λ (l : List ℕ). HasRecord c.args.head.now r c.args.at l) (sym (c.in_ok-read_into.ensures.reads.files t c.args.file)) a in
    c.turn-step.ensures r h ∙ ap (step_of c.unit.result c.args.at r) (c.in_ok-order.ensures.order t r now h hash) ∙ ap (λ (u : ℕ). step_of u c.args.at r (key_cmp c.args.key.now r.key)) c.unit.ensures

pub returns-clause-head : goal.returns-clause-head
returns-clause-head g c = λ t r a.
    let x = c.requires.front t in
    let f : List ℕ = g.S.Space.now c.args.space.now c.args.file in
    let w = front_cut (length c.args.front.now) c.args.at (unit c.args.head.now) r f c.read_into.new.into a.is (c.in_ok-read_into.ensures.bytes t) x.room.inside x.room.enough in
    c.head_in-rec.ensures.head (unit c.args.head.now) r a.is.rest (a.wide ∙ ap wide (sym c.is_large.ensures)) a.is.whole w.0 w.1
