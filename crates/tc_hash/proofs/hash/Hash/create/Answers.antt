use Rattle.std.proofs.Common.{◌∙◌, inl, inr, ⊎_elim, ℕ, List, sym, ap, arith}
use Rattle.hf_record.proofs.Valid.{is_valid}
use Rattle.std.specs.FinMap.{empty}
use Rattle.tc_hash.specs.Creating.{new_bytes}
use Rattle.tc_hash.proofs.Cleared.{numbers_anew, some_zeros}
use Rattle.tc_hash.proofs.Created.{brought_same, create_brought, create_head, new_fields}
use Rattle.tc_hash.proofs.Fronted.{anew_as}
use Rattle.tc_reach.proofs.Handed.{err_handed}
use Rattle.tc_hash.proofs.hash.Hash.create.Goals as goal

pub new_pool-requires-clause-valid : goal.new_pool-requires-clause-valid
new_pool-requires-clause-valid g c = (new_fields c.args.kind c.args.apow c.args.fpow c.args.buckets c.args.large c.new_head-head.result c.requires.numbers c.new_head-head.ensures.new (omega arith))

pub held_open-requires-clause-head : goal.held_open-requires-clause-head
held_open-requires-clause-head g c = is_valid c.new_head-head.result (new_fields c.args.kind c.args.apow c.args.fpow c.args.buckets c.args.large c.new_head-head.result c.requires.numbers c.new_head-head.ensures.new (omega arith))

pub write_new-requires-clause-zeros : goal.write_new-requires-clause-zeros
write_new-requires-clause-zeros g c = some_zeros c.deref.result.now 65536 (omega arith) (c.deref.ensures.value ∙ c.in_ok-zeros.ensures.items_if_clones_equal (λ y e. e))

pub returns-clause-created : goal.returns-clause-created
returns-clause-created g c =
    let h = c.new_head-head.result in
    let p = c.in_ok-pool.pool in
    let r = c.held_open.result in
    let e = c.held_open.ensures in
    let wrote = c.in_ok-write_new.ensures in
    let bytes : List ℕ = g.S.Space.now c.write_new.new.space c.args.file in
    let brought = λ (t : g.S.Space.tells). create_brought c.args.kind c.args.apow c.args.fpow c.args.buckets c.args.large h p bytes c.requires.numbers c.new_head-head.ensures.new (omega arith)
    c.in_ok-pool.ensures.unit c.in_ok-pool.ensures.size c.in_ok-pool.ensures.none c.in_ok-pool.ensures.laid wrote.spells.0 wrote.spells.1 (wrote.wrote t).here in
    record {
      sound = wrote.outcome.ok;
      others = record { same = λ t f other. (wrote.wrote t).others f other };
      brought = λ t. brought_same h r.body.head p r.body.pool h.records r.records h.opaque r.region empty bytes e.body.1 e.body.2 e.rest.0 e.rest.1 (brought t);
      held = λ t. anew_as r h p h.records bytes empty e.body.1 e.body.2 e.rest.0 e.rest.2 c.in_ok-pool.ensures.noted (brought t).holds (numbers_anew h bytes wrote.spells.0 wrote.spells.1 (wrote.wrote t).here);
      head = λ t. create_head h r.body.head bytes e.body.1 wrote.spells.0 wrote.spells.1 (wrote.wrote t).here;
      made = λ t. (wrote.wrote t).here ∙ ap new_bytes (sym e.body.1);
    }

pub returns-in_err-write_new-clause-full : goal.returns-in_err-write_new-clause-full
returns-in_err-write_new-clause-full g c = λ full. (c.new_head-head.result, c.new_head-head.ensures.new, ⊎_elim (λ past. inl past) (λ log. inr (inr log)) (c.in_err-write_new.ensures.full (err_handed c.from_residual-in_err-write_new.result c.in_err-write_new.field-0.0 _ c.from_residual-in_err-write_new.ensures.1 full)))
