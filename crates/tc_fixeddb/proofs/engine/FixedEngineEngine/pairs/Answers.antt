use Rattle.std.proofs.Common.{List, ℕ, subst}
use Rattle.tc_engine.specs.Rows.{Adds, adds_nothing}
use Rattle.tc_fixeddb.proofs.Asked.{items_none, items_of}
use Rattle.tc_fixeddb.proofs.engine.FixedEngineEngine.pairs.Goals as goal

pub returns-in_default-clause-rows : goal.returns-in_default-clause-rows
returns-in_default-clause-rows g c = λ k h. subst (λ (rows : List (List ℕ)). Adds c.args.into.now c.args.into.now rows) (items_none g.S.Space c.args.self.now c.args.space.now k c.args.key.now c.as_slice.result.now c.in_ok-id.field-0 c.as_slice.ensures c.in_default.is h (c.in_ok-id.ensures.found k h)) (adds_nothing c.args.into.now)

pub returns-clause-rows : goal.returns-clause-rows
returns-clause-rows g c = λ k h. subst (λ (rows : List (List ℕ)). Adds c.args.into.now c.add_items.new.rows rows) (items_of g.S.Space c.args.self.now c.args.space.now k c.args.key.now c.as_slice.result.now c.in-Some.id c.in-Some.value c.as_slice-2.result.now c.in_ok-id.field-0 c.as_slice.ensures c.as_slice-2.ensures c.in-Some.is h (c.in_ok-id.ensures.found k h)) c.in_ok-add_items.ensures.rows
