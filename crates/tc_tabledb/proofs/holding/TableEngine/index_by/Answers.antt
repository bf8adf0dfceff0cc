use Rattle.std.proofs.Common.{◌≡◌, ◌∙◌, List, ℕ, true, false, ap, sym}
use Rattle.std.specs.Prelude.{◌&&◌}
use Rattle.std.proofs.lemmas.Result.{IfOk-weaker}
use Rattle.tc_engine.specs.Changes.{index_set}
use Rattle.tc_model.specs.Meaning.{index_of}
use Rattle.tc_model.specs.Rows.{is_part}
use Rattle.tc_model.specs.Texts.{not_empty}
use Rattle.tc_tabledb.specs.Indexing.{given_index}
use Rattle.tc_tabledb.proofs.Chosen.{full_as, makes_as, named_some, never_had, not_coded, set_wanted}
use Rattle.tc_tabledb.proofs.Lifting.{makes_none}
use Rattle.tc_tabledb.proofs.Made.{set_by}
use Rattle.tc_tabledb.proofs.holding.TableEngine.index_by.Goals as goal

pub returns-then-not-may_have-clause-makes : goal.returns-then-not-may_have-clause-makes
returns-then-not-may_have-clause-makes g c = makes_none g.S.Space _ _ _ c.table_stores.ensures.store (index_set c.args.column c.args.code.now) c.args.self.now c.args.space.now c.requires.sound (never_had c.args.column c.args.code.now (ap (λ (n : List ℕ). not_empty n && is_part n) (sym c.as_slice.ensures) ∙ (sym c.may_have.ensures ∙ c.if-not-may_have.true)))

pub returns-in_default-clause-makes : goal.returns-in_default-clause-makes
returns-in_default-clause-makes g c = makes_none g.S.Space _ _ _ c.table_stores.ensures.store (index_set c.args.column c.args.code.now) c.args.self.now c.args.space.now c.requires.sound (not_coded c.args.column c.args.code.now (sym c.in_default.ensures))

pub put_wanted-requires-clause-named : goal.put_wanted-requires-clause-named
put_wanted-requires-clause-named g c = named_some c.args.column c.args.code.now (ap (λ (n : List ℕ). not_empty n && is_part n) (sym c.as_slice.ensures) ∙ (sym c.may_have.ensures ∙ c.if-not-may_have.false))

pub returns-clause-makes : goal.returns-clause-makes
returns-clause-makes g c = IfOk-weaker _ _ _ (λ done makes. makes_as g.S.Space _ _ _ (given_index c.args.column c.in-Some.wanted) (index_set c.args.column c.args.code.now) done c.args.self.now c.put_wanted.new.self c.args.space.now c.put_wanted.new.space (set_wanted c.args.column c.args.code.now (ap (λ (n : List ℕ). not_empty n && is_part n) (sym c.as_slice.ensures) ∙ (sym c.may_have.ensures ∙ c.if-not-may_have.false)) c.in-Some.wanted (sym c.in-Some.ensures)) makes) c.put_wanted.ensures.makes

pub returns-clause-full : goal.returns-clause-full
returns-clause-full g c = λ full. full_as g.S.Space _ _ _ (given_index c.args.column c.in-Some.wanted) (index_set c.args.column c.args.code.now) c.args.self.now c.args.space.now c.put_wanted.new.space (set_wanted c.args.column c.args.code.now (ap (λ (n : List ℕ). not_empty n && is_part n) (sym c.as_slice.ensures) ∙ (sym c.may_have.ensures ∙ c.if-not-may_have.false)) c.in-Some.wanted (sym c.in-Some.ensures)) (c.put_wanted.ensures.full full)

pub returns-then-not-may_have-clause-comes : goal.returns-then-not-may_have-clause-comes
returns-then-not-may_have-clause-comes g c = λ is. absurd (let bad : false ≡ true = is in cc)

pub returns-in_default-clause-comes : goal.returns-in_default-clause-comes
returns-in_default-clause-comes g c = λ is. absurd (let bad : false ≡ true = is in cc)

pub returns-clause-comes : goal.returns-clause-comes
returns-clause-comes g c = set_by _ _ c.args.column c.args.self.now.table.sides.items c.put_wanted.new.self.table.sides.items c.put_wanted.result (index_of c.args.code.now) c.in-Some.wanted (sym c.in-Some.ensures) c.put_wanted.ensures.comes
