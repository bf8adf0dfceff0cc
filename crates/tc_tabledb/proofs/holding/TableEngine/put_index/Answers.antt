use Rattle.std.proofs.Common.{◌≡◌, ◌∙◌, ℕ, true, false, List, ap, inl, inr, length, sym, arith}
use Rattle.std.specs.Prelude.{◌&&◌, is_none, nat_le}
use Rattle.tc_reach.proofs.Handed.{err_handed, on_err_any}
use Rattle.tc_tabledb.specs.Indexing.{indexed, kind_at, unindexed}
use Rattle.tc_tabledb.proofs.Chosen.{kind_only, kind_other, makes_as, makes_ready, may_set, no_room, set_already, set_full, set_made, set_many}
use Rattle.tc_tabledb.proofs.Indexed.{log_full}
use Rattle.tc_tabledb.proofs.holding.TableEngine.put_index.Goals as goal

pub returns-then-is_kind-clause-makes : goal.returns-then-is_kind-clause-makes
returns-then-is_kind-clause-makes g c = set_already g.S.Space _ _ _ c.args.name c.args.kind c.args.self.now c.args.space.now c.requires.ready.sound (sym (c.kind_at-had.ensures ∙ (λ i. kind_at (c.as_slice.ensures i) (c.as_slice-sides.ensures.value i))) ∙ kind_only c.kind_at-had.result c.args.kind (sym c.is_kind.ensures ∙ c.if-is_kind.true))

pub returns-then-has_no_room-clause-makes : goal.returns-then-has_no_room-clause-makes
returns-then-has_no_room-clause-makes g c =
    let gone = no_room c.kind_at-had.result (length c.as_slice-sides.result.now) (sym c.has_no_room.ensures ∙ c.if-has_no_room.true) in
    set_many g.S.Space _ _ _ c.args.name c.args.kind c.args.self.now c.args.space.now c.requires.ready.sound (sym (c.kind_at-had.ensures ∙ (λ i. kind_at (c.as_slice.ensures i) (c.as_slice-sides.ensures.value i))) ∙ gone.0) (omega (arith, gone.1, ap length c.as_slice-sides.ensures.value))

pub returns-in_err-_had-clause-refused : goal.returns-in_err-_had-clause-refused
returns-in_err-_had-clause-refused g c = on_err_any _ c.in_err-_had.ensures.refused

pub returns-in_err-_had-clause-full : goal.returns-in_err-_had-clause-full
returns-in_err-_had-clause-full g c = λ full. log_full g.S.Space _ _ _ _ _ c.table_stores.ensures (indexed c.args.name c.args.kind) c.args.self.now c.args.space.now c.drop_index.new.space (c.in_err-_had.ensures.log (err_handed c.from_residual.result c.in_err-_had.field-0.0 _ c.from_residual.ensures.1 full))

pub put_new-requires-clause-ready : goal.put_new-requires-clause-ready
put_new-requires-clause-ready g c = makes_ready g.S.Space _ _ _ (unindexed c.as_slice-2.result.now) c.in_ok-_had._had c.args.self.now c.drop_index.new.self c.args.space.now c.drop_index.new.space c.in_ok-_had.ensures.makes c.requires.ready

pub put_new-requires-clause-new : goal.put_new-requires-clause-new
put_new-requires-clause-new g c = λ t. ap (λ (n : List ℕ). kind_at n c.drop_index.new.self.table.sides.items) (sym c.as_slice-2.ensures) ∙ c.in_ok-_had.ensures.none t

pub returns-in_err-put_new-clause-refused : goal.returns-in_err-put_new-clause-refused
returns-in_err-put_new-clause-refused g c = on_err_any _ (inl c.in_err-put_new.ensures.spoiled)

pub returns-in_err-put_new-clause-full : goal.returns-in_err-put_new-clause-full
returns-in_err-put_new-clause-full g c = λ full. set_full g.S.Space _ _ _ c.args.name c.args.kind c.args.self.now c.drop_index.new.self c.args.space.now c.drop_index.new.space
    (may_set g.S.Space _ _ _ c.args.name c.args.self.now c.kind_at-had.result (c.kind_at-had.ensures ∙ (λ i. kind_at (c.as_slice.ensures i) (c.as_slice-sides.ensures.value i)))
    (ap (λ (n : ℕ). is_none c.kind_at-had.result && nat_le 16 n) (ap length (sym c.as_slice-sides.ensures.value)) ∙ (sym c.has_no_room.ensures ∙ c.if-has_no_room.false)) c.args.space.now)
    c.in_ok-_had._had c.put_new.new.space (λ same. kind_other c.kind_at-had.result c.args.kind (sym c.is_kind.ensures ∙ c.if-is_kind.false) ((c.kind_at-had.ensures ∙ (λ i. kind_at (c.as_slice.ensures i) (c.as_slice-sides.ensures.value i))) ∙ same))
    (makes_as g.S.Space _ _ _ (unindexed c.as_slice-2.result.now) (unindexed c.args.name) c.in_ok-_had._had c.args.self.now c.drop_index.new.self c.args.space.now c.drop_index.new.space (λ x. ap (λ (n : List ℕ). unindexed n x) c.as_slice-2.ensures) c.in_ok-_had.ensures.makes) (c.in_err-put_new.ensures.full (err_handed c.from_residual-in_err-put_new.result c.in_err-put_new.field-0.0 _ c.from_residual-in_err-put_new.ensures.1 full))

pub returns-clause-makes : goal.returns-clause-makes
returns-clause-makes g c = set_made g.S.Space _ _ _ c.args.name c.args.kind c.args.self.now c.drop_index.new.self c.args.space.now c.drop_index.new.space
    (may_set g.S.Space _ _ _ c.args.name c.args.self.now c.kind_at-had.result (c.kind_at-had.ensures ∙ (λ i. kind_at (c.as_slice.ensures i) (c.as_slice-sides.ensures.value i)))
    (ap (λ (n : ℕ). is_none c.kind_at-had.result && nat_le 16 n) (ap length (sym c.as_slice-sides.ensures.value)) ∙ (sym c.has_no_room.ensures ∙ c.if-has_no_room.false)) c.args.space.now)
    c.in_ok-_had._had c.put_new.new.self c.put_new.new.space
    (makes_as g.S.Space _ _ _ (unindexed c.as_slice-2.result.now) (unindexed c.args.name) c.in_ok-_had._had c.args.self.now c.drop_index.new.self c.args.space.now c.drop_index.new.space (λ x. ap (λ (n : List ℕ). unindexed n x) c.as_slice-2.ensures) c.in_ok-_had.ensures.makes) c.in_ok-put_new.ensures.made

pub returns-then-is_kind-clause-comes : goal.returns-then-is_kind-clause-comes
returns-then-is_kind-clause-comes g c = λ is. inl (sym (c.kind_at-had.ensures ∙ (λ i. kind_at (c.as_slice.ensures i) (c.as_slice-sides.ensures.value i))) ∙ kind_only c.kind_at-had.result c.args.kind (sym c.is_kind.ensures ∙ c.if-is_kind.true))

pub returns-then-has_no_room-clause-comes : goal.returns-then-has_no_room-clause-comes
returns-then-has_no_room-clause-comes g c = λ is. absurd (let bad : false ≡ true = is in cc)

pub returns-clause-comes : goal.returns-clause-comes
returns-clause-comes g c = λ is. inr c.in_ok-put_new.ensures.comes
