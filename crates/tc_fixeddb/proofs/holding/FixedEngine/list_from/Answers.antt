use Rattle.std.proofs.Common.{◌∙◌, ◌≡◌, ◌<◌, ℕ, length, sym, ap, arith}
use Rattle.std.proofs.lemmas.Bool.{eqb-true, eqb-false}
use Rattle.std.proofs.lemmas.Result.{IfOk-weaker}
use Rattle.tc_engine.specs.Changes.{first_of}
use Rattle.tc_fixeddb.specs.Lifting.{ready_down, reads_up}
use Rattle.tc_fixeddb.proofs.Listed.{beginning_listed, none_listed, whole_prefix}
use Rattle.tc_fixeddb.proofs.holding.FixedEngine.list_from.Goals as goal

above : {n : ℕ} → (n ≡ 0 → ⊥) → 0 < n
above some = omega (arith, some)

pub returns-then-is_empty-clause-value : goal.returns-then-is_empty-clause-value
returns-then-is_empty-clause-value g c = IfOk-weaker c.ids.result _ _ (λ found listed k held. listed k held ∙ ap (first_of c.args.most) (whole_prefix k c.args.prefix.now (eqb-true (length c.args.prefix.now) 0 (sym c.if-is_empty.ensures)))) c.ids.ensures.value

pub ids_beginning-requires-clause-ready : goal.ids_beginning-requires-clause-ready
ids_beginning-requires-clause-ready g c = ready_down g.S.Space c.args.self.now c.args.space.now c.requires

pub returns-in-Some-clause-value : goal.returns-in-Some-clause-value
returns-in-Some-clause-value g c = IfOk-weaker c.ids_beginning.result _ _ (λ found listed. beginning_listed g.S.Space c.args.self.now c.args.space.now c.args.most c.args.prefix.now found.items c.in-Some.n c.in-Some.ensures.2 listed) c.ids_beginning.ensures.value

pub returns-in-Some-clause-reads : goal.returns-in-Some-clause-reads
returns-in-Some-clause-reads g c = reads_up g.S.Space _ _ _ _ c.ids_beginning.ensures.reads c.ids_beginning.ensures.shape

pub returns-in-None-clause-value : goal.returns-in-None-clause-value
returns-in-None-clause-value g c = none_listed g.S.Space c.args.self.now c.args.space.now c.args.most c.args.prefix.now c.new.result.items (above (eqb-false (length c.args.prefix.now) 0 (sym c.if-is_empty.ensures))) c.in-None.ensures c.new.ensures.items
