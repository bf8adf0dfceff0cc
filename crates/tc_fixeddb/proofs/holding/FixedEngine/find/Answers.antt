use Rattle.std.proofs.Common.{◌∙◌, sym}
use Rattle.tc_fixeddb.specs.Lifting.{found_some, ready_down, reads_up}
use Rattle.tc_fixeddb.proofs.holding.FixedEngine.find.Goals as goal

pub value_at-requires : goal.value_at-requires
value_at-requires g c = ready_down g.S.Space c.args.self.now c.args.space.now c.requires

pub returns-in_err-value-clause-reads : goal.returns-in_err-value-clause-reads
returns-in_err-value-clause-reads g c = reads_up g.S.Space _ _ _ _ c.value_at.ensures.reads c.value_at.ensures.shape

pub returns-in_default-2-clause-reads : goal.returns-in_default-2-clause-reads
returns-in_default-2-clause-reads g c = reads_up g.S.Space _ _ _ _ c.value_at.ensures.reads c.value_at.ensures.shape

pub returns-clause-found : goal.returns-clause-found
returns-clause-found g c = found_some g.S.Space c.args.self.now c.args.space.now c.args.key.now c.in-Some.id c.in-Some-2.value c.in-Some.ensures.names (λ m means. sym c.in-Some-2.is ∙ c.in_ok-value.ensures.value m means)

pub returns-clause-reads : goal.returns-clause-reads
returns-clause-reads g c = reads_up g.S.Space _ _ _ _ c.value_at.ensures.reads c.value_at.ensures.shape
