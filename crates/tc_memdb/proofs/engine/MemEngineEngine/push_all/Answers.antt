use Rattle.std.proofs.Common.{◌∙◌, sym, ap}
use Rattle.tc_engine.specs.Changes.{all_pushed}
use Rattle.tc_memdb.specs.Holding.{can_push, contents_of}
use Rattle.tc_memdb.specs.Making.{makes}
use Rattle.tc_memdb.proofs.Every.{not_pushed, all_added}
use Rattle.tc_memdb.proofs.engine.MemEngineEngine.push_all.Goals as goal

pub returns-then-not-can_push-clause-makes : goal.returns-then-not-can_push-clause-makes
returns-then-not-can_push-clause-makes c =
    makes _ (all_pushed c.args.pairs) _ c.args.self.now _ _ c.requires.sound (not_pushed c.args.self.now.held c.args.pairs (ap (can_push (contents_of c.args.self.now.held)) (sym c.as_slice.ensures) ∙ sym c.can_push.ensures ∙ c.if-not-can_push.true))

pub returns-clause-makes : goal.returns-clause-makes
returns-clause-makes c =
    makes _ (all_pushed c.args.pairs) _ c.args.self.now _ _ c.requires.sound (all_added c.args.self.now.held c.push_each.new.self c.args.pairs (ap (can_push (contents_of c.args.self.now.held)) (sym c.as_slice.ensures) ∙ sym c.can_push.ensures ∙ c.if-not-can_push.false) c.in-Ok.ensures)
