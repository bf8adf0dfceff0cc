use Rattle.std.proofs.Common.{◌∙◌, sym, ap}
use Rattle.std.specs.List.{list_all}
use Rattle.tc_engine.specs.Changes.{all_stored}
use Rattle.tc_memdb.specs.Holding.{is_short}
use Rattle.tc_memdb.specs.Making.{makes}
use Rattle.tc_memdb.proofs.Every.{not_stored, all_set}
use Rattle.tc_memdb.proofs.engine.MemEngineEngine.store_all.Goals as goal

pub returns-then-not-are_short-clause-makes : goal.returns-then-not-are_short-clause-makes
returns-then-not-are_short-clause-makes c =
    makes _ (all_stored c.args.pairs) _ c.args.self.now _ _ c.requires.sound (not_stored c.args.self.now.held c.args.pairs (ap (list_all is_short) (sym c.as_slice.ensures) ∙ sym c.are_short.ensures ∙ c.if-not-are_short.true))

pub returns-clause-makes : goal.returns-clause-makes
returns-clause-makes c =
    makes _ (all_stored c.args.pairs) _ c.args.self.now _ _ c.requires.sound (all_set c.args.self.now.held c.set_each.new.self c.args.pairs (ap (list_all is_short) (sym c.as_slice.ensures) ∙ sym c.are_short.ensures ∙ c.if-not-are_short.false) c.in-Ok.ensures)
