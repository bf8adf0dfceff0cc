use Rattle.tc_engine.specs.Changes.{row_stored}
use Rattle.tc_engine.specs.Tables.{makes_none, no_row}
use Rattle.tc_memdb.specs.Holding.{never_table}
use Rattle.tc_memdb.specs.Making.{Holds}
use Rattle.ty_base.specs.Holding.{no_layout}
use Rattle.tc_memdb.proofs.engine.MemEngineEngine.store_row.Goals as goal

pub returns-clause-makes : goal.returns-clause-makes
returns-clause-makes c = makes_none _ (λ file. ⊥) no_layout Holds (row_stored c.args._mode c.args._key c.args._columns) _ _ c.requires.sound (λ m h. no_row m c.args._mode c.args._key c.args._columns (never_table _ m h.1))
