use Rattle.tc_btree.proofs.Puts.{list_packed, list_reads}
use Rattle.tc_btree.proofs.multi.BtreeMulti.range.Goals as goal

pub returns-clause-reads : goal.returns-clause-reads
returns-clause-reads g c = list_reads g.R.S.Space g.R.Records g.O.Order _ _ _ _ c.range.ensures.asks.reads

pub returns-clause-stays : goal.returns-clause-stays
returns-clause-stays g c = list_packed g.R.Records _ _ c.range.ensures.asks.looks.made c.range.ensures.asks.stays c.range.ensures.asks.looks.tight
