use Rattle.std.proofs.Common.{ap, ◌∙◌}
use Rattle.tc_btree.proofs.Puts.{list_packed, list_reads, values_of_item}
use Rattle.tc_btree.specs.Meaning.{item_values}
use Rattle.tc_btree.proofs.multi.BtreeMulti.all.Goals as goal

pub returns-clause-value : goal.returns-clause-value
returns-clause-value g c = λ ps held. c.values_of.ensures ∙ ap item_values (c.in_ok-item.ensures.value ps held) ∙ values_of_item _ _

pub returns-clause-reads : goal.returns-clause-reads
returns-clause-reads g c = list_reads g.R.S.Space g.R.Records g.O.Order _ _ _ _ c.find.ensures.asks.reads

pub returns-clause-stays : goal.returns-clause-stays
returns-clause-stays g c = list_packed g.R.Records _ _ c.find.ensures.asks.looks.made c.find.ensures.asks.stays c.find.ensures.asks.looks.tight

pub returns-in_err-item-clause-reads : goal.returns-in_err-item-clause-reads
returns-in_err-item-clause-reads g c = list_reads g.R.S.Space g.R.Records g.O.Order _ _ _ _ c.find.ensures.asks.reads

pub returns-in_err-item-clause-stays : goal.returns-in_err-item-clause-stays
returns-in_err-item-clause-stays g c = list_packed g.R.Records _ _ c.find.ensures.asks.looks.made c.find.ensures.asks.stays c.find.ensures.asks.looks.tight
