use Rattle.tc_table.proofs.Packed.{list_formed, log_alone}
use Rattle.tc_table.proofs.packing.pack_list.Goals as goal

pub returns-clause-full : goal.returns-clause-full
returns-clause-full g c = λ is. log_alone g.M.S.Space g.M.Multi.lacks_large c.args.tree.now c.args.space.now c.pack.new.space (c.pack.ensures.full is)

pub returns-clause-stays : goal.returns-clause-stays
returns-clause-stays g c = list_formed g.M.S.Space.flag g.M.Multi.file_of g.M.Multi.made g.M.Multi.lead c.pack.result c.args.tree.now c.pack.new.self c.pack.new.space c.pack.ensures.stays
