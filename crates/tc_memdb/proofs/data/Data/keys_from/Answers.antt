use Rattle.std.proofs.Common.{subst}
use Rattle.std.proofs.lemmas.Result.{on_ok_weaker}
use Rattle.std.specs.Map.{keys_of}
use Rattle.std.specs.FinMap.{keys}
use Rattle.tc_base.specs.Lists as list
use Rattle.tc_engine.specs.Rows.{Adds}
use Rattle.tc_memdb.proofs.Asked.{from_falls, keys_asked, map_keys}
use Rattle.tc_memdb.proofs.data.Data.keys_from.Goals as goal

pub add_keys-requires : goal.add_keys-requires
add_keys-requires c = from_falls c.args.prefix.now (keys_of c.entries_from.result) (keys c.in-Map.map) c.entries_from.ensures.rising (map_keys c.in-Map.map c.args.prefix.now c.entries_from.result c.entries_from.ensures.entries)

pub add_keys-requires-in-Tree : goal.add_keys-requires-in-Tree
add_keys-requires-in-Tree c = from_falls c.args.prefix.now (keys_of c.entries_from-in-Tree.result) (list.keys c.in-Tree.tree) c.entries_from-in-Tree.ensures.rising c.entries_from-in-Tree.ensures.keys

pub returns-in-Map-clause-rows : goal.returns-in-Map-clause-rows
returns-in-Map-clause-rows c = rw c.in-Map.is (on_ok_weaker c.add_keys.result (λ a.
    subst (Adds c.args.rows.now c.add_keys.new.rows) (keys_asked c.args.prefix.now c.args.most (keys_of c.entries_from.result) (keys c.in-Map.map) (map_keys c.in-Map.map c.args.prefix.now c.entries_from.result c.entries_from.ensures.entries)) a) c.add_keys.ensures.rows)

pub returns-in-Tree-clause-rows : goal.returns-in-Tree-clause-rows
returns-in-Tree-clause-rows c = rw c.in-Tree.is (on_ok_weaker c.add_keys-in-Tree.result (λ a.
    subst (Adds c.args.rows.now c.add_keys-in-Tree.new.rows) (keys_asked c.args.prefix.now c.args.most (keys_of c.entries_from-in-Tree.result) (list.keys c.in-Tree.tree) c.entries_from-in-Tree.ensures.keys) a) c.add_keys-in-Tree.ensures.rows)
