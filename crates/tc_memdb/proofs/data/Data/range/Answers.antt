use Rattle.std.proofs.Common.{subst}
use Rattle.std.specs.Prelude.{option_map}
use Rattle.std.specs.Map.{keys_of}
use Rattle.std.proofs.lemmas.Result.{on_ok_weaker}
use Rattle.tc_engine.specs.Rows.{Adds}
use Rattle.tc_memdb.proofs.Asked.{before_falls, range_asked}
use Rattle.tc_memdb.proofs.data.Data.range.Goals as goal

pub add_range-requires : goal.add_range-requires
add_range-requires c = before_falls _ (keys_of c.entries_from.result) c.entries_from.ensures.rising

pub returns-in-Tree-clause-rows : goal.returns-in-Tree-clause-rows
returns-in-Tree-clause-rows c = rw c.in-Tree.is (on_ok_weaker c.add_range.result (λ a.
    subst (Adds c.args.rows.now c.add_range.new.rows) (range_asked c.args.from.now (option_map (λ k. k.now) c.args.to) c.args.most c.entries_from.result c.in-Tree.tree c.entries_from.ensures.pairs) a) c.add_range.ensures.rows)
