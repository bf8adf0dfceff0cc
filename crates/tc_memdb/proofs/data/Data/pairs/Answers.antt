use Rattle.std.proofs.Common.{◌∷◌, [], ℕ, List, map, subst}
use Rattle.std.specs.Prelude.{Option, None, option_to_list}
use Rattle.tc_base.specs.Lists.{pair}
use Rattle.tc_maps.specs.Entries.{all_of}
use Rattle.tc_model.specs.Rows.{texts_of}
use Rattle.tc_engine.specs.Rows.{Adds, item_row}
use Rattle.tc_memdb.specs.Walked.{pair_items}
use Rattle.tc_memdb.proofs.Along.{walked_start, texts_rows}
use Rattle.tc_memdb.proofs.data.Data.pairs.Goals as goal

pub returns-in_ok-add_value-in-Map-clause-rows : goal.returns-in_ok-add_value-in-Map-clause-rows
returns-in_ok-add_value-in-Map-clause-rows c =
    let w = c.in_ok-add_value-in-Map.ensures.walked None c.args.rows.now [] (walked_start pair_items None c.args.rows.now) in
    let all : Adds c.args.rows.now c.add_value.new.rows (map item_row (texts_of (pair c.args.key.now c.in-Some.value.now ∷ []))) = w.added in
    rw c.in-Map.is (subst (λ (o : Option (List ℕ)). Adds c.args.rows.now c.add_value.new.rows (map item_row (texts_of (map (pair c.args.key.now) (option_to_list o))))) c.in-Some.ensures all)

pub returns-in_ok-add_entry-in-Tree-clause-rows : goal.returns-in_ok-add_entry-in-Tree-clause-rows
returns-in_ok-add_entry-in-Tree-clause-rows c =
    let w = c.in_ok-add_entry-in-Tree.ensures.walked None c.args.rows.now [] (walked_start pair_items None c.args.rows.now) in
    let ps = map (pair c.args.key.now) (all_of c.in-Some-values.values.now) in
    let all : Adds c.args.rows.now c.add_entry.new.rows (map item_row (texts_of ps)) = subst (Adds c.args.rows.now c.add_entry.new.rows) (texts_rows ps) w.added in
    rw c.in-Tree.is (subst (λ (vs : List (List ℕ)). Adds c.args.rows.now c.add_entry.new.rows (map item_row (texts_of (map (pair c.args.key.now) vs)))) c.in-Some-values.ensures all)
