use Rattle.std.specs.Prelude.{flat_map, take}
use Rattle.tc_space.specs.Frames.{Keeps, Reads}
use Rattle.ty_base.specs.Holding.{Held}
use Rattle.tc_model.specs.Contents.{Contents}
use Rattle.tc_model.specs.Stores.{first_pair}
use Rattle.tc_engine.specs.Rows.{Adds, Extends, pair_rows}
use Rattle.ty_answers.proofs.reads.fill_pairs.Given as goal

abbrev pub invariant-loop-key : goal.invariant-loop-key
invariant-loop-key g l =
    let held = Held g.E.S.Space g.E.Storage.holds in
    record {
      reads : Reads g.E.S.Space held l.fn.engine l.engine l.fn.space l.space;
      keeps : Keeps g.E.S.Space l.fn.space l.space;
      front : Extends l.fn.into l.into;
      rows : (c : Contents) → held l.fn.engine l.fn.space c → Adds l.fn.into l.into (pair_rows (flat_map (first_pair c) (take l.key-index l.keys)));
    }
