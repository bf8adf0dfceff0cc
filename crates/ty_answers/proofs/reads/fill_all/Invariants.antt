use Rattle.std.specs.Prelude.{flat_map}
use Rattle.tc_space.specs.Frames.{Keeps, Reads}
use Rattle.ty_base.specs.Holding.{Held}
use Rattle.tc_model.specs.Contents.{Contents}
use Rattle.tc_model.specs.Stores.{all_pairs}
use Rattle.tc_engine.specs.Rows.{Adds, Extends}
use Rattle.ty_answers.proofs.Filling.{text_rows}
use Rattle.ty_answers.proofs.reads.fill_all.Given as goal

abbrev pub invariant-loop-key : goal.invariant-loop-key
invariant-loop-key g l =
    let held = Held g.E.S.Space g.E.Storage.holds in
    record {
      reads : Reads g.E.S.Space held l.initial.engine l.engine l.initial.space l.space;
      keeps : Keeps g.E.S.Space l.initial.space l.space;
      front : Extends l.initial.into l.into;
      rows : (c : Contents) → held l.initial.engine l.initial.space c → Adds l.initial.into l.into (text_rows (flat_map (all_pairs c) l.yielded));
    }
