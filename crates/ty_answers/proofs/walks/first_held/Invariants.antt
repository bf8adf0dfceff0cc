use Rattle.std.proofs.Common.{◌≡◌, drop}
use Rattle.tc_space.specs.Frames.{Keeps, Reads}
use Rattle.ty_base.specs.Holding.{Held}
use Rattle.tc_model.specs.Contents.{Contents}
use Rattle.tc_model.specs.Apply.{next_of}
use Rattle.ty_answers.proofs.walks.first_held.Given as goal

abbrev pub invariant-loop-i : goal.invariant-loop-i
invariant-loop-i g l =
    let held = Held g.E.S.Space g.E.Storage.holds in
    record {
      reads : Reads g.E.S.Space held l.fn.engine l.engine l.fn.space l.space;
      keeps : Keeps g.E.S.Space l.fn.space l.space;
      keys : (c : Contents) → held l.fn.engine l.fn.space c → next_of c l.keys ≡ next_of c (drop l.i l.keys);
    }
