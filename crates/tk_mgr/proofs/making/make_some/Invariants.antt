use Rattle.tc_space.specs.Frames.{Keeps}
use Rattle.ty_base.specs.Holding.{Leaves}
use Rattle.tk_mgr.specs.Drilling.{Makes}
use Rattle.tk_mgr.proofs.making.make_some.Given as goal

abbrev pub invariant-loop-done : goal.invariant-loop-done
invariant-loop-done g l = let s = g.B.S.Space in record {
  makes : Makes s g.B.Storage.holds l._done l.fn.run l.run l.fn.base l.base l.fn.space l.space;
  leaves : Leaves s g.B.Storage.own g.B.Storage.layout ⊥ l.fn.space l.space;
  keeps : Keeps s l.fn.space l.space;
}
