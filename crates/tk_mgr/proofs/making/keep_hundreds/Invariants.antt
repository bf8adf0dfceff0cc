use Rattle.std.proofs.Common.{◌*◌, ℕ}
use Rattle.tc_space.specs.Frames.{Follows}
use Rattle.ty_base.specs.Holding.{Frame, Laid}
use Rattle.ty_world.specs.World.{Mark}
use Rattle.tk_mgr.specs.Drilling.{LeavesHundreds, Secures, Stands, StandsOn}
use Rattle.tk_mgr.proofs.making.keep_hundreds.Given as goal

abbrev pub invariant-loop-done : goal.invariant-loop-done
invariant-loop-done g l = let s = g.B.S.Space in let holds = g.B.Storage.holds in let reopens = g.B.Storage.reopens in record {
  secures : Secures s holds reopens (100 * l._done) l.fn.run l.run l.fn.base l.base l.fn.space l.space;
  moments : (seed : ℕ) (m : Mark) → Stands s holds reopens seed l.fn.run l.fn.base l.fn.space m → LeavesHundreds s reopens l.fn.space l.space seed l._done m;
  laid : (y : Frame) → StandsOn s holds (Laid g.B.Storage.own g.B.Storage.layout y reopens) l.fn.run l.run l.fn.base l.base l.fn.space l.space;
  moved : (y : Frame) (seed : ℕ) (m : Mark) → Stands s holds (Laid g.B.Storage.own g.B.Storage.layout y reopens) seed l.fn.run l.fn.base l.fn.space m → LeavesHundreds s (Laid g.B.Storage.own g.B.Storage.layout y reopens) l.fn.space l.space seed l._done m;
  follows : Follows s l.fn.space l.space;
}
