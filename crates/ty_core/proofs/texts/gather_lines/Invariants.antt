use Rattle.std.proofs.Common.{◌≡◌, ◌≤◌, ◌+◌, ◌++◌, Bool, length, take}
use Rattle.tc_space.specs.Frames.{Keeps, Reads}
use Rattle.tc_model.specs.Contents.{Contents, Walk}
use Rattle.ty_wire.specs.Prefixes.{IsPrefix}
use Rattle.ty_pieces.specs.Pieces.{got}
use Rattle.ty_base.specs.Holding.{Held, IsReady}
use Rattle.ty_core.specs.Texts.{lines}
use Rattle.ty_core.proofs.texts.gather_lines.Given as goal

abbrev pub invariant-loop-key : goal.invariant-loop-key
invariant-loop-key g l =
    let held = Held g.B.S.Space g.B.Storage.holds in
    record {
      ready : IsReady g.B.S.Space g.B.Storage.holds l.base l.space;
      reads : Reads g.B.S.Space held l.fn.base l.base l.fn.space l.space;
      keeps : Keeps g.B.S.Space l.fn.space l.space;
      front : IsPrefix l.fn.waiting l.waiting;
      came : (replica : Bool) (w : Walk) (c : Contents) → held l.fn.base l.fn.space c → l.waiting ≡ l.fn.waiting ++ lines (got replica c w) (take l.key-index l.key-items);
      few : length l.waiting + 5 ≤ length l.fn.waiting + 67108864;
    }
