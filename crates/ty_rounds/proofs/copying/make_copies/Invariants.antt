use Rattle.std.proofs.Common.{◌≡◌, map, take}
use Rattle.tc_base.specs.LabelTexts.{text_of}
use Rattle.ty_rounds.proofs.CopyLaws.{CopiesFront}
use Rattle.ty_rounds.proofs.copying.make_copies.Given as goal

abbrev pub invariant-loop-label : goal.invariant-loop-label
invariant-loop-label g l = record {
  front : CopiesFront g.S.Space l.fn.space l.space (map text_of (take l.label-index l.labels)) l.label-index;
  counted : g.S.Space.bytes_read l.space ≡ g.S.Space.bytes_read l.fn.space;
}
