use Rattle.std.proofs.Common.{◌≡◌, drop}
use Rattle.tc_model.specs.Texts.{is_among}
use Rattle.tc_plain.proofs.texts.is_among.Given as goal

abbrev pub invariant-loop-other : goal.invariant-loop-other
invariant-loop-other l = is_among l.text l.texts ≡ is_among l.text (drop l.other-index l.texts)
