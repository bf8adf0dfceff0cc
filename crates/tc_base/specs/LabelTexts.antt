-- The text of a label.
use Rattle.std.specs.Prelude.{ℕ, List, take}
use Rattle.tc_base.specs.declared.label.Label.{Label}

abbrev pub text_of : Label → List ℕ
text_of label = take label.len label.bytes
