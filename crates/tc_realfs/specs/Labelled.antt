-- The label of the copy that is bound.
use Rattle.std.specs.Prelude.{ℕ, List, Option, option_map}
use Rattle.tc_base.specs.LabelTexts.{text_of}
use Rattle.tc_base.specs.declared.label.Label.{Label}

abbrev pub text_in : Option Label → Option (List ℕ)
text_in label = option_map text_of label
