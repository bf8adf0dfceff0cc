-- The label of a copy that is asked for.
use Rattle.std.specs.Prelude.{List, ℕ, Option, Some, None, if◌then◌else◌}
use Rattle.tc_base.specs.Labels.{is_label}
use Rattle.tc_base.specs.declared.request.Request.{Request}
use Rattle.tc_base.specs.declared.request.Request.TheVariants.{Copy}

-- the text of a copy, where it is a label; no other request asks for one
abbrev pub label_in : Request → Option (List ℕ)
label_in (Copy text) = if is_label text then Some text else None
label_in _ = None
