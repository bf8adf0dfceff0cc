use Rattle.std.proofs.Common.{◌∙◌, sym}
use Rattle.tc_tabledb.proofs.opening.open_tree.Goals as goal

pub open_decimal-requires-clause-told : goal.open_decimal-requires-clause-told
open_decimal-requires-clause-told g c = sym c.is_by_number.ensures ∙ c.if-is_by_number.true

pub open_lexical-requires-clause-told : goal.open_lexical-requires-clause-told
open_lexical-requires-clause-told g c = sym c.is_by_number.ensures ∙ c.if-is_by_number.false
