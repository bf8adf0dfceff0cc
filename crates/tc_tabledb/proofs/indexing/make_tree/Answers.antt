use Rattle.std.proofs.Common.{◌∙◌, sym}
use Rattle.tc_tabledb.proofs.indexing.make_tree.Goals as goal

pub make_decimal-requires-clause-order : goal.make_decimal-requires-clause-order
make_decimal-requires-clause-order g c = sym c.by_number.ensures ∙ c.if-by_number.true

pub make_lexical-requires-clause-order : goal.make_lexical-requires-clause-order
make_lexical-requires-clause-order g c = sym c.by_number.ensures ∙ c.if-by_number.false
