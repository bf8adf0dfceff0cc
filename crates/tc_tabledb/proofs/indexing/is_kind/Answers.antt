use Rattle.tc_tabledb.proofs.Chosen.{kind_same}
use Rattle.std.proofs.Common.{ap, sym}
use Rattle.tc_tabledb.specs.Indexing.{is_kind}
use Rattle.tc_tabledb.proofs.indexing.is_kind.Goals as goal

pub returns-in_default : goal.returns-in_default
returns-in_default c = sym (ap (λ o. is_kind o c.args.kind) c.in_default.is)

pub returns : goal.returns
returns c = kind_same c.args.had c.args.kind c.in-Some.other c.type_code.result c.type_code-2.result c.in-Some.is c.type_code.ensures c.type_code-2.ensures
