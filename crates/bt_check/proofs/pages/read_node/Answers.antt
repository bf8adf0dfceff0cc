use Rattle.std.proofs.Common.{◌∙◌, sym}
use Rattle.std.specs.FinMap.{get}
use Rattle.bt_page.specs.Keys.{key_of}
use Rattle.bt_check.proofs.Collects.{node_parsed, read_none, read_some}
use Rattle.bt_check.proofs.pages.read_node.Goals as goal

pub returns-in_default-clause-read : goal.returns-in_default-clause-read
returns-in_default-clause-read g c = λ m i. read_none c.args.id (get m (key_of c.args.id)) (sym (c.in_ok-bytes.ensures.value m i) ∙ c.in_default.is)

pub returns-clause-read : goal.returns-clause-read
returns-clause-read g c = λ m i. read_some c.args.id (get m (key_of c.args.id)) c.in-Some.bytes _ (sym (c.in_ok-bytes.ensures.value m i) ∙ c.in-Some.is) (node_parsed c.args.id c.in-Some.bytes c.read.result c.requires.id c.read.ensures.found c.read.ensures.none)
