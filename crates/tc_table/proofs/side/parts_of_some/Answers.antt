use Rattle.std.proofs.Common.{◌∙◌, List, ℕ, subst, sym}
use Rattle.td_index.specs.Entries.{AreWhole}
use Rattle.tc_table.specs.Wholes.{firsts_whole, parts_some}
use Rattle.tc_table.proofs.side.parts_of_some.Goals as goal

pub returns-clause-parts : goal.returns-clause-parts
returns-clause-parts c = c.in_ok-found.ensures ∙ parts_some c.args.kind c.args.value.now

pub returns-clause-whole : goal.returns-clause-whole
returns-clause-whole c = subst (λ (gs : List (List ℕ)). AreWhole gs) (sym c.in_ok-found.ensures) (firsts_whole c.args.kind c.args.value.now c.requires)
