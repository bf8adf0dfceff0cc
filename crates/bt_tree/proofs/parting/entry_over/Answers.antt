use Rattle.std.proofs.Common.{List, ap, arith, ℕ, ◌∙◌}
use Rattle.bt_page.specs.declared.page.NodeEntry.{NodeEntry}
use Rattle.bt_tree.proofs.Pieces.{first_asked}
use Rattle.bt_tree.proofs.parting.entry_over.Goals as goal

abbrev the_entry : ℕ → List ℕ → NodeEntry
the_entry id key = record { child = id; key = key }

pub returns : goal.returns
returns c = ap (the_entry c.args.id) (c.in_ok-key.ensures ∙ first_asked c.args.leaf.now.items c.key.result.now (omega (arith, c.if-len-eq0.false, c.len.ensures)) c.key.ensures)
