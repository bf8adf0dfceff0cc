use Rattle.std.proofs.Common.{rules, ap, drop, List, ℕ, ◌++◌, ◌∙◌}
use Rattle.tk_mgr.specs.Showing.{shown_as}
use Rattle.tk_mgr.proofs.Replies.{value_shown}
use Rattle.tk_mgr.proofs.reading.add_value.Goals as goal

pub returns-clause-value : goal.returns-clause-value
returns-clause-value g c = λ d h.
    value_shown c.args.key d c.look.new.reply c.args.into.now c.add_shown.new.into c.kind.result c.is_table-table.result c.in_ok-ok.ok (search rules) (c.kind.ensures (g.B.S.Space.now c.args.space.now) d h.1) c.is_table-table.ensures (c.in_ok-ok.ensures.told d h)
    (c.in_ok-add_shown.ensures ∙ ap (λ (l : List ℕ). c.args.into.now ++ shown_as c.is_table-table.result l) (c.behind.ensures ∙ ap (drop 5) c.as_slice.ensures))
