use Rattle.std.proofs.Common.{rules, ap, drop, refl, ◌∙◌}
use Rattle.std.specs.Int.{w32}
use Rattle.std.proofs.lemmas.Int.{to_z-of_z}
use Rattle.ty_base.proofs.Refusals.{err_is}
use Rattle.tk_mgr.proofs.Printing.{shows_lines, shows_front}
use Rattle.tk_mgr.proofs.Replies.{keys_asked}
use Rattle.tk_mgr.specs.Tasks.{keys_listed}
use Rattle.tk_mgr.specs.declared.task.Task.TheVariants as task
use Rattle.tk_mgr.proofs.listing.list.Goals as goal

pub returns-clause-shows : goal.returns-clause-shows
returns-clause-shows g c = shows_lines g.B.S.Space g.B.Storage.holds g.B.Storage.lines (task.List c.args.maximum c.args.values) c.args.values (keys_listed c.args.maximum) _ c.look.new.base _ c.look.new.space c.behind.result.now _ _ (λ files d. refl)
    (λ d h. let k = keys_asked c.args.maximum d c.new-2.result _ c.look.new.reply c.behind.result.now c.in_ok-ok.ok (search rules) (c.new-2.ensures ∙ c.new.ensures) (to_z-of_z w32 c.limit_of.result (search rules) ∙ c.limit_of.ensures) (c.in_ok-ok.ensures.told d h) (c.behind.ensures ∙ ap (drop 5) c.as_slice.ensures) in (c.in_ok-ok.ensures.looks.held d h, k.0, k.1))
    c.in_ok-print_lines.ensures.listed

pub returns-in_err-print_lines-clause-shows : goal.returns-in_err-print_lines-clause-shows
returns-in_err-print_lines-clause-shows g c = rw (err_is c.from_residual-in_err-print_lines.result _ c.from_residual-in_err-print_lines.ensures.1) (shows_front g.B.S.Space g.B.Storage.holds g.B.Storage.lines (task.List c.args.maximum c.args.values) c.args.values (keys_listed c.args.maximum) c.in_err-print_lines.field-0.0 _ c.look.new.base _ c.look.new.space c.behind.result.now _ _ (λ files d. refl)
    (λ d h. let k = keys_asked c.args.maximum d c.new-2.result _ c.look.new.reply c.behind.result.now c.in_ok-ok.ok (search rules) (c.new-2.ensures ∙ c.new.ensures) (to_z-of_z w32 c.limit_of.result (search rules) ∙ c.limit_of.ensures) (c.in_ok-ok.ensures.told d h) (c.behind.ensures ∙ ap (drop 5) c.as_slice.ensures) in (c.in_ok-ok.ensures.looks.held d h, k.0, k.1))
    c.in_err-print_lines.ensures.listed)
