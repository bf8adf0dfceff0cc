use Rattle.std.proofs.Common.{rules, ap, drop, refl, sym, subst, ◌∙◌}
use Rattle.tc_base.specs.declared.request.Request.{Request}
use Rattle.ty_base.proofs.Refusals.{err_is}
use Rattle.tk_mgr.specs.Asking.{IsIdle}
use Rattle.tk_mgr.specs.Tasks.{keys_found}
use Rattle.tk_mgr.specs.declared.task.Task.TheVariants as task
use Rattle.tk_mgr.proofs.Printing.{shows_lines, shows_front}
use Rattle.tk_mgr.proofs.Replies.{find_idle, keys_wanted}
use Rattle.tk_mgr.proofs.searching.search.Goals as goal

pub look-requires-clause-idle : goal.look-requires-clause-idle
look-requires-clause-idle g c = subst (λ (r : Request). IsIdle r) (sym c.in_ok-request.ensures) (find_idle c.args.wanted.now)

pub returns-clause-shows : goal.returns-clause-shows
returns-clause-shows g c = shows_lines g.B.S.Space g.B.Storage.holds g.B.Storage.lines (task.Search c.args.wanted.now c.args.values) c.args.values (keys_found c.args.wanted.now) _ c.look.new.base _ c.look.new.space c.behind.result.now _ _ (λ files d. refl)
    (λ d h. let k = keys_wanted c.args.wanted.now d c.in_ok-request.request c.look.new.reply c.behind.result.now c.in_ok-ok.ok (search rules) c.in_ok-request.ensures (c.in_ok-ok.ensures.told d h) (c.behind.ensures ∙ ap (drop 5) c.as_slice.ensures) in (c.in_ok-ok.ensures.looks.held d h, k.0, k.1))
    c.in_ok-print_lines.ensures.listed

pub returns-in_err-print_lines-clause-shows : goal.returns-in_err-print_lines-clause-shows
returns-in_err-print_lines-clause-shows g c = rw (err_is c.from_residual-in_err-print_lines.result _ c.from_residual-in_err-print_lines.ensures.1) (shows_front g.B.S.Space g.B.Storage.holds g.B.Storage.lines (task.Search c.args.wanted.now c.args.values) c.args.values (keys_found c.args.wanted.now) c.in_err-print_lines.field-0.0 _ c.look.new.base _ c.look.new.space c.behind.result.now _ _ (λ files d. refl)
    (λ d h. let k = keys_wanted c.args.wanted.now d c.in_ok-request.request c.look.new.reply c.behind.result.now c.in_ok-ok.ok (search rules) c.in_ok-request.ensures (c.in_ok-ok.ensures.told d h) (c.behind.ensures ∙ ap (drop 5) c.as_slice.ensures) in (c.in_ok-ok.ensures.looks.held d h, k.0, k.1))
    c.in_err-print_lines.ensures.listed)
