use Rattle.std.proofs.Common.{refl, ap, List, ℕ, ◌++◌, ◌∙◌, true}
use Rattle.tk_mgr.specs.declared.task.Task.TheVariants as task
use Rattle.tk_mgr.specs.Tasks.{told_of}
use Rattle.tk_mgr.proofs.Printing.{shows_text}
use Rattle.tk_mgr.proofs.informing.inform.Goals as goal

pub returns-clause-shows : goal.returns-clause-shows
returns-clause-shows g c = shows_text g.B.S.Space g.B.Storage.holds g.B.Storage.lines task.Inform true c.as_slice.result.now c.show.result _ _ _ _
    (λ d h. (refl, λ e. let i = c.in_ok-inspect.ensures.told d h in (i.tail, i.of_files, c.as_slice.ensures ∙ i.text ∙ ap (λ (l : List ℕ). l ++ (told_of d ++ i.tail)) c.new-text.ensures)))
    c.show.ensures.shown
