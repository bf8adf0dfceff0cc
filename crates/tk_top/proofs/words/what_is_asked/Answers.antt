use Rattle.std.proofs.Common.{◌∙◌, ap, sym}
use Rattle.std.specs.Prelude.{Option}
use Rattle.tc_io.specs.declared.wire.At.TheVariants as at
use Rattle.ty_rounds.specs.declared.logging.Master.{Master}
use Rattle.tk_words.specs.declared.order.CommandLine.{CommandLine}
use Rattle.tk_top.specs.Words.{asked_for, served_at, source_with}
use Rattle.tk_top.specs.declared.words.Source.{Source}
use Rattle.tk_top.proofs.words.what_is_asked.Goals as goal

pub returns-in-Serve-clause-asked : goal.returns-in-Serve-clause-asked
returns-in-Serve-clause-asked c =
    c.served-in-Serve.ensures
    ∙ ap (λ (o : Option Source). served_at o (at.Host c.in-Serve.host c.in-Serve.port) c.in-Serve.turns) (c.source_with.ensures ∙ ap (λ (m : Option Master). source_with c.in-Serve.name c.in-Serve.limit c.in-Serve.ulog c.in-Serve.sid m) c.master_of.ensures)
    ∙ ap (λ (o : CommandLine). asked_for o) (sym c.in-Serve.is)
