use Rattle.std.proofs.Common.{sym, ◌∙◌}
use Rattle.play_codec.proofs.Fitting.{asked_request_fits}
use Rattle.play_codec.proofs.answers.asked_of.Goals as goal

pub spelling_of-requires-clause-asked : goal.spelling_of-requires-clause-asked
spelling_of-requires-clause-asked c =
    let h = asked_request_fits c.requires.0 c.args.text c.requires.1 _ c.in-Do.request c.in-Do.reply c.requires.2 (sym c.in-Do.is ∙ c.in_ok-reply.ensures) in h.0

pub spelling_of-requires-clause-fits : goal.spelling_of-requires-clause-fits
spelling_of-requires-clause-fits c =
    let h = asked_request_fits c.requires.0 c.args.text c.requires.1 _ c.in-Do.request c.in-Do.reply c.requires.2 (sym c.in-Do.is ∙ c.in_ok-reply.ensures) in h.2
