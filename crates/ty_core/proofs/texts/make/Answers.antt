use Rattle.std.proofs.Common.{◌∙◌, ap, refl, rules, List, ℕ}
use Rattle.std.specs.Prelude.{Option, None, if◌then◌else◌}
use Rattle.ty_base.specs.Holding.{is_idle, leaves_less}
use Rattle.ty_core.proofs.Texting.{asked_notes, asked_serves, asked_stays, reply_few}
use Rattle.ty_core.proofs.texts.make.Goals as goal

pub returns-clause-served : goal.returns-clause-served
returns-clause-served g c = record {
  feeds = refl;
  notes = asked_notes c.args.replica c.args.logs c.args.request _ c.in_ok-applied.applied.updated c.requires.asked c.requires.fits c.in_ok-applied.ensures.blocked refl
      (c.kept.ensures ∙ ap (λ (o : Option (List ℕ)). if c.in_ok-applied.applied.updated then o else None) c.in_ok-record.ensures) refl;
  few = reply_few c.in_ok-applied.applied.ok c.args.quiet c.args.reply.now c.args.waiting.now _ c.requires.short c.in-Ok.ensures.ok;
  serves = λ d h. let x = c.in_ok-applied.ensures.applied d h in (
    x.contents,
    x.holds,
    asked_serves c.args.replica c.args.logs c.args.quiet c.args.request c.args.reply.now c.in_ok-applied.applied _ d x.contents _ _ _ _ _ _ c.requires.asked c.requires.short c.in-Ok.ensures.ok refl
        (c.kept.ensures ∙ ap (λ (o : Option (List ℕ)). if c.in_ok-applied.applied.updated then o else None) c.in_ok-record.ensures) refl x.applies,
  );
}

pub returns-clause-leaves : goal.returns-clause-leaves
returns-clause-leaves g c = leaves_less g.B.S.Space g.B.Storage.own g.B.Storage.layout (is_idle c.args.request c.in_ok-applied.applied) _ c.args.space.now _ (λ none. (none, asked_stays c.args.request c.requires.asked)) c.in_ok-applied.ensures.leaves

pub returns-in_err-applied-clause-full : goal.returns-in_err-applied-clause-full
returns-in_err-applied-clause-full g c = λ is. let f = c.in_err-applied.ensures.full (search (rules, is)) in record { by = f.by }
