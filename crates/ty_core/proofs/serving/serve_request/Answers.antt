use Rattle.std.proofs.Common.{refl, rules, ap, ◌∙◌, List, ℕ}
use Rattle.std.specs.Prelude.{Option, None, if◌then◌else◌}
use Rattle.ty_core.proofs.Fronts.{kept_one, notes_of, serves}
use Rattle.ty_core.proofs.serving.serve_request.Goals as goal

pub returns-clause-served : goal.returns-clause-served
returns-clause-served g c = λ logs copied. record {
  feeds = c.asked_feed-feeds.ensures;
  notes = notes_of c.args.replica logs c.args.request _ c.in_ok-applied.applied.updated c.is_packing-packs.result c.requires.fits c.in_ok-applied.ensures.blocked refl
      (c.kept.ensures ∙ ap (λ (o : Option (List ℕ)). if c.in_ok-applied.applied.updated then o else None) copied)
      (kept_one c.args.request c.in_ok-label.label _ c.in_ok-applied.applied.ok c.in_ok-label.ensures c.kept-2.ensures);
  few = search rules;
  serves = λ d h. let x = c.in_ok-applied.ensures.applied d h in (
    x.contents,
    x.holds,
    serves c.args.replica logs c.args.request c.in_ok-applied.applied _ c.in_ok-label.label _ d x.contents _ _ _ _ refl c.is_packing-packs.ensures
        (c.kept.ensures ∙ ap (λ (o : Option (List ℕ)). if c.in_ok-applied.applied.updated then o else None) copied) c.in_ok-label.ensures c.kept-2.ensures x.applies,
  );
}

pub returns-in_err-applied-clause-full : goal.returns-in_err-applied-clause-full
returns-in_err-applied-clause-full g c = λ is. let f = c.in_err-applied.ensures.full (search (rules, is)) in record { writes = f.writes; packs = f.packs; by = f.by }
