use Rattle.std.proofs.Common.{◌∙◌, ◌++◌, ◌∷◌, [], sym, ap}
use Rattle.std.specs.Prelude.{option_map}
use Rattle.tc_model.specs.Texts.{parts}
use Rattle.tc_model.specs.Queries.{term_of}
use Rattle.td_query.specs.Drafts.{term_seen}
use Rattle.td_query.proofs.Drafting.{read_step}
use Rattle.td_query.proofs.reading.read_query.Goals as goal

pub loop-arg-preserved : goal.loop-arg-preserved
loop-arg-preserved c =
    let ts = c.loop-arg.invariant.0 in
    let t = term_seen c.in-Some.term in (
      ts ++ t ∷ [],
      c.in_ok-draft.ensures ts c.loop-arg.invariant.1,
      read_step c.as_slice-items.result.now c.loop-arg.arg-index c.arg-item.result _ ts t c.loop-arg-test.true c.arg-item.is
          (ap (λ x. term_of (parts x)) (sym c.as_slice.ensures) ∙ sym c.in_ok-term.ensures ∙ ap (λ x. option_map term_seen x) c.in-Some.is) c.loop-arg.invariant.2,
    )
