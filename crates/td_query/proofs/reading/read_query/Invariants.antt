use Rattle.std.proofs.Common.{◌≡◌, ◌++◌, List, drop}
use Rattle.std.specs.Prelude.{option_map}
use Rattle.tc_model.specs.Queries.{Term, terms}
use Rattle.td_query.specs.Drafts.{IsDraft}
use Rattle.td_query.proofs.reading.read_query.Given as goal

abbrev pub invariant-loop-arg : goal.invariant-loop-arg
invariant-loop-arg l = (ts : List Term) × IsDraft l.draft ts × (terms l.items ≡ option_map (λ us. ts ++ us) (terms (drop l.arg-index l.items)))
