-- What is known of a query while its arguments are read.
use Rattle.std.specs.Prelude.{◌≡◌, List, None, filter_map}
use Rattle.std.specs.List.{last_or}
use Rattle.td_query.specs.declared.reading.Term.{Term as Read}
use Rattle.td_query.specs.declared.reading.Term.TheVariants.{Condition, Ordering, Limit, Asks}
use Rattle.td_query.specs.declared.reading.Draft.{Draft}
use Rattle.tc_model.specs.Queries.{Term, condition, ordering, limit, asks, as_condition, as_ordering, as_limit, as_deed}

abbrev pub term_seen : Read → Term
term_seen (Condition c) = condition c
term_seen (Ordering s) = ordering s
term_seen (Limit maximum skip) = limit maximum skip
term_seen (Asks d) = asks d

-- the draft of these
pub record IsDraft (d : Draft) (ts : List Term) : Type 0 where
  pub conds : d.conds ≡ filter_map as_condition ts
  pub sort : d.sort ≡ last_or None (filter_map as_ordering ts)
  pub limit : d.limit ≡ last_or None (filter_map as_limit ts)
  pub deeds : d.deeds ≡ filter_map as_deed ts
