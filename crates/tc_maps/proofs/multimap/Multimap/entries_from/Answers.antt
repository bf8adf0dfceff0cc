use Rattle.std.proofs.Common.{◌∙◌, ap}
use Rattle.std.specs.Prelude.{filter}
use Rattle.std.specs.Ordering.{is_ge}
use Rattle.tc_base.specs.Lists.{from_on, keys}
use Rattle.tc_maps.proofs.Seen.{order, from_seen, from_keys, from_rising}
use Rattle.tc_maps.proofs.multimap.Multimap.entries_from.Goals as goal

pub returns-clause-pairs : goal.returns-clause-pairs
returns-clause-pairs c = from_seen _ _ c.args.from.now (c.range.ensures.between tt) ∙ ap (from_on order c.args.from.now) c.self.view_is

pub returns-clause-keys : goal.returns-clause-keys
returns-clause-keys c = from_keys _ _ c.args.from.now c.self.invariant.sorted (c.range.ensures.between tt) ∙ ap (λ ps. filter (λ y. is_ge (order y c.args.from.now)) (keys ps)) c.self.view_is

pub returns-clause-rising : goal.returns-clause-rising
returns-clause-rising c = from_rising _ _ c.args.from.now c.self.invariant.sorted (c.range.ensures.between tt)
