use Rattle.std.proofs.Common.{◌∙◌, sym, ap, List}
use Rattle.std.specs.Prelude.{filter}
use Rattle.std.specs.Ordering.{is_ge}
use Rattle.tc_base.specs.Maps.{Map}
use Rattle.tc_maps.specs.Sizes.{entries_on}
use Rattle.tc_maps.proofs.Seen.{order, from_same, from_rising}
use Rattle.tc_maps.proofs.Mapped.{Entry, same_entries}
use Rattle.tc_maps.proofs.bytemap.Bytemap.entries_from.Goals as goal

pub returns-clause-entries : goal.returns-clause-entries
returns-clause-entries c =
    c.range.ensures.between tt ∙ from_same c.args.from.now c.self.inside.entries.entries
    ∙ ap (λ (es : List Entry). filter (λ e. is_ge (order e.0 c.args.from.now)) es) (sym (same_entries c.self.inside.entries.entries c.self.invariant.sorted))
    ∙ ap (λ (m : Map). entries_on c.args.from.now m) c.self.view_is

pub returns-clause-rising : goal.returns-clause-rising
returns-clause-rising c = from_rising _ _ c.args.from.now c.self.invariant.sorted (c.range.ensures.between tt)
