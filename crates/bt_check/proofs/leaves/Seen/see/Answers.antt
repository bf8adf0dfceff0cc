use Rattle.std.proofs.Common.{◌++◌, Some, sym, refl, subst}
use Rattle.std.specs.Prelude.{option_to_list, ◌&&◌}
use Rattle.bt_rows.specs.Orders.{before_by}
use Rattle.bt_check.specs.Leaves.{IsSeen, at_place, last_at}
use Rattle.bt_check.specs.declared.leaves.Seen.{Seen}
use Rattle.bt_check.proofs.Orders.{transitive}
use Rattle.bt_check.proofs.Seen.{seen_more, and_if, and_iff, end_ascends}
use Rattle.bt_check.proofs.leaves.Seen.see.Goals as goal

pub returns : goal.returns
returns g c = λ ls s.
    let before = before_by g.O.Order.cmp in
    let new : Seen = record { last = Some c.in-Some.m; ordered = c.args.self.now.ordered && c.is_behind.result; linked = c.args.self.now.linked && c.is_tied.result; left = c.count_off-self.result } in
    subst (λ o. IsSeen before c.args.head.now (ls ++ option_to_list (last_at o)) new) (sym c.in-Some.is)
    (seen_more before (transitive g.O.Order.cmp g.met.O.Order.total) c.args.head.now ls (at_place c.in-Some.m) c.args.self.now new s refl
    (and_if c.args.self.now.ordered c.is_behind.result _ (λ o. c.is_behind.ensures (end_ascends before (transitive g.O.Order.cmp g.met.O.Order.total) c.args.head.now ls c.args.self.now s o))) (and_iff c.args.self.now.linked c.is_tied.result _ c.is_tied.ensures)
    c.count_off-self.ensures)
