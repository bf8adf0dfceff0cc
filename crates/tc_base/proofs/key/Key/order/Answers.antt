use Rattle.std.proofs.Common.{ap}
use Rattle.tc_base.specs.Bodies.{of_body}
use Rattle.tc_base.proofs.Foreseeing.{foreseen_of, foreseen_by_first, foreseen_by_second}
use Rattle.tc_base.proofs.key.Key.order.Goals as goal

pub returns-in-Short-Short : goal.returns-in-Short-Short
returns-in-Short-Short c = foreseen_of 5 _ _ _ _ _ _ _ c.self.view_is c.other.view_is c.self.invariant c.other.invariant (ap of_body c.in-Short-Short.is-0) (ap of_body c.in-Short-Short.is-1) c.order.ensures

pub returns-then-a-b : goal.returns-then-a-b
returns-then-a-b c = foreseen_by_first _ _ _ _ _ _ _ c.self.view_is c.other.view_is c.self.invariant c.other.invariant c.first-a.ensures c.first-b.ensures c.cmp.ensures

pub returns : goal.returns
returns c = foreseen_by_second _ _ _ _ _ _ _ _ _ c.self.view_is c.other.view_is c.self.invariant c.other.invariant c.first-a.ensures c.first-b.ensures c.if-a-b.false c.second.ensures c.second-2.ensures c.cmp-2.ensures
