use Rattle.std.proofs.Common.{◌≡◌, ◌++◌, drop, map}
use Rattle.tc_base.specs.Lists.{pair}
use Rattle.tc_plain.proofs.indexes.push_all.Given as goal

abbrev pub invariant-loop-first : goal.invariant-loop-first
invariant-loop-first l = l.found ++ map (λ first. pair first l.key) (drop l.first-index l.firsts) ≡ l.fn.front ++ map (λ first. pair first l.key) l.firsts
