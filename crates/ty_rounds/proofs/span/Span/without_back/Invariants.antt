use Rattle.std.proofs.Common.{◌-◌}
use Rattle.ty_rounds.specs.Spans.{IsSpan}
use Rattle.ty_rounds.proofs.span.Span.without_back.Given as goal

abbrev pub invariant-loop-span : goal.invariant-loop-span
invariant-loop-span l = IsSpan l.span l.peers

abbrev pub decreases-loop-span : goal.decreases-loop-span
decreases-loop-span l = l.span.to - l.span.from
