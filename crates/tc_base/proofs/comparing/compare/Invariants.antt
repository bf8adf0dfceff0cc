use Rattle.std.proofs.Common.{◌≡◌, ◌-◌, length}
use Rattle.tc_base.proofs.Foreseeing.{horner}
use Rattle.tc_base.proofs.comparing.compare.Given as goal

abbrev pub decreases-eight : goal.decreases-eight
decreases-eight l = length l.a - l.at

abbrev pub invariant-eight : goal.invariant-eight
invariant-eight l = horner 0 l.at l.a ≡ horner 0 l.at l.b
