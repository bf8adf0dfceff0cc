use Rattle.std.proofs.Common.{◌≡◌, ◌++◌, drop}
use Rattle.tc_plain.proofs.Joined.{behind}
use Rattle.tc_plain.proofs.rows.joined_behind.Given as goal

abbrev pub invariant-loop-text : goal.invariant-loop-text
invariant-loop-text l = l.all ++ behind (drop l.text-index l.rest) ≡ l.first ++ behind l.rest
