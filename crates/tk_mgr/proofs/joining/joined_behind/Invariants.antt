use Rattle.std.proofs.Common.{◌≡◌, ◌++◌, drop}
use Rattle.tk_mgr.proofs.Between.{behind}
use Rattle.tk_mgr.proofs.joining.joined_behind.Given as goal

abbrev pub invariant-loop-text : goal.invariant-loop-text
invariant-loop-text l = l.all ++ behind (drop l.text-index l.rest) ≡ l.first ++ behind l.rest
