use Rattle.std.proofs.Common.{◌≡◌, ◌++◌, drop}
use Rattle.tc_plain.proofs.maps.BlobsCopied.copied.Given as goal

abbrev pub invariant-loop-text : goal.invariant-loop-text
invariant-loop-text l = l.copy ++ drop l.text-index l.self ≡ l.self
