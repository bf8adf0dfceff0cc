use Rattle.std.proofs.Common.{All, take}
use Rattle.ty_ulog.specs.Updates.{IsUpdating}
use Rattle.play_logs.proofs.rounds.are_updates.Given as goal

abbrev pub invariant-loop-request : goal.invariant-loop-request
invariant-loop-request l = record { updating : All IsUpdating (take l.request-index l.requests) }
