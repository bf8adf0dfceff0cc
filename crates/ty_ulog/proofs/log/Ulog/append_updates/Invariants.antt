use Rattle.std.proofs.Common.{ℕ, ◌<◌, ◌^◌, List, length, take}
use Rattle.std.specs.Prelude.{All}
use Rattle.tc_io.specs.Told.{Adds}
use Rattle.ty_ulog.specs.Noting.{Gathers}
use Rattle.ty_ulog.proofs.log.Ulog.append_updates.Given as goal

abbrev pub invariant-loop-request : goal.invariant-loop-request
invariant-loop-request g l = record {
  ticks : List ℕ;
  told : Adds (g.K.Clock.answers l.fn.clock) (g.K.Clock.answers l.clock) ticks;
  small : All (λ t. t < 2 ^ 64) ticks;
  gathers : Gathers g.S.Space l.own ticks (take l.request-index l.updates) l.fn.self l.self l.fn.space l.space l.batch;
  few : length l.batch.bytes < 524288;
}
