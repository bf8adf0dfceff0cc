use Rattle.std.proofs.Common.{refl}
use Rattle.ty_rounds.specs.Works.{work}
use Rattle.ty_rounds.proofs.KeepingRound.{all_written, none_written}
use Rattle.ty_rounds.proofs.Telling.{Adds-none}
use Rattle.ty_rounds.proofs.committing.write_all.Goals as goal

pub returns-in-Some-clause-writes : goal.returns-in-Some-clause-writes
returns-in-Some-clause-writes g c = all_written g.S.Space (work c.args.batch.now) _ _ c.args.logged.now _ c.in-Some.logged c.write_records.new.logged c.args.space.now c.write_records.new.space c.write_records.result c.in-Some.is refl c.write_records.ensures.writes

pub returns-in-None-clause-writes : goal.returns-in-None-clause-writes
returns-in-None-clause-writes g c = none_written g.S.Space (work c.args.batch.now) (g.K.Clock.answers c.args.clock.now) c.args.logged.now c.args.space.now c.in-None.is (Adds-none (g.K.Clock.answers c.args.clock.now))
