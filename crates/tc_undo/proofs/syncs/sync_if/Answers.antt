use Rattle.std.proofs.Common.{ap, arith, length, sym, subst}
use Rattle.tc_io.specs.Images.{Calls}
use Rattle.ud_state.specs.State.{Durable}
use Rattle.ud_state.specs.Since.{quiet_refl}
use Rattle.ud_state.proofs.Taken.{quiet_synced, quiet_not_synced}
use Rattle.ud_state.proofs.Runs.{sync_only_refl, sync_only_made, sync_durable}
use Rattle.tc_undo.proofs.syncs.sync_if.Goals as goal

pub returns-then-not-marked-clause-quiet : goal.returns-then-not-marked-clause-quiet
returns-then-not-marked-clause-quiet g c = λ t calm. quiet_refl _

pub returns-then-not-marked-clause-synced : goal.returns-then-not-marked-clause-synced
returns-then-not-marked-clause-synced g c = λ t. sync_only_refl _

pub returns-in_err-sync-clause-quiet : goal.returns-in_err-sync-clause-quiet
returns-in_err-sync-clause-quiet g c = λ t calm. quiet_not_synced (g.V.Volume.calls c.args.vol.now) (g.V.Volume.calls c.sync.new.self) (g.met.V.Volume.now_is_image c.args.vol.now t) (g.met.V.Volume.now_is_image c.sync.new.self t) calm c.args.file (c.in_err-sync.ensures.lost t)

pub returns-clause-quiet : goal.returns-clause-quiet
returns-clause-quiet g c = λ t calm. quiet_synced (g.V.Volume.calls c.args.vol.now) (g.V.Volume.calls c.sync.new.self) (g.met.V.Volume.now_is_image c.args.vol.now t) (g.met.V.Volume.now_is_image c.sync.new.self t) calm c.args.file (c.in_ok-sync.ensures.made t)

pub returns-clause-synced : goal.returns-clause-synced
returns-clause-synced g c = λ t. sync_only_made (g.V.Volume.calls c.args.vol.now) (g.V.Volume.calls c.sync.new.self) c.args.file c.requires.is_data (g.met.V.Volume.now_is_image c.args.vol.now t) (c.in_ok-sync.ensures.made t)

pub returns-clause-there : goal.returns-clause-there
returns-clause-there g c = λ t old. subst (λ (d : Calls). Durable d c.args.file) (sym (c.in_ok-sync.ensures.made t)) (sync_durable (g.V.Volume.calls c.args.vol.now) c.args.file)

pub returns-then-not-marked-clause-grows : goal.returns-then-not-marked-clause-grows
returns-then-not-marked-clause-grows g c = λ t. omega arith

pub returns-clause-grows : goal.returns-clause-grows
returns-clause-grows g c = λ t. omega (arith, ap length (c.in_ok-sync.ensures.made t))
