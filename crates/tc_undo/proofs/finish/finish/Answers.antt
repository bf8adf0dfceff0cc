use Rattle.std.proofs.Common.{◌≡◌, ℕ, true}
use Rattle.ud_log.specs.Undo.{is_data}
use Rattle.ud_state.proofs.Open.{tx_undo}
use Rattle.ud_state.proofs.Taken.{calm_undo}
use Rattle.ud_state.proofs.Committing.{either_of, either_join, cut_lost, gone_lost, gone_since, gone_idle, idle_as}
use Rattle.tc_undo.proofs.finish.finish.Goals as goal

pub returns-in_err-sync_marked-clause-moments : goal.returns-in_err-sync_marked-clause-moments
returns-in_err-sync_marked-clause-moments g c = λ t.
    let cs = g.V.Volume.calls c.args.vol.now in
    let o = c.requires.open t in
    either_of cs (g.V.Volume.calls c.sync_marked.new.vol) (c.sync_marked.ensures.quiet t (calm_undo cs o.kept (tx_undo cs o.kept o.es o.tx) (g.met.V.Volume.now_is_image c.args.vol.now t)))

pub returns-in_err-cut-clause-moments : goal.returns-in_err-cut-clause-moments
returns-in_err-cut-clause-moments g c = λ t.
    let cs = g.V.Volume.calls c.args.vol.now in
    let o = c.requires.open t in
    let quiet = c.sync_marked.ensures.quiet t (calm_undo cs o.kept (tx_undo cs o.kept o.es o.tx) (g.met.V.Volume.now_is_image c.args.vol.now t)) in
    let only = c.in_ok-sync_marked.ensures.synced t in
    let there = λ (f : ℕ) (isd : is_data f ≡ true). c.in_ok-sync_marked.ensures.there t f isd (o.unchanged.each f isd) in
    either_join cs (g.V.Volume.calls c.sync_marked.new.vol) (g.V.Volume.calls c.cut.new.self) quiet only (cut_lost (g.V.Volume.calls c.sync_marked.new.vol) o.kept o.es (only.tx o.kept o.es o.tx) there (g.V.Volume.calls c.cut.new.self) (c.in_err-cut.ensures.lost t))

pub returns-in_err-sync-clause-moments : goal.returns-in_err-sync-clause-moments
returns-in_err-sync-clause-moments g c = λ t.
    let cs = g.V.Volume.calls c.args.vol.now in
    let o = c.requires.open t in
    let quiet = c.sync_marked.ensures.quiet t (calm_undo cs o.kept (tx_undo cs o.kept o.es o.tx) (g.met.V.Volume.now_is_image c.args.vol.now t)) in
    let only = c.in_ok-sync_marked.ensures.synced t in
    let there = λ (f : ℕ) (isd : is_data f ≡ true). c.in_ok-sync_marked.ensures.there t f isd (o.unchanged.each f isd) in
    either_join cs (g.V.Volume.calls c.sync_marked.new.vol) (g.V.Volume.calls c.sync.new.self) quiet only (gone_lost (g.V.Volume.calls c.sync_marked.new.vol) o.kept o.es (only.tx o.kept o.es o.tx) there (g.V.Volume.calls c.cut.new.self) (g.V.Volume.calls c.sync.new.self) (c.in_ok-cut.ensures.made t) (c.in_err-sync.ensures.lost t))

pub returns-clause-moments : goal.returns-clause-moments
returns-clause-moments g c = λ t.
    let cs = g.V.Volume.calls c.args.vol.now in
    let o = c.requires.open t in
    let quiet = c.sync_marked.ensures.quiet t (calm_undo cs o.kept (tx_undo cs o.kept o.es o.tx) (g.met.V.Volume.now_is_image c.args.vol.now t)) in
    let only = c.in_ok-sync_marked.ensures.synced t in
    let there = λ (f : ℕ) (isd : is_data f ≡ true). c.in_ok-sync_marked.ensures.there t f isd (o.unchanged.each f isd) in
    either_join cs (g.V.Volume.calls c.sync_marked.new.vol) (g.V.Volume.calls c.sync.new.self) quiet only (gone_since (g.V.Volume.calls c.sync_marked.new.vol) o.kept o.es (only.tx o.kept o.es o.tx) there (g.V.Volume.calls c.cut.new.self) (g.V.Volume.calls c.sync.new.self) (c.in_ok-cut.ensures.made t) (c.in_ok-sync.ensures.made t))

pub returns-clause-idle : goal.returns-clause-idle
returns-clause-idle g c = λ t.
    let cs = g.V.Volume.calls c.args.vol.now in
    let o = c.requires.open t in
    let only = c.in_ok-sync_marked.ensures.synced t in
    let there = λ (f : ℕ) (isd : is_data f ≡ true). c.in_ok-sync_marked.ensures.there t f isd (o.unchanged.each f isd) in
    idle_as cs (g.V.Volume.calls c.sync_marked.new.vol) (g.V.Volume.calls c.sync.new.self) only (gone_idle (g.V.Volume.calls c.sync_marked.new.vol) o.kept o.es (only.tx o.kept o.es o.tx) there (g.V.Volume.calls c.cut.new.self) (g.V.Volume.calls c.sync.new.self) (c.in_ok-cut.ensures.made t) (c.in_ok-sync.ensures.made t))
