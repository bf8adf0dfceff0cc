use Rattle.std.proofs.Common.{rules}
use Rattle.ud_state.specs.Since.{quiet_then}
use Rattle.ud_state.proofs.Taken.{quiet_synced, quiet_not_synced}
use Rattle.tc_undo.proofs.Ahead.{calm_pending, pending_made}
use Rattle.tc_undo.proofs.gather.bring.Goals as goal

pub returns-in_err-sync-clause-quiet : goal.returns-in_err-sync-clause-quiet
returns-in_err-sync-clause-quiet g c = record {
  stays = search rules;
  quiet = λ t.
      let mid = g.V.Volume.calls c.flush.new.vol in
      let new = g.V.Volume.calls c.sync.new.self in
      let image = g.met.V.Volume.now_is_image c.flush.new.vol t in
      let calm = calm_pending mid (pending_made _ mid (c.in_ok-flush.ensures.made t) (c.requires.pending t)) image in
      quiet_then _ mid new (c.flush.ensures.quiet.quiet t) (quiet_not_synced mid new image (g.met.V.Volume.now_is_image c.sync.new.self t) calm 1 (c.in_err-sync.ensures.lost t));
}

pub returns-clause-quiet : goal.returns-clause-quiet
returns-clause-quiet g c = record {
  stays = search rules;
  quiet = λ t.
      let mid = g.V.Volume.calls c.flush.new.vol in
      let new = g.V.Volume.calls c.sync.new.self in
      let image = g.met.V.Volume.now_is_image c.flush.new.vol t in
      let calm = calm_pending mid (pending_made _ mid (c.in_ok-flush.ensures.made t) (c.requires.pending t)) image in
      quiet_then _ mid new (c.flush.ensures.quiet.quiet t) (quiet_synced mid new image (g.met.V.Volume.now_is_image c.sync.new.self t) calm 1 (c.in_ok-sync.ensures.made t));
}
