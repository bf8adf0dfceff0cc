use Rattle.std.proofs.Common.{rules}
use Rattle.ty_base.specs.Holding.{is_idle, leaves_less, log_stays}
use Rattle.tk_mgr.proofs.Steps.{answered_ready, one_fills, one_made}
use Rattle.tk_mgr.proofs.making.make_one.Goals as goal

pub returns-clause-makes : goal.returns-clause-makes
returns-clause-makes g c = record {
  made = c.note.ensures.made;
  ready = answered_ready g.B.S.Space g.B.Storage.holds _ _ _ _ _ _ _ c.requires.ready c.in_ok-applied.ensures.leaves.sound c.in_ok-applied.ensures.answers;
  each = λ seed m h. one_made g.B.S.Space g.B.Storage.holds seed m _ _ c.has_rows-rows.result c.draw-x.result c.in_ok-request.request c.in_ok-applied.applied _ _ _ _ _
      c.note.ensures.made c.note.ensures.drawn c.note.ensures.accepted (λ e held. (c.draw-x.ensures, c.in_ok-request.ensures, c.has_rows-rows.ensures e (c.kind.ensures _ e held.1))) c.in_ok-applied.ensures.answers (log_stays g.B.S.Space g.B.Storage.own _ _ g.met.B.Storage.no_logs.1 c.in_ok-applied.ensures.leaves.others) h;
}

pub returns-in_err-applied-clause-full : goal.returns-in_err-applied-clause-full
returns-in_err-applied-clause-full g c = λ is seed m h. one_fills g.B.S.Space g.B.Storage.holds (g.B.S.Space.log_full c.ask.new.space) (g.B.Storage.fills_since c.args.space.now c.ask.new.space) (g.B.Storage.lacks_large c.args.space.now c.ask.new.space) seed m _ c.has_rows-rows.result c.draw-x.result c.in_ok-request.request _ _
    (λ e held. (c.draw-x.ensures, c.in_ok-request.ensures, c.has_rows-rows.ensures e (c.kind.ensures _ e held.1))) (λ e held. g.met.B.Storage.fills_then c.args.base.now c.args.space.now c.ask.new.space e _ ((c.in_err-applied.ensures.full (search (rules, is))).by e held)) h

pub returns-clause-leaves : goal.returns-clause-leaves
returns-clause-leaves g c = leaves_less g.B.S.Space g.B.Storage.own g.B.Storage.layout (is_idle c.in_ok-request.request c.in_ok-applied.applied) ⊥ c.args.space.now c.ask.new.space (λ never. absurd never) c.in_ok-applied.ensures.leaves
