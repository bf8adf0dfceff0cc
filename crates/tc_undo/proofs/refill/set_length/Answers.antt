use Rattle.std.proofs.Common.{◌∙◌, ◌∷◌, ap, subst, arith}
use Rattle.tc_io.specs.Images.{Calls, cut_to, IsLost}
use Rattle.ud_state.specs.State.{Filled, FillsQuietly}
use Rattle.ud_state.proofs.Runs.{resized_filled, resizes_filled, resized_cut, resizes_made, resizes_lost, resizes_same}
use Rattle.tc_undo.proofs.refill.set_length.Goals as goal

pub returns-in_err-from-clause-quiet : goal.returns-in_err-from-clause-quiet
returns-in_err-from-clause-quiet g c = λ t. resizes_same _ _ c.args.file c.args.len (c.len.ensures.calls t)

pub returns-in_err-cut-clause-quiet : goal.returns-in_err-cut-clause-quiet
returns-in_err-cut-clause-quiet g c = λ t.
    let lost = subst (λ (d : Calls). IsLost d (g.V.Volume.calls c.cut.new.self) c.args.file (cut_to c.args.len)) (c.len.ensures.calls t) (c.in_err-cut.ensures.lost t) in
    resizes_lost (g.V.Volume.calls c.args.vol.now) (g.V.Volume.calls c.cut.new.self) c.args.file c.args.len c.requires.is_data (g.met.V.Volume.now_is_image c.args.vol.now t) (g.met.V.Volume.now_is_image c.cut.new.self t) lost

pub returns-then-len-from-clause-quiet : goal.returns-then-len-from-clause-quiet
returns-then-len-from-clause-quiet g c = λ t.
    let made = c.in_ok-cut.ensures.made t ∙ ap (λ (d : Calls). (c.args.file, cut_to c.args.len) ∷ d) (c.len.ensures.calls t) in
    resizes_made (g.V.Volume.calls c.args.vol.now) (g.V.Volume.calls c.cut.new.self) c.args.file c.args.len c.requires.is_data (g.met.V.Volume.now_is_image c.args.vol.now t) (g.met.V.Volume.now_is_image c.cut.new.self t) made

pub returns-then-len-from-clause-resized : goal.returns-then-len-from-clause-resized
returns-then-len-from-clause-resized g c = λ t.
    let made = c.in_ok-cut.ensures.made t ∙ ap (λ (d : Calls). (c.args.file, cut_to c.args.len) ∷ d) (c.len.ensures.calls t) in
    resized_cut (g.V.Volume.calls c.args.vol.now) (g.V.Volume.calls c.cut.new.self) c.args.file c.args.len c.requires.is_data (omega (arith, c.if-len-from.true, c.in_ok-from.ensures.len t)) made

pub returns-in_err-fill-clause-quiet : goal.returns-in_err-fill-clause-quiet
returns-in_err-fill-clause-quiet g c = λ t.
    let here = c.in_ok-from.ensures.len t in
    let fills = subst (λ (d : Calls). FillsQuietly d (g.V.Volume.calls c.fill.new.vol) c.args.file c.in_ok-from.from) (c.len.ensures.calls t) (c.fill.ensures.quiet t) in
    resizes_filled (g.V.Volume.calls c.args.vol.now) (g.V.Volume.calls c.fill.new.vol) c.args.file c.args.len (subst (λ k. FillsQuietly (g.V.Volume.calls c.args.vol.now) (g.V.Volume.calls c.fill.new.vol) c.args.file k) here fills)

pub returns-clause-quiet : goal.returns-clause-quiet
returns-clause-quiet g c = λ t.
    let here = c.in_ok-from.ensures.len t in
    let fills = subst (λ (d : Calls). FillsQuietly d (g.V.Volume.calls c.fill.new.vol) c.args.file c.in_ok-from.from) (c.len.ensures.calls t) (c.fill.ensures.quiet t) in
    resizes_filled (g.V.Volume.calls c.args.vol.now) (g.V.Volume.calls c.fill.new.vol) c.args.file c.args.len (subst (λ k. FillsQuietly (g.V.Volume.calls c.args.vol.now) (g.V.Volume.calls c.fill.new.vol) c.args.file k) here fills)

pub returns-clause-resized : goal.returns-clause-resized
returns-clause-resized g c = λ t.
    let here = c.in_ok-from.ensures.len t in
    let filled = subst (λ (d : Calls). Filled d (g.V.Volume.calls c.fill.new.vol) c.args.file c.in_ok-from.from c.args.len) (c.len.ensures.calls t) (c.in_ok-fill.ensures.filled t) in
    resized_filled (g.V.Volume.calls c.args.vol.now) (g.V.Volume.calls c.fill.new.vol) c.args.file c.args.len (omega (arith, here, c.if-len-from.false)) (subst (λ k. Filled (g.V.Volume.calls c.args.vol.now) (g.V.Volume.calls c.fill.new.vol) c.args.file k c.args.len) here filled)
