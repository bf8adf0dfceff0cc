use Rattle.std.proofs.Common.{◌+◌, ◌∙◌, ap, length, ℕ, arith, length-append}
use Rattle.std.proofs.lemmas.List.{take-replicate, length-replicate}
use Rattle.ud_state.specs.State.{Filled}
use Rattle.ud_state.proofs.Runs.{filled_made, fills_made, fills_lost}
use Rattle.tc_undo.proofs.refill.fill_some.Goals as goal

pub returns-in_err-write-clause-quiet : goal.returns-in_err-write-clause-quiet
returns-in_err-write-clause-quiet g c = λ t. fills_lost (g.V.Volume.calls c.args.vol.now) (g.V.Volume.calls c.write.new.self) c.args.file c.args.place c.args.n _ c.requires.is_data (take-replicate c.args.n 4096 0 c.requires.few) (g.met.V.Volume.now_is_image c.args.vol.now t) (g.met.V.Volume.now_is_image c.write.new.self t) (c.in_err-write.ensures.lost t)

pub returns-clause-quiet : goal.returns-clause-quiet
returns-clause-quiet g c = λ t. fills_made (g.V.Volume.calls c.args.vol.now) (g.V.Volume.calls c.write.new.self) c.args.file c.args.place c.args.n _ c.requires.is_data (take-replicate c.args.n 4096 0 c.requires.few) (g.met.V.Volume.now_is_image c.args.vol.now t) (g.met.V.Volume.now_is_image c.write.new.self t) (c.in_ok-write.ensures.made t)

pub returns-clause-filled : goal.returns-clause-filled
returns-clause-filled g c = λ t. filled_made (g.V.Volume.calls c.args.vol.now) (g.V.Volume.calls c.write.new.self) c.args.file c.args.place c.args.n _ c.requires.is_data (take-replicate c.args.n 4096 0 c.requires.few) (c.in_ok-write.ensures.made t)

pub returns-clause-end : goal.returns-clause-end
returns-clause-end g c = λ t.
    let f : Filled (g.V.Volume.calls c.args.vol.now) (g.V.Volume.calls c.write.new.self) c.args.file c.args.place (c.args.place + c.args.n) = returns-clause-filled g c t in
    ap length (f.grown (c.requires.end t)) ∙ simp (length-append) (omega (arith, length-replicate {A = ℕ}, c.requires.end t))
