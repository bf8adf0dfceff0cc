use Rattle.std.proofs.Common.{◌∷◌, ◌-◌, ap, ◌∙◌, subst, arith, rules}
use Rattle.tc_io.specs.Images.{IsLost, written}
use Rattle.tc_undo.specs.Ahead.{text}
use Rattle.tc_undo.proofs.Ahead.{pending_calm, pending_lost, written_at}
use Rattle.tc_undo.proofs.gather.flush.Goals as goal

pub write-requires-clause-inside : goal.write-requires-clause-inside
write-requires-clause-inside g c = λ t. omega (arith, written_at (g.V.Volume.calls c.args.vol.now) c.args.waiting.now c.args.end c.saturating_sub-at.result (search rules) (c.requires.waits t) c.saturating_sub-at.ensures)

pub returns-in_err-write-clause-quiet : goal.returns-in_err-write-clause-quiet
returns-in_err-write-clause-quiet g c = record {
  stays = search rules;
  quiet = λ t.
      let cs = g.V.Volume.calls c.args.vol.now in
      let new = g.V.Volume.calls c.write.new.self in
      let w = c.args.waiting.now in
      let at = written_at cs w c.args.end c.saturating_sub-at.result (search rules) (c.requires.waits t) c.saturating_sub-at.ensures in
      pending_lost cs new (text w) (c.requires.pending t) (g.met.V.Volume.now_is_image c.args.vol.now t) (g.met.V.Volume.now_is_image c.write.new.self t) (subst (λ k. IsLost cs new 1 (written k (text w))) at (c.in_err-write.ensures.lost t));
}

pub returns-clause-quiet : goal.returns-clause-quiet
returns-clause-quiet g c = record {
  stays = search rules;
  quiet = λ t.
      let cs = g.V.Volume.calls c.args.vol.now in
      let new = g.V.Volume.calls c.write.new.self in
      let w = c.args.waiting.now in
      let at = written_at cs w c.args.end c.saturating_sub-at.result (search rules) (c.requires.waits t) c.saturating_sub-at.ensures in
      pending_calm cs new (text w) (c.requires.pending t) (g.met.V.Volume.now_is_image c.args.vol.now t) (g.met.V.Volume.now_is_image c.write.new.self t) (c.in_ok-write.ensures.made t ∙ ap (λ k. (1, written k (text w)) ∷ cs) at);
}

pub returns-clause-made : goal.returns-clause-made
returns-clause-made g c = λ t.
    let cs = g.V.Volume.calls c.args.vol.now in
    let w = c.args.waiting.now in
    let at = written_at cs w c.args.end c.saturating_sub-at.result (search rules) (c.requires.waits t) c.saturating_sub-at.ensures in
    c.in_ok-write.ensures.made t ∙ ap (λ k. (1, written k (text w)) ∷ cs) at
