use Rattle.std.proofs.Common.{rules, sym, ◌∙◌}
use Rattle.ty_rounds.specs.Ready.{IsCalm}
use Rattle.ty_rounds.proofs.Few.{each_at}
use Rattle.ty_rounds.proofs.Spans.{skip_back, skip_front, waiting_steps}
use Rattle.ty_rounds.proofs.Waiting.{waiting_all, waiting_yes, waiting_no}
use Rattle.ty_rounds.proofs.listening.list_waiting.Goals as goal
use Rattle.ty_rounds.proofs.listening.list_waiting.Goals.{then-is_paused+in_ok-push, else-is_paused}

pub loop-i-init : goal.loop-i-init
loop-i-init c = skip_front _ c.args.span c.args.peers.now c.requires (waiting_steps c.args.peers.now _) (search rules)

pub loop-i-preserved : goal.loop-i-preserved
loop-i-preserved c = let calm = each_at IsCalm _ c.loop-i.i c.index-peers-i.result (search rules) (search rules) c.requires.calm in elim c.if-is_paused.branch [
  | then-is_paused+in_ok-push w ↦ waiting_yes _ c.loop-i.i c.index-peers-i.result _ _ (search rules) (search rules) (sym (c.is_paused.ensures calm) ∙ w.if-is_paused.true) c.loop-i.invariant (search rules)
  | else-is_paused w ↦ waiting_no _ c.loop-i.i c.index-peers-i.result _ (search rules) (search rules) (sym (c.is_paused.ensures calm) ∙ w.if-is_paused.false) (search rules)
]

pub returns : goal.returns
returns c =
    let n = skip_back _ c.args.span c.args.peers.now c.loop-i.i c.requires (waiting_steps c.args.peers.now _) (search rules) c.loop-i.invariant in
    waiting_all _ _ n.0 n.1 n.2
