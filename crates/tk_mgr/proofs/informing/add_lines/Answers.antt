use Rattle.std.proofs.lemmas.Result.{on_ok_weaker}
use Rattle.tk_mgr.proofs.Replies.{told_added}
use Rattle.tk_mgr.proofs.informing.add_lines.Goals as goal

pub returns : goal.returns
returns c = on_ok_weaker c.add_told-3.result (λ added d k t. told_added d c.args.kind _ _ _ _ _ _ _ k c.kind_text.ensures (c.counts.ensures d k t) c.in_ok-add_told.ensures c.in_ok-add_told-2.ensures added) c.add_told-3.ensures
