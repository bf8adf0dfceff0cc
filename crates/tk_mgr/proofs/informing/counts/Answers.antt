use Rattle.std.proofs.Common.{ap, length, List, ℕ, ◌+◌}
use Rattle.tk_mgr.proofs.Replies.{counts_told}
use Rattle.tk_mgr.proofs.informing.counts.Goals as goal

pub returns : goal.returns
returns c = λ d k t. counts_told c.args.kind d c.args.reply.now c.behind-numbers.result.now c.first_line-records.result.now c.behind.result.now c.first_line-size.result.now _ k t (ap (λ (l : List ℕ). 16 + length l) c.kind_text.ensures) c.behind-numbers.ensures c.first_line-records.ensures c.behind.ensures c.first_line-size.ensures
