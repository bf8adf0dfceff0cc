use Rattle.std.proofs.Common.{rules, not, nat_eq, ℕ}
use Rattle.std.proofs.lemmas.Fn.{filter_same}
use Rattle.tc_fakes.proofs.peers.drop_conn.Goals as goal

pub returns : goal.returns
returns c = filter_same _ (λ (x : ℕ). not (nat_eq x c.args.conn)) _ (λ x b f' h. search rules) _ _ c.retain.ensures.filtered
