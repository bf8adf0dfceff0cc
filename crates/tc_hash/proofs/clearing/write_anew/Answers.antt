use Rattle.std.proofs.Common.{rules, inl, inr, ⊎_elim, ℕ, ap, arith}
use Rattle.tc_hash.proofs.Cleared.{changes_told}
use Rattle.tc_hash.proofs.Stored.{from_done}
use Rattle.tc_reach.proofs.Handed.{err_handed}
use Rattle.tc_hash.proofs.clearing.write_anew.Goals as goal

pub write_new-requires-clause-empty : goal.write_new-requires-clause-empty
write_new-requires-clause-empty g c = record { sound = search rules; data_file = search rules; none = λ t. (c.in_ok-cut_to.ensures.cut t).here }

pub returns-clause-wrote : goal.returns-clause-wrote
returns-clause-wrote g c = from_done _ c.write_new.ensures.wrote (λ wrote. changes_told g.S.Space.tells g.S.Space.now c.args.file _ _ c.args.space.now c.cut_to.new.space c.write_new.new.space c.in_ok-cut_to.ensures.cut wrote)

pub returns-clause-full : goal.returns-clause-full
returns-clause-full g c = λ full t. ⊎_elim (λ past. inl (omega (arith, past, ap (λ (l : ℕ → ℕ). l c.args.file) c.cut_to.ensures.writes.keeps.same_limit))) (λ log. inr log) (c.write_new.ensures.full full)

pub returns-in_err-cut_to-clause-full : goal.returns-in_err-cut_to-clause-full
returns-in_err-cut_to-clause-full g c = λ full t. inr (c.in_err-cut_to.ensures.full (err_handed c.from_residual.result c.in_err-cut_to.field-0.0 _ c.from_residual.ensures.1 full) t)
