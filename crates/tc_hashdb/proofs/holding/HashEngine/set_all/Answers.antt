use Rattle.std.proofs.Common.{sym}
use Rattle.tc_hashdb.proofs.Setting.{full_last, rising_seen, writes_last}
use Rattle.tc_reach.proofs.Handed.{err_handed}
use Rattle.tc_hashdb.proofs.holding.HashEngine.set_all.Goals as goal

pub returns-clause-set : goal.returns-clause-set
returns-clause-set g c = writes_last g.S.Space _ _ _ _ c.args.pairs c.in_ok-values.values c.in_ok-values.ensures (rising_seen c.values.inside.entries c.in_ok-values.values (sym c.values.view_is) c.values.invariant.sorted) c.in_ok-set_entries.ensures.set

pub returns-in_err-set_entries-clause-full : goal.returns-in_err-set_entries-clause-full
returns-in_err-set_entries-clause-full g c = λ full m means. full_last g.S.Space _ c.args.pairs c.in_ok-values.values m c.in_ok-values.ensures (rising_seen c.values.inside.entries c.in_ok-values.values (sym c.values.view_is) c.values.invariant.sorted) (c.in_err-set_entries.ensures.full (err_handed c.from_residual-in_err-set_entries.result c.in_err-set_entries.field-0.0 _ c.from_residual-in_err-set_entries.ensures.1 full) m means)
