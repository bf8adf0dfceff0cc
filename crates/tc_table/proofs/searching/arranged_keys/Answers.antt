use Rattle.std.proofs.lemmas.Result.{IfOk-weaker}
use Rattle.tc_table.specs.Searching.{AreArranged}
use Rattle.tc_table.proofs.Exact.{keys_same}
use Rattle.tc_table.proofs.searching.arranged_keys.Goals as goal

pub returns : goal.returns
returns c =
    IfOk-weaker _ _ (λ ks. AreArranged c.args.q.now c.args.keys ks) (λ ks is. keys_same c.args.q.now c.args.keys ks c.in_ok-rows.rows c.in_ok-found.found c.requires c.in_ok-rows.ensures c.in_ok-found.ensures is) c.keys_of.ensures
