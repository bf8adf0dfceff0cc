use Rattle.std.proofs.Common.{◌∷◌, [], subst}
use Rattle.std.proofs.lemmas.Result.{IfOk-weaker}
use Rattle.tc_memdb.proofs.Along.{Follows, follows_entry}
use Rattle.tc_memdb.proofs.reading.add_entry.Goals as goal

pub returns-clause-walked : goal.returns-clause-walked
returns-clause-walked c =
    let one : Follows c.args.key.now (c.args.values.now.0 ∷ []) c.args.left c.in_ok-left.left c.args.rows.now c.add_value.new.rows =
    subst (λ v. Follows c.args.key.now (v ∷ []) c.args.left c.in_ok-left.left c.args.rows.now c.add_value.new.rows) c.first.ensures (record { walked = c.in_ok-left.ensures.walked; front = c.add_value.ensures.front }) in
    IfOk-weaker c.add_values-2.result _ _ (λ after w.
    (follows_entry c.args.key.now c.args.values.now.0 c.rest.result.0.now c.rest.result.1.now c.args.values.now.1 _ _ _ after _ _ _ _ c.rest.ensures one (record { walked = c.in_ok-left-2.ensures.walked; front = c.add_values.ensures.front }) (record { walked = w; front = c.add_values-2.ensures.front })).walked) c.add_values-2.ensures.walked
