use Rattle.std.proofs.Common.{◌≡◌, ◌∙◌, ℕ, List, ap}
use Rattle.std.proofs.lemmas.Result.{IfOk-weaker}
use Rattle.bt_order.specs.Values.{side_valued}
use Rattle.td_index.specs.Entries.{times}
use Rattle.td_index.specs.Ranges.{candidates}
use Rattle.tc_table.specs.Searching.{OfRows}
use Rattle.tc_table.proofs.Naming.{token_named}
use Rattle.tc_table.proofs.planning.keys_with.Goals as goal

pub returns-clause-named : goal.returns-clause-named
returns-clause-named g c =
    IfOk-weaker _ _ (λ ks. OfRows g.M.S.Space g.M.Multi c.args.tree.now c.args.space.now (λ h. (k : List ℕ) → times k ks ≡ times c.args.token.now (h k))) (λ ks value. λ kind name rows are st.
    token_named c.args.token.now kind name rows st.pairs ks (value st.pairs st.held ∙ ap (λ (t : List ℕ). candidates (side_valued t) st.pairs) (c.in_ok-value.ensures ∙ c.as_slice.ensures)) are st.exact) c.keys_inside.ensures.value
