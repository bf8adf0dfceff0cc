use Rattle.std.proofs.Common.{◌∙◌, ◌+◌, ◌++◌, ◌∷◌, [], List, ℕ, append_assoc, ap, sym, drop}
use Rattle.tc_memstores.proofs.Places.{drop_there}
use Rattle.tc_memstores.proofs.values.add_from.Goals as goal

pub loop-i-preserved : goal.loop-i-preserved
loop-i-preserved c =
    let into = c.loop-i.into in
    let values = c.args.values.now in
    let there = drop_there values c.loop-i.i c.at.result.now c.at.ensures in
    ap (λ (l : List (List ℕ)). l ++ drop (c.loop-i.i + 1) values) (c.in_ok-push.ensures.ok ∙ ap (λ (v : List ℕ). into ++ v ∷ []) (c.in_ok-from_slice.ensures ∙ c.as_slice.ensures))
    ∙ append_assoc into (c.at.result.now ∷ []) (drop (c.loop-i.i + 1) values)
    ∙ ap (λ (l : List (List ℕ)). into ++ l) (sym there)
    ∙ c.loop-i.invariant
