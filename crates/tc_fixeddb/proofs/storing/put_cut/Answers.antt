use Rattle.std.proofs.Common.{◌∙◌, ℕ, List, length, take, min, ap, subst}
use Rattle.std.specs.FinMap.{insert}
use Rattle.std.proofs.lemmas.List.{take_min}
use Rattle.std.proofs.lemmas.Result.{on_ok_weaker}
use Rattle.tc_space.specs.Frames.{Writes}
use Rattle.tc_space.specs.Stores.{Only}
use Rattle.tc_fixed.specs.Holding.{Means}
use Rattle.tc_fixeddb.proofs.storing.put_cut.Goals as goal

pub returns-clause-put : goal.returns-clause-put
returns-clause-put g c =
    on_ok_weaker _ (λ put. subst (λ (v : List ℕ). Writes g.S.Space (Only 0) (Means g.S.Space) (λ m. insert m c.args.id v) c.args.fixed.now c.put.new.self c.args.space.now c.put.new.space)
    (ap (λ (n : ℕ). take n c.args.value.now) (c.min-len.ensures ∙ ap (λ (n : ℕ). min n (length c.args.value.now)) c.width.ensures.value) ∙ take_min _ c.args.value.now)
    put) c.put.ensures.put
