-- The pairs of a tree stand in the order of their keys.
use Rattle.std.proofs.Common.{ℕ, List, sym, subst}
use Rattle.std.specs.Cmp.{IsTotalOrder}
use Rattle.std.proofs.lemmas.Map.Lookups.{CmpEqualImpliesEq}
use Rattle.tc_base.specs.Lists.{Rises}
use Rattle.tc_base.specs.declared.order.Order.{Ghosts as Orders}
use Rattle.tc_base.specs.declared.seq.Pair.{Pair}
use Rattle.tc_space.specs.declared.records.Records.{Ghosts as Stores}
use Rattle.bt_tree.specs.Meaning.{HoldsIn}
use Rattle.bt_tree.specs.declared.tree.Tree.{Tree}
use Rattle.bt_tree.proofs.Sorted.{leaves_rise}

pub pairs_rise : {S V O : Type 0} {R : Stores V S} {o : Orders O} (t : Tree V O) (bytes : List ℕ) (ps : List Pair) → HoldsIn R o t bytes ps → IsTotalOrder o.cmp → CmpEqualImpliesEq o.cmp → Rises o.cmp ps
pairs_rise {o = o} t bytes ps held total exact =
    let is = held.is in
    subst (λ (qs : List Pair). Rises o.cmp qs) (sym is.are) (leaves_rise o.cmp total exact is.tree.leaves is.tree.stands.order)
