-- A tree of one order that is lent.
use Rattle.std.specs.Borrow.{Fml, Lends, MutBor, RattleType}
use Rattle.bt_tree.specs.contracts.tree.Tree.{the_row as tree_row}
use Rattle.bt_tree.specs.declared.tree.Tree.{Tree}
use Rattle.tc_hash.specs.contracts.hash.Hash.{the_row as hash_row}
use Rattle.tc_hash.specs.declared.hash.Hash.{Hash}
use Rattle.tc_treedb.specs.contracts.ordered.Ordered.{the_row}

-- it ends as the last tree behind the reference
abbrev pub LendsTree : (S O : RattleType) → MutBor (Tree (Hash S.Denot) O.Denot) → MutBor (Tree (Hash S.Denot) O.Denot) → Fml
LendsTree S O b t = Lends (the_row S O) (tree_row (hash_row S) O) b t (λ w. w)
