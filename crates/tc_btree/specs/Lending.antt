-- A tree that is lent.
use Rattle.std.specs.Borrow.{Fml, Lends, MutBor, RattleType}
use Rattle.bt_tree.specs.contracts.tree.Tree.{the_row as tree_row}
use Rattle.bt_tree.specs.declared.tree.Tree.{Tree}
use Rattle.tc_btree.specs.contracts.btree.Btree.{the_row}
use Rattle.tc_btree.specs.declared.btree.Btree.{Btree}

-- the list with another tree
abbrev pub with_tree : {V O : Type 0} → Btree V O → Tree V O → Btree V O
with_tree b t = record b { tree = t }

-- the list ends with the last tree behind the reference
abbrev pub LendsTree : (R O : RattleType) → MutBor (Btree R.Denot O.Denot) → MutBor (Tree R.Denot O.Denot) → Fml
LendsTree R O b t = Lends (the_row R O) (tree_row R O) b t (with_tree b.now)
