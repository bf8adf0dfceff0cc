-- A tree with other numbers.
use Rattle.std.specs.Prelude.{ℕ}
use Rattle.bt_rows.specs.declared.head.TreeHead.{TreeHead}
use Rattle.bt_tree.specs.declared.tree.Tree.{Tree}

abbrev pub with_leaf_ids : {V O : Type 0} → ℕ → Tree V O → Tree V O
with_leaf_ids n t = record t { head = record t.head { leaf_ids = n } }

abbrev pub with_node_ids : {V O : Type 0} → ℕ → Tree V O → Tree V O
with_node_ids n t = record t { head = record t.head { node_ids = n } }

abbrev pub with_pairs : {V O : Type 0} → ℕ → Tree V O → Tree V O
with_pairs n t = record t { head = record t.head { pairs = n } }

abbrev pub with_last : {V O : Type 0} → ℕ → Tree V O → Tree V O
with_last n t = record t { head = record t.head { last = n } }

-- those of a tree of one leaf with no keys
abbrev pub lone_head : ℕ → ℕ → ℕ → TreeHead
lone_head order leaf_limit node_limit = record { order = order; leaf_limit = leaf_limit; node_limit = node_limit; root = 1; first = 1; last = 1; leaf_ids = 1; node_ids = 0; pairs = 0 }
