-- The contents that a database in memory holds.
use Rattle.std.specs.Prelude.{◌≡◌, ℕ, Bool, true, false, List, [], ◌∷◌, ◌++◌, length, nat_le}
use Rattle.std.proofs.Common.{sym, ap}
use Rattle.std.specs.FinMap.{insert}
use Rattle.std.specs.List.{list_all}
use Rattle.tc_base.specs.declared.seq.Pair.{Pair}
use Rattle.tc_base.specs.Lists.{with_first, with_last}
use Rattle.tc_base.specs.Orders.{order}
use Rattle.tc_model.specs.Contents.{Contents, hash, tree, is_table}
use Rattle.tc_model.specs.Stores.{value_of}
use Rattle.tc_memdb.specs.declared.data.Data.{Data}
use Rattle.tc_memdb.specs.declared.data.Data.TheVariants.{Map, Tree}

-- a tree is in the order of bytes
abbrev pub contents_of : Data → Contents
contents_of (Map m) = hash true m
contents_of (Tree ps) = tree true false ps

-- a value is set whatever its length
abbrev pub set : Contents → List ℕ → List ℕ → Contents
set (hash memory m) key value = hash memory (insert m key value)
set (tree memory decimal ps) key value = tree memory decimal (with_first (order decimal) ps key value)
set c key value = c

-- bytes are joined behind the value of a key
abbrev pub joined_to : List ℕ → List ℕ → Contents → Contents
joined_to key more c = set c key (value_of c key ++ more)

-- a value is added behind those that a tree has of its key, whatever its length
abbrev pub push : Contents → List ℕ → List ℕ → Contents
push (tree memory decimal ps) key value = tree memory decimal (with_last (order decimal) ps key value)
push c key value = c

abbrev pub is_tree : Contents → Bool
is_tree (tree memory decimal ps) = true
is_tree c = false

pub never_table : (d : Data) (c : Contents) → contents_of d ≡ c → is_table c ≡ false
never_table (Map m) c e = ap is_table (sym e)
never_table (Tree ps) c e = ap is_table (sym e)

-- a value that may be stored
abbrev pub is_short : Pair → Bool
is_short p = nat_le (length p.value) 16777216

-- whether each of these can be added behind those of its key: of a tree where none is too long, else where there are none
abbrev pub can_push : Contents → List Pair → Bool
can_push (tree memory decimal ps) pairs = list_all is_short pairs
can_push c [] = true
can_push c (p ∷ pairs) = false
