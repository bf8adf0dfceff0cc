-- The abstract database: a shape and its data.
use Rattle.std.specs.Prelude.{if◌then◌else◌, ℕ, Bool, true, false, List, [], Option, nat_lt}
use Rattle.std.specs.FinMap.{empty}
use Rattle.tc_base.specs.declared.seq.Pair.{Pair}
use Rattle.tc_base.specs.declared.kind.Kind.{Kind}
use Rattle.tc_base.specs.declared.kind.Kind.TheVariants as kind
use Rattle.tc_model.specs.declared.query.IndexKind.{IndexKind}
use Rattle.tc_base.specs.Maps.{Over, Map}
use Rattle.tc_model.specs.Arrays.{Array}
use Rattle.tc_model.specs.Rows.{Row}

abbrev pub Rows : Type 0
Rows = Over Row

-- the type of each column that has an index
abbrev pub Indexes : Type 0
Indexes = Over IndexKind

pub data Contents : Type 0 where
  -- in a file or in memory
  hash : (memory : Bool) (m : Map) → Contents
  -- ordered decimally or lexically
  tree : (memory : Bool) (decimal : Bool) (pairs : List Pair) → Contents
  -- with values of at most a width and ids up to the greatest allowed
  fixed : (width : ℕ) (most : ℕ) (ids : Array) → Contents
  table : (rows : Rows) (indexes : Indexes) → Contents

abbrev pub kind_of : Contents → Kind
kind_of (hash memory m) = if memory then kind.MemHash else kind.Hash
kind_of (tree memory decimal ps) = if memory then kind.MemTree else kind.Tree
kind_of (fixed width most ids) = kind.Fixed
kind_of (table rows indexes) = kind.Table

-- whether a kind is kept in files
abbrev pub is_stored : Kind → Bool
is_stored kind.MemHash = false
is_stored kind.MemTree = false
is_stored _ = true

abbrev pub is_table : Contents → Bool
is_table (table rows indexes) = true
is_table _ = false

-- whether values of four bytes have no room
abbrev pub is_narrow : Contents → Bool
is_narrow (fixed width most ids) = nat_lt width 4
is_narrow (table rows indexes) = true
is_narrow _ = false

-- no data in a shape: a tree has its order, a fixed-length database its width and its greatest id allowed
abbrev pub no_data : Kind → Bool → ℕ → ℕ → Contents
no_data kind.Hash decimal width most = hash false empty
no_data kind.MemHash decimal width most = hash true empty
no_data kind.Tree decimal width most = tree false decimal []
no_data kind.MemTree decimal width most = tree true decimal []
no_data kind.Fixed decimal width most = fixed width most empty
no_data kind.Table decimal width most = table empty empty

-- without its data; a table keeps its indexes
abbrev pub emptied : Contents → Contents
emptied (hash memory m) = hash memory empty
emptied (tree memory decimal ps) = tree memory decimal []
emptied (fixed width most ids) = fixed width most empty
emptied (table rows indexes) = table empty indexes

-- the keys left of the one walk of the whole server, or no walk
abbrev pub Walk : Type 0
Walk = Option (List (List ℕ))
