-- A map beside the record that was put last.
use Rattle.std.specs.Prelude.{⊤, Option, Some, None, IsSome}
use Rattle.std.specs.FinMap.{get, insert}
use Rattle.tc_base.specs.Maps.{Map}
use Rattle.tc_memstores.specs.declared.cells.Last.{Last}

-- the map with this value of its key
abbrev pub with_last : Option Last → Map → Map
with_last None m = m
with_last (Some last) m = insert m last.key last.value

-- the map has its key too
abbrev pub HasKey : Option Last → Map → Type 0
HasKey None m = ⊤
HasKey (Some last) m = IsSome (get m last.key)
