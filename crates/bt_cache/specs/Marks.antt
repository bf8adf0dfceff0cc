-- Where values of a leaf were found.
use Rattle.std.specs.List.{All}
use Rattle.bt_page.specs.declared.page.Leaf.{Leaf}
use Rattle.bt_slots.specs.Marks.{IsMark}
use Rattle.bt_cache.specs.declared.marking.Marks.{Marks}

-- each is the mark of a value of a leaf
pub record AreMarks (l : Leaf) (m : Marks) : Type 0 where
  pub last : IsMark l m.last
  pub each : All (IsMark l) m.each.items
