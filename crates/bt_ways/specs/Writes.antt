-- Pages that are written and taken out.
use Rattle.std.specs.Prelude.{ℕ, List, [], ◌∷◌, Option, Some, None, ◌==◌, if◌then◌else◌}
use Rattle.bt_rows.specs.declared.page.LeafAt.{LeafAt}
use Rattle.bt_rows.specs.declared.page.Page.{Page}
use Rattle.bt_rows.specs.declared.page.Page.TheVariants.{Leaf as leaf_page}
use Rattle.bt_rows.specs.Pages.{PageMap}

-- with this page under an id, whatever stood there
abbrev pub put_at : ℕ → Page → PageMap → PageMap
put_at id page pages = λ other. if other == id then Some page else pages other

-- with no page under an id
abbrev pub drop_at : ℕ → PageMap → PageMap
drop_at id pages = λ other. if other == id then None else pages other

-- with these leaves at their ids, the last one last
abbrev pub put_leaves : List LeafAt → PageMap → PageMap
put_leaves [] pages = pages
put_leaves (l ∷ ls) pages = put_leaves ls (put_at l.slot.id (leaf_page l.leaf) pages)
