-- Rows of many keys, one after the other.
use Rattle.std.specs.Prelude.{◌≡◌, ℕ, ◌+◌, Bool, List, [], ◌∷◌, ◌++◌, Some, fold, is_some, option_and_then, take, unwrap_or}
use Rattle.std.specs.declared.cmp.Ordering.{Ordering}
use Rattle.tc_base.specs.declared.kind.Mode.TheVariants.{Over}
use Rattle.tc_space.specs.Frames.{GivenUp, Keeps}
use Rattle.tc_space.specs.declared.records.Records as records
use Rattle.tc_space.specs.declared.multi.Multi as multi
use Rattle.tc_space.specs.declared.space.Space.{Ghosts}
use Rattle.tc_model.specs.Contents.{Rows}
use Rattle.tc_model.specs.Rows.{Row, row_of_text}
use Rattle.tc_model.specs.Stores.{put_row}
use Rattle.tc_table.specs.Sides.{OthersAll}
use Rattle.tc_table.specs.Tables.{FullPut, Holds, StaysTable, files_of, row_allowed}
use Rattle.tc_table.specs.declared.table.Table.{Table}

-- it spells a row whose text isn't too long
abbrev pub is_stored : List ℕ → Bool
is_stored text = is_some (option_and_then row_allowed (row_of_text text))

-- a key, and the text of its row
abbrev pub Told : Type 0
Told = List ℕ × List ℕ

-- the rows once a key has the row of its text, if that is one's that may be put
abbrev pub one_put : Told → Rows → Rows
one_put e rows = unwrap_or (option_and_then (put_row Over rows e.0) (row_of_text e.1)) rows

abbrev pub all_put : List Told → Rows → Rows
all_put es rows = fold (λ m e. one_put e m) rows es

module _ {S R L OL D OD : Type 0} (s : Ghosts S) (r : records.Ghosts R S) (l : multi.Ghosts L S OL) (d : multi.Ghosts D S OD) where
  -- these keys have the rows of their texts
  pub record PutsAll (es : List Told) (t t' : Table R L D) (a b : S) : Type 0 where
    pub sound : s.sound b
    pub means : (rows : Rows) → Holds s r l d t a rows → Holds s r l d t' b (all_put es rows)
    pub others : OthersAll s (files_of r l d t) a b

  module _ (lc dc : List ℕ → List ℕ → Ordering) where
    -- a limit was reached at the row of the key that came next, behind those in front of it
    pub record FullText (es : List Told) (t : Table R L D) (a b : S) : Type 0 where
      pub done : ℕ
      pub entry : Told
      pub next : take (done + 1) es ≡ take done es ++ entry ∷ []
      pub table : Table R L D
      pub moment : S
      pub so_far : PutsAll (take done es) t table a moment
      pub stays : StaysTable r l d t table
      pub since : Keeps s a moment
      pub row : Row
      pub row_is : row_of_text entry.1 ≡ Some row
      pub full : FullPut s r l d lc dc Over entry.0 row table moment b

    -- the space was given up since
    pub record FullTexts (es : List Told) (t : Table R L D) (a b : S) : Type 0 where
      pub refused : S
      pub met : FullText es t a refused
      pub given_up : GivenUp s refused b
