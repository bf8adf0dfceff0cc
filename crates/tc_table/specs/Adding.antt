-- An index that comes to a table, and one that goes.
use Rattle.std.specs.Prelude.{◌≡◌, ℕ, ◌+◌, Bool, true, false, List, [], ◌∷◌, ◌++◌, length, take, Some, None, if◌then◌else◌}
use Rattle.std.specs.FinMap.{empty, get, keys}
use Rattle.std.specs.declared.cmp.Ordering.{Ordering}
use Rattle.tc_base.specs.Texts.{is_text}
use Rattle.tc_space.specs.Frames.{GivenUp, Keeps, Others, Reads}
use Rattle.tc_space.specs.Stores.{Only}
use Rattle.tc_space.specs.declared.space.Space.{Ghosts}
use Rattle.tc_space.specs.declared.records.Records as records
use Rattle.tc_space.specs.declared.multi.Multi as multi
use Rattle.tc_model.specs.Contents.{Rows}
use Rattle.tc_model.specs.Rows.{Row}
use Rattle.tc_model.specs.Texts.{is_among}
use Rattle.td_index.specs.Checks.{StaysRows}
use Rattle.td_plan.specs.Choices.{NoneBefore}
use Rattle.tc_table.specs.Full.{SideFull}
use Rattle.tc_table.specs.Parts.{IsNext}
use Rattle.tc_table.specs.Sides.{AllStay, IsAway, SideStands, StaysSide, TreeReady, name_of, tree_file}
use Rattle.tc_table.specs.Tables.{Holds, files_of}
use Rattle.tc_table.specs.declared.side.Side.{Side}
use Rattle.tc_table.specs.declared.table.Table.{Table}

-- its tree has this column's name
abbrev pub is_of : {L D : Type 0} → List ℕ → Side L D → Bool
is_of name x = is_text (name_of x.tree) name

-- it was taken out; the others stay in their order
pub record Removes {R L D : Type 0} (name : List ℕ) (x : Side L D) (t t' : Table R L D) : Type 0 where
  pub named : is_of name x ≡ true
  pub front : List (Side L D)
  pub back : List (Side L D)
  pub parted : t.sides.items ≡ front ++ x ∷ back
  pub left : t'.sides.items ≡ front ++ back
  pub rows : t'.rows ≡ t.rows

-- no index has it, and nothing has changed
pub record HasNone {R L D : Type 0} (name : List ℕ) (t t' : Table R L D) : Type 0 where
  pub none : NoneBefore (is_of name) t.sides.items (length t.sides.items)
  pub same : t' ≡ t

module _ {S R L OL D OD : Type 0} (s : Ghosts S) (r : records.Ghosts R S) (l : multi.Ghosts L S OL) (d : multi.Ghosts D S OD) where
  -- it has a file of its own
  abbrev pub IsApart : Side L D → Table R L D → Type 0
  IsApart x t = s.tells → IsAway (tree_file l d x.tree) (files_of r l d t)

  -- it may be filled: besides, it has nothing
  pub record IsNew (x : Side L D) (t : Table R L D) (space : S) : Type 0 where
    pub ready : TreeReady s l d x.tree space
    pub away : IsApart x t
    pub none : s.tells → SideStands s l d x space empty

  -- these are the keys of what is held
  abbrev pub IsListed : List (List ℕ) → Table R L D → S → Type 0
  IsListed ks t space = s.tells → (rows : Rows) × Holds s r l d t space rows × (ks ≡ keys rows)

  -- a row gives it its parts, where it has none of its key
  abbrev pub Takes : List ℕ → Row → Side L D → Side L D → S → S → Type 0
  Takes key row x y a b = (m n : Rows) → SideStands s l d x a m → get m key ≡ None → IsNext key (Some row) m n → SideStands s l d y b n

  -- the row of a key gave it its parts
  pub record AddsRow (key : List ℕ) (x y : Side L D) (t t' : Table R L D) (a b : S) : Type 0 where
    pub sound : s.sound b
    pub row : (rows : Rows) → Holds s r l d t a rows → (row : Row) × (get rows key ≡ Some row) × Takes key row x y a b
    pub means : (rows : Rows) → Holds s r l d t a rows → Holds s r l d t' b rows
    pub others : Others s (Only (tree_file l d x.tree)) a b

  -- it has its parts of the rows under these keys
  pub record HasThose (ks : List (List ℕ)) (rows : Rows) (x : Side L D) (space : S) : Type 0 where
    pub taken : Rows
    pub stands : SideStands s l d x space taken
    pub are : (k : List ℕ) → get taken k ≡ (if is_among k ks then get rows k else None)

  -- where these are the keys of the rows, it has its parts of all
  pub record Fills (ks : List (List ℕ)) (x y : Side L D) (t t' : Table R L D) (a b : S) : Type 0 where
    pub sound : s.sound b
    pub means : (rows : Rows) → ks ≡ keys rows → Holds s r l d t a rows → Holds s r l d t' b rows × SideStands s l d y b rows
    pub others : Others s (Only (tree_file l d x.tree)) a b

  -- it came in behind the others
  pub record Adds (x : Side L D) (t t' : Table R L D) (a b : S) : Type 0 where
    pub sound : s.sound b
    pub front : List (Side L D)
    pub side : Side L D
    pub parted : t'.sides.items ≡ front ++ side ∷ []
    pub rows : StaysRows r t.rows t'.rows
    pub stay : AllStay l d t.sides.items front
    pub stays : StaysSide l d x side
    pub means : (rows : Rows) → Holds s r l d t a rows → Holds s r l d t' b rows
    pub others : Others s (Only (tree_file l d x.tree)) a b

  module _ (lc dc : List ℕ → List ℕ → Ordering) where
    -- a limit was reached at the parts of the row of a key
    pub record FullAt (key : List ℕ) (x : Side L D) (t : Table R L D) (a b : S) : Type 0 where
      pub row : Row
      pub had : (rows : Rows) → Holds s r l d t a rows → get rows key ≡ Some row
      pub moment : S
      pub same : s.tells → (g : ℕ) → s.now moment g ≡ s.now a g
      pub since : Keeps s a moment
      pub full : SideFull s l d lc dc key None (Some row) x moment b

    -- where these are the keys of the rows: at the row of one of them, behind the parts of those in front
    pub record FullRow (ks : List (List ℕ)) (x : Side L D) (t : Table R L D) (a b : S) : Type 0 where
      pub key : List ℕ
      pub row : Row
      pub had : (rows : Rows) → ks ≡ keys rows → Holds s r l d t a rows → get rows key ≡ Some row
      pub side : Side L D
      pub like : StaysSide l d x side
      pub moment : S
      pub since : Keeps s a moment
      pub others : Others s (Only (tree_file l d x.tree)) a moment
      pub done : ℕ
      pub front : List (List ℕ)
      pub are : front ≡ take done ks
      pub next : take (done + 1) ks ≡ front ++ key ∷ []
      pub fresh : (rows : Rows) → ks ≡ keys rows → is_among key front ≡ false
      pub some : (rows : Rows) → ks ≡ keys rows → Holds s r l d t a rows → HasThose front rows side moment
      pub full : SideFull s l d lc dc key None (Some row) side moment b

    -- the keys of all rows were read before
    pub record FullIn (x : Side L D) (t : Table R L D) (a b : S) : Type 0 where
      pub table : Table R L D
      pub begun : S
      pub reads : Reads s (Holds s r l d) t table a begun
      pub before : Keeps s a begun
      pub all : List (List ℕ)
      pub are : (rows : Rows) → Holds s r l d t a rows → all ≡ keys rows
      pub met : FullRow all x table begun b

    -- the space was given up since
    pub record FullFill (x : Side L D) (t : Table R L D) (a b : S) : Type 0 where
      pub refused : S
      pub met : FullIn x t a refused
      pub given_up : GivenUp s refused b
