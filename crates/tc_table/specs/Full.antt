-- At which index a limit was reached, and as what the space stood then.
use Rattle.std.specs.Prelude.{◌≡◌, ℕ, List, ◌∷◌, ◌++◌, Option}
use Rattle.std.specs.declared.cmp.Ordering.{Ordering}
use Rattle.tc_space.specs.Frames.{GivenUp, Keeps}
use Rattle.tc_space.specs.declared.space.Space.{Ghosts}
use Rattle.tc_space.specs.declared.multi.Multi as multi
use Rattle.tc_model.specs.Rows.{Row}
use Rattle.td_index.specs.Entries.{FullTurns}
use Rattle.tc_table.specs.Parts.{parts_of_row}
use Rattle.tc_table.specs.Sides.{OthersAll, files, name_of}
use Rattle.tc_table.specs.declared.side.Side.{Side}
use Rattle.tc_table.specs.declared.side.Sorted.{Sorted}
use Rattle.tc_table.specs.declared.side.Sorted.TheVariants.{Lexical, Decimal}

module _ {S L OL D OD : Type 0} (s : Ghosts S) (l : multi.Ghosts L S OL) (d : multi.Ghosts D S OD) (lc dc : List ℕ → List ℕ → Ordering) where
  -- at one of the old parts of a key, or behind them at a new one
  abbrev pub TreeFull : List ℕ → List (List ℕ) → List (List ℕ) → Sorted L D → S → S → Type 0
  TreeFull key old new (Lexical i) a b = FullTurns s l lc old new key i.tree a b
  TreeFull key old new (Decimal i) a b = FullTurns s d dc old new key i.tree a b

  -- at the parts that the rows of a key give an index
  abbrev pub SideFull : List ℕ → Option Row → Option Row → Side L D → S → S → Type 0
  SideFull key old new x a b = TreeFull key (parts_of_row x.kind (name_of x.tree) old) (parts_of_row x.kind (name_of x.tree) new) x.tree a b

  -- at one of these indexes: at most the files of those in front of it were changed before
  pub record AllFull (key : List ℕ) (old new : Option Row) (xs : List (Side L D)) (a b : S) : Type 0 where
    pub front : List (Side L D)
    pub side : Side L D
    pub back : List (Side L D)
    pub parted : xs ≡ front ++ side ∷ back
    pub moment : S
    pub since : Keeps s a moment
    pub others : OthersAll s (files l d front) a moment
    pub full : SideFull key old new side moment b

  -- the space was given up since
  pub record FullSince (key : List ℕ) (old new : Option Row) (xs : List (Side L D)) (a b : S) : Type 0 where
    pub refused : S
    pub met : AllFull key old new xs a refused
    pub given_up : GivenUp s refused b
