-- Rows that go, one after the other.
use Rattle.std.specs.Prelude.{◌≡◌, ◌≤◌, ℕ, ◌+◌, List, [], ◌∷◌, ◌++◌, fold, length, take}
use Rattle.std.specs.FinMap.{remove}
use Rattle.std.specs.declared.cmp.Ordering.{Ordering}
use Rattle.tc_space.specs.Frames.{GivenUp, Keeps}
use Rattle.tc_space.specs.declared.records.Records as records
use Rattle.tc_space.specs.declared.multi.Multi as multi
use Rattle.tc_space.specs.declared.space.Space.{Ghosts}
use Rattle.tc_model.specs.Contents.{Rows}
use Rattle.tc_table.specs.Sides.{OthersAll}
use Rattle.tc_table.specs.Tables.{FullOut, Holds, StaysTable, files_of}
use Rattle.tc_table.specs.declared.table.Table.{Table}

abbrev pub all_out : List (List ℕ) → Rows → Rows
all_out keys rows = fold (λ m key. remove m key) rows keys

module _ {S R L OL D OD : Type 0} (s : Ghosts S) (r : records.Ghosts R S) (l : multi.Ghosts L S OL) (d : multi.Ghosts D S OD) where
  -- the rows of these keys are gone
  pub record DropsAll (keys : List (List ℕ)) (t t' : Table R L D) (a b : S) : Type 0 where
    pub sound : s.sound b
    pub means : (rows : Rows) → Holds s r l d t a rows → Holds s r l d t' b (all_out keys rows)
    pub others : OthersAll s (files_of r l d t) a b

  module _ (lc dc : List ℕ → List ℕ → Ordering) where
    -- a limit was reached at the row of the key that came next, behind those in front of it
    pub record FullEach (keys : List (List ℕ)) (t : Table R L D) (a b : S) : Type 0 where
      pub done : ℕ
      pub key : List ℕ
      pub next : take (done + 1) keys ≡ take done keys ++ key ∷ []
      pub table : Table R L D
      pub moment : S
      pub so_far : DropsAll (take done keys) t table a moment
      pub stays : StaysTable r l d t table
      pub since : Keeps s a moment
      pub full : FullOut s r l d lc dc key table moment b

    -- the space was given up since
    pub record FullGiven (keys : List (List ℕ)) (t : Table R L D) (a b : S) : Type 0 where
      pub refused : S
      pub met : FullEach keys t a refused
      pub given_up : GivenUp s refused b
