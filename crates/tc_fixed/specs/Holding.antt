-- What a fixed-length file holds between calls.
use Rattle.std.specs.Prelude.{◌≡◌, ℕ, ◌^◌, ◌≤◌, List, [], length}
use Rattle.tc_model.specs.Arrays.{Array}
use Rattle.tc_space.specs.Frames.{In}
use Rattle.tc_space.specs.declared.space.Space.{Ghosts}
pub use Rattle.tc_reach.specs.Limits.{HasNoRoom}
use Rattle.tc_fixed.specs.declared.fixed.Fixed.{Fixed}
use Rattle.tc_fixed.specs.declared.tally.Tally.{Tally}
use Rattle.tc_fixed.specs.Cells.{Fills, end_of}
use Rattle.tc_fixed.specs.Shapes.{HasShape, most_id}
use Rattle.tc_fixed.specs.Tallies.{Counts}

-- the cells have the values of the map up to its greatest id, and this is what is counted of it
pub record Holds (width limit : ℕ) (t : Tally) (m : Array) (bytes : List ℕ) : Type 0 where
  pub shape : HasShape width limit t.greatest
  pub fills : Fills width t.greatest m bytes
  pub counts : Counts t m

module _ {S : Type 0} where
  abbrev pub width_of : Fixed S → ℕ
  width_of f = f.width

  -- the greatest id allowed
  abbrev pub max_id_of : Fixed S → ℕ
  max_id_of f = most_id f.width f.limit

  abbrev pub holds : Fixed S → List ℕ → Array → Type 0
  holds f bytes m = Holds f.width f.limit f.tally m bytes

  -- its file
  abbrev pub own : Fixed S → ℕ
  own f = 0

  abbrev pub Means : Ghosts S → Fixed S → S → Array → Type 0
  Means s f space m = In s own holds f space m

  -- the width and the limit stay
  pub record SameShape (old new : Fixed S) : Type 0 where
    pub width : new.width ≡ old.width
    pub limit : new.limit ≡ old.limit

module _ {S : Type 0} (s : Ghosts S) (space : S) where
  -- the space may be used, and its file has so many bytes at least
  pub record ReachesTo (upto : ℕ) : Type 0 where
    pub sound : s.sound space
    pub inside : s.tells → upto ≤ length (s.now space 0)

  -- the space may be used, and its file has the cells of that width up to an id
  pub record HasCellsTo (width last : ℕ) : Type 0 where
    pub sound : s.sound space
    pub width_least : 1 ≤ width
    pub width_most : width ≤ 1048576
    pub last_most : last ≤ 2 ^ 40
    pub inside : s.tells → end_of width last ≤ length (s.now space 0)

  -- the space may be used, its file has no bytes, and a fixed-length file may have these numbers
  pub record MayCreate (width limit : ℕ) : Type 0 where
    pub sound : s.sound space
    pub empty : s.tells → s.now space 0 ≡ []
    pub width_least : 1 ≤ width
    pub width_most : width ≤ 1048576
    pub limit_least : 512 ≤ limit
    pub limit_most : limit ≤ 2 ^ 40
