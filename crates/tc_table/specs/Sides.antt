-- The indexes of a table, each over a tree in a file of its own.
use Rattle.std.specs.Prelude.{◌≡◌, ◌≢◌, ◌≤◌, ℕ, Bool, true, false, List, [], ◌∷◌, map, Option}
use Rattle.std.specs.FinMap.{get}
use Rattle.tc_space.specs.Frames.{In, Others}
use Rattle.tc_space.specs.Lists.{Made}
use Rattle.tc_space.specs.Stores.{IsReady, Only}
use Rattle.tc_space.specs.declared.space.Space.{Ghosts}
use Rattle.tc_space.specs.declared.multi.Multi as multi
use Rattle.tc_model.specs.Contents.{Rows}
use Rattle.tc_model.specs.Rows.{Row}
use Rattle.tc_model.specs.declared.query.IndexKind.{IndexKind}
use Rattle.tc_model.specs.declared.query.IndexKind.TheVariants as kinds
use Rattle.td_index.specs.Entries.{Firsts, Stands, with_firsts}
use Rattle.tc_table.specs.Parts.{IsNext, parts_of}
use Rattle.tc_table.specs.declared.side.Side.{Side}
use Rattle.tc_table.specs.declared.side.Sorted.{Sorted}
use Rattle.tc_table.specs.declared.side.Sorted.TheVariants.{Lexical, Decimal}

-- ---- files

-- it is none of these
abbrev pub IsAway : ℕ → List ℕ → Type 0
IsAway f [] = Unit {0}
IsAway f (g ∷ gs) = (f ≢ g) × IsAway f gs

-- none comes twice
abbrev pub AreApart : List ℕ → Type 0
AreApart [] = Unit {0}
AreApart (f ∷ fs) = IsAway f fs × AreApart fs

-- all files but these stay, where they are told
pub record OthersAll {S : Type 0} (s : Ghosts S) (fs : List ℕ) (old new : S) : Type 0 where
  pub same : s.tells → (g : ℕ) → IsAway g fs → s.now new g ≡ s.now old g

-- ---- orders and types

-- the type's tree is ordered by numbers
abbrev pub asks_decimal : IndexKind → Bool
asks_decimal kinds.Lexical = false
asks_decimal kinds.Decimal = true
asks_decimal kinds.Token = false

module _ {L D : Type 0} where
  abbrev pub is_decimal : Sorted L D → Bool
  is_decimal (Lexical i) = false
  is_decimal (Decimal i) = true

  abbrev pub name_of : Sorted L D → List ℕ
  name_of (Lexical i) = i.name
  name_of (Decimal i) = i.name

-- ---- what stays

module _ {S L OL D OD : Type 0} (l : multi.Ghosts L S OL) (d : multi.Ghosts D S OD) where
  abbrev pub tree_file : Sorted L D → ℕ
  tree_file (Lexical i) = l.file_of i.tree
  tree_file (Decimal i) = d.file_of i.tree

  abbrev pub tree_made : Sorted L D → Made
  tree_made (Lexical i) = l.made i.tree
  tree_made (Decimal i) = d.made i.tree

  abbrev pub tree_lead : Sorted L D → ℕ
  tree_lead (Lexical i) = l.lead i.tree
  tree_lead (Decimal i) = d.lead i.tree

  abbrev pub files : List (Side L D) → List ℕ
  files xs = map (λ x. tree_file x.tree) xs

  -- order, name and file stay, and what its tree was made with, and no more lies free in front of the first block than did
  pub record StaysTree (x y : Sorted L D) : Type 0 where
    pub order : is_decimal y ≡ is_decimal x
    pub name : name_of y ≡ name_of x
    pub file : tree_file y ≡ tree_file x
    pub made : tree_made y ≡ tree_made x
    pub lead : tree_lead y ≤ tree_lead x

  -- besides, the type stays
  pub record StaysSide (x y : Side L D) : Type 0 where
    pub kind : y.kind ≡ x.kind
    pub tree : StaysTree x.tree y.tree

  abbrev pub AllStay : List (Side L D) → List (Side L D) → Type 0
  AllStay [] [] = Unit {0}
  AllStay (x ∷ xs) (y ∷ ys) = StaysSide x y × AllStay xs ys
  AllStay _ _ = ⊥

-- ---- what they stand for

module _ {S L OL D OD : Type 0} (s : Ghosts S) (l : multi.Ghosts L S OL) (d : multi.Ghosts D S OD) where
  abbrev pub TreeStands : Sorted L D → S → Firsts → Type 0
  TreeStands (Lexical i) space h = Stands s l i.tree space h
  TreeStands (Decimal i) space h = Stands s d i.tree space h

  abbrev pub TreeReady : Sorted L D → S → Type 0
  TreeReady (Lexical i) space = IsReady s (In s l.file_of l.holds) i.tree space
  TreeReady (Decimal i) space = IsReady s (In s d.file_of d.holds) i.tree space

  -- the index has its parts of the rows, in the order of its type
  pub record SideStands (x : Side L D) (space : S) (rows : Rows) : Type 0 where
    pub fits : is_decimal x.tree ≡ asks_decimal x.kind
    pub stands : TreeStands x.tree space (parts_of x.kind (name_of x.tree) rows)

  abbrev pub AllStand : List (Side L D) → S → Rows → Type 0
  AllStand [] space rows = Unit {0}
  AllStand (x ∷ xs) space rows = SideStands x space rows × AllStand xs space rows

  -- they may be called
  pub record AllReady (xs : List (Side L D)) (space : S) : Type 0 where
    pub sound : s.sound space
    pub apart : s.tells → AreApart (files l d xs)
    pub held : s.tells → (rows : Rows) × AllStand xs space rows

  -- ---- calls

  -- the row of a key gives a tree these parts in place of those
  pub record TreeTurns (key : List ℕ) (old new : List (List ℕ)) (x y : Sorted L D) (a b : S) : Type 0 where
    pub sound : s.sound b
    pub means : (h : Firsts) → TreeStands x a h → h key ≡ old → TreeStands y b (with_firsts key new h)
    pub others : Others s (Only (tree_file l d x)) a b

  -- a key has this row in place of that, or none
  pub record SideTurns (key : List ℕ) (old new : Option Row) (x y : Side L D) (a b : S) : Type 0 where
    pub sound : s.sound b
    pub means : (m n : Rows) → SideStands x a m → get m key ≡ old → IsNext key new m n → SideStands y b n
    pub others : Others s (Only (tree_file l d x.tree)) a b

  pub record AllTurn (key : List ℕ) (old new : Option Row) (xs ys : List (Side L D)) (a b : S) : Type 0 where
    pub sound : s.sound b
    pub means : (m n : Rows) → AreApart (files l d xs) → AllStand xs a m → get m key ≡ old → IsNext key new m n → AllStand ys b n
    pub others : OthersAll s (files l d xs) a b
