-- Records hung and taken out, in a file of a space.
use Rattle.std.specs.Prelude.{◌≡◌, ◌⊎◌, ℕ, List, Option, Some, None, false, Result, OnOk, OnErr}
use Rattle.tc_space.specs.Frames.{OnlyReads, Others}
use Rattle.tc_space.specs.Stores.{Only}
use Rattle.tc_space.specs.declared.space.Space.{Ghosts}
use Rattle.hf_head.specs.declared.head.Head.{Head}
use Rattle.hf_head.specs.Heads.{unit}
use Rattle.hf_block.specs.Pieces.{Piece}
use Rattle.hf_layout.specs.Frees.{Frees}
use Rattle.hf_layout.specs.Layout.{HaveWidth, LaidOut}
use Rattle.hf_tree.specs.declared.parent.Parent.{Parent}
use Rattle.hf_tree.specs.Keys.{Key}
use Rattle.hf_tree.specs.Views.{with_key}
use Rattle.hf_tree.specs.Links.{view_of, width}
use Rattle.hf_chain.specs.Chains.{CanHang, IsHere, Rehung}

-- the bytes of a file turned into others in this way, and all other files stay
pub record ChangesBy {S : Type 0} (s : Ghosts S) (file : ℕ) (Turn : List ℕ → List ℕ → Type 0) (old new : S) : Type 0 where
  pub here : s.tells → Turn (s.now old file) (s.now new file)
  pub others : Others s (Only file) old new

-- after Ok it may be used; after a refusal nothing was written, or it may not
pub record LooksFirst {S T E : Type 0} (s : Ghosts S) (result : Result T E) (old new : S) : Type 0 where
  pub ok : OnOk result (s.sound new)
  pub err : OnErr result (OnlyReads s old new ⊎ (s.flag new ≡ false))

-- the record at a place was hung in the gap of its key, by one link
abbrev pub IsHung : Head → ℕ → Parent → List ℕ → List ℕ → Type 0
IsHung h at to old new =
    (end : ℕ) (pieces : List Piece) (frees lent : Frees) (places : Key → Option ℕ) (key : Key) → LaidOut (unit h) h.first end pieces frees lent old → HaveWidth (width h) h.first pieces
    → CanHang (view_of h pieces old) h.buckets places key at to → Rehung h end pieces frees lent (with_key places key (Some at)) 1 old new

-- the record that hung there was taken out, by two links at most
abbrev pub IsOut : Head → ℕ → Parent → List ℕ → List ℕ → Type 0
IsOut h at from old new =
    (end : ℕ) (pieces : List Piece) (frees lent : Frees) (places : Key → Option ℕ) (key : Key) → LaidOut (unit h) h.first end pieces frees lent old → HaveWidth (width h) h.first pieces
    → IsHere (view_of h pieces old) h.buckets places key at from → Rehung h end pieces frees lent (with_key places key None) 2 old new
