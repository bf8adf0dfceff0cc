-- What the calls on chains speak of.
use Rattle.std.specs.Prelude.{◌≡◌, ◌≢◌, ℕ, ◌*◌, ◌/◌, ◌%◌, ◌^◌, ◌<◌, ◌≤◌, List, length, Option, Some, None}
use Rattle.std.specs.declared.cmp.Ordering.{Ordering}
use Rattle.tc_base.specs.Hashes.{second}
use Rattle.hf_head.specs.declared.head.Head.{Head}
use Rattle.hf_head.specs.Heads.{unit}
use Rattle.hf_block.specs.Pieces.{Record, Piece}
use Rattle.hf_layout.specs.Frees.{Frees}
use Rattle.hf_layout.specs.Layout.{record_at, HaveWidth, LaidOut}
use Rattle.hf_tree.specs.declared.parent.Parent.{Parent}
use Rattle.hf_tree.specs.declared.parent.Parent.TheVariants.{Bucket, Left, Right}
use Rattle.hf_tree.specs.declared.parent.Found.{Found}
use Rattle.hf_tree.specs.declared.parent.Found.TheVariants.{Here, Gap}
use Rattle.hf_tree.specs.Keys.{Key, bucket_of, key_cmp}
use Rattle.hf_tree.specs.Trees.{Tree, last, seek, nodes, by_order}
use Rattle.hf_tree.specs.Views.{View, Hangs, Hung, Holds}
use Rattle.hf_tree.specs.Links.{HasBlocks, view_of, width, AreKept}
use Rattle.hf_chain.specs.Heads.{HasRecord, capped}
use Rattle.hf_chain.specs.Differs.{OnlyLinks}

-- the records of a bucket hang in this tree
pub record InTree (h : Head) (end : ℕ) (pieces : List Piece) (bytes : List ℕ) (b : ℕ) (t : Tree) : Type 0 where
  pub blocks : HasBlocks h end pieces bytes
  pub hung : Hung (view_of h pieces bytes) h.buckets b t

-- the records of a bucket hang in some tree
pub record HasTree (h : Head) (b : ℕ) (bytes : List ℕ) : Type 0 where
  pub end : ℕ
  pub pieces : List Piece
  pub tree : Tree
  pub is : InTree h end pieces bytes b tree

-- where a search goes on from a record, and the place named there; none where it is the record's key
abbrev pub step_of : ℕ → ℕ → Record → Ordering → Option (Parent × ℕ)
step_of u at r o = by_order o (Some (Right at, capped (u * r.right))) None (Some (Left at, capped (u * r.left)))

-- where a search for a key goes on from whatever record stands at a place
abbrev pub IsStep : Head → ℕ → List ℕ → List ℕ → Option (Parent × ℕ) → Type 0
IsStep h at key bytes step = (r : Record) → HasRecord h r at bytes → r.hash ≡ second r.key → step ≡ step_of (unit h) at r (key_cmp key r.key)

-- where it ends, in whatever tree hangs in the key's bucket
abbrev pub EndsAt : Head → List ℕ → List ℕ → Found → Type 0
EndsAt h key bytes found = (end : ℕ) (pieces : List Piece) (t : Tree) → InTree h end pieces bytes (bucket_of h.buckets key) t → found ≡ seek (Bucket (bucket_of h.buckets key)) t key

-- a link can name the place
pub record CanName (h : Head) (at : ℕ) : Type 0 where
  pub aligned : at % unit h ≡ 0
  pub fits : at / unit h < 256 ^ width h

-- the record at a place, whose chains are empty, may be hung in the gap of its key
pub record CanHang (v : View) (n : ℕ) (places : Key → Option ℕ) (k : Key) (at : ℕ) (to : Parent) : Type 0 where
  pub holds : Holds v n places
  pub gap : seek (Bucket (bucket_of n k)) (holds.trees (bucket_of n k)) k ≡ Gap to
  pub key : v.keys at ≡ Some k
  pub left : v.links (Left at) ≡ 0
  pub right : v.links (Right at) ≡ 0

-- the record of a key hangs there
pub record IsHere (v : View) (n : ℕ) (places : Key → Option ℕ) (k : Key) (at : ℕ) (from : Parent) : Type 0 where
  pub holds : Holds v n places
  pub here : seek (Bucket (bucket_of n k)) (holds.trees (bucket_of n k)) k ≡ Here at from

-- how many records hang in the bucket that it hangs in
abbrev pub around : (v : View) (n : ℕ) (places : Key → Option ℕ) (k : Key) (at : ℕ) (from : Parent) → IsHere v n places k at from → ℕ
around v n places k at from w = nodes (w.holds.trees (bucket_of n k))

-- the record at a place of a file may be hung in the gap of its key
pub record MayHang (h : Head) (at : ℕ) (to : Parent) (bytes : List ℕ) : Type 0 where
  pub end : ℕ
  pub pieces : List Piece
  pub blocks : HasBlocks h end pieces bytes
  pub places : Key → Option ℕ
  pub key : Key
  pub can : CanHang (view_of h pieces bytes) h.buckets places key at to

-- the record at a place of a file may be taken out
pub record MayUnhang (h : Head) (at : ℕ) (from : Parent) (bytes : List ℕ) : Type 0 where
  pub end : ℕ
  pub pieces : List Piece
  pub blocks : HasBlocks h end pieces bytes
  pub places : Key → Option ℕ
  pub key : Key
  pub is : IsHere (view_of h pieces bytes) h.buckets places key at from

-- a tree of some records hangs at a place
pub record HasSubtree (h : Head) (at : ℕ) (bytes : List ℕ) : Type 0 where
  pub some : at ≢ 0
  pub end : ℕ
  pub pieces : List Piece
  pub blocks : HasBlocks h end pieces bytes
  pub tree : Tree
  pub hangs : Hangs (view_of h pieces bytes) at tree
  pub few : nodes tree ≤ length bytes

-- the rightmost record of whatever tree hangs at a place
abbrev pub IsLast : Head → ℕ → ℕ → List ℕ → Type 0
IsLast h e a bytes = (end : ℕ) (pieces : List Piece) (t : Tree) → HasBlocks h end pieces bytes → Hangs (view_of h pieces bytes) a t → e ≡ last a t

-- the blocks lie as before and each record is as before but for its chains; the records that hang have these places; besides at most so many
-- links nothing was written
pub record Rehung (h : Head) (end : ℕ) (old : List Piece) (frees lent : Frees) (places : Key → Option ℕ) (links : ℕ) (before bytes : List ℕ) : Type 0 where
  pub pieces : List Piece
  pub is : LaidOut (unit h) h.first end pieces frees lent bytes
  pub widths : HaveWidth (width h) h.first pieces
  pub kept : AreKept (record_at h.first old) (record_at h.first pieces)
  pub holds : Holds (view_of h pieces bytes) h.buckets places
  pub rest : OnlyLinks h links before bytes
