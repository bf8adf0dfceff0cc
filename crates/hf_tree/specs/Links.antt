-- The links and the records of a file, as its bytes say.
use Rattle.std.specs.Prelude.{◌≡◌, ℕ, ◌+◌, ◌*◌, ◌<◌, ◌≤◌, List, ◌++◌, drop, Option, Some, None, option_map, if◌then◌else◌, ◌==◌, length}
use Rattle.tc_base.specs.Endian.{le_number, field}
use Rattle.tc_base.specs.Hashes.{second}
use Rattle.hf_head.specs.declared.head.Head.{Head}
use Rattle.hf_head.specs.Heads.{unit, is_large, wide}
use Rattle.hf_block.specs.Pieces.{Record, Piece, held, spell, IsWhole, AreBlocks}
use Rattle.hf_block.specs.Walks.{between}
use Rattle.hf_layout.specs.Layout.{record_at, HaveWidth, LaidOut}
use Rattle.hf_layout.specs.Frees.{Frees}
use Rattle.hf_tree.specs.declared.parent.Parent.{Parent}
use Rattle.hf_tree.specs.declared.parent.Parent.TheVariants.{Bucket, Left, Right}
use Rattle.hf_tree.specs.Keys.{Key}
use Rattle.hf_tree.specs.Views.{View, Linked}

-- the bytes of a bucket's entry, and of a chain
abbrev pub width : Head → ℕ
width h = wide (is_large h)

-- whole blocks stand from the first up to an end, with chains of the file's width
pub record HasBlocks (h : Head) (end : ℕ) (pieces : List Piece) (bytes : List ℕ) : Type 0 where
  pub on : h.first ≤ end
  pub within : end ≤ length bytes
  pub filled : AreBlocks (unit h) (between h.first end bytes) pieces
  pub widths : HaveWidth (width h) h.first pieces

-- where a link stands, with links of that width
abbrev pub place_of : ℕ → Parent → ℕ
place_of w (Bucket b) = 256 + w * b
place_of w (Left p) = p + 2
place_of w (Right p) = p + 2 + w

-- the bucket array, and an entry of it as it is stored
abbrev pub array : Head → List ℕ → List ℕ
array h bytes = between 256 (256 + width h * h.buckets) bytes

abbrev pub entry : ℕ → ℕ → List ℕ → ℕ
entry w b entries = le_number (field (w * b) w entries)

-- a record's chains as they are stored, of no record none
abbrev pub left_of : Option Record → ℕ
left_of None = 0
left_of (Some r) = r.left

abbrev pub right_of : Option Record → ℕ
right_of None = 0
right_of (Some r) = r.right

-- a record's key, if it has its key's second hash
abbrev pub key_of : Option Record → Option Key
key_of None = None
key_of (Some r) = if r.hash == second r.key then Some r.key else None

abbrev pub value_of : Option Record → Option (List ℕ)
value_of None = None
value_of (Some r) = Some r.value

-- the place that a link names, or 0
unfoldable pub links_of : Head → List Piece → List ℕ → Parent → ℕ
links_of h pieces bytes (Bucket b) = unit h * entry (width h) b (array h bytes)
links_of h pieces bytes (Left p) = unit h * left_of (record_at h.first pieces p)
links_of h pieces bytes (Right p) = unit h * right_of (record_at h.first pieces p)

-- links and the keys of records
abbrev pub seen : (Parent → ℕ) → (ℕ → Option Record) → View
seen links records = record { links = links; keys = λ p. key_of (records p) }

abbrev pub view_of : Head → List Piece → List ℕ → View
view_of h pieces bytes = seen (links_of h pieces bytes) (record_at h.first pieces)

-- a record stands there, and the bytes of its links are those
pub record IsAt (u : ℕ) (r : Record) (p : ℕ) (bytes : List ℕ) : Type 0 where
  pub rest : List ℕ
  pub is : drop p bytes ≡ spell (held r) ++ rest
  pub whole : IsWhole u (held r)

-- a record without its chains
abbrev pub unlinked : Record → Record
unlinked r = record r { left = 0; right = 0 }

-- each record is as before but for its chains
abbrev pub AreKept : (ℕ → Option Record) → (ℕ → Option Record) → Type 0
AreKept old new = (p : ℕ) → option_map unlinked (new p) ≡ option_map unlinked (old p)

-- one link was set to a stored place; the blocks lie as before
pub record Relinked (h : Head) (end : ℕ) (old : List Piece) (frees lent : Frees) (before : List ℕ) (c : Parent) (n : ℕ) (bytes : List ℕ) : Type 0 where
  pub pieces : List Piece
  pub is : LaidOut (unit h) h.first end pieces frees lent bytes
  pub widths : HaveWidth (width h) h.first pieces
  pub kept : AreKept (record_at h.first old) (record_at h.first pieces)
  pub linked : Linked (view_of h old before) (view_of h pieces bytes) c (unit h * n)

-- the link is there: of one of the buckets, or of a record
abbrev pub IsThere : Head → List Piece → Parent → Type 0
IsThere h pieces (Bucket b) = b < h.buckets
IsThere h pieces (Left p) = (r : Record) × (record_at h.first pieces p ≡ Some r)
IsThere h pieces (Right p) = (r : Record) × (record_at h.first pieces p ≡ Some r)

-- a bucket's entry, from the front of the file
abbrev pub entry_at : ℕ → ℕ → List ℕ → ℕ
entry_at w b bytes = le_number (field (256 + w * b) w bytes)
