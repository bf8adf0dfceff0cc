-- Records moved to the front of the blocks, and what names them then.
use Rattle.std.specs.Prelude.{◌≡◌, ℕ, zero, suc, ◌+◌, ◌*◌, ◌/◌, ◌==◌, ◌^◌, ◌<◌, ◌≤◌, min, List, [], ◌∷◌, ◌++◌, Option, Some, None, unwrap_or, if◌then◌else◌}
use Rattle.std.specs.Ordering.{nat_cmp}
use Rattle.std.specs.BTreeMap.{BTreeMap}
use Rattle.std.specs.BTreeMap as tree
use Rattle.tc_base.specs.Endian.{field, le_bytes, le_number}
use Rattle.hf_head.specs.declared.head.Head.{Head}
use Rattle.hf_head.specs.Heads.{unit}
use Rattle.hf_block.specs.Pieces.{Record, Piece, held, free, size_of}
use Rattle.hf_layout.specs.Frees.{none}
use Rattle.hf_layout.specs.Layout.{record_at, HaveWidth, LaidOut}
use Rattle.hf_tree.specs.Keys.{Key}
use Rattle.hf_tree.specs.Links.{links_of, width}
use Rattle.hf_tree.specs.Standing.{AllHang, IsMapOf, Map}
use Rattle.hf_chain.specs.Heads.{capped}

-- where the record at a place goes, where the first block stands at one place and the first record goes to another
abbrev pub new_place : ℕ → ℕ → List Piece → ℕ → Option ℕ
new_place at to [] q = None
new_place at to (held r ∷ ps) q = if q == at then Some to else new_place (at + size_of (held r)) (to + size_of (held r)) ps q
new_place at to (free size tail ∷ ps) q = new_place (at + size_of (free size tail)) to ps q

-- a stored link as it is then, by the new places of records; it is none where no record was named, and never greater
abbrev pub renamed : ℕ → (ℕ → Option ℕ) → ℕ → ℕ
renamed u places n = min (unwrap_or (places (capped (u * n))) 0 / u) n

-- the new places of records, as a map has them
abbrev pub Places : Type 0
Places = BTreeMap ℕ ℕ

abbrev pub renamed_by : ℕ → Places → ℕ → ℕ
renamed_by u places = renamed u (λ q. tree.get nat_cmp places q)

abbrev pub renamed_in : Head → Places → ℕ → ℕ
renamed_in h places = renamed_by (unit h) places

-- a record with other chains
abbrev pub rechained : (ℕ → ℕ) → Record → Record
rechained f r = record r { left = f r.left; right = f r.right }

-- the records among blocks, with other chains
abbrev pub moved : (ℕ → ℕ) → List Piece → List Piece
moved f [] = []
moved f (held r ∷ ps) = held (rechained f r) ∷ moved f ps
moved f (free size tail ∷ ps) = moved f ps

-- the bytes of the blocks of the records among blocks
abbrev pub records_long : List Piece → ℕ
records_long [] = 0
records_long (held r ∷ ps) = size_of (held r) + records_long ps
records_long (free size tail ∷ ps) = records_long ps

-- so many numbers of a width at the front of bytes, each as another
abbrev pub entries_as : (ℕ → ℕ) → ℕ → ℕ → List ℕ → List ℕ
entries_as f w zero bytes = []
entries_as f w (suc n) bytes = entries_as f w n bytes ++ le_bytes w (f (le_number (field (w * n) w bytes)))

-- they fit into that width
abbrev pub AllFit : (ℕ → ℕ) → ℕ → ℕ → List ℕ → Type 0
AllFit f w n bytes = (d : ℕ) → d < n → f (le_number (field (w * d) w bytes)) < 256 ^ w

-- the blocks of all records of a file stand one after the other from the first block's place on, as they are and in the order that they had, but for their
-- chains; they hang in the same trees, and are the same map
pub record Repacked (h : Head) (end : ℕ) (old : List Piece) (bytes : List ℕ) : Type 0 where
  pub pieces : List Piece
  pub links : ℕ → ℕ
  pub are : pieces ≡ moved links old
  pub ends : end ≡ h.first + records_long old
  pub is : LaidOut (unit h) h.first end pieces none none bytes
  pub widths : HaveWidth (width h) h.first pieces
  pub places : Key → Option ℕ
  pub hang : AllHang (links_of h pieces bytes) (record_at h.first pieces) h.buckets places
  pub map : (m : Map) → IsMapOf (record_at h.first old) m → IsMapOf (record_at h.first pieces) m
  pub short : end ≤ h.size
