-- What it is for the bytes of a file to stand for a map.
use Rattle.std.specs.Prelude.{◌≡◌, ◌↔◌, ℕ, ◌+◌, ◌*◌, ◌<◌, ◌≤◌, List, [], ◌∷◌, ◌++◌, length, take, Option, Some}
use Rattle.tc_base.specs.Vnum.{vnum}
use Rattle.hf_head.specs.declared.head.Head.{Head}
use Rattle.hf_head.specs.Heads.{IsValid, Spells, unit, sections}
use Rattle.hf_block.specs.Pieces.{Record, Piece, held, free}
use Rattle.hf_block.specs.Walks.{between}
use Rattle.hf_layout.specs.Layout.{record_at, frees_of}
use Rattle.hf_layout.specs.Frees.{Frees, IsThere}
use Rattle.hf_tree.specs.Keys.{Key}
use Rattle.hf_tree.specs.Views.{Holds}
use Rattle.hf_tree.specs.Links.{HasBlocks, links_of, width, seen}
use Rattle.hf_tree.specs.Rules.{Links, Records, NamesRecords, ReachedOnce, AreAtHome, AreInOrder}

abbrev pub Map : Type 0
Map = Key → Option (List ℕ)

-- how many of the blocks are records
abbrev pub count_of : List Piece → ℕ
count_of [] = 0
count_of (held r ∷ pieces) = 1 + count_of pieces
count_of (free size tail ∷ pieces) = count_of pieces

-- key to value over the records
abbrev pub IsMapOf : Records → Map → Type 0
IsMapOf records map = (key value : List ℕ) → (map key ≡ Some value) ↔ ((p : ℕ) × (r : Record) × (records p ≡ Some r) × (r.key ≡ key) × (r.value ≡ value))

-- a list of free blocks at the front of the pool section, in units: the difference of each place to the one before, and the size. Two zero bytes end it
abbrev pub Lists : ℕ → Frees → ℕ → List ℕ → List (ℕ × ℕ) → Type 0
Lists u frees before section [] = (rest : List ℕ) × (section ≡ 0 ∷ 0 ∷ rest)
Lists u frees before section (b ∷ blocks) = (rest : List ℕ) × (0 < b.0) × (section ≡ vnum b.0 ++ (vnum b.1 ++ rest)) × IsThere frees (u * (before + b.0)) (u * b.1) × Lists u frees (before + b.0) rest blocks

-- each bucket's records hang in order and at home, each record hangs, and these are their places by key
pub record AllHang (links : Links) (records : Records) (n : ℕ) (places : Key → Option ℕ) : Type 0 where
  pub holds : Holds (seen links records) n places
  pub all : (p : ℕ) (r : Record) → records p ≡ Some r → places r.key ≡ Some p

-- the head and the blocks that bytes have
pub record Opens (kind : ℕ) (bytes : List ℕ) (h : Head) (pieces : List Piece) : Type 0 where
  pub long : 256 ≤ length bytes
  pub valid : IsValid h
  pub spells : Spells h (take 256 bytes)
  pub kind_is : h.kind ≡ kind
  pub blocks : HasBlocks h h.size pieces bytes

-- the bytes stand for the map: each rule of the layout holds, and the map is that of the records
pub record StandsFor (kind : ℕ) (bytes : List ℕ) (map : Map) : Type 0 where
  pub head : Head
  pub pieces : List Piece
  pub opens : Opens kind bytes head pieces
  pub names : NamesRecords (links_of head pieces bytes) (record_at head.first pieces) head.buckets
  pub once : ReachedOnce (links_of head pieces bytes) (record_at head.first pieces) head.buckets
  pub home : AreAtHome (links_of head pieces bytes) (record_at head.first pieces) head.buckets
  pub order : AreInOrder (links_of head pieces bytes) (record_at head.first pieces) head.buckets
  pub count : head.records ≡ count_of pieces
  pub pool : (blocks : List (ℕ × ℕ)) × Lists (unit head) (frees_of head.first pieces) 0 (between (256 + width head * head.buckets) (sections head) bytes) blocks
  pub is : IsMapOf (record_at head.first pieces) map
