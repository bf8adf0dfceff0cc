-- Records moved by a stream, and what that makes of a file.
use Rattle.std.specs.Prelude.{◌≡◌, ℕ, ◌+◌, ◌*◌, ◌^◌, ◌≤◌, List, drop, length, Option}
use Rattle.std.specs.Ordering.{nat_cmp}
use Rattle.std.specs.BTreeMap as tree
use Rattle.tc_space.specs.declared.space.Space.{Ghosts}
use Rattle.hf_head.specs.declared.head.Head.{Head}
use Rattle.hf_block.specs.declared.block.BlockAt.{BlockAt}
use Rattle.hf_block.specs.Pieces.{AllWhole, Piece, Record, held, placed, size_of, spell, spell_all}
use Rattle.hf_block.specs.Written.{linked_front}
use Rattle.hf_chain.specs.declared.heads.RecHead.{RecHead}
use Rattle.hf_chain.specs.Heads.{HasRecord}
use Rattle.hf_layout.specs.Layout.{record_at}
use Rattle.hf_tree.specs.Keys.{Key}
use Rattle.hf_tree.specs.Links.{links_of, width}
use Rattle.hf_tree.specs.Listing.{AreListed, WereListed}
use Rattle.hf_tree.specs.Standing.{AllHang}
use Rattle.hf_pack.specs.declared.stream.Stream.{Stream}
use Rattle.hf_pack.specs.Moving.{AllFit, Places, Repacked, entries_as, moved, new_place, rechained, renamed_in}
use Rattle.hf_pack.specs.Streams.{Pushed, Written, end_of}

-- the block of a record, which a stream may take
pub record MayMove (h : Head) (block : BlockAt) (t : Stream) (bytes : List ℕ) : Type 0 where
  pub r : Record
  pub has : HasRecord h r block.place bytes
  pub sized : block.size ≡ size_of (held r)
  pub low : end_of t ≤ block.place

-- blocks were listed, and a stream stands where the first is
pub record MayMoveAll (h : Head) (blocks : List BlockAt) (t : Stream) (bytes : List ℕ) : Type 0 where
  pub listed : WereListed h bytes blocks
  pub starts : end_of t ≡ h.first

-- the first bytes of a record with this head under new names, up to behind its chains
abbrev pub front_as : Head → Places → RecHead → List ℕ
front_as h places rec = linked_front (width h) rec.hash (renamed_in h places rec.left) (renamed_in h places rec.right)

-- where each record among blocks goes
abbrev pub AreTargets : ℕ → List BlockAt → Places → Type 0
AreTargets first blocks places = (u : ℕ) (ps : List Piece) → AllWhole u ps → blocks ≡ placed first ps → first + length (spell_all ps) ≤ 2 ^ 40 → (q : ℕ) → tree.get nat_cmp places q ≡ new_place first first ps q

-- ---- in a file of a space, where its bytes are told

module _ {S : Type 0} (s : Ghosts S) (h : Head) (file : ℕ) where
  -- the record of a block was pushed with new chains
  abbrev pub Moves : Places → BlockAt → Stream → Stream → S → S → Type 0
  Moves places block t t' old new = s.tells → (r : Record) → HasRecord h r block.place (s.now old file) → block.size ≡ size_of (held r) → Pushed t t' (s.now old file) (s.now new file) (spell (held (rechained (renamed_in h places) r)))

  -- those of all blocks were
  abbrev pub MovesAll : Places → List BlockAt → Stream → Stream → S → S → Type 0
  MovesAll places blocks t t' old new = s.tells → (ps : List Piece) → AreListed h ps (s.now old file) blocks → Pushed t t' (s.now old file) (s.now new file) (spell_all (moved (renamed_in h places) ps))

  -- they stand from the first block's place on
  abbrev pub PacksRecords : Places → List BlockAt → S → S → ℕ → Type 0
  PacksRecords places blocks old new end = s.tells → (ps : List Piece) → AreListed h ps (s.now old file) blocks → Written h.first end (s.now old file) (s.now new file) (spell_all (moved (renamed_in h places) ps))

  -- all entries have new names,
  abbrev pub PacksEntries : Places → S → S → Type 0
  PacksEntries places old new = s.tells → Written 256 (256 + width h * h.buckets) (s.now old file) (s.now new file) (entries_as (renamed_in h places) (width h) h.buckets (drop 256 (s.now old file)))

  -- which fit
  abbrev pub EntriesFit : Places → S → Type 0
  EntriesFit places old = s.tells → AllFit (renamed_in h places) (width h) h.buckets (drop 256 (s.now old file))

  -- the file is packed, whatever blocks were listed and however their records hang,
  abbrev pub Packs : List BlockAt → S → S → ℕ → Type 0
  Packs blocks old new end = s.tells → (ps : List Piece) (places : Key → Option ℕ) → AreListed h ps (s.now old file) blocks → AllHang (links_of h ps (s.now old file)) (record_at h.first ps) h.buckets places → Repacked h end ps (s.now new file)

  -- where these are the new places
  abbrev pub PacksBy : Places → List BlockAt → S → S → ℕ → Type 0
  PacksBy targets blocks old new end =
      s.tells → (ps : List Piece) (places : Key → Option ℕ) → AreListed h ps (s.now old file) blocks → AllHang (links_of h ps (s.now old file)) (record_at h.first ps) h.buckets places
      → ((q : ℕ) → tree.get nat_cmp targets q ≡ new_place h.first h.first ps q) → Repacked h end ps (s.now new file)
