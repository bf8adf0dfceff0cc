-- A file whose records were moved to its front.
use Rattle.std.proofs.Common.{◌≡◌, ◌∙◌, ℕ, List, None, refl, sym, ap, subst, arith}
use Rattle.std.specs.FinMap.{get}
use Rattle.tc_base.specs.Maps.{Map}
use Rattle.tc_space.specs.Changes.{same}
use Rattle.tc_space.specs.Frames.{In, OnlyReads, Writes}
use Rattle.hf_block.specs.declared.block.BlockAt.{BlockAt}
use Rattle.hf_pack.specs.Moving.{Repacked}
use Rattle.hf_pack.specs.Packing.{Packs}
use Rattle.hf_tree.specs.Listing.{AreListed}
use Rattle.tc_hash.specs.Listed.{OfBlocks}
use Rattle.tc_space.specs.Stores.{Only}
use Rattle.tc_space.specs.declared.space.Space.{Ghosts}
use Rattle.hf_head.specs.declared.head.Head.{Head}
use Rattle.hf_head.specs.Heads.{unit}
use Rattle.hf_block.specs.Pieces.{AreBlocks, Piece}
use Rattle.hf_block.specs.Walks.{between}
use Rattle.hf_layout.specs.Layout.{record_at, frees_of}
use Rattle.hf_layout.proofs.Shares.{shared_as}
use Rattle.hf_pool.specs.declared.pool.Pool.{Pool}
use Rattle.hf_pool.specs.Pools.{frees as frees_in}
use Rattle.hf_tree.specs.Links.{HasBlocks, links_of}
use Rattle.hf_tree.specs.Rules.{Links}
use Rattle.hf_tree.specs.Standing.{AllHang}
use Rattle.tc_hash.specs.declared.hash.Hash.{Hash}
use Rattle.tc_hash.specs.Holding.{Holds}
use Rattle.tc_hash.specs.Keeping.{file_of, holds, numbers_of}
use Rattle.tc_hash.specs.Packing.{FillsFront, IsRepacked}
use Rattle.tc_hash.specs.Settling.{Settles, head_now}
use Rattle.tc_hash.specs.Standing.{StandsAs, numbers_in}
use Rattle.tc_hash.proofs.Kept.{links_head}

abbrev Packing : Head → ℕ → List ℕ → List ℕ → Type 0
Packing x end old new = (ps : List Piece) → HasBlocks x x.size ps old → IsRepacked x end ps old new

-- what the blocks of a map that is held were packed to
held_packed : (h now : Head) (p : Pool) (records : ℕ) (region : List ℕ) (m : Map) (old new : List ℕ) (end : ℕ) → now ≡ head_now h records p.size region → Packing now end old new → (w : Holds h p.size (frees_in p) records m old) → Repacked (head_now h records p.size region) end w.has.pieces new
held_packed h now p records region m old new end is packing held =
    let w = held.has in
    let x : Head = head_now h records p.size region in
    let same_links : ◌≡◌ {A = Links} (links_of x w.pieces old) (links_of h w.pieces old) = λ i c. links_head h records p.size region w.pieces old c i in
    let repack : Packing x end old new = subst (λ (y : Head). Packing y end old new) is packing in
    let blocks : HasBlocks x x.size w.pieces old = record { on = w.is.laid.on; within = w.is.laid.within; filled = w.is.laid.filled; widths = w.is.widths } in
    repack w.pieces blocks w.places (subst (λ (l : Links). AllHang l (record_at h.first w.pieces) h.buckets w.places) (sym same_links) w.is.hang)

pub packed_holds : (h now : Head) (p p' : Pool) (records : ℕ) (region : List ℕ) (m : Map) (old new : List ℕ) (end : ℕ) → now ≡ head_now h records p.size region → Packing now end old new → p'.size ≡ end → ((q : ℕ) → frees_in p' q ≡ None) → Holds h p.size (frees_in p) records m old → Holds h p'.size (frees_in p') records m new
packed_holds h now p p' records region m old new end is packing sized nothing held =
    let w = held.has in
    let r = held_packed h now p records region m old new end is packing held in
    record {
      has = record {
        pieces = r.pieces;
        places = r.places;
        is = record {
          laid = record {
            room = r.is.room;
            on = omega (arith, r.is.on, sized);
            within = omega (arith, r.is.within, sized);
            filled = subst (λ (n : ℕ). AreBlocks (unit h) (between h.first n new) r.pieces) (sym sized) r.is.filled;
            shared = λ q. shared_as (frees_of h.first r.pieces q) (frees_of h.first r.pieces q) None (frees_in p' q) None None refl (nothing q) refl (r.is.shared q);
          };
          widths = r.widths;
          hang = subst (λ (l : Links). AllHang l (record_at h.first r.pieces) h.buckets r.places) (λ i c. links_head h records p.size region r.pieces new c i) r.hang;
          map = r.map (get m) w.is.map;
        };
        short = omega (arith, r.short, w.short, sized);
      };
      count = held.count;
    }

-- they fill its front
pub packed_fills : (h now : Head) (p p' : Pool) (records : ℕ) (region : List ℕ) (m : Map) (old new : List ℕ) (end : ℕ) → now ≡ head_now h records p.size region → Packing now end old new → p'.size ≡ end → (w : Holds h p.size (frees_in p) records m old) → FillsFront h p'.size w.has.pieces new
packed_fills h now p p' records region m old new end is packing sized held =
    let r = held_packed h now p records region m old new end is packing held in
    let blocks : HasBlocks h end r.pieces new = record { on = r.is.on; within = r.is.within; filled = r.is.filled; widths = r.widths } in
    subst (λ (n : ℕ). FillsFront h n held.has.pieces new) (sym sized) (record { links = r.links; blocks = subst (λ (ps : List Piece). HasBlocks h end ps new) r.are blocks; ends = r.ends })

module _ {S : Type 0} (s : Ghosts S) where
  -- what is held in memory was brought to the file
  pub settled_same : (v v' : Hash S) (a b : S) → v'.body.file ≡ v.body.file → Settles s v v' a b → Writes s (Only (file_of v)) (In s file_of holds) same v v' a b
  settled_same v v' a b file done = record {
    sound = done.sound;
    means = λ m w. (w.0, subst (λ (f : ℕ). holds v' (s.now b f) m) (sym file) (done.held w.0 m w.1));
    others = done.others;
  }

  pub settled_stands : (v v' : Hash S) (a b : S) → v'.body.head ≡ v.body.head → v'.region ≡ v.region → Settles s v v' a b → (m : Map) → In s file_of holds v a m → StandsAs v.body.head.kind (numbers_of v) (s.now b (file_of v)) m v.region
  settled_stands v v' a b head region done m w =
      let x = done.brought w.0 m w.1 in
      subst (λ (r : List ℕ). StandsAs v.body.head.kind (numbers_of v) (s.now b v.body.file) m r) region
      (subst (λ (h : Head). StandsAs h.kind (numbers_in h) (s.now b v.body.file) m v'.region) head (record { file = x.stands; numbers_are = ap numbers_in (sym x.stands.is.opens.spells.fields ∙ x.head); long = (done.front w.0).long ∙ sym (ap (λ (h : Head). h.size) (sym x.stands.is.opens.spells.fields ∙ x.head)) }))

  -- the blocks that were listed were packed
  pub packs_blocks : (h : Head) (file : ℕ) (a b c : S) (blocks : List BlockAt) (end : ℕ) → OnlyReads s a b → OfBlocks s h file a (λ ps. AreListed h ps (s.now b file) blocks) → Packs s h file blocks b c end → OfBlocks s h file a (λ ps. IsRepacked h end ps (s.now a file) (s.now c file))
  packs_blocks h file a b c blocks end r listed packs t ps has places hang =
      packs t ps places (listed t ps has) (subst (λ (l : List ℕ). AllHang (links_of h ps l) (record_at h.first ps) h.buckets places) (sym (r.files t file)) hang)
