-- Keys of records read block by block.
use Rattle.std.proofs.Common.{◌≡◌, ◌∙◌, ℕ, ◌+◌, ◌%◌, ◌^◌, ◌≤◌, List, [], ◌∷◌, ◌++◌, length, map, refl, sym, ap, subst, arith, Some, true, false}
use Rattle.std.specs.Prelude.{slice_get}
use Rattle.tc_base.specs.Maps.{Map}
use Rattle.hf_head.specs.declared.head.Head.{Head}
use Rattle.hf_head.specs.Heads.{IsValid, unit}
use Rattle.tc_space.specs.declared.space.Space.{Ghosts}
use Rattle.hf_pool.specs.Pools.{frees}
use Rattle.hf_record.proofs.Valid.{is_data}
use Rattle.tc_hash.specs.declared.hash.Hash.{Hash}
use Rattle.tc_hash.specs.Keeping.{CanCall, Means}
use Rattle.tc_hash.proofs.Kept.{still_valid}
use Rattle.hf_block.specs.declared.block.BlockAt.{BlockAt}
use Rattle.hf_block.specs.Pieces.{Piece, Record, held, free, size_of, AllWhole}
use Rattle.hf_layout.specs.Frees.{Frees}
use Rattle.hf_layout.specs.Layout.{record_at, record_of}
use Rattle.hf_layout.proofs.Places.{here}
use Rattle.hf_tree.specs.Keys.{Key}
use Rattle.hf_tree.specs.Links.{HasBlocks, links_of}
use Rattle.hf_survey.specs.declared.facts.Fact.{Fact}
use Rattle.hf_survey.specs.Facts.{fact_of, facts_of}
use Rattle.hf_chain.specs.Heads.{HasRecord, IsRecordAt}
use Rattle.hf_tree.specs.Listing.{AreListed}
use Rattle.hf_survey.specs.Orders.{key_in}
use Rattle.tc_hash.proofs.BlockRows.{Held_, ReadSo, read_start, read_free, read_held, read_all}
use Rattle.hf_chain.proofs.Fronts.{key_at, stands}
use Rattle.hf_survey.proofs.Lists.{map_push}
use Rattle.hf_record.specs.Holding.{HasMap}
use Rattle.tc_hash.specs.Settling.{head_now}
use Rattle.tc_hash.specs.Listed.{CanList, OfBlocks, keys_of}
use Rattle.tc_hash.proofs.Keyed.{behind, single}
use Rattle.tc_hash.proofs.Ordered.{sorted_keys}
use Rattle.std.specs.FinMap.{keys}
use Rattle.std.specs.Ordering.{nat_cmp}
use Rattle.std.specs.Cmp.Lexicographic.{slice_cmp}
use Rattle.std.specs.List.Sorted.{IsPermutation, IsSorted}

abbrev pub key_read : List ℕ → Fact → Key
key_read bytes x = key_in x bytes

-- the keys that facts of records speak of are those of the records
facts_keys : (h : Head) (u at : ℕ) (ps : List Piece) (bytes : List ℕ) → AllWhole u ps → ((p : ℕ) (r : Record) → record_at at ps p ≡ Some r → HasRecord h r p bytes) → map (key_read bytes) (facts_of h at ps) ≡ keys_of ps
facts_keys h u at [] bytes whole has = refl
facts_keys h u at (held r ∷ ps) bytes whole has =
    let first = key_at (unit h) r at bytes (has at r (ap record_of (here at (held r) ps at refl))).is in
    let rest = facts_keys h u (at + size_of (held r)) ps bytes whole.1 (λ p s e. has p s (behind u at (held r) ps p s whole e).0) in
    λ i. first i ∷ rest i
facts_keys h u at (free size tail ∷ ps) bytes whole has = facts_keys h u (at + size_of (free size tail)) ps bytes whole.1 (λ p s e. has p s (behind u at (free size tail) ps p s whole e).0)

-- the keys of so many blocks were read
pub record KeysSo (h : Head) (ps : List Piece) (bytes : List ℕ) (i : ℕ) (keys : List Key) : Type 0 where
  pub facts : List Fact
  pub so : ReadSo h ps i facts
  pub are : keys ≡ map (key_read bytes) facts

pub keys_start : (h : Head) (ps : List Piece) (bytes : List ℕ) (keys : List Key) → keys ≡ [] → KeysSo h ps bytes 0 keys
keys_start h ps bytes keys e = record { facts = []; so = read_start h ps [] refl; are = e }

module _ (h : Head) (ps : List Piece) (bytes : List ℕ) (blocks : List BlockAt) (i : ℕ) (keys : List Key) (l : AreListed h ps bytes blocks) (k : KeysSo h ps bytes i keys) (b : BlockAt) (at : slice_get blocks i ≡ Some b) where
  pub keys_free : b.free ≡ true → KeysSo h ps bytes (i + 1) keys
  keys_free is = record { facts = k.facts; so = read_free h ps blocks i k.facts b k.so l.listed at is; are = k.are }

  module _ (is : b.free ≡ false) where
    abbrev it : Held_ h ps i k.facts b
    it = read_held h ps blocks i k.facts b (unit h) l.has.filled.whole k.so l.listed at is

    pub key_there : HasRecord h it.r b.place bytes
    key_there = stands h h.size ps bytes b.place it.r l.has it.at

    pub place_there : IsRecordAt h b.place bytes
    place_there = record { r = it.r; has = key_there }

    pub keys_more : (all : List Key) → ((r : Record) → HasRecord h r b.place bytes → all ≡ keys ++ r.key ∷ []) → KeysSo h ps bytes (i + 1) all
    keys_more all grown = record {
      facts = k.facts ++ fact_of h b.place it.r ∷ [];
      so = it.more (k.facts ++ fact_of h b.place it.r ∷ []) refl;
      are = grown it.r key_there
          ∙ (λ j. k.are j ++ sym (key_at (unit h) it.r b.place bytes key_there.is) j ∷ [])
          ∙ sym (map_push (key_read bytes) k.facts (fact_of h b.place it.r));
    }

pub keys_all : (h : Head) (ps : List Piece) (bytes : List ℕ) (blocks : List BlockAt) (i : ℕ) (keys : List Key) → AreListed h ps bytes blocks → KeysSo h ps bytes i keys → length blocks ≤ i → keys ≡ keys_of ps
keys_all h ps bytes blocks i keys l k far =
    k.are ∙ ap (map (key_read bytes)) (read_all h ps blocks i k.facts k.so l.listed far) ∙ facts_keys h (unit h) h.first ps bytes l.has.filled.whole (λ p r e. stands h h.size ps bytes p r l.has e)

-- the blocks of what is held, with the head as it is to be
pub blocks_now : (h now : Head) (end records : ℕ) (region : List ℕ) (frees : Frees) (m : Map) (bytes : List ℕ) → now ≡ head_now h records end region → (g : HasMap h end frees m bytes) → HasBlocks now now.size g.pieces bytes
blocks_now h now end records region frees m bytes e g =
    subst (λ (x : Head). HasBlocks x x.size g.pieces bytes) (sym e)
    (record { on = g.is.laid.on; within = g.is.laid.within; filled = g.is.laid.filled; widths = g.is.widths })

-- they may be listed
pub can_list : {S : Type 0} (s : Ghosts S) (v : Hash S) (now : Head) (a : S) → now ≡ head_now v.body.head v.records v.body.pool.size v.region → now.first ≤ now.size → now.size ≤ 2 ^ 40 → CanCall s v a → CanList s now v.body.file a
can_list s v now a e on short ready = record {
  ready = record {
    sound = ready.sound;
    is_data = is_data v.body.file v.body.data;
    valid = subst IsValid (sym e) (still_valid v.body.head v.records v.body.pool.size v.region v.body.valid (omega (arith, on, ap (λ (h : Head). h.first) e, ap (λ (h : Head). h.size) e)) (omega (arith, short, ap (λ (h : Head). h.size) e)) (subst (λ (u : ℕ). v.body.pool.size % u ≡ 0) v.body.unit_is v.body.pool.aligned));
  };
  filled = λ t. let w = ready.held t in (w.1.1.map.has.pieces, blocks_now v.body.head now v.body.pool.size v.records v.region (frees v.body.pool) w.0 (s.now a v.body.file) e w.1.1.map.has);
}

-- the keys of what is held, where those of its blocks were listed
pub listed_keys : {S : Type 0} (s : Ghosts S) (v : Hash S) (now : Head) (a : S) → now ≡ head_now v.body.head v.records v.body.pool.size v.region → (ks : List Key) → OfBlocks s now v.body.file a (λ ps. IsPermutation (keys_of ps) ks) → IsSorted (slice_cmp nat_cmp) ks → (m : Map) → Means s v a m → ks ≡ keys m
listed_keys s v now a e ks are order m w =
    let has = w.1.map.has in
    let h : Head = v.body.head in
    sorted_keys (unit h) h.first has.pieces m ks has.is.laid.filled.whole (single (links_of h has.pieces (s.now a v.body.file)) h.first has.pieces h.buckets has.places has.is.hang) has.is.map
    (are w.0 has.pieces (blocks_now h now v.body.pool.size v.records v.region (frees v.body.pool) m (s.now a v.body.file) e has)) order
