-- The bytes of the keys and values of a map, read record by record.
use Rattle.std.proofs.Common.{◌≡◌, ◌∙◌, ℕ, ◌+◌, ◌≤◌, List, [], ◌∷◌, ◌++◌, length, sum_by, refl, sym, ap, arith, Option, Some, None, true, false}
use Rattle.std.specs.Prelude.{slice_get}
use Rattle.std.specs.Ordering.{nat_cmp}
use Rattle.std.specs.Cmp.Lexicographic.{slice_cmp, nat_list_cmp_total}
use Rattle.std.specs.FinMap.{empty, entries, find, get, insert, put, entries-insert, get-entries, len-empty, len-entries}
use Rattle.std.proofs.lemmas.List.Sums.{sum_by-cons, sum_by_push}
use Rattle.tc_base.specs.Maps.{Map}
use Rattle.hf_head.specs.declared.head.Head.{Head}
use Rattle.hf_head.specs.Heads.{unit}
use Rattle.hf_block.specs.declared.block.BlockAt.{BlockAt}
use Rattle.hf_block.specs.Pieces.{Piece, Record, held, free, size_of, AllWhole}
use Rattle.hf_layout.specs.Layout.{record_at, record_of}
use Rattle.hf_layout.proofs.Places.{here}
use Rattle.hf_tree.specs.Keys.{Key}
use Rattle.hf_tree.specs.Standing.{IsMapOf}
use Rattle.hf_tree.proofs.Orders.{three}
use Rattle.hf_survey.specs.declared.facts.Fact.{Fact}
use Rattle.hf_survey.specs.Facts.{fact_of, facts_of}
use Rattle.hf_chain.specs.Heads.{HasRecord, IsRecordAt}
use Rattle.hf_tree.specs.Listing.{AreListed}
use Rattle.hf_chain.proofs.Fronts.{stands}
use Rattle.tc_hash.proofs.BlockRows.{Held_, ReadSo, read_start, read_free, read_held, read_all}
use Rattle.hf_pool.specs.Pools.{frees}
use Rattle.hf_tree.specs.Links.{links_of}
use Rattle.tc_space.specs.declared.space.Space.{Ghosts}
use Rattle.tc_hash.specs.declared.hash.Hash.{Hash}
use Rattle.tc_hash.specs.Keeping.{Means}
use Rattle.tc_hash.specs.Listed.{OfBlocks, bytes_in, bytes_of}
use Rattle.tc_hash.specs.Settling.{head_now}
use Rattle.tc_hash.proofs.KeysRead.{blocks_now}
use Rattle.tc_hash.proofs.Keyed.{AreSingle, behind, map_of, map_same, not_behind, single, tail_single}

-- ---- of a map

abbrev entry_bytes : Key × List ℕ → ℕ
entry_bytes e = length e.0 + length e.1

-- an entry whose key is new
sum_put : (k v : List ℕ) (es : List (Key × List ℕ)) → find (slice_cmp nat_cmp) k es ≡ None → sum_by entry_bytes (put (slice_cmp nat_cmp) k v es) ≡ length k + length v + sum_by entry_bytes es
sum_put k v [] none = sum_by-cons entry_bytes (k, v) []
sum_put k v (e ∷ es) none = three (slice_cmp nat_cmp k e.0)
    (λ o. rw o (sum_by-cons entry_bytes (k, v) (e ∷ es)))
    (λ o. absurd (let f : Some e.1 ≡ None = rw o at none in cc))
    (λ o. rw o (let rest = sum_put k v es (rw o at none) in omega (arith, sum_by-cons entry_bytes e (put (slice_cmp nat_cmp) k v es), sum_by-cons entry_bytes e es, rest)))

bytes-insert : (m : Map) (k v : List ℕ) → get m k ≡ None → bytes_in (insert m k v) ≡ length k + length v + bytes_in m
bytes-insert m k v none = ap (sum_by entry_bytes) (entries-insert nat_list_cmp_total m k v) ∙ sum_put k v (entries m) (sym (get-entries m k) ∙ none)

no_entries : (es : List (Key × List ℕ)) → length es ≡ 0 → es ≡ []
no_entries [] e = refl
no_entries (e ∷ es) none = absurd (omega (arith, none))

bytes-empty : bytes_in empty ≡ 0
bytes-empty = ap (sum_by entry_bytes) (no_entries (entries empty) (sym (len-entries empty) ∙ len-empty (slice_cmp nat_cmp) (List ℕ)))

map_of-bytes : (u at : ℕ) (ps : List Piece) → AllWhole u ps → AreSingle at ps → bytes_in (map_of ps) ≡ bytes_of ps
unfolding map_of
map_of-bytes u at [] whole h = bytes-empty
map_of-bytes u at (held r ∷ ps) whole h =
    bytes-insert (map_of ps) r.key r.value (not_behind u at r ps whole h)
    ∙ ap (λ (n : ℕ). length r.key + length r.value + n) (map_of-bytes u (at + size_of (held r)) ps whole.1 (tail_single u at (held r) ps whole h))
map_of-bytes u at (free size tail ∷ ps) whole h = map_of-bytes u (at + size_of (free size tail)) ps whole.1 (tail_single u at (free size tail) ps whole h)

-- the bytes of the records' keys and values are those of the map of the records
pub bytes_held : (u at : ℕ) (ps : List Piece) (m : Map) (n : ℕ) → AllWhole u ps → AreSingle at ps → IsMapOf (record_at at ps) (get m) → n ≡ bytes_of ps → n ≡ bytes_in m
bytes_held u at ps m n whole one is e = e ∙ sym (map_of-bytes u at ps whole one) ∙ sym (ap bytes_in (map_same u at ps m whole one is))

-- ---- read record by record

abbrev bytes_at : Option Record → ℕ
bytes_at None = 0
bytes_at (Some r) = length r.key + length r.value

-- those of the record that a fact speaks of
abbrev fact_bytes : Head → List Piece → Fact → ℕ
fact_bytes h ps x = bytes_at (record_at h.first ps x.place)

sum_facts : (h : Head) (u at : ℕ) (ps : List Piece) (f : ℕ → Option Record) → AllWhole u ps → ((p : ℕ) (r : Record) → record_at at ps p ≡ Some r → f p ≡ Some r) → sum_by (λ (x : Fact). bytes_at (f x.place)) (facts_of h at ps) ≡ bytes_of ps
sum_facts h u at [] f whole is = refl
sum_facts h u at (held r ∷ ps) f whole is =
    let first = ap bytes_at (is at r (ap record_of (here at (held r) ps at refl))) in
    let rest = sum_facts h u (at + size_of (held r)) ps f whole.1 (λ p s e. is p s (behind u at (held r) ps p s whole e).0) in
    sum_by-cons (λ (x : Fact). bytes_at (f x.place)) (fact_of h at r) (facts_of h (at + size_of (held r)) ps) ∙ (λ i. first i + rest i)
sum_facts h u at (free size tail ∷ ps) f whole is = sum_facts h u (at + size_of (free size tail)) ps f whole.1 (λ p s e. is p s (behind u at (free size tail) ps p s whole e).0)

-- so many blocks were read
pub record BytesSo (h : Head) (ps : List Piece) (i total : ℕ) : Type 0 where
  pub facts : List Fact
  pub so : ReadSo h ps i facts
  pub are : total ≡ sum_by (fact_bytes h ps) facts

pub bytes_start : (h : Head) (ps : List Piece) → BytesSo h ps 0 0
bytes_start h ps = record { facts = []; so = read_start h ps [] refl; are = refl }

module _ (h : Head) (ps : List Piece) (bytes : List ℕ) (blocks : List BlockAt) (i total : ℕ) (l : AreListed h ps bytes blocks) (k : BytesSo h ps i total) (b : BlockAt) (at : slice_get blocks i ≡ Some b) where
  pub bytes_free : b.free ≡ true → BytesSo h ps (i + 1) total
  bytes_free is = record { facts = k.facts; so = read_free h ps blocks i k.facts b k.so l.listed at is; are = k.are }

  module _ (is : b.free ≡ false) where
    abbrev it : Held_ h ps i k.facts b
    it = read_held h ps blocks i k.facts b (unit h) l.has.filled.whole k.so l.listed at is

    stands_there : HasRecord h it.r b.place bytes
    stands_there = stands h h.size ps bytes b.place it.r l.has it.at

    pub record_here : IsRecordAt h b.place bytes
    record_here = record { r = it.r; has = stands_there }

    pub bytes_more : (all : ℕ) → ((r : Record) → HasRecord h r b.place bytes → all ≡ total + length r.key + length r.value) → BytesSo h ps (i + 1) all
    bytes_more all grown =
        let one : fact_bytes h ps (fact_of h b.place it.r) ≡ length it.r.key + length it.r.value = ap bytes_at it.at in
        record {
          facts = k.facts ++ fact_of h b.place it.r ∷ [];
          so = it.more (k.facts ++ fact_of h b.place it.r ∷ []) refl;
          are = omega (arith, grown it.r stands_there, k.are, sum_by_push (fact_bytes h ps) k.facts (fact_of h b.place it.r), one);
        }

pub bytes_all : (h : Head) (ps : List Piece) (bytes : List ℕ) (blocks : List BlockAt) (i total : ℕ) → AreListed h ps bytes blocks → BytesSo h ps i total → length blocks ≤ i → total ≡ bytes_of ps
bytes_all h ps bytes blocks i total l k far =
    k.are ∙ ap (sum_by (fact_bytes h ps)) (read_all h ps blocks i k.facts k.so l.listed far) ∙ sum_facts h (unit h) h.first ps (record_at h.first ps) l.has.filled.whole (λ p r e. e)

-- the bytes of what is held, where those of its blocks were counted
pub summed_bytes : {S : Type 0} (s : Ghosts S) (v : Hash S) (now : Head) (a : S) → now ≡ head_now v.body.head v.records v.body.pool.size v.region → (n : ℕ) → OfBlocks s now v.body.file a (λ ps. n ≡ bytes_of ps) → (m : Map) → Means s v a m → n ≡ bytes_in m
summed_bytes s v now a e n is m w =
    let has = w.1.map.has in
    let h : Head = v.body.head in
    bytes_held (unit h) h.first has.pieces m n has.is.laid.filled.whole (single (links_of h has.pieces (s.now a v.body.file)) h.first has.pieces h.buckets has.places has.is.hang) has.is.map
    (is w.0 has.pieces (blocks_now h now v.body.pool.size v.records v.region (frees v.body.pool) m (s.now a v.body.file) e has))

pub bytes_blocks : {S : Type 0} (s : Ghosts S) (h : Head) (file : ℕ) (a b : S) (blocks : List BlockAt) (n : ℕ) → OfBlocks s h file a (λ ps. AreListed h ps (s.now b file) blocks) → (s.tells → (ps : List Piece) → AreListed h ps (s.now b file) blocks → n ≡ bytes_of ps) → OfBlocks s h file a (λ ps. n ≡ bytes_of ps)
bytes_blocks s h file a b blocks n listed are t ps has = are t ps (listed t ps has)
