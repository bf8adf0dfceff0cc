-- A key searched in a file that holds a map.
use Rattle.std.proofs.Common.{◌≡◌, ◌∙◌, ℕ, ◌<◌, ◌≤◌, List, refl, sym, ap, subst, arith, Option, Some, None}
use Rattle.std.specs.FinMap.{get}
use Rattle.tc_base.specs.Hashes.{second}
use Rattle.tc_base.specs.Maps.{Map}
use Rattle.hf_head.specs.declared.head.Head.{Head}
use Rattle.hf_head.specs.Heads.{IsValid}
use Rattle.hf_block.specs.Pieces.{Record, Piece}
use Rattle.hf_layout.specs.Frees.{Frees, none}
use Rattle.hf_layout.specs.Layout.{record_at}
use Rattle.hf_tree.specs.declared.parent.Parent.{Parent}
use Rattle.hf_tree.specs.declared.parent.Parent.TheVariants.{Bucket}
use Rattle.hf_tree.specs.declared.parent.Found.{Found}
use Rattle.hf_tree.specs.declared.parent.Found.TheVariants.{Here, Gap}
use Rattle.hf_tree.specs.Keys.{Key, key_cmp, bucket_of}
use Rattle.hf_tree.specs.Trees.{Tree, leaf, node, AllOf, look, seek}
use Rattle.hf_tree.specs.Views.{View, found_place}
use Rattle.hf_tree.specs.Links.{HasBlocks, view_of}
use Rattle.hf_tree.proofs.Fields.{Lies, blocks_of, record_lies}
use Rattle.hf_tree.proofs.Hanging.{Keyed, hangs_keys}
use Rattle.hf_tree.proofs.Off.{seek_look}
use Rattle.hf_tree.proofs.Orders.{three, equal_same}
use Rattle.hf_tree.proofs.Ways.{has_key}
use Rattle.hf_chain.specs.Chains.{InTree, HasTree}
use Rattle.hf_chain.specs.Heads.{HasRecord}
use Rattle.hf_record.specs.Holding.{HasMap, IsHeld, IsSearched}

pub home_low : (n : ℕ) (k : Key) → 1 ≤ n → bucket_of n k < n
unfolding bucket_of
home_low n k some = omega (arith, some)

pub has_blocks : (h : Head) (end : ℕ) (ps : List Piece) (frees : Frees) (places : Key → Option ℕ) (m : Map) (bytes : List ℕ) → IsHeld h end ps frees places m bytes → HasBlocks h end ps bytes
has_blocks h end ps frees places m bytes w = blocks_of h end ps frees none bytes w.laid w.widths

pub in_tree : (h : Head) (end : ℕ) (ps : List Piece) (frees : Frees) (places : Key → Option ℕ) (m : Map) (bytes : List ℕ) (key : Key) → IsValid h → (w : IsHeld h end ps frees places m bytes) → InTree h end ps bytes (bucket_of h.buckets key) (w.hang.holds.trees (bucket_of h.buckets key))
in_tree h end ps frees places m bytes key v w = record { blocks = has_blocks h end ps frees places m bytes w; hung = w.hang.holds.hung (bucket_of h.buckets key) (home_low h.buckets key v.numbers.some_buckets) }

pub has_tree : (h : Head) (end : ℕ) (free : Frees) (m : Map) (bytes : List ℕ) (key : Key) → IsValid h → HasMap h end free m bytes → HasTree h (bucket_of h.buckets key) bytes
has_tree h end free m bytes key v has = record { end = end; pieces = has.pieces; tree = has.is.hang.holds.trees (bucket_of h.buckets key); is = in_tree h end has.pieces free has.places m bytes key v has.is }

pub searched : (h : Head) (bytes : List ℕ) (key : Key) (f : Found) → IsValid h → ((end : ℕ) (ps : List Piece) (t : Tree) → InTree h end ps bytes (bucket_of h.buckets key) t → f ≡ seek (Bucket (bucket_of h.buckets key)) t key) → IsSearched h key f bytes
searched h bytes key f v found = record { ends = λ end ps frees places m w. sym (found end ps (w.hang.holds.trees (bucket_of h.buckets key)) (in_tree h end ps frees places m bytes key v w)) }

-- ---- what is there

look_keyed : (v : View) (t : Tree) (k : Key) (p : ℕ) → AllOf (Keyed v) t → look t k ≡ Some p → v.keys p ≡ Some k
look_keyed v leaf k p all is = absurd (let e : None ≡ Some p = is in cc)
look_keyed v (node q j l r) k p all is = three (key_cmp k j)
    (λ e. look_keyed v r k p all.2 (rw e at is))
    (λ e. let there : Some q ≡ Some p = rw e at is in let same : q ≡ p = cc in subst (λ (z : ℕ). v.keys z ≡ Some k) same (all.0 ∙ ap (λ (z : Key). Some z) (sym (equal_same k j e))))
    (λ e. look_keyed v l k p all.1 (rw e at is))

-- the record of a key that is held
pub record HasHere (h : Head) (ps : List Piece) (places : Key → Option ℕ) (m : Map) (key : Key) (at : ℕ) (end : ℕ) (bytes : List ℕ) : Type 0 where
  pub r : Record
  pub is : record_at h.first ps at ≡ Some r
  pub key_is : r.key ≡ key
  pub hash_is : r.hash ≡ second key
  pub value_is : get m key ≡ Some r.value
  pub place_is : places key ≡ Some at
  pub has : HasRecord h r at bytes
  pub lies : Lies h end r at bytes

module _ (h : Head) (end : ℕ) (ps : List Piece) (frees : Frees) (places : Key → Option ℕ) (m : Map) (bytes : List ℕ) (key : Key) (v : IsValid h) (w : IsHeld h end ps frees places m bytes) where
  placed_as : (f : Found) → IsSearched h key f bytes → places key ≡ found_place f
  placed_as f s = w.hang.holds.map key ∙ seek_look (Bucket (bucket_of h.buckets key)) (w.hang.holds.trees (bucket_of h.buckets key)) key ∙ ap found_place (s.ends end ps frees places m w)

  pub here_record : (at : ℕ) (from : Parent) → IsSearched h key (Here at from) bytes → HasHere h ps places m key at end bytes
  here_record at from s =
      let place = placed_as (Here at from) s in
      let hung = w.hang.holds.hung (bucket_of h.buckets key) (home_low h.buckets key v.numbers.some_buckets) in
      let t : Tree = w.hang.holds.trees (bucket_of h.buckets key) in
      let keyed = look_keyed (view_of h ps bytes) t key at (hangs_keys (view_of h ps bytes) ((view_of h ps bytes).links (Bucket (bucket_of h.buckets key))) t hung.hangs) (sym (w.hang.holds.map key) ∙ place) in
      let k = has_key (record_at h.first ps) at key keyed in
      let blocks = has_blocks h end ps frees places m bytes w in
      let lies = record_lies h end ps bytes at k.rec blocks k.at in
      record {
        r = k.rec;
        is = k.at;
        key_is = k.key;
        hash_is = k.hash;
        value_is = (w.map key k.rec.value).1 (at, k.rec, k.at, k.key, refl);
        place_is = place;
        has = record { is = lies.at; wide = w.widths at k.rec k.at };
        lies = lies;
      }

  pub gap_none : (to : Parent) → IsSearched h key (Gap to) bytes → get m key ≡ None
  gap_none to s = go (get m key) refl
    where
      go : (o : Option (List ℕ)) → get m key ≡ o → get m key ≡ None
      go None e = e
      go (Some x) e =
          let o = (w.map key x).0 e in
          absurd (let f = w.hang.all o.0 o.1 o.2 in let g : None ≡ Some o.0 = sym (placed_as (Gap to) s) ∙ ap places (sym o.3) ∙ f in cc)
