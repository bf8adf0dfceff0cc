-- Links written: which bytes differ.
use Rattle.std.proofs.Common.{◌≡◌, ◌∙◌, ◌⊎◌, inl, inr, ℕ, ◌+◌, ◌*◌, ◌<◌, ◌≤◌, arith, List, [], ◌∷◌, ◌++◌, length, get_or}
use Rattle.std.proofs.lemmas.List.{places, same_lists}
use Rattle.std.proofs.Math.Nat.{mul-add, mul-le-mul_left}
use Rattle.tc_base.specs.Endian.{le_bytes}
use Rattle.tc_base.specs.Files.{wrote}
use Rattle.tc_base.proofs.Endians.{length-le_bytes}
use Rattle.hf_head.specs.declared.head.Head.{Head}
use Rattle.hf_head.specs.Heads.{IsValid, is_large}
use Rattle.hf_block.specs.Pieces.{Piece}
use Rattle.hf_block.specs.Walks.{between}
use Rattle.hf_block.proofs.Padding.{length-held}
use Rattle.hf_layout.proofs.Segments.{wrote_long}
use Rattle.hf_tree.specs.declared.parent.Parent.{Parent}
use Rattle.hf_tree.specs.declared.parent.Parent.TheVariants.{Bucket, Left, Right}
use Rattle.hf_tree.specs.Links.{width, HasBlocks, place_of, IsThere}
use Rattle.hf_tree.proofs.Fields.{record_lies, sections_first}
use Rattle.hf_chain.specs.Differs.{Ranges, Outside, total, DifferIn, OnlyLinks}
use Rattle.hf_chain.proofs.Descents.{slot_inside}

kept_before : (from to at : ℕ) (new bytes : List ℕ) → to ≤ at → at + length new ≤ length bytes → between from to (wrote at new bytes) ≡ between from to bytes
unfolding wrote
kept_before from to at new bytes low fits = same_lists _ _ (grind (arith, places)) (λ i d g. grind (arith, places))

kept_behind : (from to at : ℕ) (new bytes : List ℕ) → at + length new ≤ from → at + length new ≤ length bytes → between from to (wrote at new bytes) ≡ between from to bytes
unfolding wrote
kept_behind from to at new bytes high fits = same_lists _ _ (grind (arith, places)) (λ i d g. grind (arith, places))

kept_apart : (from to at : ℕ) (new bytes : List ℕ) → (to ≤ at) ⊎ (at + length new ≤ from) → at + length new ≤ length bytes → between from to (wrote at new bytes) ≡ between from to bytes
kept_apart from to at new bytes (inl low) fits = kept_before from to at new bytes low fits
kept_apart from to at new bytes (inr high) fits = kept_behind from to at new bytes high fits

byte_low : (p i : ℕ) (x bytes : List ℕ) → p + length x ≤ length bytes → i < p → get_or (wrote p x bytes) i 0 ≡ get_or bytes i 0
unfolding wrote
byte_low p i x bytes fits low = grind (arith, places)

byte_high : (p i : ℕ) (x bytes : List ℕ) → p + length x ≤ length bytes → p + length x ≤ i → get_or (wrote p x bytes) i 0 ≡ get_or bytes i 0
unfolding wrote
byte_high p i x bytes fits high = grind (arith, places)

-- what is written differs in its range alone
pub differ_wrote : (p n : ℕ) (x bytes : List ℕ) → length x ≡ n → p + n ≤ length bytes → DifferIn ((p, n) ∷ []) bytes (wrote p x bytes)
differ_wrote p n x bytes long fits i out = by out.0
  where
    by : (i < p) ⊎ (p + n ≤ i) → get_or (wrote p x bytes) i 0 ≡ get_or bytes i 0
    by (inl low) = byte_low p i x bytes (omega (arith, long, fits)) low
    by (inr high) = byte_high p i x bytes (omega (arith, long, fits)) (omega (arith, long, high))

pub total-append : (a b : Ranges) → total (a ++ b) ≡ total a + total b
total-append [] b = omega arith
total-append (r ∷ a) b = omega (arith, total-append a b)

pub outside_parts : (a b : Ranges) (i : ℕ) → Outside (a ++ b) i → Outside a i × Outside b i
outside_parts [] b i o = (tt, o)
outside_parts (r ∷ a) b i o = let p = outside_parts a b i o.1 in ((o.0, p.0), p.1)

pub differ_then : (a b : Ranges) (x y z : List ℕ) → DifferIn a x y → DifferIn b y z → DifferIn (a ++ b) x z
differ_then a b x y z first second i o = let p = outside_parts a b i o in second i p.1 ∙ first i p.0

pub links_then : (h : Head) (m n : ℕ) (x y z : List ℕ) → OnlyLinks h m x y → OnlyLinks h n y z → OnlyLinks h (m + n) x z
links_then h m n x y z first second = record {
  long = second.long ∙ first.long;
  head = second.head ∙ first.head;
  section = second.section ∙ first.section;
  ranges = first.ranges ++ second.ranges;
  few = omega (arith, first.few, second.few, total-append first.ranges second.ranges, mul-add (width h) m n);
  differ = differ_then first.ranges second.ranges x y z first.differ second.differ;
}

pub links_fewer : (h : Head) (m n : ℕ) (x y : List ℕ) → m ≤ n → OnlyLinks h m x y → OnlyLinks h n x y
links_fewer h m n x y le o = record {
  long = o.long;
  head = o.head;
  section = o.section;
  ranges = o.ranges;
  few = (let g : width h * m ≤ width h * n = mul-le-mul_left (width h) le in omega (arith, o.few, g));
  differ = o.differ;
}

-- a link's bytes lie in the bucket array or among the blocks
record Apart (h : Head) (at : ℕ) (bytes : List ℕ) : Type 0 where
  low : 256 ≤ at
  inside : at + width h ≤ length bytes
  apart : (h.first ≤ at) ⊎ (at + width h ≤ 256 + width h * h.buckets)

link_apart : (h : Head) (end : ℕ) (ps : List Piece) (bytes : List ℕ) (c : Parent) → IsValid h → HasBlocks h end ps bytes → IsThere h ps c → Apart h (place_of (width h) c) bytes
link_apart h end ps bytes (Bucket b) v w there =
    let s = slot_inside (is_large h) b h.buckets there in
    record { low = omega arith; inside = omega (arith, sections_first h v, w.on, w.within, s); apart = inr (omega (arith, s)) }
link_apart h end ps bytes (Left p) v w there =
    let l = record_lies h end ps bytes p there.0 w there.1 in
    let e = w.widths p there.0 there.1 in
    record { low = omega (arith, l.low, sections_first h v); inside = omega (arith, l.high, w.within, length-held there.0, e); apart = inl (omega (arith, l.low)) }
link_apart h end ps bytes (Right p) v w there =
    let l = record_lies h end ps bytes p there.0 w there.1 in
    let e = w.widths p there.0 there.1 in
    record { low = omega (arith, l.low, sections_first h v); inside = omega (arith, l.high, w.within, length-held there.0, e); apart = inl (omega (arith, l.low)) }

-- a link lies inside the file
pub link_inside : (h : Head) (end : ℕ) (ps : List Piece) (bytes : List ℕ) (c : Parent) → IsValid h → HasBlocks h end ps bytes → IsThere h ps c → place_of (width h) c + width h ≤ length bytes
link_inside h end ps bytes c v w there = (link_apart h end ps bytes c v w there).inside

-- one link written
pub links_one : (h : Head) (end : ℕ) (ps : List Piece) (bytes : List ℕ) (c : Parent) (n : ℕ) → IsValid h → HasBlocks h end ps bytes → IsThere h ps c → OnlyLinks h 1 bytes (wrote (place_of (width h) c) (le_bytes (width h) n) bytes)
links_one h end ps bytes c n v w there =
    let at : ℕ = place_of (width h) c in
    let x : List ℕ = le_bytes (width h) n in
    let size : length x ≡ width h = length-le_bytes (width h) n in
    let a = link_apart h end ps bytes c v w there in
    let fits : at + length x ≤ length bytes = omega (arith, a.inside, size) in
    record {
      long = wrote_long at x bytes fits;
      head = kept_apart 0 256 at x bytes (inl a.low) fits;
      section = kept_apart (256 + width h * h.buckets) h.first at x bytes (side a.apart size) fits;
      ranges = (at, width h) ∷ [];
      few = omega arith;
      differ = differ_wrote at (width h) x bytes size a.inside;
    }
  where
    side : (h.first ≤ place_of (width h) c) ⊎ (place_of (width h) c + width h ≤ 256 + width h * h.buckets) → length (le_bytes (width h) n) ≡ width h → (h.first ≤ place_of (width h) c) ⊎ (place_of (width h) c + length (le_bytes (width h) n) ≤ 256 + width h * h.buckets)
    side (inl low) size = inl low
    side (inr high) size = inr (omega (arith, high, size))
