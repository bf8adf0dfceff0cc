-- Entries of buckets that are read one behind the other.
use Rattle.std.proofs.Common.{◌≡◌, ◌∙◌, inl, ℕ, zero, suc, ◌+◌, ◌*◌, ◌<◌, ◌≤◌, List, [], ◌∷◌, length, take, drop, refl, ap, subst, arith, Some, Bool, true, false, get_or}
use Rattle.std.specs.Prelude.{slice_get}
use Rattle.tc_base.specs.Endian.{field, le_number}
use Rattle.hf_head.specs.declared.head.Head.{Head}
use Rattle.hf_head.specs.Heads.{IsValid, unit, wide, is_large}
use Rattle.hf_block.specs.Pieces.{Piece}
use Rattle.hf_tree.specs.Links.{entry_at, links_of, width}
use Rattle.hf_tree.specs.Rules.{Links, Records}
use Rattle.hf_survey.specs.declared.facts.Fact.{Fact}
use Rattle.hf_survey.specs.declared.reaching.Item.{Item}
use Rattle.hf_chain.specs.Heads.{capped}
use Rattle.hf_survey.specs.Entries.{AreEntries, AreRoots}
use Rattle.hf_survey.specs.Facts.{AreFacts, entry_place}
use Rattle.hf_survey.specs.Reaching.{AreLow, AreRead, Follows, IsNotOnce, Reach, Stops, all_seen, root_item}
use Rattle.hf_chain.proofs.Descents.{slot_inside}
use Rattle.hf_survey.proofs.Lists.{get_low}
use Rattle.hf_survey.proofs.Named.{entry_read}
use Rattle.hf_chain.proofs.Pieces.{piece_of}
use Rattle.hf_survey.proofs.Steps.{bucket_follows, bucket_stops}

pub get_is : {A : Type 0} (xs : List A) (i : ℕ) (d : A) → i < length xs → slice_get xs i ≡ Some (get_or xs i d)
get_is [] i d low = absurd (omega (arith, low))
get_is (x ∷ xs) zero d low = refl
get_is (x ∷ xs) (suc i) d low = get_is xs i d (omega (arith, low))

place_sum : (large : Bool) (first i : ℕ) → 256 + wide large * first + wide large * i ≡ 256 + wide large * (first + i)
place_sum true first i = omega arith
place_sum false first i = omega arith

entry_of : (h : Head) (first n i : ℕ) (bytes piece : List ℕ) → piece ≡ take (width h * n) (drop (256 + width h * first) bytes) → i < n → le_number (field (width h * i) (width h) piece) ≡ entry_at (width h) (first + i) bytes
entry_of h first n i bytes piece is low =
    let w : ℕ = width h in
    ap le_number (ap (λ (l : List ℕ). take w (drop (w * i) l)) is ∙ piece_of (w * n) (256 + w * first) (w * i) w bytes (slot_inside (is_large h) i n low) ∙ ap (λ (n : ℕ). take w (drop n bytes)) (place_sum (is_large h) first i))

-- what is read from the bytes of some entries
pub entries_read : (h : Head) (u w first n : ℕ) (bytes piece places : List ℕ) → u ≡ unit h → w ≡ width h → piece ≡ take (w * n) (drop (256 + w * first) bytes) → length places ≡ n → ((i p : ℕ) → slice_get places i ≡ Some p → p ≡ capped (u * le_number (field (w * i) w piece))) → AreEntries h first places bytes
entries_read h u w first n bytes piece places eu ew is long read i p at =
    let low = get_low places i p at in
    read i p at ∙ (λ j. capped (eu j * le_number (field (ew j * i) (ew j) piece))) ∙ ap (λ z. capped (unit h * z)) (entry_of h first n i bytes piece (is ∙ (λ j. take (ew j * n) (drop (256 + ew j * first) bytes))) (omega (arith, low, long)))

-- the only one of them
pub entry_alone : (h : Head) (b : ℕ) (places bytes : List ℕ) → 0 < length places → AreEntries h b places bytes → get_or places 0 0 ≡ entry_place h b bytes
entry_alone h b places bytes some read = read 0 (get_or places 0 0) (get_is places 0 0 some) ∙ ap (λ z. entry_place h z bytes) (omega arith)

pub entries_at : (h : Head) (first : ℕ) (places now old : List ℕ) → now ≡ old → AreEntries h first places now → AreEntries h first places old
entries_at h first places now old same read = subst (λ (l : List ℕ). AreEntries h first places l) same read

-- the places that were read are those that the buckets' links name
pub are_roots : (h : Head) (ps : List Piece) (bytes : List ℕ) (facts : List Fact) (v : IsValid h) (a : AreFacts h ps bytes facts) (first : ℕ) (places : List ℕ) → first + length places ≤ h.buckets → AreEntries h first places bytes → AreRoots (links_of h ps bytes) h.buckets first places
are_roots h ps bytes facts v a first places low read = record {
  low = low;
  each = λ i p at. (let l = get_low places i p at in entry_read h ps bytes facts v a (first + i) p (omega (arith, low, l)) (read i p at));
}

-- ---- the entries of a row are followed one after the other

module _ (links : Links) (records : Records) (n : ℕ) (facts : List Fact) (read : AreRead links records facts) (first : ℕ) (places : List ℕ) (roots : AreRoots links n first places) where
  pub root_follows : (items new : List Item) (i done : ℕ) → i < length places → done ≤ 2 * length items → AreLow (length facts) items → Follows facts (get_or places i 0) (root_item (first + i) 0) items new → Reach links records n (all_seen facts items) (first + i) done → Reach links records n (all_seen facts new) (first + (i + 1)) done
  root_follows items new i done low most lows follows r = subst (λ b. Reach links records n (all_seen facts new) b done) (omega arith)
      (bucket_follows links records n facts read items new (first + i) (get_or places i 0) done (omega (arith, roots.low, low)) (roots.each i (get_or places i 0) (get_is places i 0 low)) most lows follows r)

  pub root_none : (items : List Item) (i done : ℕ) → i < length places → done ≤ 2 * length items → AreLow (length facts) items → get_or places i 0 ≡ 0 → Reach links records n (all_seen facts items) (first + i) done → Reach links records n (all_seen facts items) (first + (i + 1)) done
  root_none items i done low most lows none r = root_follows items items i done low most lows (inl (none, refl)) r

  pub root_stops : (items : List Item) (i done : ℕ) → i < length places → Stops facts (get_or places i 0) items → Reach links records n (all_seen facts items) (first + i) done → IsNotOnce links records n
  root_stops items i done low stops r = bucket_stops links records n facts read items (first + i) (get_or places i 0) done (omega (arith, roots.low, low)) (roots.each i (get_or places i 0) (get_is places i 0 low)) stops r
