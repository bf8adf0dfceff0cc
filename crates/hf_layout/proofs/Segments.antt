-- Blocks in a row replaced by others that are as long together.
use Rattle.std.proofs.Common.{◌≡◌, ◌∙◌, inl, inr, ℕ, ◌+◌, ◌-◌, ◌%◌, ◌^◌, ◌<◌, ◌≤◌, List, [], ◌∷◌, ◌++◌, length, take, drop, refl, sym, ap, arith, append_assoc, length-append, length-drop}
use Rattle.std.proofs.lemmas.Bool.{cases_lt}
use Rattle.std.proofs.lemmas.List.{take_at, drop_at, take-append-drop, length-take-le, places, same_lists, append-nil, drop-drop}
use Rattle.std.proofs.Math.Nat.{mod-eq_of_lt, mod-add-mod}
use Rattle.tc_base.specs.Files.{wrote}
use Rattle.tc_base.proofs.Endians.{length-le_bytes}
use Rattle.hf_block.specs.Heads.{free_head}
use Rattle.hf_block.specs.Walks.{between}
use Rattle.hf_block.specs.Pieces.{Piece, free, spell, size_of, IsWhole, AllWhole, spell_all, AreBlocks}
use Rattle.hf_block.proofs.Listing.{spell-append, whole-append}
use Rattle.hf_layout.proofs.Places.{long, long-cons, whole_parts}

pub length-free_head : (size : ℕ) → length (free_head size) ≡ 5
unfolding free_head
length-free_head size = omega (arith, length-le_bytes 4 size)

pub length-free : (size : ℕ) (tail : List ℕ) → size_of (free size tail) ≡ 5 + length tail
unfolding spell
length-free size tail = omega (arith, length-append (free_head size) tail, length-free_head size)

-- a multiple of the unit that isn't 0 holds a unit
pub large : (unit n : ℕ) → 0 < n → n % unit ≡ 0 → unit ≤ n
large unit n some e = elim (cases_lt n unit) [
  | inl less ↦ absurd (omega (arith, some, e, mod-eq_of_lt less))
  | inr more ↦ more
]

-- ---- bytes

-- written in the middle
pub wrote_mid : (a old c new : List ℕ) (at : ℕ) → at ≡ length a → length new ≡ length old → wrote at new (a ++ (old ++ c)) ≡ a ++ (new ++ c)
unfolding wrote
wrote_mid a old c new at e same =
    let n : length (a ++ old) ≡ at + length new = omega (arith, length-append a old, e, same) in
    let front : take at (a ++ (old ++ c)) ≡ a = take_at a (old ++ c) at (sym e) in
    let back : drop (at + length new) (a ++ (old ++ c)) ≡ c = ap (λ (l : List ℕ). drop (at + length new) l) (sym (append_assoc a old c)) ∙ drop_at (a ++ old) c (at + length new) n in
    rw (front, back) (append_assoc a new c)

-- a shorter front written over the middle
pub wrote_front : (a old c new : List ℕ) (at : ℕ) → at ≡ length a → length new ≤ length old → wrote at new (a ++ (old ++ c)) ≡ a ++ ((new ++ drop (length new) old) ++ c)
unfolding wrote
wrote_front a old c new at e le =
    let front : take at (a ++ (old ++ c)) ≡ a = take_at a (old ++ c) at (sym e) in
    let back : drop (at + length new) (a ++ (old ++ c)) ≡ drop (length new) old ++ c = same_lists _ _ (grind (arith, places, e)) (λ i d h. grind (arith, places, e)) in
    rw (front, back) (append_assoc a new (drop (length new) old ++ c) ∙ ap (λ (l : List ℕ). a ++ l) (sym (append_assoc new (drop (length new) old) c)))

-- a write inside a range is a write into the range
pub wrote_between : (first end from : ℕ) (new bytes : List ℕ) → first ≤ from → from + length new ≤ end → end ≤ length bytes → between first end (wrote from new bytes) ≡ wrote (from - first) new (between first end bytes)
unfolding wrote
wrote_between first end from new bytes low high within = same_lists _ _ (grind (arith, places)) (λ i d h. grind (arith, places))

pub wrote_long : (from : ℕ) (new bytes : List ℕ) → from + length new ≤ length bytes → length (wrote from new bytes) ≡ length bytes
unfolding wrote
wrote_long from new bytes fits = grind (arith, places)

split_bytes : (a tail c hf hs hr : List ℕ) (size : ℕ) → length hf ≡ 5 → length hs ≡ 5 → length hr ≡ 5 → 5 ≤ size → size ≤ length tail → wrote (length a + size) hr (wrote (length a) hs (a ++ ((hf ++ tail) ++ c))) ≡ a ++ ((hs ++ take (size - 5) tail) ++ ((hr ++ drop size tail) ++ c))
split_bytes a tail c hf hs hr size ef es er some fits =
    let old : drop (length hs) (hf ++ tail) ≡ tail = drop_at hf tail (length hs) (ef ∙ sym es) in
    let first : wrote (length a) hs (a ++ ((hf ++ tail) ++ c)) ≡ a ++ ((hs ++ tail) ++ c) = wrote_front a (hf ++ tail) c hs (length a) refl (omega (arith, length-append hf tail, ef, es)) ∙ ap (λ (l : List ℕ). a ++ ((hs ++ l) ++ c)) old in
    let front : List ℕ = a ++ (hs ++ take (size - 5) tail) in
    let rest : List ℕ = drop (size - 5) tail in
    let parts : a ++ ((hs ++ tail) ++ c) ≡ front ++ (rest ++ c) = ap (λ (l : List ℕ). a ++ ((hs ++ l) ++ c)) (sym (take-append-drop (size - 5) tail)) ∙ seam a hs (take (size - 5) tail) rest c in
    let place : length a + size ≡ length front = omega (arith, length-append a (hs ++ take (size - 5) tail), length-append hs (take (size - 5) tail), length-take-le (size - 5) tail (omega (arith, fits)), es, some) in
    let room : length hr ≤ length rest = omega (arith, length-drop (size - 5) tail, er, fits, some) in
    let behind : drop (length hr) rest ≡ drop size tail = drop-drop (length hr) (size - 5) tail ∙ ap (λ (n : ℕ). drop n tail) (omega (arith, er, some)) in
    ap (λ (l : List ℕ). wrote (length a + size) hr l) (first ∙ parts) ∙ wrote_front front rest c hr (length a + size) place room ∙ ap (λ (l : List ℕ). front ++ ((hr ++ l) ++ c)) behind ∙ back a hs (take (size - 5) tail) (hr ++ drop size tail) c
  where
    seam : (a h t r c : List ℕ) → a ++ ((h ++ (t ++ r)) ++ c) ≡ (a ++ (h ++ t)) ++ (r ++ c)
    seam a h t r c = simp append_assoc

    back : (a h t r c : List ℕ) → (a ++ (h ++ t)) ++ (r ++ c) ≡ a ++ ((h ++ t) ++ (r ++ c))
    back a h t r c = simp append_assoc

-- ---- blocks

pub parts : (xs seg ys : List Piece) → spell_all (xs ++ (seg ++ ys)) ≡ spell_all xs ++ (spell_all seg ++ spell_all ys)
parts xs seg ys = spell-append xs (seg ++ ys) ∙ ap (λ (l : List ℕ). spell_all xs ++ l) (spell-append seg ys)

whole_with : (unit : ℕ) (xs old new ys : List Piece) → AllWhole unit (xs ++ (old ++ ys)) → AllWhole unit new → AllWhole unit (xs ++ (new ++ ys))
whole_with unit xs old new ys whole more =
    let a = whole_parts unit xs (old ++ ys) whole in
    let b = whole_parts unit old ys a.1 in
    whole-append unit xs (new ++ ys) a.0 (whole-append unit new ys more b.1)

-- a row of blocks is written over by another of its length
pub replaced : (unit : ℕ) (xs old new ys : List Piece) (bytes : List ℕ) → AllWhole unit new → long new ≡ long old → AreBlocks unit bytes (xs ++ (old ++ ys)) → AreBlocks unit (wrote (long xs) (spell_all new) bytes) (xs ++ (new ++ ys))
replaced unit xs old new ys bytes more same h = record {
  whole = whole_with unit xs old new ys h.whole more;
  is = ap (λ (l : List ℕ). wrote (long xs) (spell_all new) l) (h.is ∙ parts xs old ys) ∙ wrote_mid (spell_all xs) (spell_all old) (spell_all ys) (spell_all new) (long xs) refl same ∙ sym (parts xs new ys);
}

is_whole : (unit size : ℕ) (tail : List ℕ) → 5 + length tail ≡ size → size < 2 ^ 32 → size % unit ≡ 0 → IsWhole unit (free size tail)
is_whole unit size tail e few multiple =
    let l : size_of (free size tail) ≡ size = length-free size tail ∙ e in
    record { fits = l; size = record { some = omega (arith, l, e); aligned = ap (λ (n : ℕ). n % unit) l ∙ multiple; below = omega (arith, l, few) } }

-- bytes as one free block
abbrev pub one_free : ℕ → List ℕ → List Piece
one_free total mid = free total (drop 5 mid) ∷ []

abbrev pub two_free : ℕ → ℕ → List ℕ → List Piece
two_free size found tail = free size (take (size - 5) tail) ∷ free (found - size) (drop size tail) ∷ []

pub one_whole : (unit total : ℕ) (mid : List ℕ) → 5 ≤ unit → length mid ≡ total → 0 < total → total % unit ≡ 0 → total < 2 ^ 32 → AllWhole unit (one_free total mid)
one_whole unit total mid room same some multiple few = (is_whole unit total (drop 5 mid) (omega (arith, length-drop 5 mid, same, large unit total some multiple, room)) few multiple, tt)

pub one_long : (unit total : ℕ) (mid : List ℕ) → 5 ≤ unit → length mid ≡ total → 0 < total → total % unit ≡ 0 → total < 2 ^ 32 → long (one_free total mid) ≡ total
one_long unit total mid room same some multiple few = omega (arith, (one_whole unit total mid room same some multiple few).0.fits, long-cons (free total (drop 5 mid)) [])

front_kept : (k n : ℕ) (x bytes : List ℕ) → k ≤ n → n + length x ≤ length bytes → take k (wrote n x bytes) ≡ take k bytes
unfolding wrote
front_kept k n x bytes le fits = same_lists _ _ (grind (arith, places)) (λ i d h. grind (arith, places))

back_kept : (k n : ℕ) (x bytes : List ℕ) → n + length x ≤ k → n + length x ≤ length bytes → drop k (wrote n x bytes) ≡ drop k bytes
unfolding wrote
back_kept k n x bytes le fits = same_lists _ _ (grind (arith, places)) (λ i d h. grind (arith, places))

-- bytes that were written over inside the middle part
pub around : (a s c bytes x : List ℕ) (n : ℕ) → wrote n x bytes ≡ a ++ (s ++ c) → length a ≤ n → n + length x ≤ length a + length s → n + length x ≤ length bytes → bytes ≡ a ++ (take (length s) (drop (length a) bytes) ++ c)
around a s c bytes x n is low high fits =
    let front : take (length a) bytes ≡ a = sym (front_kept (length a) n x bytes low fits) ∙ ap (λ (l : List ℕ). take (length a) l) is ∙ take_at a (s ++ c) (length a) refl in
    let back : drop (length a + length s) bytes ≡ c = sym (back_kept (length a + length s) n x bytes high fits) ∙ ap (λ (l : List ℕ). drop (length a + length s) l) (is ∙ sym (append_assoc a s c)) ∙ drop_at (a ++ s) c (length a + length s) (length-append a s) in
    let rest : drop (length a) bytes ≡ take (length s) (drop (length a) bytes) ++ c = sym (take-append-drop (length s) (drop (length a) bytes)) ∙ ap (λ (l : List ℕ). take (length s) (drop (length a) bytes) ++ l) (drop-drop (length s) (length a) bytes ∙ back) in
    sym (take-append-drop (length a) bytes) ∙ ap (λ (l : List ℕ). l ++ drop (length a) bytes) front ∙ ap (λ (l : List ℕ). a ++ l) rest

pub wrote_nothing : (n : ℕ) (bytes : List ℕ) → wrote n [] bytes ≡ bytes
unfolding wrote
wrote_nothing n bytes = same_lists _ _ (grind (arith, places)) (λ i d h. grind (arith, places))

-- the head of a free block written over bytes between blocks
pub fused : (unit total : ℕ) (xs ys : List Piece) (mid bytes : List ℕ) → 5 ≤ unit → AllWhole unit xs → AllWhole unit ys → length mid ≡ total → 0 < total → total % unit ≡ 0 → total < 2 ^ 32 → bytes ≡ spell_all xs ++ (mid ++ spell_all ys) → AreBlocks unit (wrote (long xs) (free_head total) bytes) (xs ++ (one_free total mid ++ ys))
unfolding spell
fused unit total xs ys mid bytes room first last same some multiple few is =
    let l = length-free_head total in
    let fits : length (free_head total) ≤ length mid = omega (arith, l, same, large unit total some multiple, room) in
    let one = one_whole unit total mid room same some multiple few in
    record {
      whole = whole-append unit xs (one_free total mid ++ ys) first (whole-append unit (one_free total mid) ys one last);
      is = ap (λ (b : List ℕ). wrote (long xs) (free_head total) b) is ∙ wrote_front (spell_all xs) mid (spell_all ys) (free_head total) (long xs) refl fits
          ∙ ap (λ (n : ℕ). spell_all xs ++ ((free_head total ++ drop n mid) ++ spell_all ys)) l
          ∙ ap (λ (b : List ℕ). spell_all xs ++ (b ++ spell_all ys)) (sym (append-nil (free_head total ++ drop 5 mid))) ∙ sym (parts xs (one_free total mid) ys);
    }

-- what is left over of a multiple of the unit
pub rest_aligned : (unit size found : ℕ) → size < found → size % unit ≡ 0 → found % unit ≡ 0 → (found - size) % unit ≡ 0
rest_aligned unit size found less e f = ap (λ (n : ℕ). n % unit) (omega (arith, e)) ∙ mod-add-mod size unit (found - size) ∙ ap (λ (n : ℕ). n % unit) (omega (arith, less)) ∙ f

-- a free block parted by two heads
pub split : (unit size found : ℕ) (tail : List ℕ) (xs ys : List Piece) (bytes : List ℕ) → 5 ≤ unit → 0 < size → size % unit ≡ 0 → size < found → AreBlocks unit bytes (xs ++ ((free found tail ∷ []) ++ ys)) → AreBlocks unit (wrote (long xs + size) (free_head (found - size)) (wrote (long xs) (free_head size) bytes)) (xs ++ (two_free size found tail ++ ys)) × AllWhole unit (two_free size found tail) × (long (two_free size found tail) ≡ long (free found tail ∷ []))
unfolding spell
split unit size found tail xs ys bytes room some multiple less h =
    let w = (whole_parts unit (free found tail ∷ []) ys (whole_parts unit xs ((free found tail ∷ []) ++ ys) h.whole).1).0.0 in
    let l : 5 + length tail ≡ found = sym (length-free found tail) ∙ w.fits in
    let rest_multiple : (found - size) % unit ≡ 0 = rest_aligned unit size found less multiple (sym (ap (λ (n : ℕ). n % unit) w.fits) ∙ w.size.aligned) in
    let big = large unit size some multiple in
    let big_rest = large unit (found - size) (omega (arith, less)) rest_multiple in
    let f1 : 5 + length (take (size - 5) tail) ≡ size = omega (arith, length-take-le (size - 5) tail (omega (arith, l, less)), big, room) in
    let f2 : 5 + length (drop size tail) ≡ found - size = omega (arith, length-drop size tail, l, less, big_rest, room) in
    let below : found < 2 ^ 32 = omega (arith, w.fits, w.size.below) in
    let w1 = is_whole unit size (take (size - 5) tail) f1 (omega (arith, below, less)) multiple in
    let w2 = is_whole unit (found - size) (drop size tail) f2 (omega (arith, below)) rest_multiple in (
      record {
        whole = whole_with unit xs (free found tail ∷ []) (two_free size found tail) ys h.whole (w1, (w2, tt));
        is = ap (λ (b : List ℕ). wrote (long xs + size) (free_head (found - size)) (wrote (long xs) (free_head size) b)) (h.is ∙ parts xs (free found tail ∷ []) ys ∙ ap (λ (b : List ℕ). spell_all xs ++ (b ++ spell_all ys)) (append-nil (free_head found ++ tail)))
            ∙ split_bytes (spell_all xs) tail (spell_all ys) (free_head found) (free_head size) (free_head (found - size)) size (length-free_head found) (length-free_head size) (length-free_head (found - size)) (omega (arith, big, room)) (omega (arith, f2, l, big_rest, room, less))
            ∙ sym (parts xs (two_free size found tail) ys ∙ joined (spell_all xs) (free_head size ++ take (size - 5) tail) (free_head (found - size) ++ drop size tail) (spell_all ys));
      },
      (w1, (w2, tt)),
      omega (arith, long-cons (free size (take (size - 5) tail)) (free (found - size) (drop size tail) ∷ []), long-cons (free (found - size) (drop size tail)) [], long-cons (free found tail) [], w1.fits, w2.fits, w.fits, less),
    )
  where
    joined : (a p r c : List ℕ) → a ++ ((p ++ (r ++ [])) ++ c) ≡ a ++ (p ++ (r ++ c))
    joined a p r c = simp (append_assoc, append-nil)
