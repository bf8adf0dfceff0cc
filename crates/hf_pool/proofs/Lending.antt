-- A block that is taken, by where it was found.
use Rattle.std.proofs.Common.{◌≡◌, ℕ, ◌%◌, ◌<◌, Option, List, sym, arith, subst}
use Rattle.hf_layout.specs.Frees.{Frees, IsBest, HasNone, IsThere}
use Rattle.hf_layout.specs.Layout.{IsShared, frees_of}
use Rattle.hf_layout.proofs.Gathers.{meets_no_record, beyond_no_record}
use Rattle.hf_pool.specs.Marks.{parted}
use Rattle.hf_pool.specs.Pools.{Lends}
use Rattle.hf_pool.proofs.Laying.{Left, taken}

-- there is one best block
same_best : (frees : Frees) (most size p q s t : ℕ) → IsBest frees most size p s → IsBest frees most size q t → (p ≡ q) × (s ≡ t)
same_best frees most size p q s t a b =
    let e : s ≡ t = omega (arith, a.least q t b.there b.below b.enough, b.least p s a.there a.below a.enough) in
    let x = a.lowest q (subst (λ (n : ℕ). IsThere frees q n) (sym e) b.there) in
    let y = b.lowest p (subst (λ (n : ℕ). IsThere frees p n) e a.there) in
    (omega (arith, x, y), e)

-- at the end: no free block was large enough
pub lends_behind : (most unit end : ℕ) (old new : Frees) (size : ℕ) (bytes : List ℕ) → HasNone old most size → ((q : ℕ) → new q ≡ old q) → Lends most unit end old new size end bytes bytes
lends_behind most unit end old new size bytes none same = record {
  lent = λ first last found pieces lent laid best. absurd (omega (arith, none end found best.there best.below, best.enough));
  beyond = λ first last pieces lent laid isnt. record { room = laid.room; on = laid.on; within = laid.within; filled = laid.filled; shared = λ q. subst (λ (o : Option ℕ). IsShared (frees_of first pieces q) o (lent q)) (sym (same q)) (laid.shared q) };
  clear = λ first last pieces lent laid within. beyond_no_record unit first last pieces old lent bytes end size laid within;
}

-- a free block's front, or the whole
pub lends_block : (most unit end : ℕ) (old new : Frees) (size place found : ℕ) (bytes after : List ℕ) → IsBest old most size place found → 0 < size → size % unit ≡ 0 → Left old new size place found → after ≡ parted place size found bytes → Lends most unit end old new size place bytes after
lends_block most unit end old new size place found bytes after best some multiple left is = record {
  lent = λ first last n pieces lent laid other.
      let s = same_best old most size place place found n best other in
      taken most unit first last pieces old new lent bytes after place size found laid best some multiple left is;
  beyond = λ first last pieces lent laid none. absurd (omega (arith, none place found best.there best.below, best.enough));
  clear = λ first last pieces lent laid within. meets_no_record unit first last pieces old lent bytes place size found laid best.there best.enough;
}
