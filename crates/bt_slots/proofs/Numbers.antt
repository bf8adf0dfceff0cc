-- Where a number ends.
use Rattle.std.proofs.Common.{◌≡◌, ℕ, ◌+◌, ◌<◌, ◌≤◌, ◌^◌, List, ◌++◌, length, drop, get_or, refl, sym, ap, ◌∙◌, arith, length-append}
use Rattle.std.proofs.lemmas.List.{drop_at, drop_more, drop_all}
use Rattle.tc_base.specs.Vnum.{vnum, tops}
use Rattle.tc_base.proofs.Vnums.{tops-low, tops-high, tops-nil, reads}
use Rattle.bt_slots.specs.Reads.{number_in}
use Rattle.bt_slots.proofs.ReadBack.{number_at}

-- a number ends at the first byte without its top bit
pub number_ends : (n : ℕ) (bytes rest : List ℕ) → n < 2 ^ 64 → bytes ≡ vnum n ++ rest → tops bytes + 1 ≡ length (vnum n)
unfolding vnum
number_ends n bytes rest small is =
    let r = reads 9 n rest (omega (arith, small)) in
    omega (arith, r.long, ap tops is)

pub number_within : (n : ℕ) (bytes rest : List ℕ) → n < 2 ^ 64 → bytes ≡ vnum n ++ rest → tops bytes < length bytes
number_within n bytes rest small is = omega (arith, number_ends n bytes rest small is, ap length is, length-append (vnum n) rest)

pub number_left : (n : ℕ) (bytes rest : List ℕ) → n < 2 ^ 64 → bytes ≡ vnum n ++ rest → drop (tops bytes + 1) bytes ≡ (number_in bytes).1
number_left n bytes rest small is =
    ap (λ (k : ℕ). drop k bytes) (number_ends n bytes rest small is)
    ∙ ap (drop (length (vnum n))) is
    ∙ drop_at (vnum n) rest (length (vnum n)) refl
    ∙ sym (ap (λ (x : ℕ × List ℕ). x.1) (number_at n bytes rest small is))

-- ---- bytes with their top bit are counted from the front

pub tops_more : (bytes : List ℕ) (i : ℕ) → tops bytes ≡ i + tops (drop i bytes) → i < length bytes → 128 ≤ get_or bytes i 0 → tops bytes ≡ i + 1 + tops (drop (i + 1) bytes)
tops_more bytes i so lt high = omega (arith, so, ap tops (drop_more bytes i 0 lt), tops-high (get_or bytes i 0) (drop (i + 1) bytes) high)

pub tops_end : (bytes : List ℕ) (i : ℕ) → tops bytes ≡ i + tops (drop i bytes) → i < length bytes → get_or bytes i 0 < 128 → tops bytes ≡ i
tops_end bytes i so lt low = omega (arith, so, ap tops (drop_more bytes i 0 lt), tops-low (get_or bytes i 0) (drop (i + 1) bytes) low)

pub tops_past : (bytes : List ℕ) (i : ℕ) → tops bytes ≡ i + tops (drop i bytes) → length bytes ≤ i → tops bytes ≡ i
tops_past bytes i so le = omega (arith, so, ap tops (drop_all i bytes le), tops-nil)
