-- Keys are ordered as the numbers that their first bytes make, where these differ.
use Rattle.std.proofs.Common.{rules, ◌≡◌, ◌<◌, ◌≤◌, ◌*◌, ◌+◌, ℕ, zero, suc, List, [], ◌∷◌, ◌++◌, length, take, drop, refl, sym, ap, subst, ◌∙◌, ⊎_elim, arith}
use Rattle.std.specs.declared.cmp.Ordering.{Ordering}
use Rattle.std.specs.declared.cmp.Ordering.TheVariants.{Less, Equal, Greater}
use Rattle.std.specs.Ordering.{nat_cmp, ordering_then, ordering_reverse}
use Rattle.std.specs.Cmp.{nat_cmp_is}
use Rattle.std.specs.Cmp.Lexicographic.{slice_cmp, nat_list_cmp_total}
use Rattle.std.proofs.lemmas.Bool.{cases_order}
use Rattle.tc_base.specs.Bytes.{IsBytes}
use Rattle.std.specs.Int.{w64, from_be_bytes}
use Rattle.tc_base.specs.Fronts.{front_at, by_front, Foresees, AreZeros}

-- the number of so many bytes more behind a number
abbrev pub horner : ℕ → ℕ → List ℕ → ℕ
horner acc zero bytes = acc
horner acc (suc n) [] = horner (acc * 256) n []
horner acc (suc n) (b ∷ bytes) = horner (acc * 256 + b) n bytes

rest : (b : ℕ) (bytes : List ℕ) → IsBytes (b ∷ bytes) → IsBytes bytes
rest b bytes f = λ i. f (suc i)

none : IsBytes []
none = λ i. omega arith

below : (n acc top : ℕ) (xs ys : List ℕ) → IsBytes xs → acc < top → horner acc n xs < horner top n ys
below zero acc top xs ys f lt = lt
below (suc n) acc top [] [] f lt = below n (acc * 256) (top * 256) [] [] f (omega (arith, lt))
below (suc n) acc top [] (y ∷ ys) f lt = below n (acc * 256) (top * 256 + y) [] ys f (omega (arith, lt))
below (suc n) acc top (x ∷ xs) [] f lt = below n (acc * 256 + x) (top * 256) xs [] (rest x xs f) (omega (arith, lt, f 0))
below (suc n) acc top (x ∷ xs) (y ∷ ys) f lt = below n (acc * 256 + x) (top * 256 + y) xs ys (rest x xs f) (omega (arith, lt, f 0))

behind_less : (x y : ℕ) (r : Ordering) → x < y → ordering_then (nat_cmp x y) r ≡ Less
behind_less x y r lt = ap (λ (o : Ordering). ordering_then o r) (sym (nat_cmp_is x y Less lt))

behind_greater : (x y : ℕ) (r : Ordering) → y < x → ordering_then (nat_cmp x y) r ≡ Greater
behind_greater x y r lt = ap (λ (o : Ordering). ordering_then o r) (sym (nat_cmp_is x y Greater lt))

behind_same : (x y : ℕ) (r : Ordering) → x ≡ y → ordering_then (nat_cmp x y) r ≡ r
behind_same x y r is = ap (λ (o : Ordering). ordering_then o r) (sym (nat_cmp_is x y Equal is))

not_below_none : (xs : List ℕ) → slice_cmp nat_cmp xs [] ≡ Less → ⊥
not_below_none [] e = absurd cc
not_below_none (x ∷ xs) e = absurd cc

less : (n acc : ℕ) (xs ys : List ℕ) → IsBytes xs → IsBytes ys → horner acc n xs < horner acc n ys → slice_cmp nat_cmp xs ys ≡ Less
less zero acc xs ys f g lt = absurd (omega (arith, lt))
less (suc n) acc [] [] f g lt = absurd (omega (arith, lt))
less (suc n) acc [] (y ∷ ys) f g lt = refl
less (suc n) acc (zero ∷ xs) [] f g lt =
    let same : acc * 256 + 0 ≡ acc * 256 = omega arith in
    absurd (not_below_none xs (less n (acc * 256) xs [] (rest zero xs f) g (subst (λ (k : ℕ). horner k n xs < horner (acc * 256) n []) same lt)))
less (suc n) acc (suc x ∷ xs) [] f g lt = absurd (omega (arith, lt, below n (acc * 256) (acc * 256 + suc x) [] xs none (omega arith)))
less (suc n) acc (x ∷ xs) (y ∷ ys) f g lt = ⊎_elim
    (λ same. behind_same x y (slice_cmp nat_cmp xs ys) same ∙ less n (acc * 256 + x) xs ys (rest x xs f) (rest y ys g) (subst (λ (z : ℕ). horner (acc * 256 + x) n xs < horner (acc * 256 + z) n ys) (sym same) lt))
    (⊎_elim
    (λ under. behind_less x y (slice_cmp nat_cmp xs ys) under)
    (λ over. absurd (omega (arith, lt, below n (acc * 256 + y) (acc * 256 + x) ys xs (rest y ys g) (omega (arith, over))))))
    (cases_order x y)

-- the number of eight bytes behind another number
eight : (acc : ℕ) (bytes : List ℕ) → horner acc 8 bytes ≡ acc * 18446744073709551616 + from_be_bytes w64 bytes
eight acc [] = omega arith
eight acc (a ∷ []) = omega arith
eight acc (a ∷ b ∷ []) = omega arith
eight acc (a ∷ b ∷ c ∷ []) = omega arith
eight acc (a ∷ b ∷ c ∷ d ∷ []) = omega arith
eight acc (a ∷ b ∷ c ∷ d ∷ e ∷ []) = omega arith
eight acc (a ∷ b ∷ c ∷ d ∷ e ∷ f ∷ []) = omega arith
eight acc (a ∷ b ∷ c ∷ d ∷ e ∷ f ∷ g ∷ []) = omega arith
eight acc (a ∷ b ∷ c ∷ d ∷ e ∷ f ∷ g ∷ h ∷ bytes) = omega arith

none_left : (m : ℕ) → drop {A = ℕ} m [] ≡ []
none_left zero = refl
none_left (suc m) = refl

-- a number of more bytes is that of the first of them, and then of those behind them
parted : (m n acc : ℕ) (bytes : List ℕ) → horner acc (m + n) bytes ≡ horner (horner acc m bytes) n (drop m bytes)
parted zero n acc bytes = ap (λ (k : ℕ). horner acc k bytes) (omega arith)
parted (suc m) n acc [] =
    let more : suc m + n ≡ suc (m + n) = omega arith in
    ap (λ (k : ℕ). horner acc k []) more ∙ parted m n (acc * 256) [] ∙ ap (λ (l : List ℕ). horner (horner (acc * 256) m []) n l) (none_left m)
parted (suc m) n acc (b ∷ bytes) =
    let more : suc m + n ≡ suc (m + n) = omega arith in
    ap (λ (k : ℕ). horner acc k (b ∷ bytes)) more ∙ parted m n (acc * 256 + b) bytes

-- the numbers up to eight bytes more
unfolded : (at : ℕ) (xs : List ℕ) → front_at at xs ≡ from_be_bytes w64 (drop at xs)
unfolding front_at
unfolded at xs = refl

further : (at : ℕ) (xs : List ℕ) → horner 0 (at + 8) xs ≡ horner 0 at xs * 18446744073709551616 + front_at at xs
further at xs = omega (arith, parted at 8 0 xs, eight (horner 0 at xs) (drop at xs), unfolded at xs)

-- where the numbers before a place are the same, and those of the eight bytes from it on aren't
less_at : (at : ℕ) (xs ys : List ℕ) → IsBytes xs → IsBytes ys → horner 0 at xs ≡ horner 0 at ys → front_at at xs < front_at at ys → slice_cmp nat_cmp xs ys ≡ Less
less_at at xs ys f g same lt = less (at + 8) 0 xs ys f g (omega (arith, same, lt, further at xs, further at ys))

greater_at : (at : ℕ) (xs ys : List ℕ) → IsBytes xs → IsBytes ys → horner 0 at xs ≡ horner 0 at ys → front_at at ys < front_at at xs → slice_cmp nat_cmp xs ys ≡ Greater
greater_at at xs ys f g same lt = nat_list_cmp_total.antisymm xs ys ∙ ap ordering_reverse (less_at at ys xs g f (sym same) lt)

pub same_at : (at : ℕ) (xs ys : List ℕ) → horner 0 at xs ≡ horner 0 at ys → front_at at xs ≡ front_at at ys → horner 0 (at + 8) xs ≡ horner 0 (at + 8) ys
same_at at xs ys same also = omega (arith, same, also, further at xs, further at ys)

-- one number in front of what is decided later
step : (at : ℕ) (xs ys : List ℕ) (rest : Ordering) → IsBytes xs → IsBytes ys → horner 0 at xs ≡ horner 0 at ys → (horner 0 (at + 8) xs ≡ horner 0 (at + 8) ys → ordering_then rest (slice_cmp nat_cmp xs ys) ≡ slice_cmp nat_cmp xs ys) → ordering_then (ordering_then (nat_cmp (front_at at xs) (front_at at ys)) rest) (slice_cmp nat_cmp xs ys) ≡ slice_cmp nat_cmp xs ys
step at xs ys rest f g same later = ⊎_elim
    (λ is. ap (λ (o : Ordering). ordering_then o (slice_cmp nat_cmp xs ys)) (behind_same _ _ rest is) ∙ later (same_at at xs ys same is))
    (⊎_elim
    (λ under. ap (λ (o : Ordering). ordering_then o (slice_cmp nat_cmp xs ys)) (behind_less _ _ rest under) ∙ sym (less_at at xs ys f g same under))
    (λ over. ap (λ (o : Ordering). ordering_then o (slice_cmp nat_cmp xs ys)) (behind_greater _ _ rest over) ∙ sym (greater_at at xs ys f g same over)))
    (cases_order (front_at at xs) (front_at at ys))

-- the numbers that keys begin with foresee the order of their bytes
pub foreseen_at : (n at : ℕ) (xs ys : List ℕ) → IsBytes xs → IsBytes ys → horner 0 at xs ≡ horner 0 at ys → Foresees (by_front n at xs ys) xs ys
foreseen_at zero at xs ys f g same = refl
foreseen_at (suc n) at xs ys f g same = step at xs ys (by_front n (at + 8) xs ys) f g same (λ more. foreseen_at n (at + 8) xs ys f g more)

pub foreseen : (n : ℕ) (xs ys : List ℕ) → IsBytes xs → IsBytes ys → Foresees (by_front n 0 xs ys) xs ys
foreseen n xs ys f g = foreseen_at n 0 xs ys f g refl

-- zeros behind bytes don't count
zeros_only : (n acc : ℕ) (bytes : List ℕ) → AreZeros bytes → horner acc n bytes ≡ horner acc n []
zeros_only zero acc bytes z = refl
zeros_only (suc n) acc [] z = refl
zeros_only (suc n) acc (b ∷ bytes) z =
    let same : acc * 256 + b ≡ acc * 256 = omega (arith, z.0) in
    ap (λ (k : ℕ). horner k n bytes) same ∙ zeros_only n (acc * 256) bytes z.1

padded : (n acc len : ℕ) (bytes : List ℕ) → AreZeros (drop len bytes) → horner acc n (take len bytes) ≡ horner acc n bytes
padded zero acc len bytes z = refl
padded (suc n) acc zero bytes z = sym (zeros_only (suc n) acc bytes z)
padded (suc n) acc (suc len) [] z = refl
padded (suc n) acc (suc len) (b ∷ bytes) z = padded n (acc * 256 + b) len bytes z

pub front_padded : (at len : ℕ) (bytes view : List ℕ) → take len bytes ≡ view → AreZeros (drop len bytes) → front_at at bytes ≡ front_at at view
front_padded at len bytes view is z = omega (arith, further at bytes, further at (take len bytes), padded at 0 len bytes z, padded (at + 8) 0 len bytes z) ∙ ap (λ (l : List ℕ). front_at at l) is

zeros_left : (n : ℕ) (zs : List ℕ) → AreZeros zs → AreZeros (drop n zs)
zeros_left zero zs z = z
zeros_left (suc n) [] z = tt
zeros_left (suc n) (b ∷ zs) z = zeros_left n zs z.1

pub zeros_behind : (n : ℕ) (xs zs : List ℕ) → length xs ≡ n → AreZeros zs → AreZeros (drop n (xs ++ zs))
zeros_behind zero [] zs is z = z
zeros_behind zero (x ∷ xs) zs is z = absurd (omega (arith, is))
zeros_behind (suc n) [] zs is z = absurd (omega (arith, is))
zeros_behind (suc n) (x ∷ xs) zs is z = zeros_behind n xs zs (omega (arith, is)) z

pub zeros_from : (n : ℕ) (xs zs : List ℕ) → length xs ≡ n → AreZeros zs → AreZeros (drop n (xs ++ drop n zs))
zeros_from n xs zs is z = zeros_behind n xs (drop n zs) is (zeros_left n zs z)

last_at : (at : ℕ) (xs ys : List ℕ) → IsBytes xs → IsBytes ys → horner 0 at xs ≡ horner 0 at ys → Foresees (nat_cmp (front_at at xs) (front_at at ys)) xs ys
last_at at xs ys f g same = ⊎_elim
    (λ is. behind_same _ _ _ is)
    (⊎_elim
    (λ under. behind_less _ _ _ under ∙ sym (less_at at xs ys f g same under))
    (λ over. behind_greater _ _ _ over ∙ sym (greater_at at xs ys f g same over)))
    (cases_order (front_at at xs) (front_at at ys))

foreseen_last : (xs ys : List ℕ) → IsBytes xs → IsBytes ys → Foresees (nat_cmp (front_at 0 xs) (front_at 0 ys)) xs ys
foreseen_last xs ys f g = last_at 0 xs ys f g refl

-- where the numbers before a place are the same, and those from it on aren't, these decide
pub decided_at : (at : ℕ) (xs ys : List ℕ) → IsBytes xs → IsBytes ys → horner 0 at xs ≡ horner 0 at ys → (front_at at xs ≡ front_at at ys → ⊥) → nat_cmp (front_at at xs) (front_at at ys) ≡ slice_cmp nat_cmp xs ys
decided_at at xs ys f g same apart = ⊎_elim
    (λ is. absurd (apart is))
    (⊎_elim
    (λ under. sym (nat_cmp_is _ _ Less under) ∙ sym (less_at at xs ys f g same under))
    (λ over. sym (nat_cmp_is _ _ Greater over) ∙ sym (greater_at at xs ys f g same over)))
    (cases_order (front_at at xs) (front_at at ys))

cmp_suc : (a b : ℕ) → nat_cmp (suc a) (suc b) ≡ nat_cmp a b
cmp_suc a b = ⊎_elim
    (λ is. sym (nat_cmp_is (suc a) (suc b) Equal (omega (arith, is))) ∙ nat_cmp_is a b Equal is)
    (⊎_elim
    (λ under. sym (nat_cmp_is (suc a) (suc b) Less (omega (arith, under))) ∙ nat_cmp_is a b Less under)
    (λ over. sym (nat_cmp_is (suc a) (suc b) Greater (omega (arith, over))) ∙ nat_cmp_is a b Greater over))
    (cases_order a b)

-- where the numbers before a place are the same, and one ends before it, the longer one is behind
pub ended_at : (n acc : ℕ) (xs ys : List ℕ) → IsBytes xs → IsBytes ys → (n < length xs → n < length ys → ⊥) → horner acc n xs ≡ horner acc n ys → nat_cmp (length xs) (length ys) ≡ slice_cmp nat_cmp xs ys
ended_at n acc [] [] f g end same = refl
ended_at n acc [] (y ∷ ys) f g end same = sym (nat_cmp_is 0 (length (y ∷ ys)) Less (omega arith))
ended_at n acc (x ∷ xs) [] f g end same = sym (nat_cmp_is (length (x ∷ xs)) 0 Greater (omega arith))
ended_at zero acc (x ∷ xs) (y ∷ ys) f g end same = absurd (end (omega arith) (omega arith))
ended_at (suc n) acc (x ∷ xs) (y ∷ ys) f g end same = ⊎_elim
    (λ is. cmp_suc (length xs) (length ys) ∙ ended_at n (acc * 256 + x) xs ys (rest x xs f) (rest y ys g) (λ a b. end (omega (arith, a)) (omega (arith, b))) (subst (λ (z : ℕ). horner (acc * 256 + x) n xs ≡ horner (acc * 256 + z) n ys) (sym is) same) ∙ sym (behind_same x y (slice_cmp nat_cmp xs ys) is))
    (⊎_elim
    (λ under. absurd (omega (arith, same, below n (acc * 256 + x) (acc * 256 + y) xs ys (rest x xs f) (omega (arith, under)))))
    (λ over. absurd (omega (arith, same, below n (acc * 256 + y) (acc * 256 + x) ys xs (rest y ys g) (omega (arith, over))))))
    (cases_order x y)

-- the same of bytes that lie in one of two places
pub foreseen_of : (n : ℕ) (o : Ordering) (x y xs ys a b : List ℕ) → x ≡ xs → y ≡ ys → IsBytes x → IsBytes y → x ≡ a → y ≡ b → o ≡ by_front n 0 a b → Foresees o xs ys
foreseen_of n o x y xs ys a b is also f g at beside by = rw (by, ← at, ← beside, ← is, ← also) (foreseen n x y f g)

pub foreseen_by_first : (o : Ordering) (x y xs ys : List ℕ) (a b : ℕ) → x ≡ xs → y ≡ ys → IsBytes x → IsBytes y → a ≡ front_at 0 xs → b ≡ front_at 0 ys → o ≡ nat_cmp a b → Foresees o xs ys
foreseen_by_first o x y xs ys a b is also f g m n by = rw (by, m, n, ← is, ← also) (foreseen_last x y f g)

pub foreseen_by_second : (o : Ordering) (x y xs ys : List ℕ) (a b c d : ℕ) → x ≡ xs → y ≡ ys → IsBytes x → IsBytes y → a ≡ front_at 0 xs → b ≡ front_at 0 ys → a ≡ b → c ≡ front_at 8 xs → d ≡ front_at 8 ys → o ≡ nat_cmp c d → Foresees o xs ys
foreseen_by_second o x y xs ys a b c d is also f g m n same k l by = rw (by, k, l, ← is, ← also) (last_at 8 x y f g (same_at 0 x y refl (ap (front_at 0) is ∙ sym m ∙ same ∙ n ∙ sym (ap (front_at 0) also))))

-- where an order isn't Equal, it is the order
pub foreseen_is : (o : Ordering) (xs ys : List ℕ) → Foresees o xs ys → (o ≡ Equal → ⊥) → o ≡ slice_cmp nat_cmp xs ys
foreseen_is Less xs ys e n = e
foreseen_is Equal xs ys e n = absurd (n refl)
foreseen_is Greater xs ys e n = e

pub zeros_46 : AreZeros (0 ∷ 0 ∷ 0 ∷ 0 ∷ 0 ∷ 0 ∷ 0 ∷ 0 ∷ 0 ∷ 0 ∷ 0 ∷ 0 ∷ 0 ∷ 0 ∷ 0 ∷ 0 ∷ 0 ∷ 0 ∷ 0 ∷ 0 ∷ 0 ∷ 0 ∷ 0 ∷ 0 ∷ 0 ∷ 0 ∷ 0 ∷ 0 ∷ 0 ∷ 0 ∷ 0 ∷ 0 ∷ 0 ∷ 0 ∷ 0 ∷ 0 ∷ 0 ∷ 0 ∷ 0 ∷ 0 ∷ 0 ∷ 0 ∷ 0 ∷ 0 ∷ 0 ∷ 0 ∷ [])
zeros_46 = search rules

-- ---- a number read at once

pub whole_front : (xs ys : List ℕ) → 8 ≤ length xs → ys ≡ take 8 xs → from_be_bytes w64 ys ≡ front_at 0 xs
unfolding front_at
whole_front [] ys enough is = absurd (omega (arith, enough))
whole_front (a ∷ []) ys enough is = absurd (omega (arith, enough))
whole_front (a ∷ b ∷ []) ys enough is = absurd (omega (arith, enough))
whole_front (a ∷ b ∷ c ∷ []) ys enough is = absurd (omega (arith, enough))
whole_front (a ∷ b ∷ c ∷ d ∷ []) ys enough is = absurd (omega (arith, enough))
whole_front (a ∷ b ∷ c ∷ d ∷ e ∷ []) ys enough is = absurd (omega (arith, enough))
whole_front (a ∷ b ∷ c ∷ d ∷ e ∷ f ∷ []) ys enough is = absurd (omega (arith, enough))
whole_front (a ∷ b ∷ c ∷ d ∷ e ∷ f ∷ g ∷ []) ys enough is = absurd (omega (arith, enough))
whole_front (a ∷ b ∷ c ∷ d ∷ e ∷ f ∷ g ∷ h ∷ rest) ys enough is = ap (from_be_bytes w64) is
