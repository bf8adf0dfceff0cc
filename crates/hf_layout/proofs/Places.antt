-- Which block begins at a place, in lists that are parts of one another.
use Rattle.std.proofs.Common.{◌≡◌, ◌≢◌, ◌∙◌, ◌⊎◌, inl, inr, ℕ, ◌+◌, ◌%◌, ◌<◌, ◌≤◌, Bool, cond, List, [], ◌∷◌, ◌++◌, length, Some, None, refl, sym, ap, subst, arith, length-append}
use Rattle.std.proofs.lemmas.Bool.{cases_eq, eq-eqb, ne_eqb}
use Rattle.std.proofs.Math.Nat.{mod-eq_of_lt, add-mod-mod}
use Rattle.hf_block.specs.Pieces.{Piece, spell, size_of, AllWhole, spell_all}
use Rattle.hf_block.proofs.Listing.{spell-append}
use Rattle.hf_layout.specs.Layout.{piece_at}

abbrev pub long : List Piece → ℕ
long ps = length (spell_all ps)

pub long-append : (ps qs : List Piece) → long (ps ++ qs) ≡ long ps + long qs
long-append ps qs = ap length (spell-append ps qs) ∙ length-append (spell_all ps) (spell_all qs)

pub long-cons : (p : Piece) (ps : List Piece) → long (p ∷ ps) ≡ size_of p + long ps
long-cons p ps = length-append (spell p) (spell_all ps)

pub whole_parts : (unit : ℕ) (ps qs : List Piece) → AllWhole unit (ps ++ qs) → AllWhole unit ps × AllWhole unit qs
whole_parts unit [] qs h = (tt, h)
whole_parts unit (p ∷ ps) qs h = let r = whole_parts unit ps qs h.1 in ((h.0, r.0), r.1)

-- ---- one place

pub here : (at : ℕ) (p : Piece) (ps : List Piece) (q : ℕ) → q ≡ at → piece_at at (p ∷ ps) q ≡ Some p
here at p ps q e = ap (λ (b : Bool). cond b (Some p) (piece_at (at + size_of p) ps q)) (eq-eqb q at e)

pub later : (at : ℕ) (p : Piece) (ps : List Piece) (q : ℕ) → q ≢ at → piece_at at (p ∷ ps) q ≡ piece_at (at + size_of p) ps q
later at p ps q ne = ap (λ (b : Bool). cond b (Some p) (piece_at (at + size_of p) ps q)) (ne_eqb q at ne)

pub below : (at : ℕ) (ps : List Piece) (q : ℕ) → q < at → piece_at at ps q ≡ None
below at [] q low = refl
below at (p ∷ ps) q low = later at p ps q (omega arith) ∙ below (at + size_of p) ps q (omega (arith, low))

pub behind : (unit at : ℕ) (ps : List Piece) (q : ℕ) → AllWhole unit ps → at + long ps ≤ q → piece_at at ps q ≡ None
behind unit at [] q whole high = refl
behind unit at (p ∷ ps) q whole high =
    let l = long-cons p ps in
    later at p ps q (omega (arith, l, high, whole.0.size.some)) ∙ behind unit (at + size_of p) ps q whole.1 (omega (arith, l, high))

pub in_front : (at : ℕ) (xs ys : List Piece) (q : ℕ) → q < at + long xs → piece_at at (xs ++ ys) q ≡ piece_at at xs q
in_front at [] ys q low = below at ys q (omega (arith, low))
in_front at (x ∷ xs) ys q low = elim (cases_eq q at) [
  | inl e ↦ here at x (xs ++ ys) q e ∙ sym (here at x xs q e)
  | inr ne ↦ later at x (xs ++ ys) q ne ∙ in_front (at + size_of x) xs ys q (omega (arith, low, long-cons x xs)) ∙ sym (later at x xs q ne)
]

pub in_back : (unit at : ℕ) (xs ys : List Piece) (q : ℕ) → AllWhole unit xs → at + long xs ≤ q → piece_at at (xs ++ ys) q ≡ piece_at (at + long xs) ys q
in_back unit at [] ys q whole high = ap (λ (n : ℕ). piece_at n ys q) (omega arith)
in_back unit at (x ∷ xs) ys q whole high =
    let l = long-cons x xs in
    later at x (xs ++ ys) q (omega (arith, l, high, whole.0.size.some)) ∙ in_back unit (at + size_of x) xs ys q whole.1 (omega (arith, l, high)) ∙ ap (λ (n : ℕ). piece_at n ys q) (omega (arith, l))

-- a row of blocks in the middle of others
pub in_middle : (unit at : ℕ) (xs seg ys : List Piece) (q : ℕ) → AllWhole unit xs → at + long xs ≤ q → q < at + long xs + long seg → piece_at at (xs ++ (seg ++ ys)) q ≡ piece_at (at + long xs) seg q
in_middle unit at xs seg ys q whole low high = in_back unit at xs (seg ++ ys) q whole low ∙ in_front (at + long xs) seg ys q high

-- outside a row that is replaced by one as long nothing changes
pub outside : (unit at : ℕ) (xs old new ys : List Piece) (q : ℕ) → AllWhole unit xs → AllWhole unit old → AllWhole unit new → long new ≡ long old → (q < at + long xs) ⊎ (at + long xs + long old ≤ q) → piece_at at (xs ++ (new ++ ys)) q ≡ piece_at at (xs ++ (old ++ ys)) q
outside unit at xs old new ys q first second third same (inl low) = in_front at xs (new ++ ys) q low ∙ sym (in_front at xs (old ++ ys) q low)
outside unit at xs old new ys q first second third same (inr high) =
    let f : at + long xs ≤ q = omega (arith, high) in
    in_back unit at xs (new ++ ys) q first f ∙ in_back unit (at + long xs) new ys q third (omega (arith, high, same)) ∙ ap (λ (n : ℕ). piece_at (at + long xs + n) ys q) same
    ∙ sym (in_back unit at xs (old ++ ys) q first f ∙ in_back unit (at + long xs) old ys q second high)

-- ---- the list parted where a block begins

pub record Parted (at : ℕ) (ps : List Piece) (q : ℕ) (p : Piece) : Type 0 where
  pub xs : List Piece
  pub ys : List Piece
  pub is : ps ≡ xs ++ (p ∷ ys)
  pub place : at + long xs ≡ q

pub parted_at : (at : ℕ) (ps : List Piece) (q : ℕ) (p : Piece) → piece_at at ps q ≡ Some p → Parted at ps q p
parted_at at [] q p h = absurd cc
parted_at at (x ∷ ps) q p h = elim (cases_eq q at) [
  | inl e ↦ let s : Some x ≡ Some p = sym (here at x ps q e) ∙ h in let f : x ≡ p = cc in
      record { xs = []; ys = ps; is = ap (λ (z : Piece). z ∷ ps) f; place = omega (arith, e) }
  | inr ne ↦ let r = parted_at (at + size_of x) ps q p (sym (later at x ps q ne) ∙ h) in
      record { xs = x ∷ r.xs; ys = r.ys; is = ap (λ (l : List Piece). x ∷ l) r.is; place = omega (arith, r.place, long-cons x r.xs) }
]

-- two ways to part a list at one place are the same
pub one_parting : (unit : ℕ) (xs ys zs ws : List Piece) → AllWhole unit (xs ++ ys) → xs ++ ys ≡ zs ++ ws → long xs ≡ long zs → ys ≡ ws
one_parting unit [] ys [] ws whole is same = is
one_parting unit [] ys (z ∷ zs) ws whole is same =
    let w : AllWhole unit (z ∷ zs ++ ws) = subst (λ (l : List Piece). AllWhole unit l) is whole in
    absurd (omega (arith, same, long-cons z zs, w.0.size.some))
one_parting unit (x ∷ xs) ys [] ws whole is same = absurd (omega (arith, same, long-cons x xs, whole.0.size.some))
one_parting unit (x ∷ xs) ys (z ∷ zs) ws whole is same =
    let e : x ≡ z = cc in
    let f : xs ++ ys ≡ zs ++ ws = cc in
    one_parting unit xs ys zs ws whole.1 f (omega (arith, same, long-cons x xs, long-cons z zs, ap size_of e))

-- whole blocks are together a multiple of the unit
pub aligned : (unit : ℕ) (ps : List Piece) → 0 < unit → AllWhole unit ps → long ps % unit ≡ 0
aligned unit [] some whole = mod-eq_of_lt some
aligned unit (p ∷ ps) some whole = let a = whole.0.size.aligned in let b = aligned unit ps some whole.1 in ap (λ (n : ℕ). n % unit) (long-cons p ps) ∙ sums unit (size_of p) (long ps) some a b
  where
    sums : (u a b : ℕ) → 0 < u → a % u ≡ 0 → b % u ≡ 0 → (a + b) % u ≡ 0
    sums u a b some e f = sym (add-mod-mod a b u) ∙ ap (λ (n : ℕ). (a + n) % u) f ∙ ap (λ (n : ℕ). n % u) (omega arith) ∙ e
