-- A section as it is written lists free blocks.
use Rattle.std.proofs.Common.{◌≡◌, ◌∙◌, inl, inr, ℕ, zero, suc, ◌+◌, ◌-◌, ◌*◌, ◌/◌, ◌%◌, ◌<◌, ◌≤◌, true, false, List, [], ◌∷◌, ◌++◌, length, refl, sym, ap, subst, arith, append_assoc, length-append, Some, None}
use Rattle.std.specs.Prelude.{replicate}
use Rattle.std.specs.BTreeMap.{is_at}
use Rattle.std.specs.Map.{keys_of, lookup}
use Rattle.std.specs.List.{AllByRecursion}
use Rattle.std.specs.List.Sorted.{IsStrictlySortedBy}
use Rattle.std.specs.Ordering.{nat_cmp}
use Rattle.std.specs.declared.cmp.Ordering.TheVariants.{Less}
use Rattle.std.proofs.lemmas.Bool.{cases_lt, cases_eq}
use Rattle.std.proofs.lemmas.Bool.{ne_eqb}
use Rattle.std.proofs.lemmas.List.{length-replicate}
use Rattle.std.proofs.lemmas.Map.Keys.{sorted_head, sorted_tail}
use Rattle.std.proofs.lemmas.Map.Entries.{lookup_head, lookup_tail}
use Rattle.std.proofs.Math.Nat.{div-add-mod, mul-le-mul_left, zero-div}
use Rattle.std.specs.Cmp.{eq_by_cmp_equiv, nat_cmp_total, unsigned_tied, ranked}
use Rattle.tc_base.specs.Vnum.{vnum}
use Rattle.hf_layout.specs.Frees.{Frees, IsThere}
use Rattle.hf_pool.specs.Multiples.{AreMultiples}
use Rattle.hf_pool.specs.Sections.{InOrder, pair, pairs, section_bytes}
use Rattle.hf_pool.proofs.Sectioning.{pairs-nil, pairs-more, pairs-full}
use Rattle.hf_tree.specs.Standing.{Lists}
use Rattle.hf_head.specs.declared.head.Head.{Head}
use Rattle.tc_hash.specs.Sections.{IsListOf}
use Rattle.tc_hash.specs.Sections.{IsSectionOf, section_len}

-- these blocks are free, in ascending place above a place in units, and multiples of it
abbrev pub Rises : ℕ → Frees → ℕ → List (ℕ × ℕ) → Type 0
Rises u frees before [] = Unit {0}
Rises u frees before (b ∷ bs) = (before < b.0 / u) × (u * (b.0 / u) ≡ b.0) × (u * (b.1 / u) ≡ b.1) × IsThere frees b.0 b.1 × Rises u frees (b.0 / u) bs

zeros : (n : ℕ) → 2 ≤ n → (rest : List ℕ) × (replicate n 0 ≡ 0 ∷ 0 ∷ rest)
zeros zero h = absurd (omega arith)
zeros (suc zero) h = absurd (omega arith)
zeros (suc (suc n)) h = (replicate n 0, refl)

no_pairs : (room : ℕ) (ps : List ℕ) → 2 ≤ room → ps ≡ [] → (rest : List ℕ) × (ps ++ replicate (room - length ps) 0 ≡ 0 ∷ 0 ∷ rest)
no_pairs room ps fits e = let z = zeros room fits in let long : room - 0 ≡ room = omega arith in (z.0, ap (λ (l : List ℕ). l ++ replicate (room - length l) 0) e ∙ ap (λ (n : ℕ). replicate n 0) long ∙ z.1)

-- a pair in front of others and of zeros
pair_first : (room : ℕ) (all p q a b : List ℕ) → all ≡ p ++ q → p ≡ a ++ b → all ++ replicate (room - length all) 0 ≡ a ++ (b ++ (q ++ replicate (room - length p - length q) 0))
pair_first room all p q a b e f =
    let long : room - length all ≡ room - length p - length q = omega (arith, ap length e, length-append p q) in
    ap (λ (n : ℕ). all ++ replicate n 0) long ∙ ap (λ (l : List ℕ). l ++ replicate (room - length p - length q) 0) (e ∙ ap (λ (l : List ℕ). l ++ q) f) ∙ simp append_assoc

-- the pairs that fit, and zeros behind them, are a list
pub rise_lists : (u : ℕ) (frees : Frees) (before room : ℕ) (bs : List (ℕ × ℕ)) → 2 ≤ room → Rises u frees before bs
    → (blocks : List (ℕ × ℕ)) × Lists u frees before (pairs u before room bs ++ replicate (room - length (pairs u before room bs)) 0) blocks
rise_lists u frees before room [] fits r = ([], no_pairs room (pairs u before room []) fits (pairs-nil u before room))
rise_lists u frees before room (b ∷ bs) fits r = elim (cases_lt room (length (pair u before b) + 2)) [
  | inl full ↦ ([], no_pairs room (pairs u before room (b ∷ bs)) fits (pairs-full u before room b bs full))
  | inr on ↦
      (let left : ℕ = room - length (pair u before b) in
      let rest = rise_lists u frees (b.0 / u) left bs (omega (arith, on)) r.4 in
      let d : ℕ = b.0 / u - before in
      let sum : before + d ≡ b.0 / u = omega (arith, r.0) in
      let tail : List ℕ = pairs u (b.0 / u) left bs ++ replicate (left - length (pairs u (b.0 / u) left bs)) 0 in
      let all = pair_first room (pairs u before room (b ∷ bs)) (pair u before b) (pairs u (b.0 / u) left bs) (vnum d) (vnum (b.1 / u)) (pairs-more u before room b bs on) refl in
      let there : IsThere frees (u * (before + d)) (u * (b.1 / u)) = ap frees (ap (λ (n : ℕ). u * n) sum ∙ r.1) ∙ r.3 ∙ ap (λ (n : ℕ). Some n) (sym r.2) in
      ((d, b.1 / u) ∷ rest.0, (tail, omega (arith, r.0), all, there, subst (λ (n : ℕ). Lists u frees n tail rest.0) (sym sum) rest.1)))
]

-- ---- the blocks of a pool

-- a place above another, both multiples, is above it in units
above : (u p q : ℕ) → u * (p / u) ≡ p → u * (q / u) ≡ q → p < q → p / u < q / u
above u p q a b less = elim (cases_lt (p / u) (q / u)) [
  | inl low ↦ low
  | inr high ↦ absurd (omega (arith, less, a, b, mul-le-mul_left {m = q / u} {n = p / u} u high))
]

multiple : (u n : ℕ) → n % u ≡ 0 → u * (n / u) ≡ n
multiple u n e = omega (arith, e, div-add-mod n u)

at_itself : (q : ℕ) → is_at (nat_cmp q) q ≡ true
at_itself q = (eq_by_cmp_equiv nat_cmp_total).refl q

past : (p q : ℕ) → p < q → is_at (nat_cmp q) p ≡ false
past p q less = unsigned_tied q p ∙ ne_eqb q p (omega (arith, less))

below_all : (n : ℕ) (ks : List ℕ) → AllByRecursion (λ y. nat_cmp n y ≡ Less) ks → AllByRecursion (λ (k : ℕ). n < k) ks
below_all n [] h = tt
below_all n (k ∷ ks) h = (ranked n k Less (sym h.0), below_all n ks h.1)

-- the blocks found by place rise
rises : (u : ℕ) (frees : Frees) (before : ℕ) (bs : List (ℕ × ℕ)) → AreMultiples u frees → u * (before / u) ≡ before → IsStrictlySortedBy nat_cmp (keys_of bs) → AllByRecursion (λ (k : ℕ). before < k) (keys_of bs)
    → ((q t : ℕ) → before < q → lookup (is_at (nat_cmp q)) bs ≡ Some t → frees q ≡ Some t) → Rises u frees (before / u) bs
rises u frees before [] multiples even sorted above_ found = tt
rises u frees before (b ∷ bs) multiples even sorted above_ found =
    let there : frees b.0 ≡ Some b.1 = found b.0 b.1 above_.0 (lookup_head (is_at (nat_cmp b.0)) b bs (at_itself b.0)) in
    let m = multiples b.0 b.1 there in
    let p = multiple u b.0 m.0 in (
      above u before b.0 even p above_.0,
      p,
      multiple u b.1 m.1,
      there,
      rises u frees b.0 bs multiples p (sorted_tail nat_cmp b.0 (keys_of bs) sorted) (below_all b.0 (keys_of bs) (sorted_head nat_cmp b.0 (keys_of bs) sorted)) (λ q t less e. found q t (omega (arith, less, above_.0)) (lookup_tail (is_at (nat_cmp q)) b bs (past b.0 q less) ∙ e)),
    )

weaker_all : (n m : ℕ) (ks : List ℕ) → n ≤ m → AllByRecursion (λ (k : ℕ). m < k) ks → AllByRecursion (λ (k : ℕ). n < k) ks
weaker_all n m [] le h = tt
weaker_all n m (k ∷ ks) le h = (omega (arith, le, h.0), weaker_all n m ks le h.1)

-- none of them stands at place 0
all_some : (frees : Frees) (cs : List (ℕ × ℕ)) → frees 0 ≡ None → IsStrictlySortedBy nat_cmp (keys_of cs) → ((q : ℕ) → frees q ≡ lookup (is_at (nat_cmp q)) cs) → AllByRecursion (λ (k : ℕ). 0 < k) (keys_of cs)
all_some frees [] none sorted each = tt
all_some frees (c ∷ cs) none sorted each = (positive, weaker_all 0 c.0 (keys_of cs) (omega arith) (below_all c.0 (keys_of cs) (sorted_head nat_cmp c.0 (keys_of cs) sorted)))
  where
    positive : 0 < c.0
    positive = elim (cases_eq c.0 0) [
      | inl e ↦ absurd (let f : None ≡ Some c.1 = sym none ∙ each 0 ∙ lookup_head (is_at (nat_cmp 0)) c cs (ap (λ (q : ℕ). is_at (nat_cmp 0) q) e ∙ at_itself 0) in cc)
      | inr ne ↦ omega (arith, ne)
    ]

-- the section of a pool is a list of its free blocks, where none stands at place 0
pub section_lists : (u len : ℕ) (frees : Frees) (bs : List (ℕ × ℕ)) → 2 ≤ len → frees 0 ≡ None → AreMultiples u frees → InOrder frees bs → IsListOf u frees (section_bytes u len bs)
section_lists u len frees bs room none multiples order =
    let even : u * (0 / u) ≡ 0 = ap (λ (n : ℕ). u * n) (zero-div u) ∙ omega arith in
    rise_lists u frees 0 len bs room (subst (λ (n : ℕ). Rises u frees n bs) (zero-div u) (rises u frees 0 bs multiples even order.ascending (all_some frees bs none order.ascending order.each) (λ q t less e. order.each q ∙ e)))

pairs_most : (u before room : ℕ) (bs : List (ℕ × ℕ)) → length (pairs u before room bs) ≤ room
pairs_most u before room [] = omega (arith, ap length (pairs-nil u before room))
pairs_most u before room (b ∷ bs) = elim (cases_lt room (length (pair u before b) + 2)) [
  | inl full ↦ omega (arith, ap length (pairs-full u before room b bs full))
  | inr on ↦
      (let p : List ℕ = pair u before b in
      let rest : List ℕ = pairs u (b.0 / u) (room - length p) bs in
      omega (arith, on, ap length (pairs-more u before room b bs on), length-append p rest, pairs_most u (b.0 / u) (room - length p) bs))
]

-- a section has the length that is asked
pub section_long : (u len : ℕ) (bs : List (ℕ × ℕ)) → length (section_bytes u len bs) ≡ len
section_long u len bs =
    let p : List ℕ = pairs u 0 len bs in
    omega (arith, pairs_most u 0 len bs, length-append p (replicate (len - length p) 0), length-replicate {A = ℕ} (len - length p) 0)

-- what a pool writes is a section of it
pub new_section_is : (h : Head) (u len : ℕ) (frees : Frees) (old new : List ℕ) → old ≡ [] → len ≡ section_len h → ((blocks : List (ℕ × ℕ)) × InOrder frees blocks × (new ≡ old ++ section_bytes u len blocks)) → IsSectionOf h u frees new × (length new ≡ section_len h)
new_section_is h u len frees old new none same w =
    let e : new ≡ section_bytes u (section_len h) w.0 = w.2 ∙ ap (λ (l : List ℕ). l ++ section_bytes u len w.0) none ∙ ap (λ (n : ℕ). section_bytes u n w.0) same in
    ((w.0, w.1, e), ap length e ∙ section_long u (section_len h) w.0)
