-- Ids listed one after the other.
use Rattle.std.proofs.Common.{◌≡◌, ◌≢◌, ◌∙◌, ◌⊎◌, inl, inr, ℕ, suc, ◌+◌, ◌-◌, ◌<◌, ◌≤◌, Bool, true, false, ◌&&◌, cond, List, [], ◌∷◌, ◌++◌, map, length, min, refl, sym, ap, subst, arith, append_assoc, length-append}
use Rattle.std.specs.Prelude.{Option, Some, None, IsSome, T, is_some, filter, max, nat_le, nat_lt}
use Rattle.std.specs.Ordering.{nat_cmp, is_lt}
use Rattle.std.specs.FinMap.{get, keys, entries, entries_sorted, get-entries}
use Rattle.std.specs.FinMap.Entries.{find, below_all, is_sorted}
use Rattle.std.proofs.lemmas.Bool.{cases_eq, cases_lt, le-leb, lt-leb}
use Rattle.std.proofs.lemmas.List.{append-nil, take_all, take_at}
use Rattle.tc_model.specs.Arrays.{Array, least, greatest}
use Rattle.tc_fixed.specs.declared.cells.Look.{Look}
use Rattle.tc_fixed.specs.declared.cells.Look.TheVariants.{Absent, Value, Bad}
use Rattle.tc_fixed.specs.Cells.{HasCellsOf, cell_at}
use Rattle.tc_fixed.specs.Looks.{Sees}
use Rattle.tc_fixed.specs.Listing.{HasRoom, ids_in, first_of, noted}
use Rattle.tc_fixed.proofs.Entries.{Entry, first, second, lower, found_here, found_on, none_below}
use Rattle.tc_fixed.proofs.Tallied.{held_not, least_low, greatest_high}
use Rattle.tc_fixed.proofs.Ended.{none_told, some_told}

abbrev in_range : ℕ → ℕ → ℕ → Bool
in_range from to id = nat_le from id && nat_lt id to

passes : (from to id : ℕ) → from ≤ id → id < to → in_range from to id ≡ true
passes from to id low high = ap (λ (b : Bool). b && nat_lt id to) (le-leb from id low) ∙ le-leb (suc id) to (omega (arith, high))

too_low : (from to id : ℕ) → id < from → in_range from to id ≡ false
too_low from to id low = ap (λ (b : Bool). b && nat_lt id to) (lt-leb from id low)

and_false : (b : Bool) → (b && false) ≡ false
and_false true = refl
and_false false = refl

too_high : (from to id : ℕ) → to ≤ id → in_range from to id ≡ false
too_high from to id high = ap (λ (b : Bool). nat_le from id && b) (lt-leb (suc id) to (omega (arith, high))) ∙ and_false (nat_le from id)

-- ---- of entries

abbrev among : ℕ → ℕ → List Entry → List ℕ
among from to es = filter (in_range from to) (map (λ e. e.0) es)

took : (from to : ℕ) (e : Entry) (es : List Entry) → in_range from to e.0 ≡ true → among from to (e ∷ es) ≡ e.0 ∷ among from to es
took from to e es is = ap (λ (b : Bool). cond b (e.0 ∷ among from to es) (among from to es)) is

passed : (from to : ℕ) (e : Entry) (es : List Entry) → in_range from to e.0 ≡ false → among from to (e ∷ es) ≡ among from to es
passed from to e es is = ap (λ (b : Bool). cond b (e.0 ∷ among from to es) (among from to es)) is

none_among : (from to x : ℕ) (es : List Entry) → T (below_all nat_cmp x es) → to ≤ x + 1 → among from to es ≡ []
none_among from to x [] h le = refl
none_among from to x (e ∷ es) h le =
    let low = lower x e.0 (first (is_lt (nat_cmp x e.0)) (below_all nat_cmp x es) h) in
    passed from to e es (too_high from to e.0 (omega (arith, low, le))) ∙ none_among from to x es (second (is_lt (nat_cmp x e.0)) (below_all nat_cmp x es) h) le

parted : (a b c : ℕ) (es : List Entry) → T (is_sorted nat_cmp es) → a ≤ b → b ≤ c → among a c es ≡ among a b es ++ among b c es
parted a b c [] h ab bc = refl
parted a b c (e ∷ es) h ab bc =
    let below = first (below_all nat_cmp e.0 es) (is_sorted nat_cmp es) h in
    let rest : among a c es ≡ among a b es ++ among b c es = parted a b c es (second (below_all nat_cmp e.0 es) (is_sorted nat_cmp es) h) ab bc in
    elim (cases_lt e.0 a) [
      | inl low ↦ passed a c e es (too_low a c e.0 low) ∙ rest ∙ sym (λ i. passed a b e es (too_low a b e.0 low) i ++ passed b c e es (too_low b c e.0 (omega (arith, low, ab))) i)
      | inr from_a ↦ elim (cases_lt e.0 b) [
        | inl in_first ↦ took a c e es (passes a c e.0 from_a (omega (arith, in_first, bc))) ∙ ap (λ (l : List ℕ). e.0 ∷ l) rest ∙ sym (λ i. took a b e es (passes a b e.0 from_a in_first) i ++ passed b c e es (too_low b c e.0 in_first) i)
        | inr from_b ↦ elim (cases_lt e.0 c) [
          | inl in_second ↦
              let none : among a b es ≡ [] = none_among a b e.0 es below (omega (arith, from_b)) in
              took a c e es (passes a c e.0 from_a in_second) ∙ ap (λ (l : List ℕ). e.0 ∷ l) (rest ∙ ap (λ (l : List ℕ). l ++ among b c es) none)
              ∙ sym (λ i. (passed a b e es (too_high a b e.0 from_b) ∙ none) i ++ took b c e es (passes b c e.0 from_b in_second) i)
          | inr past ↦ passed a c e es (too_high a c e.0 past) ∙ rest ∙ sym (λ i. passed a b e es (too_high a b e.0 from_b) i ++ passed b c e es (too_high b c e.0 past) i)
        ]
      ]
    ]

one_among : (id : ℕ) (es : List Entry) → T (is_sorted nat_cmp es) → IsSome (find nat_cmp id es) → among id (id + 1) es ≡ id ∷ []
one_among id [] h some = absurd (held_not {A = List ℕ} (find nat_cmp id []) refl some)
one_among id (e ∷ es) h some =
    let below = first (below_all nat_cmp e.0 es) (is_sorted nat_cmp es) h in
    elim (cases_eq id e.0) [
      | inl same ↦ took id (id + 1) e es (passes id (id + 1) e.0 (omega (arith, same)) (omega (arith, same))) ∙ (λ i. sym same i ∷ none_among id (id + 1) e.0 es below (omega (arith, same)) i)
      | inr ne ↦ skip ne ∙ one_among id es (second (below_all nat_cmp e.0 es) (is_sorted nat_cmp es) h) (sym (ap is_some (found_on id e es ne)) ∙ some)
    ]
  where
    skip : id ≢ e.0 → among id (id + 1) (e ∷ es) ≡ among id (id + 1) es
    skip ne = elim (cases_lt e.0 id) [
      | inl low ↦ passed id (id + 1) e es (too_low id (id + 1) e.0 low)
      | inr high ↦ passed id (id + 1) e es (too_high id (id + 1) e.0 (omega (arith, high, ne)))
    ]

not_among : (id : ℕ) (es : List Entry) → find nat_cmp id es ≡ None → among id (id + 1) es ≡ []
not_among id [] none = refl
not_among id (e ∷ es) none = elim (cases_eq id e.0) [
  | inl same ↦ absurd (let never : Some e.1 ≡ None = sym (found_here id e es same) ∙ none in cc)
  | inr ne ↦ skip ne ∙ not_among id es (sym (found_on id e es ne) ∙ none)
]
  where
    skip : id ≢ e.0 → among id (id + 1) (e ∷ es) ≡ among id (id + 1) es
    skip ne = elim (cases_lt e.0 id) [
      | inl low ↦ passed id (id + 1) e es (too_low id (id + 1) e.0 low)
      | inr high ↦ passed id (id + 1) e es (too_high id (id + 1) e.0 (omega (arith, high, ne)))
    ]

-- two ranges that agree on each id held
same_among : (a b c d : ℕ) (es : List Entry) → T (is_sorted nat_cmp es) → ((q : ℕ) → IsSome (find nat_cmp q es) → in_range a b q ≡ in_range c d q) → among a b es ≡ among c d es
same_among a b c d [] h same = refl
same_among a b c d (e ∷ es) h same =
    let below = first (below_all nat_cmp e.0 es) (is_sorted nat_cmp es) h in
    let rest : among a b es ≡ among c d es = same_among a b c d es (second (below_all nat_cmp e.0 es) (is_sorted nat_cmp es) h) (λ q some. same q (ap is_some (found_on q e es (λ is. held_not (find nat_cmp q es) (none_below e.0 q es below (omega (arith, is))) some)) ∙ some)) in
    (λ i. cond (same e.0 (ap is_some (found_here e.0 e es refl)) i) (e.0 ∷ rest i) (rest i))

-- ---- of a map

pub ids_parted : (m : Array) (a b c : ℕ) → a ≤ b → b ≤ c → ids_in m a c ≡ ids_in m a b ++ ids_in m b c
ids_parted m a b c ab bc = parted a b c (entries m) (entries_sorted m) ab bc

ids_one : (m : Array) (id : ℕ) → IsSome (get m id) → ids_in m id (id + 1) ≡ id ∷ []
ids_one m id held = one_among id (entries m) (entries_sorted m) (sym (ap is_some (get-entries m id)) ∙ held)

ids_none : (m : Array) (id : ℕ) → get m id ≡ None → ids_in m id (id + 1) ≡ []
ids_none m id none = not_among id (entries m) (sym (get-entries m id) ∙ none)

nothing_in : (from : ℕ) (ids : List ℕ) → filter (in_range from from) ids ≡ []
nothing_in from [] = refl
nothing_in from (id ∷ ids) = elim (cases_lt id from) [
  | inl low ↦ ap (λ (b : Bool). cond b (id ∷ filter (in_range from from) ids) (filter (in_range from from) ids)) (too_low from from id low) ∙ nothing_in from ids
  | inr high ↦ ap (λ (b : Bool). cond b (id ∷ filter (in_range from from) ids) (filter (in_range from from) ids)) (too_high from from id high) ∙ nothing_in from ids
]

-- ids outside those held don't matter
pub ids_within : (m : Array) (low high from to : ℕ) → ((q : ℕ) → IsSome (get m q) → (1 ≤ q)) → low ≡ max (max from (least m)) 1 → high ≡ min to (greatest m + 1) → ids_in m low high ≡ ids_in m from to
ids_within m low high from to some is_low is_high = same_among low high from to (entries m) (entries_sorted m) (λ q held. agree q (ap is_some (get-entries m q) ∙ held))
  where
    agree : (q : ℕ) → IsSome (get m q) → in_range low high q ≡ in_range from to q
    agree q held =
        let l = least_low m q held in
        let g = greatest_high m q held in
        let s = some q held in
        elim (cases_lt q from) [
          | inl under ↦ too_low low high q (omega (arith, under, is_low)) ∙ sym (too_low from to q under)
          | inr over ↦ elim (cases_lt q to) [
            | inl inside ↦ passes low high q (omega (arith, over, is_low, l, s)) (omega (arith, inside, is_high, g)) ∙ sym (passes from to q over inside)
            | inr past ↦ too_high low high q (omega (arith, past, is_high)) ∙ sym (too_high from to q past)
          ]
        ]

-- ---- what is listed so far

abbrev HasFit : Option ℕ → ℕ → Type 0
HasFit None count = Unit {0}
HasFit (Some most) count = count ≤ most

-- those up to an id are listed, and no more than asked for
pub record AreSoFar (m : Array) (from id to : ℕ) (most : Option ℕ) (old new : List ℕ) : Type 0 where
  pub is : new ≡ old ++ ids_in m from id
  pub fits : HasFit most (length (ids_in m from id))
  pub within : (id ≤ to) ⊎ (id ≡ from)

fits_none : (most : Option ℕ) → HasFit most 0
fits_none None = tt
fits_none (Some n) = omega arith

pub listed_none : (m : Array) (from to : ℕ) (most : Option ℕ) (old : List ℕ) → AreSoFar m from from to most old old
listed_none m from to most old =
    let none : ids_in m from from ≡ [] = nothing_in from (keys m) in
    record {
      is = sym (ap (λ (l : List ℕ). old ++ l) none ∙ append-nil old);
      fits = subst (λ (l : List ℕ). HasFit most (length l)) (sym none) (fits_none most);
      within = inr refl;
    }

fits_more : (most : Option ℕ) (n k : ℕ) → HasRoom most n → HasFit most n → k ≤ 1 → HasFit most (n + k)
fits_more None n k room fit one = tt
fits_more (Some most) n k room fit one = omega (arith, room, one)

pub listed_more : (m : Array) (width from id to : ℕ) (most : Option ℕ) (old new now bytes : List ℕ) (look : Look) (count : ℕ)
    → AreSoFar m from id to most old new → from ≤ id → 1 ≤ from → id < to → HasCellsOf width (to - 1) m bytes → Sees width look (cell_at width id bytes)
    → count ≡ length new - length old → HasRoom most count → now ≡ new ++ noted look id → AreSoFar m from (id + 1) to most old now
listed_more m width from id to most old new now bytes look count so on some less cells sees counted room pushed =
    let step = noted_is look sees in
    let all : ids_in m from (id + 1) ≡ ids_in m from id ++ noted look id = ids_parted m from id (id + 1) on (omega arith) ∙ ap (λ (l : List ℕ). ids_in m from id ++ l) step.0 in
    let n : count ≡ length (ids_in m from id) = omega (arith, counted, ap (λ (l : List ℕ). length l) so.is, length-append old (ids_in m from id)) in
    let long : length (ids_in m from id) + length (noted look id) ≡ length (ids_in m from (id + 1)) = sym (ap (λ (l : List ℕ). length l) all ∙ length-append (ids_in m from id) (noted look id)) in
    record {
      is = pushed ∙ ap (λ (l : List ℕ). l ++ noted look id) so.is ∙ append_assoc old (ids_in m from id) (noted look id) ∙ ap (λ (l : List ℕ). old ++ l) (sym all);
      fits = subst (λ k. HasFit most k) long (fits_more most (length (ids_in m from id)) (length (noted look id)) (subst (λ k. HasRoom most k) n room) so.fits step.1);
      within = inl (omega (arith, less));
    }
  where
    noted_is : (look : Look) → Sees width look (cell_at width id bytes) → (ids_in m id (id + 1) ≡ noted look id) × (length (noted look id) ≤ 1)
    noted_is Absent sees = (ids_none m id (none_told width id (to - 1) m bytes cells (omega (arith, on, some)) (omega (arith, less)) Absent refl sees), omega arith)
    noted_is (Value long) sees = (ids_one m id (some_told width id (to - 1) m bytes cells (omega (arith, on, some)) (omega (arith, less)) long sees), omega arith)
    noted_is Bad sees = (ids_none m id (none_told width id (to - 1) m bytes cells (omega (arith, on, some)) (omega (arith, less)) Bad refl sees), omega arith)

first_fits : (most : Option ℕ) (xs : List ℕ) → HasFit most (length xs) → first_of most xs ≡ xs
first_fits None xs fit = refl
first_fits (Some n) xs fit = take_all n xs fit

pub listed_all : (m : Array) (from id to : ℕ) (most : Option ℕ) (old new : List ℕ) → AreSoFar m from id to most old new → from ≤ id → to ≤ id → new ≡ old ++ first_of most (ids_in m from to)
listed_all m from id to most old new so on past = so.is ∙ ap (λ (l : List ℕ). old ++ l) (sym (first_fits most (ids_in m from id) so.fits) ∙ ap (λ (l : List ℕ). first_of most l) (elim so.within [
  | inl le ↦ ap (ids_in m from) (omega (arith, le, past))
  | inr start ↦ ap (ids_in m from) start ∙ nothing_in from (keys m) ∙ sym (empty_range (omega (arith, start, past)))
]))
  where
    empty_range : to ≤ from → ids_in m from to ≡ []
    empty_range le = same_among from to from from (entries m) (entries_sorted m) (λ q held. elim (cases_lt q from) [
      | inl low ↦ too_low from to q low ∙ sym (too_low from from q low)
      | inr high ↦ too_high from to q (omega (arith, le, high)) ∙ sym (too_high from from q high)
    ]) ∙ nothing_in from (keys m)

no_room : (most : Option ℕ) (xs ys : List ℕ) → (HasRoom most (length xs) → ⊥) → HasFit most (length xs) → first_of most (xs ++ ys) ≡ xs
no_room None xs ys full fit = absurd (full tt)
no_room (Some n) xs ys full fit = take_at xs ys n (elim (cases_lt (length xs) n) [ inl less ↦ absurd (full less) | inr le ↦ omega (arith, le, fit) ])

pub listed_full : (m : Array) (from id to : ℕ) (most : Option ℕ) (old new : List ℕ) (count : ℕ) → AreSoFar m from id to most old new → from ≤ id → id < to → count ≡ length new - length old → (HasRoom most count → ⊥) → new ≡ old ++ first_of most (ids_in m from to)
listed_full m from id to most old new count so on less counted full =
    let n : count ≡ length (ids_in m from id) = omega (arith, counted, ap (λ (l : List ℕ). length l) so.is, length-append old (ids_in m from id)) in
    so.is ∙ ap (λ (l : List ℕ). old ++ l) (sym (ap (λ (l : List ℕ). first_of most l) (ids_parted m from id to on (omega (arith, less))) ∙ no_room most (ids_in m from id) (ids_in m id to) (λ room. full (subst (λ k. HasRoom most k) (sym n) room)) so.fits))
