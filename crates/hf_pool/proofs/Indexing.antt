-- Free blocks in two orders.
use Rattle.std.proofs.Common.{◌≡◌, ◌≢◌, ◌∙◌, ◌⊎◌, inl, inr, ℕ, ◌+◌, ◌-◌, ◌^◌, ◌<◌, ◌≤◌, Bool, true, false, cond, eqb, Option, Some, None, refl, sym, ap, subst, arith}
use Rattle.std.specs.declared.cmp.Ordering.{Ordering}
use Rattle.std.specs.declared.cmp.Ordering.TheVariants.{Less, Equal, Greater}
use Rattle.std.specs.Ordering.{nat_cmp, ordering_then, is_eq, is_gt, is_lt}
use Rattle.std.specs.Cmp.{nat_cmp_is}
use Rattle.std.proofs.lemmas.Bool.{cases_eq, cases_lt, cases_order, eq-eqb, ne_eqb, eqb-true}
use Rattle.hf_pool.specs.Trims.{Row, row_block}
use Rattle.hf_layout.specs.Frees.{Frees, IsThere, IsLeast, IsBest, AreSmall, HasNone, AreApart, MeetsNone, with_block, without}
use Rattle.hf_pool.specs.Orders.{pair_cmp, is_size}

pub cmp_less : (x y : ℕ) → x < y → nat_cmp x y ≡ Less
cmp_less x y h = sym (nat_cmp_is x y Less h)

pub cmp_same : (x y : ℕ) → x ≡ y → nat_cmp x y ≡ Equal
cmp_same x y h = sym (nat_cmp_is x y Equal h)

pub cmp_more : (x y : ℕ) → y < x → nat_cmp x y ≡ Greater
cmp_more x y h = sym (nat_cmp_is x y Greater h)

pub same_at : (x y : ℕ) → x ≡ y → is_eq (nat_cmp x y) ≡ true
same_at x y h = ap is_eq (cmp_same x y h)

pub other_at : (x y : ℕ) → x ≢ y → is_eq (nat_cmp x y) ≡ false
other_at x y ne = elim (cases_order x y) [
  | inl e ↦ absurd (ne e)
  | inr (inl less) ↦ ap is_eq (cmp_less x y less)
  | inr (inr more) ↦ ap is_eq (cmp_more x y more)
]

pub pair_same : (s p : ℕ) → is_eq (pair_cmp (s, p) (s, p)) ≡ true
pair_same s p = ap (λ (o : Ordering). is_eq (ordering_then o (nat_cmp p p))) (cmp_same s s refl) ∙ same_at p p refl

pub pair_other_size : (s p t q : ℕ) → s ≢ t → is_eq (pair_cmp (s, p) (t, q)) ≡ false
pair_other_size s p t q ne = elim (cases_order s t) [
  | inl e ↦ absurd (ne e)
  | inr (inl less) ↦ ap (λ (o : Ordering). is_eq (ordering_then o (nat_cmp p q))) (cmp_less s t less)
  | inr (inr more) ↦ ap (λ (o : Ordering). is_eq (ordering_then o (nat_cmp p q))) (cmp_more s t more)
]

pub pair_other_place : (s p t q : ℕ) → p ≢ q → is_eq (pair_cmp (s, p) (t, q)) ≡ false
pair_other_place s p t q ne = elim (cases_eq s t) [
  | inl e ↦ ap (λ (o : Ordering). is_eq (ordering_then o (nat_cmp p q))) (cmp_same s t e) ∙ other_at p q ne
  | inr other ↦ pair_other_size s p t q other
]

-- ---- both orders hold the same blocks

abbrev pub Both : (ℕ × ℕ → Bool) → Frees → Type 0
Both held frees = (s p : ℕ) → held (s, p) ≡ is_size (frees p) s

size_is : (o : Option ℕ) (s : ℕ) → is_size o s ≡ true → o ≡ Some s
size_is None s h = absurd cc
size_is (Some t) s h = ap (λ (n : ℕ). Some n) (sym (eqb-true s t h))

pub both_there : (held : ℕ × ℕ → Bool) (frees : Frees) → Both held frees → (s p : ℕ) → held (s, p) ≡ true → IsThere frees p s
both_there held frees both s p h = size_is (frees p) s (sym (both s p) ∙ h)

pub there_both : (held : ℕ × ℕ → Bool) (frees : Frees) → Both held frees → (s p : ℕ) → IsThere frees p s → held (s, p) ≡ true
there_both held frees both s p h = both s p ∙ ap (λ (o : Option ℕ). is_size o s) h ∙ eq-eqb s s refl

abbrev Gets : (ℕ × ℕ → Bool) → (ℕ × ℕ → Bool) → ℕ × ℕ → Bool → Type 0
Gets old new k b = (q : ℕ × ℕ) → new q ≡ cond (is_eq (pair_cmp k q)) b (old q)

pub both_with : (old new : ℕ × ℕ → Bool) (frees more : Frees) (size place : ℕ) → Both old frees → frees place ≡ None → Gets old new (size, place) true → ((q : ℕ) → more q ≡ with_block frees place size q) → Both new more
both_with old new frees more size place both absent gets with = λ s p. elim (cases_eq p place) [
  | inl e ↦
      let there : more p ≡ Some size = with p ∙ ap (λ (b : Bool). cond b (Some size) (frees p)) (eq-eqb p place e) in
      elim (cases_eq s size) [
        | inl f ↦
            let k : is_eq (pair_cmp (size, place) (s, p)) ≡ true = ap (λ (n : ℕ). is_eq (pair_cmp (size, place) (n, p))) f ∙ ap (λ (n : ℕ). is_eq (pair_cmp (size, place) (size, n))) e ∙ pair_same size place in
            gets (s, p) ∙ ap (λ (b : Bool). cond b true (old (s, p))) k ∙ sym (ap (λ (o : Option ℕ). is_size o s) there ∙ eq-eqb s size f)
        | inr f ↦
            let k = pair_other_size size place s p (λ g. f (sym g)) in
            gets (s, p) ∙ ap (λ (b : Bool). cond b true (old (s, p))) k ∙ both s p ∙ ap (λ (o : Option ℕ). is_size o s) (ap frees e ∙ absent) ∙ sym (ap (λ (o : Option ℕ). is_size o s) there ∙ ne_eqb s size f)
      ]
  | inr e ↦
      let k = pair_other_place size place s p (λ g. e (sym g)) in
      let same : more p ≡ frees p = with p ∙ ap (λ (b : Bool). cond b (Some size) (frees p)) (ne_eqb p place e) in
      gets (s, p) ∙ ap (λ (b : Bool). cond b true (old (s, p))) k ∙ both s p ∙ ap (λ (o : Option ℕ). is_size o s) (sym same)
]

pub both_without : (old new : ℕ × ℕ → Bool) (frees less : Frees) (size place : ℕ) → Both old frees → IsThere frees place size → Gets old new (size, place) false → ((q : ℕ) → less q ≡ without frees place q) → Both new less
both_without old new frees less size place both there gets with = λ s p. elim (cases_eq p place) [
  | inl e ↦
      let gone : less p ≡ None = with p ∙ ap (λ (b : Bool). cond b None (frees p)) (eq-eqb p place e) in
      elim (cases_eq s size) [
        | inl f ↦
            let k : is_eq (pair_cmp (size, place) (s, p)) ≡ true = ap (λ (n : ℕ). is_eq (pair_cmp (size, place) (n, p))) f ∙ ap (λ (n : ℕ). is_eq (pair_cmp (size, place) (size, n))) e ∙ pair_same size place in
            gets (s, p) ∙ ap (λ (b : Bool). cond b false (old (s, p))) k ∙ sym (ap (λ (o : Option ℕ). is_size o s) gone)
        | inr f ↦
            let k = pair_other_size size place s p (λ g. f (sym g)) in
            gets (s, p) ∙ ap (λ (b : Bool). cond b false (old (s, p))) k ∙ both s p ∙ ap (λ (o : Option ℕ). is_size o s) (ap frees e ∙ there) ∙ ne_eqb s size f ∙ sym (ap (λ (o : Option ℕ). is_size o s) gone)
      ]
  | inr e ↦
      let k = pair_other_place size place s p (λ g. e (sym g)) in
      let same : less p ≡ frees p = with p ∙ ap (λ (b : Bool). cond b None (frees p)) (ne_eqb p place e) in
      gets (s, p) ∙ ap (λ (b : Bool). cond b false (old (s, p))) k ∙ both s p ∙ ap (λ (o : Option ℕ). is_size o s) (sym same)
]

-- added and taken out again
pub both_back : (old mid new : ℕ × ℕ → Bool) (frees same : Frees) (size place : ℕ) → Both old frees → frees place ≡ None → Gets old mid (size, place) true → Gets mid new (size, place) false → ((q : ℕ) → same q ≡ frees q) → Both new same
both_back old mid new frees same size place both absent first second is =
    both_without mid new (with_block frees place size) same size place (both_with old mid frees (with_block frees place size) size place both absent first (λ q. refl)) (ap (λ (b : Bool). cond b (Some size) (frees place)) (eq-eqb place place refl)) second
    (λ q. is q ∙ back q)
  where
    back : (q : ℕ) → frees q ≡ without (with_block frees place size) place q
    back q = elim (cases_eq q place) [
      | inl e ↦ ap frees e ∙ absent ∙ sym (ap (λ (b : Bool). cond b None (with_block frees place size q)) (eq-eqb q place e))
      | inr e ↦ sym (ap (λ (b : Bool). cond b None (with_block frees place size q)) (ne_eqb q place e) ∙ ap (λ (b : Bool). cond b (Some size) (frees q)) (ne_eqb q place e))
    ]

-- ---- apart

pub apart_same : (frees same : Frees) → AreApart frees → ((q : ℕ) → same q ≡ frees q) → AreApart same
apart_same frees same apart is = λ p s q t h k less. apart p s q t (sym (is p) ∙ h) (sym (is q) ∙ k) less

found_with : (frees : Frees) (place size q t : ℕ) → with_block frees place size q ≡ Some t → ((q ≡ place) × (t ≡ size)) ⊎ IsThere frees q t
found_with frees place size q t h = elim (cases_eq q place) [
  | inl e ↦ inl (e, let s : Some size ≡ Some t = sym (ap (λ (b : Bool). cond b (Some size) (frees q)) (eq-eqb q place e)) ∙ h in cc)
  | inr e ↦ inr (sym (ap (λ (b : Bool). cond b (Some size) (frees q)) (ne_eqb q place e)) ∙ h)
]

pub apart_with : (frees more : Frees) (place size : ℕ) → 0 < size → AreApart frees → MeetsNone frees place size → ((q : ℕ) → more q ≡ with_block frees place size q) → AreApart more
apart_with frees more place size some apart none with = λ p s q t h k less.
    elim (found_with frees place size p s (sym (with p) ∙ h)) [
      | inl e ↦ elim (found_with frees place size q t (sym (with q) ∙ k)) [
        | inl f ↦ absurd (omega (arith, e.0, f.0, less))
        | inr f ↦ elim (none q t f) [ inl g ↦ absurd (omega (arith, e.0, g, less)) | inr g ↦ omega (arith, e.0, e.1, g) ]
      ]
      | inr e ↦ elim (found_with frees place size q t (sym (with q) ∙ k)) [
        | inl f ↦ elim (none p s e) [ inl g ↦ omega (arith, f.0, g) | inr g ↦ absurd (omega (arith, f.0, g, less, some)) ]
        | inr f ↦ apart p s q t e f less
      ]
    ]

found_without : (frees : Frees) (place q t : ℕ) → without frees place q ≡ Some t → IsThere frees q t
found_without frees place q t h = elim (cases_eq q place) [
  | inl e ↦ absurd (let s : None ≡ Some t = sym (ap (λ (b : Bool). cond b None (frees q)) (eq-eqb q place e)) ∙ h in cc)
  | inr e ↦ sym (ap (λ (b : Bool). cond b None (frees q)) (ne_eqb q place e)) ∙ h
]

pub apart_without : (frees less : Frees) (place : ℕ) → AreApart frees → ((q : ℕ) → less q ≡ without frees place q) → AreApart less
apart_without frees less place apart with = λ p s q t h k lower. apart p s q t (found_without frees place p s (sym (with p) ∙ h)) (found_without frees place q t (sym (with q) ∙ k)) lower

-- ---- the least that is large enough

abbrev Le : ℕ × ℕ → ℕ × ℕ → Type 0
Le a b = is_gt (pair_cmp a b) ≡ false

pub le_from : (size s p : ℕ) → size ≤ s → Le (size, 0) (s, p)
le_from size s p h = elim (cases_order size s) [
  | inl e ↦ ap (λ (o : Ordering). is_gt (ordering_then o (nat_cmp 0 p))) (cmp_same size s e) ∙ low p
  | inr (inl less) ↦ ap (λ (o : Ordering). is_gt (ordering_then o (nat_cmp 0 p))) (cmp_less size s less)
  | inr (inr more) ↦ absurd (omega (arith, h, more))
]
  where
    low : (p : ℕ) → is_gt (nat_cmp 0 p) ≡ false
    low p = elim (cases_order 0 p) [
      | inl e ↦ ap is_gt (cmp_same 0 p e)
      | inr (inl less) ↦ ap is_gt (cmp_less 0 p less)
      | inr (inr more) ↦ absurd (omega (arith, more))
    ]

pub le_size : (a b c d : ℕ) → Le (a, b) (c, d) → a ≤ c
le_size a b c d h = elim (cases_order a c) [
  | inl e ↦ omega (arith, e)
  | inr (inl less) ↦ omega (arith, less)
  | inr (inr more) ↦ absurd (let k : true ≡ false = sym (ap (λ (o : Ordering). is_gt (ordering_then o (nat_cmp b d))) (cmp_more a c more)) ∙ h in cc)
]

pub le_place : (a b d : ℕ) → Le (a, b) (a, d) → b ≤ d
le_place a b d h = elim (cases_order b d) [
  | inl e ↦ omega (arith, e)
  | inr (inl less) ↦ omega (arith, less)
  | inr (inr more) ↦ absurd (let k : true ≡ false = sym (ap (λ (o : Ordering). is_gt (ordering_then o (nat_cmp b d))) (cmp_same a a refl) ∙ ap is_gt (cmp_more b d more)) ∙ h in cc)
]

pub least_some : (held : ℕ × ℕ → Bool) (frees : Frees) (size found place : ℕ) → Both held frees → Le (size, 0) (found, place) → held (found, place) ≡ true → ((q : ℕ × ℕ) → Le (size, 0) q → held q ≡ true → Le (found, place) q) → IsLeast frees size place found
least_some held frees size found place both from here least = record {
  there = both_there held frees both found place here;
  enough = le_size size 0 found place from;
  least = λ q t there enough. le_size found place t q (least (t, q) (le_from size t q enough) (there_both held frees both t q there));
  lowest = λ q there. le_place found place q (least (found, q) (le_from size found q (le_size size 0 found place from)) (there_both held frees both found q there));
}

pub least_none : (held : ℕ × ℕ → Bool) (frees : Frees) (size : ℕ) → Both held frees → ((q : ℕ × ℕ) → Le (size, 0) q → held q ≡ false) → AreSmall frees size
least_none held frees size both none = λ q t there. elim (cases_lt t size) [
  | inl less ↦ less
  | inr enough ↦ absurd (let a = none (t, q) (le_from size t q enough) in let b = there_both held frees both t q there in cc)
]

-- ---- the least of those that begin below a place

-- all that are large enough and smaller than this begin behind the place
abbrev pub BeginBehind : Frees → ℕ → ℕ → ℕ → Type 0
BeginBehind frees most size from = (q t : ℕ) → IsThere frees q t → size ≤ t → t < from → most ≤ q

pub best_found : (frees : Frees) (most size from place found : ℕ) → size ≤ from → BeginBehind frees most size from → IsLeast frees from place found → place < most → IsBest frees most size place found
best_found frees most size from place found le passed least below = record {
  there = least.there;
  below = below;
  enough = omega (arith, le, least.enough);
  least = λ q t there low enough. elim (cases_lt t from) [
    | inl few ↦ absurd (let far = passed q t there enough few in omega (arith, far, low))
    | inr many ↦ least.least q t there many
  ];
  lowest = least.lowest;
}

-- one more was passed over, and with it all of its size
pub best_passed : (frees : Frees) (most size from place found : ℕ) → BeginBehind frees most size from → IsLeast frees from place found → most ≤ place → BeginBehind frees most size (found + 1)
best_passed frees most size from place found passed least far = λ q t there enough few. elim (cases_lt t from) [
  | inl less ↦ passed q t there enough less
  | inr many ↦ (
      let same : t ≡ found = omega (arith, few, least.least q t there many) in
      let low = least.lowest q (subst (λ (n : ℕ). IsThere frees q n) same there) in
      omega (arith, far, low)
      )
]

pub best_passed_all : (frees : Frees) (most size from : ℕ) → BeginBehind frees most size from → AreSmall frees from → HasNone frees most size
best_passed_all frees most size from passed none = λ q t there low. elim (cases_lt t size) [
  | inl less ↦ less
  | inr enough ↦ absurd (let far = passed q t there enough (none q t there) in omega (arith, far, low))
]

-- the greatest place in front of an end is that of the block that ends there
pub before_none : (frees : Frees) (place size end : ℕ) → AreApart frees → IsThere frees place size → place < end → size ≢ end - place → ((q t : ℕ) → IsThere frees q t → q < end → q ≤ place) → (q t : ℕ) → IsThere frees q t → q + t ≡ end → 0 < t → ⊥
before_none frees place size end apart there low ne greatest q t h e some = elim (cases_order q place) [
  | inl same ↦ ne (let s : Some t ≡ Some size = sym h ∙ ap frees same ∙ there in let f : t ≡ size = cc in omega (arith, same, e, f))
  | inr (inl less) ↦ omega (arith, apart q t place size h there less, e, low)
  | inr (inr more) ↦ omega (arith, greatest q t h (omega (arith, e, some)), more)
]

-- a map's test for a key
pub tested : (place q : ℕ) → is_eq (nat_cmp place q) ≡ eqb q place
tested place q = elim (cases_eq q place) [
  | inl e ↦ same_at place q (sym e) ∙ sym (eq-eqb q place e)
  | inr e ↦ other_at place q (λ f. e (sym f)) ∙ sym (ne_eqb q place e)
]

pub now_with : (frees more : Frees) (place size : ℕ) → ((q : ℕ) → more q ≡ cond (is_eq (nat_cmp place q)) (Some size) (frees q)) → (q : ℕ) → more q ≡ with_block frees place size q
now_with frees more place size h q = h q ∙ ap (λ (b : Bool). cond b (Some size) (frees q)) (tested place q)

pub now_without : (frees less : Frees) (place : ℕ) → ((q : ℕ) → less q ≡ cond (is_eq (nat_cmp place q)) None (frees q)) → (q : ℕ) → less q ≡ without frees place q
now_without frees less place h q = h q ∙ ap (λ (b : Bool). cond b None (frees q)) (tested place q)

pub less_of : (x y : ℕ) → nat_cmp x y ≡ Less → x < y
less_of x y h = elim (cases_order x y) [
  | inl e ↦ absurd (let k : Equal ≡ Less = sym (cmp_same x y e) ∙ h in cc)
  | inr (inl less) ↦ less
  | inr (inr more) ↦ absurd (let k : Greater ≡ Less = sym (cmp_more x y more) ∙ h in cc)
]

pub not_less : (x y : ℕ) → is_lt (nat_cmp x y) ≡ false → y ≤ x
not_less x y h = elim (cases_lt x y) [
  | inl less ↦ absurd (let k : true ≡ false = sym (ap is_lt (cmp_less x y less)) ∙ h in cc)
  | inr le ↦ le
]

-- ---- dropped at the end

pub none_behind : (frees : Frees) (end : ℕ) → ((q t : ℕ) → IsThere frees q t → (0 < t) × (t < 2 ^ 32) × (q + t ≤ end)) → (q : ℕ) → end ≤ q → frees q ≡ None
none_behind frees end within q past = go (frees q) refl
  where
    go : (o : Option ℕ) → frees q ≡ o → o ≡ None
    go None e = refl
    go (Some t) e = absurd (let w = within q t e in omega (arith, w.0, w.2, past))

pub gone_more : (frees less : Frees) (place size end : ℕ) → AreApart frees → IsThere frees place size → place + size ≡ end → ((q : ℕ) → end ≤ q → frees q ≡ None) → ((q : ℕ) → less q ≡ without frees place q) → (q : ℕ) → place ≤ q → less q ≡ None
gone_more frees less place size end apart there e gone with q past = elim (cases_eq q place) [
  | inl same ↦ with q ∙ ap (λ (b : Bool). cond b None (frees q)) (eq-eqb q place same)
  | inr other ↦ with q ∙ ap (λ (b : Bool). cond b None (frees q)) (ne_eqb q place other) ∙ elim (cases_lt q end) [
    | inl less ↦ between (frees q) refl less other
    | inr le ↦ gone q le
  ]
]
  where
    between : (o : Option ℕ) → frees q ≡ o → q < end → q ≢ place → frees q ≡ None
    between None f less ne = f
    between (Some t) f less ne = absurd (omega (arith, apart place size q t there f (omega (arith, past, ne)), e, less))

pub kept_more : (first frees less : Frees) (place end : ℕ) → place ≤ end → ((q : ℕ) → q < end → frees q ≡ first q) → ((q : ℕ) → less q ≡ without frees place q) → (q : ℕ) → q < place → less q ≡ first q
kept_more first frees less place end low kept with q below = with q ∙ ap (λ (b : Bool). cond b None (frees q)) (ne_eqb q place (omega arith)) ∙ kept q (omega (arith, below, low))

pub row_more : (first frees : Frees) (place size end last : ℕ) → 0 < size → IsThere frees place size → place + size ≡ end → ((q : ℕ) → q < end → frees q ≡ first q) → Row first end last → Row first place last
row_more first frees place size end last some there e kept row = row_block place size last (sym (kept place (omega (arith, e, some))) ∙ there) (subst (λ (n : ℕ). Row first n last) (sym e) row)

-- the last block that begins in front of an end ends in front of a place: no block lies between
pub meets_last : (frees : Frees) (last found place size : ℕ) → AreApart frees → IsThere frees last found → last ≤ place → found ≤ place - last → ((q t : ℕ) → IsThere frees q t → q < place + size → q ≤ last) → MeetsNone frees place size
meets_last frees last found place size apart there low fits greatest q t h = elim (cases_lt q (place + size)) [
  | inr behind ↦ inr behind
  | inl front ↦ elim (cases_order q last) [
    | inl same ↦ inl (let s : Some t ≡ Some found = sym h ∙ ap frees same ∙ there in let f : t ≡ found = cc in omega (arith, f, same, low, fits))
    | inr (inl less) ↦ inl (omega (arith, apart q t last found h there less, low))
    | inr (inr more) ↦ absurd (omega (arith, greatest q t h front, more))
  ]
]

pub meets_empty : (frees : Frees) (place size : ℕ) → ((q : ℕ) → q < place + size → frees q ≡ None) → MeetsNone frees place size
meets_empty frees place size none q t h = elim (cases_lt q (place + size)) [
  | inr behind ↦ inr behind
  | inl front ↦ absurd (let e = sym (none q front) ∙ h in cc)
]
