-- The entries of a map from ids to values: the first, the last, how many there are, and sums over them.
use Rattle.std.proofs.Common.{◌≡◌, ◌≢◌, inl, inr, ℕ, ◌+◌, ◌*◌, ◌<◌, ◌≤◌, Bool, true, false, ◌&&◌, not, cond, List, [], ◌∷◌, map, length, refl, sym, ap, subst, ◌∙◌, arith}
use Rattle.std.specs.Prelude.{Option, Some, None, IsSome, T, is_some, slice_get, unwrap_or, sum_by}
use Rattle.std.specs.declared.cmp.Ordering.{Ordering}
use Rattle.std.specs.declared.cmp.Ordering.TheVariants.{Less, Equal, Greater}
use Rattle.std.specs.Ordering.{nat_cmp, is_eq, is_lt, eq_by_cmp}
use Rattle.std.specs.Cmp.{nat_cmp_is}
use Rattle.std.specs.List.{last_or}
use Rattle.std.specs.FinMap.Entries.{by_order, where_key, put, find, below_all, is_sorted}
use Rattle.std.proofs.lemmas.Bool.{cases_eq, cases_lt, cases_order}
use Rattle.std.proofs.lemmas.List.Sums.{sum_by-cons}

abbrev pub Entry : Type 0
Entry = ℕ × List ℕ

-- ---- the order of numbers

pub cmp_less : (x y : ℕ) → x < y → nat_cmp x y ≡ Less
cmp_less x y h = sym (nat_cmp_is x y Less h)

pub cmp_same : (x y : ℕ) → x ≡ y → nat_cmp x y ≡ Equal
cmp_same x y h = sym (nat_cmp_is x y Equal h)

pub cmp_more : (x y : ℕ) → y < x → nat_cmp x y ≡ Greater
cmp_more x y h = sym (nat_cmp_is x y Greater h)

pub tied : (x : ℕ) → eq_by_cmp nat_cmp x x ≡ true
tied x = ap is_eq (cmp_same x x refl)

pub untied : (x y : ℕ) → x ≢ y → eq_by_cmp nat_cmp x y ≡ false
untied x y ne = elim (cases_order x y) [
  | inl e ↦ absurd (ne e)
  | inr (inl less) ↦ ap is_eq (cmp_less x y less)
  | inr (inr more) ↦ ap is_eq (cmp_more x y more)
]

pub first : (a b : Bool) → T (a && b) → T a
first true b p = tt
first false b p = p

pub second : (a b : Bool) → T (a && b) → T b
second true b p = p
second false b p = absurd p

pub lower : (x y : ℕ) → T (is_lt (nat_cmp x y)) → x < y
lower x y p = elim (cases_lt x y) [
  | inl less ↦ less
  | inr le ↦ absurd (elim (cases_eq x y) [
    | inl e ↦ subst (λ (o : Ordering). T (is_lt o)) (cmp_same x y e) p
    | inr ne ↦ subst (λ (o : Ordering). T (is_lt o)) (cmp_more x y (omega (arith, le, ne))) p
  ])
]

-- ---- an entry found

pub found_here : (q : ℕ) (e : Entry) (es : List Entry) → q ≡ e.0 → find nat_cmp q (e ∷ es) ≡ Some e.1
found_here q e es is = ap (λ (o : Ordering). cond (is_eq o) (Some e.1) (find nat_cmp q es)) (cmp_same q e.0 is)

pub found_on : (q : ℕ) (e : Entry) (es : List Entry) → q ≢ e.0 → find nat_cmp q (e ∷ es) ≡ find nat_cmp q es
found_on q e es ne = ap (λ (b : Bool). cond b (Some e.1) (find nat_cmp q es)) (untied q e.0 ne)

-- an id below all others, or one of them that is as small, isn't found
pub none_below : (x q : ℕ) (es : List Entry) → T (below_all nat_cmp x es) → q ≤ x → find nat_cmp q es ≡ None
none_below x q [] h le = refl
none_below x q (e ∷ es) h le =
    let low = lower x e.0 (first _ _ h) in
    found_on q e es (λ same. omega (arith, low, le, same)) ∙ none_below x q es (second _ _ h) le

held_not : {A : Type 0} (o : Option A) → o ≡ None → IsSome o → ⊥
held_not o none some = let never : false ≡ true = sym (ap is_some none) ∙ some in absurd cc

-- ---- the first and the last

abbrev pub front : List Entry → ℕ
front es = unwrap_or (slice_get (map (λ e. e.0) es) 0) 0

abbrev pub back : List Entry → ℕ
back es = unwrap_or (last_or None (map (λ e. e.0) es)) 0

pub front_first : (es : List Entry) (q : ℕ) → T (is_sorted nat_cmp es) → IsSome (find nat_cmp q es) → IsSome (find nat_cmp (front es) es) × (front es ≤ q)
front_first [] q h some = absurd (held_not {A = List ℕ} (find nat_cmp q []) refl some)
front_first (e ∷ es) q h some = (
  ap is_some (found_here e.0 e es refl),
  elim (cases_lt q e.0) [
    | inl less ↦ absurd (held_not (find nat_cmp q (e ∷ es)) (found_on q e es (λ same. omega (arith, less, same)) ∙ none_below e.0 q es (first (below_all nat_cmp e.0 es) (is_sorted nat_cmp es) h) (omega (arith, less))) some)
    | inr le ↦ le
  ],
)

abbrev EndsWell : List Entry → Type 0
EndsWell es = (q : ℕ) → T (is_sorted nat_cmp es) → IsSome (find nat_cmp q es) → IsSome (find nat_cmp (back es) es) × (q ≤ back es)

back_more : (e : Entry) (es : List Entry) → EndsWell es → EndsWell (e ∷ es)
back_more e [] ends q h some = (
  ap is_some (found_here e.0 e [] refl),
  elim (cases_eq q e.0) [
    | inl same ↦ omega (arith, same)
    | inr ne ↦ absurd (held_not (find nat_cmp q (e ∷ [])) (found_on q e [] ne) some)
  ],
)
back_more e (f ∷ fs) ends q h some =
    let rest : List Entry = f ∷ fs in
    let low : e.0 < f.0 = lower e.0 f.0 (first (is_lt (nat_cmp e.0 f.0)) (below_all nat_cmp e.0 fs) (first (below_all nat_cmp e.0 rest) (is_sorted nat_cmp rest) h)) in
    let sorted : T (is_sorted nat_cmp rest) = second (below_all nat_cmp e.0 rest) (is_sorted nat_cmp rest) h in
    let up = ends f.0 sorted (ap is_some (found_here f.0 f fs refl)) in
    let high : f.0 ≤ back rest = up.1 in (
      ap is_some (found_on (back rest) e rest (λ same. omega (arith, same, low, high))) ∙ up.0,
      elim (cases_eq q e.0) [
        | inl same ↦ omega (arith, same, low, high)
        | inr ne ↦ (ends q sorted (sym (ap is_some (found_on q e rest ne)) ∙ some)).1
      ],
    )

pub back_last : (es : List Entry) → EndsWell es
back_last [] q h some = absurd (held_not {A = List ℕ} (find nat_cmp q []) refl some)
back_last (e ∷ es) q h some = back_more e es (back_last es) q h some

pub front_held : (es : List Entry) → 1 ≤ front es → IsSome (find nat_cmp (front es) es)
front_held [] h = absurd (omega (arith, h))
front_held (e ∷ es) h = ap is_some (found_here e.0 e es refl)

pub back_held : (es : List Entry) → T (is_sorted nat_cmp es) → 1 ≤ back es → IsSome (find nat_cmp (back es) es)
back_held [] s h = absurd (omega (arith, h))
back_held (e ∷ es) s h = (back_last (e ∷ es) e.0 s (ap is_some (found_here e.0 e es refl))).0

-- no more entries than ids from the first to the last
abbrev AreFew : List Entry → Type 0
AreFew es = T (is_sorted nat_cmp es) → length es + front es ≤ back es + 1

few_more : (e : Entry) (es : List Entry) → AreFew es → AreFew (e ∷ es)
few_more e [] up h = omega arith
few_more e (f ∷ fs) up h =
    let rest : List Entry = f ∷ fs in
    let low : e.0 < f.0 = lower e.0 f.0 (first (is_lt (nat_cmp e.0 f.0)) (below_all nat_cmp e.0 fs) (first (below_all nat_cmp e.0 rest) (is_sorted nat_cmp rest) h)) in
    let more : length rest + f.0 ≤ back rest + 1 = up (second (below_all nat_cmp e.0 rest) (is_sorted nat_cmp rest) h) in
    omega (arith, low, more)

pub few : (es : List Entry) → AreFew es
few [] h = omega arith
few (e ∷ es) h = few_more e es (few es) h

-- ---- sums

module _ (w : ℕ → List ℕ → ℕ) where
  abbrev pub total : List Entry → ℕ
  total es = sum_by (λ e. w e.0 e.1) es

  abbrev pub gone : ℕ → Option (List ℕ) → ℕ
  gone k None = 0
  gone k (Some v) = w k v

  total-cons : (e : Entry) (es : List Entry) → total (e ∷ es) ≡ w e.0 e.1 + total es
  total-cons e es = sum_by-cons (λ (e : Entry). w e.0 e.1) e es

  pub total-put : (k : ℕ) (v : List ℕ) (es : List Entry) → T (is_sorted nat_cmp es) → total (put nat_cmp k v es) + gone k (find nat_cmp k es) ≡ total es + w k v
  total-put k v [] h = omega (arith, total-cons (k, v) [])
  total-put k v (e ∷ es) h =
      let below = first (below_all nat_cmp e.0 es) (is_sorted nat_cmp es) h in
      let sorted = second (below_all nat_cmp e.0 es) (is_sorted nat_cmp es) h in
      elim (cases_order k e.0) [
        | inl same ↦
            ap (λ (o : Ordering). total (by_order o ((k, v) ∷ e ∷ es) ((e.0, v) ∷ es) (e ∷ put nat_cmp k v es)) + gone k (cond (is_eq o) (Some e.1) (find nat_cmp k es))) (cmp_same k e.0 same)
            ∙ omega (arith, ap (λ n. w n e.1) same, ap (λ n. w n v) same, total-cons (e.0, v) es, total-cons e es)
        | inr (inl less) ↦
            let none : gone k (find nat_cmp k es) ≡ 0 = ap (gone k) (none_below e.0 k es below (omega (arith, less))) in
            ap (λ (o : Ordering). total (by_order o ((k, v) ∷ e ∷ es) ((e.0, v) ∷ es) (e ∷ put nat_cmp k v es)) + gone k (cond (is_eq o) (Some e.1) (find nat_cmp k es))) (cmp_less k e.0 less)
            ∙ omega (arith, none, total-cons (k, v) (e ∷ es))
        | inr (inr more) ↦
            ap (λ (o : Ordering). total (by_order o ((k, v) ∷ e ∷ es) ((e.0, v) ∷ es) (e ∷ put nat_cmp k v es)) + gone k (cond (is_eq o) (Some e.1) (find nat_cmp k es))) (cmp_more k e.0 more)
            ∙ omega (arith, total-put k v es sorted, total-cons e (put nat_cmp k v es), total-cons e es)
      ]

  pub total-without : (k : ℕ) (es : List Entry) → T (is_sorted nat_cmp es) → total (where_key nat_cmp (λ x. not (eq_by_cmp nat_cmp k x)) es) + gone k (find nat_cmp k es) ≡ total es
  total-without k [] h = omega arith
  total-without k (e ∷ es) h =
      let left : List Entry = where_key nat_cmp (λ x. not (eq_by_cmp nat_cmp k x)) es in
      let below = first (below_all nat_cmp e.0 es) (is_sorted nat_cmp es) h in
      let rest : total left + gone k (find nat_cmp k es) ≡ total es = total-without k es (second (below_all nat_cmp e.0 es) (is_sorted nat_cmp es) h) in
      elim (cases_eq k e.0) [
        | inl same ↦
            let none : gone k (find nat_cmp k es) ≡ 0 = ap (gone k) (none_below e.0 k es below (omega (arith, same))) in
            ap (λ (o : Ordering). total (cond (not (is_eq o)) (e ∷ left) left) + gone k (cond (is_eq o) (Some e.1) (find nat_cmp k es))) (cmp_same k e.0 same)
            ∙ omega (arith, rest, none, ap (λ n. w n e.1) same, total-cons e es)
        | inr ne ↦
            ap (λ (b : Bool). total (cond (not b) (e ∷ left) left) + gone k (cond b (Some e.1) (find nat_cmp k es))) (untied k e.0 ne)
            ∙ omega (arith, rest, total-cons e left, total-cons e es)
      ]

  pub total-most : (most : ℕ) (es : List Entry) → T (is_sorted nat_cmp es) → ((q : ℕ) (v : List ℕ) → find nat_cmp q es ≡ Some v → w q v ≤ most) → total es ≤ length es * most
  total-most most [] h each = omega arith
  total-most most (e ∷ es) h each =
      let below = first (below_all nat_cmp e.0 es) (is_sorted nat_cmp es) h in
      let here : w e.0 e.1 ≤ most = each e.0 e.1 (found_here e.0 e es refl) in
      let rest : total es ≤ length es * most = total-most most es (second (below_all nat_cmp e.0 es) (is_sorted nat_cmp es) h) (λ q v f. each q v (found_on q e es (λ same. held_not (find nat_cmp q es) (none_below e.0 q es below (omega (arith, same))) (ap is_some f)) ∙ f)) in
      let more : length (e ∷ es) * most ≡ most + length es * most = omega arith in
      omega (arith, here, rest, more, total-cons e es)
