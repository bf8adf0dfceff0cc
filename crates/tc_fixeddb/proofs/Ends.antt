-- The least and the greatest id with another one held.
use Rattle.std.proofs.Common.{rules, ◌≡◌, inl, inr, ℕ, ◌<◌, ◌≤◌, Bool, true, false, ◌&&◌, cond, List, [], ◌∷◌, map, refl, sym, ap, subst, ◌∙◌, arith}
use Rattle.std.specs.Prelude.{Option, Some, None, IsSome, T, is_some, slice_get, unwrap_or, min, max, ◌==◌}
use Rattle.std.specs.declared.cmp.Ordering.{Ordering}
use Rattle.std.specs.declared.cmp.Ordering.TheVariants.{Less, Equal, Greater}
use Rattle.std.specs.Ordering.{nat_cmp, eq_by_cmp, is_eq, is_lt}
use Rattle.std.specs.Cmp.{nat_cmp_is, nat_cmp_total}
use Rattle.std.specs.List.{last_or}
use Rattle.std.specs.FinMap.{entries, entries-insert, entries_sorted, get, get-entries, get-insert, insert}
use Rattle.std.specs.FinMap.Entries.{by_order, find, put, below_all, is_sorted}
use Rattle.std.proofs.lemmas.Bool.{cases_eq, cases_order}
use Rattle.tc_model.specs.Arrays.{Array, greatest, least}
use Rattle.tc_fixeddb.specs.Naming.{least_with}

Entry : Type 0
Entry = ℕ × List ℕ

abbrev front : List (ℕ × List ℕ) → ℕ
front es = unwrap_or (slice_get (map (λ e. e.0) es) 0) 0

abbrev back : List (ℕ × List ℕ) → ℕ
back es = unwrap_or (last_or None (map (λ e. e.0) es)) 0

-- what the order of two numbers says
order_is : (x y : ℕ) (P : Ordering → Type 0) → (x < y → P Less) → (x ≡ y → P Equal) → (y < x → P Greater) → P (nat_cmp x y)
order_is x y P less equal greater = elim (cases_order x y) [
  | inl e ↦ subst P (nat_cmp_is x y Equal e) (equal e)
  | inr (inl l) ↦ subst P (nat_cmp_is x y Less l) (less l)
  | inr (inr g) ↦ subst P (nat_cmp_is x y Greater g) (greater g)
]

-- the last of entries with one more in its place has nothing to do with what stands before them
behind_put : (d e : Option ℕ) (k : ℕ) (v : List ℕ) (es : List (ℕ × List ℕ)) → last_or d (map (λ e. e.0) (put nat_cmp k v es)) ≡ last_or e (map (λ e. e.0) (put nat_cmp k v es))
behind_put d e k v [] = refl
behind_put d e k v (x ∷ es) = elim (nat_cmp k x.0) as (λ o. last_or d (map (λ e. e.0) (by_order o ((k, v) ∷ x ∷ es) ((x.0, v) ∷ es) (x ∷ put nat_cmp k v es))) ≡ last_or e (map (λ e. e.0) (by_order o ((k, v) ∷ x ∷ es) ((x.0, v) ∷ es) (x ∷ put nat_cmp k v es)))) [
  | Less ↦ refl
  | Equal ↦ refl
  | Greater ↦ refl
]

first : (a b : Bool) → T (a && b) → T a
first true b p = tt
first false b p = p

second : (a b : Bool) → T (a && b) → T b
second true b p = p
second false b p = absurd p

lower : (x y : ℕ) → T (is_lt (nat_cmp x y)) → x < y
lower x y p = order_is x y (λ o. T (is_lt o) → x < y) (λ l h. l) (λ e h. absurd h) (λ g h. absurd h) p

rising : (x : ℕ × List ℕ) (es : List (ℕ × List ℕ)) → T (is_sorted nat_cmp (x ∷ es)) → x.0 ≤ back (x ∷ es)
rising x [] h = omega arith
rising x (y ∷ es) h =
    let low : x.0 < y.0 = lower x.0 y.0 (first (is_lt (nat_cmp x.0 y.0)) (below_all nat_cmp x.0 es) (first (below_all nat_cmp x.0 (y ∷ es)) (is_sorted nat_cmp (y ∷ es)) h)) in
    let up : y.0 ≤ back (y ∷ es) = rising y es (second (below_all nat_cmp x.0 (y ∷ es)) (is_sorted nat_cmp (y ∷ es)) h) in
    omega (arith, low, up)

pub back_put : (k : ℕ) (v : List ℕ) (es : List (ℕ × List ℕ)) → T (is_sorted nat_cmp es) → back (put nat_cmp k v es) ≡ max (back es) k
back_put k v [] h = omega arith
back_put k v (x ∷ []) h = order_is k x.0 (λ o. back (by_order o ((k, v) ∷ x ∷ []) ((x.0, v) ∷ []) (x ∷ (k, v) ∷ [])) ≡ max x.0 k)
    (λ l. omega (arith, l))
    (λ e. omega (arith, e))
    (λ g. omega (arith, g))
back_put k v (x ∷ y ∷ es) h =
    let last : x.0 ≤ back (y ∷ es) = rising x (y ∷ es) h in
    let rest : back (put nat_cmp k v (y ∷ es)) ≡ max (back (y ∷ es)) k = back_put k v (y ∷ es) (second (below_all nat_cmp x.0 (y ∷ es)) (is_sorted nat_cmp (y ∷ es)) h) in
    let skip : back (x ∷ put nat_cmp k v (y ∷ es)) ≡ back (put nat_cmp k v (y ∷ es)) = ap (λ o. unwrap_or o 0) (behind_put (Some x.0) None k v (y ∷ es)) in
    order_is k x.0 (λ o. back (by_order o ((k, v) ∷ x ∷ y ∷ es) ((x.0, v) ∷ y ∷ es) (x ∷ put nat_cmp k v (y ∷ es))) ≡ max (back (y ∷ es)) k)
    (λ l. omega (arith, l, last))
    (λ e. omega (arith, e, last))
    (λ g. skip ∙ rest)

pub greatest_with : (m : Array) (k : ℕ) (v : List ℕ) → greatest (insert m k v) ≡ max (greatest m) k
greatest_with m k v = ap back (entries-insert nat_cmp_total m k v) ∙ back_put k v (entries m) (entries_sorted m)

front_put : (k : ℕ) (v : List ℕ) (x : ℕ × List ℕ) (es : List (ℕ × List ℕ)) → front (put nat_cmp k v (x ∷ es)) ≡ min x.0 k
front_put k v x es = order_is k x.0 (λ o. front (by_order o ((k, v) ∷ x ∷ es) ((x.0, v) ∷ es) (x ∷ put nat_cmp k v es)) ≡ min x.0 k)
    (λ l. omega (arith, l))
    (λ e. omega (arith, e))
    (λ g. omega (arith, g))

not_zero : (n : ℕ) → 1 ≤ n → n == 0 ≡ false
not_zero n some = search (rules, some)

least_some : (n id : ℕ) → 1 ≤ n → min n id ≡ least_with n id
least_some n id some = ap (λ b. cond b id (min n id)) (sym (not_zero n some))

tied : (x : ℕ) → eq_by_cmp nat_cmp x x ≡ true
tied x = ap is_eq (sym (nat_cmp_is x x Equal refl))

-- no id is 0
abbrev pub Positive : Array → Type 0
Positive m = (id : ℕ) → IsSome (get m id) → 1 ≤ id

least_put : (k : ℕ) (v : List ℕ) (es : List (ℕ × List ℕ)) → ((id : ℕ) → IsSome (find nat_cmp id es) → 1 ≤ id) → front (put nat_cmp k v es) ≡ least_with (front es) k
least_put k v [] some = refl
least_put k v (x ∷ es) some = front_put k v x es ∙ least_some x.0 k (some x.0 (ap (λ b. is_some (cond b (Some x.1) (find nat_cmp x.0 es))) (tied x.0)))

pub least_inserted : (m : Array) (k : ℕ) (v : List ℕ) → Positive m → least (insert m k v) ≡ least_with (least m) k
least_inserted m k v some = ap front (entries-insert nat_cmp_total m k v) ∙ least_put k v (entries m) (λ id held. some id (ap is_some (get-entries m id) ∙ held))

pub positive_with : (m : Array) (k : ℕ) (v : List ℕ) → 1 ≤ k → Positive m → Positive (insert m k v)
positive_with m k v one some id held = elim (cases_eq id k) [
  | inl same ↦ omega (arith, one, same)
  | inr ne ↦ some id (sym (ap is_some (get-insert nat_cmp_total m k v id ∙ ap (λ b. cond b (Some v) (get m id)) (order_is id k (λ o. is_eq o ≡ false) (λ l. refl) (λ e. absurd (ne e)) (λ g. refl)))) ∙ held)
]
