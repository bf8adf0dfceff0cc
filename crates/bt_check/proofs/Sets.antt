-- Sets of ids.
use Rattle.std.proofs.Common.{◌≡◌, ◌≢◌, ⊎_elim, ℕ, Bool, true, false, cond, List, [], ◌∷◌, length, ◌<◌, refl, sym, ap, ◌∙◌, arith}
use Rattle.std.specs.Prelude.{◌==◌, if◌then◌else◌}
use Rattle.std.specs.declared.cmp.Ordering.TheVariants.{Less, Equal, Greater}
use Rattle.std.specs.Ordering.{nat_cmp, is_eq}
use Rattle.std.specs.Cmp.{nat_cmp_total, ranked}
use Rattle.std.specs.BTreeSet.{BTreeSet, contains, btree_set_len}
use Rattle.std.proofs.lemmas.Cmp.{tied_itself}
use Rattle.std.proofs.lemmas.Bool.{cases_eq, ne_eqb, eq-eqb}
use Rattle.bt_check.specs.Collected.{has}

pub apart : (a b : ℕ) → a ≢ b → is_eq (nat_cmp a b) ≡ false
apart a b ne =
    elim (nat_cmp a b) as (λ r. r ≡ nat_cmp a b → is_eq r ≡ false) [
      | Less ↦ λ e. refl
      | Equal ↦ λ e. absurd (ne (ranked a b Equal e))
      | Greater ↦ λ e. refl
    ] refl

pub has_after : (old new : BTreeSet ℕ) (id : ℕ) (b : Bool) → ((q : ℕ) → contains nat_cmp new q ≡ cond (is_eq (nat_cmp id q)) b (contains nat_cmp old q)) → (x : ℕ) → has new x ≡ (if x == id then (if b then 1 else 0) else has old x)
unfolding has
has_after old new id b h x = ⊎_elim
    (λ (is : x ≡ id).
    let test : (x == id) ≡ true = eq-eqb x id is in
    let at : is_eq (nat_cmp id x) ≡ true = ap (λ (y : ℕ). is_eq (nat_cmp id y)) is ∙ ap is_eq (tied_itself nat_cmp_total id) in
    rw test (ap (λ (c : Bool). if c then 1 else 0) (h x ∙ ap (λ (c : Bool). cond c b (contains nat_cmp old x)) at)))
    (λ (ne : x ≡ id → ⊥).
    let test : (x == id) ≡ false = ne_eqb x id ne in
    rw test (ap (λ (c : Bool). if c then 1 else 0) (h x ∙ ap (λ (c : Bool). cond c b (contains nat_cmp old x)) (apart id x (λ e. ne (sym e))))))
    (cases_eq x id)

pub has_is : (ids : BTreeSet ℕ) (id : ℕ) (b : Bool) → b ≡ contains nat_cmp ids id → has ids id ≡ (if b then 1 else 0)
unfolding has
has_is ids id b e = ap (λ (c : Bool). if c then 1 else 0) (sym e)

pub has_one : (ids : BTreeSet ℕ) (id : ℕ) → contains nat_cmp ids id ≡ true → has ids id ≡ 1
unfolding has
has_one ids id e = ap (λ (c : Bool). if c then 1 else 0) e

nothing : (xs : List ℕ) → (0 < length xs → ⊥) → xs ≡ []
nothing [] h = refl
nothing (x ∷ xs) h = absurd (h (omega arith))

pub has_none : (ids : BTreeSet ℕ) → (0 < btree_set_len ids → ⊥) → (id : ℕ) → has ids id ≡ 0
unfolding has
has_none ids h id = ap (λ (ks : List ℕ). if contains nat_cmp (record { keys = ks }) id then 1 else 0) (nothing ids.keys h)
