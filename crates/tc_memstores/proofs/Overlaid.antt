-- A map in which one value stands over another.
use Rattle.std.proofs.Common.{◌≡◌, ℕ, ◌+◌, List, Bool, true, false, cond, refl, sym, ap, subst, ◌∙◌}
use Rattle.std.specs.Prelude.{Option, Some, None, IsSome, is_some, Result, Ok, Err, IfOk}
use Rattle.std.specs.declared.cmp.Ordering.{Ordering}
use Rattle.std.specs.declared.cmp.Ordering.TheVariants.{Less, Equal, Greater}
use Rattle.std.specs.Ordering.{nat_cmp, eq_by_cmp}
use Rattle.std.specs.Cmp.Lexicographic.{slice_cmp, nat_list_cmp_total}
use Rattle.std.specs.FinMap.{get, insert, len, get-insert, len-insert, same_map}
use Rattle.std.proofs.lemmas.Cmp.{tied_itself}
use Rattle.std.proofs.lemmas.Map.Lookups.{exact_bytes}
use Rattle.tc_base.specs.Maps.{Map}
use Rattle.tc_maps.proofs.Mapped.{insert_same}
use Rattle.tc_memstores.specs.Cells.{HasKey, with_last}
use Rattle.tc_memstores.specs.declared.cells.Last.{Last}

same_test : (k : List ℕ) → eq_by_cmp (slice_cmp nat_cmp) k k ≡ true
same_test k = rw (tied_itself nat_list_cmp_total k) refl

other_test : (q k : List ℕ) → (q ≡ k → ⊥) → eq_by_cmp (slice_cmp nat_cmp) q k ≡ false
other_test q k ne = go (slice_cmp nat_cmp q k) refl
  where
    go : (o : Ordering) → slice_cmp nat_cmp q k ≡ o → eq_by_cmp (slice_cmp nat_cmp) q k ≡ false
    go Less e = rw e refl
    go Equal e = absurd (ne (exact_bytes q k e))
    go Greater e = rw e refl

value_here : (m : Map) (k v : List ℕ) → get (insert m k v) k ≡ Some v
value_here m k v = get-insert nat_list_cmp_total m k v k ∙ ap (λ (b : Bool). cond b (Some v) (get m k)) (same_test k)

value_other : (m : Map) (k v q : List ℕ) → (q ≡ k → ⊥) → get (insert m k v) q ≡ get m q
value_other m k v q ne = get-insert nat_list_cmp_total m k v q ∙ ap (λ (b : Bool). cond b (Some v) (get m q)) (other_test q k ne)

twice : (b : Bool) (o p q : Option (List ℕ)) → cond b o (cond b p q) ≡ cond b o q
twice true o p q = refl
twice false o p q = refl

-- the later of two values of a key
insert_twice : (m : Map) (k u v : List ℕ) → insert (insert m k u) k v ≡ insert m k v
insert_twice m k u v = same_map nat_list_cmp_total exact_bytes _ _ (λ q.
    get-insert nat_list_cmp_total (insert m k u) k v q
    ∙ ap (cond (eq_by_cmp (slice_cmp nat_cmp) q k) (Some v)) (get-insert nat_list_cmp_total m k u q)
    ∙ twice (eq_by_cmp (slice_cmp nat_cmp) q k) (Some v) (Some u) (get m q)
    ∙ sym (get-insert nat_list_cmp_total m k v q))

-- a value that was taken out is put back
insert_back : (m : Map) (k u v : List ℕ) → get m k ≡ Some v → insert (insert m k u) k v ≡ m
insert_back m k u v e = insert_twice m k u v ∙ insert_same m k v e

some_here : (m : Map) (k v : List ℕ) → IsSome (get (insert m k v) k)
some_here m k v = ap is_some (value_here m k v)

pub held_len : (o : Option Last) (m : Map) → HasKey o m → len (with_last o m) ≡ len m
held_len None m h = refl
held_len (Some last) m h = len-insert nat_list_cmp_total m last.key last.value ∙ ap (λ (b : Bool). cond b (len m) (len m + 1)) h

-- ---- the last value beside the map

module _ (o : Option Last) (last : Last) (m : Map) (key : List ℕ) (is : o ≡ Some last) where
  pub at_last : last.key ≡ key → get (with_last o m) key ≡ Some last.value
  at_last e = ap (λ (o : Option Last). get (with_last o m) key) is ∙ ap (λ (k : List ℕ). get (insert m k last.value) key) e ∙ value_here m key last.value

  pub beside_last : (last.key ≡ key → ⊥) → get (with_last o m) key ≡ get m key
  beside_last ne = ap (λ (o : Option Last). get (with_last o m) key) is ∙ value_other m last.key last.value key (λ e. ne (sym e))

  -- another value over it
  pub renewed : (new value : List ℕ) → last.key ≡ key → new ≡ value → HasKey o m → IsSome (get m last.key) × (insert m last.key new ≡ insert (with_last o m) key value)
  renewed new value e v h = (
    subst (λ (o : Option Last). HasKey o m) is h,
    ap (λ (k : List ℕ). insert m k new) e ∙ ap (insert m key) v ∙ sym (insert_twice m key last.value value) ∙ ap (λ (k : List ℕ). insert (insert m k last.value) key value) (sym e) ∙ ap (λ (o : Option Last). insert (with_last o m) key value) (sym is),
  )

-- ---- a value that comes to be the last

-- of a key that comes in
pub new_last : (m n : Map) (key held u v : List ℕ) → n ≡ insert m held u → held ≡ key → IsSome (get n key) × (insert n key v ≡ insert m key v)
new_last m n key held u v e h =
    let is : n ≡ insert m key u = e ∙ ap (λ (k : List ℕ). insert m k u) h in
    (subst (λ (n : Map). IsSome (get n key)) (sym is) (some_here m key u), ap (λ (n : Map). insert n key v) is ∙ insert_twice m key u v)

-- of a key that is held
pub same_last : (m n r : Map) (key u v : List ℕ) (last : Last) → n ≡ insert m key u → r ≡ n → last.key ≡ key → last.value ≡ v → IsSome (get r last.key) × (insert r last.key last.value ≡ insert m key v)
same_last m n r key u v last e same k is =
    let found = new_last m r key key u v (same ∙ e) refl in
    (subst (λ (k : List ℕ). IsSome (get r k)) (sym k) found.0, ap (λ (k : List ℕ). insert r k last.value) k ∙ ap (insert r key) is ∙ found.1)

-- the old value is put back
pub old_back : (m n r : Map) (key u old : List ℕ) (o : Option (List ℕ)) → o ≡ get m key → o ≡ Some old → n ≡ insert m key u → (IsSome (get n key) → r ≡ insert n key old) → r ≡ m
old_back m n r key u old o found is e back =
    back (subst (λ (n : Map). IsSome (get n key)) (sym e) (some_here m key u)) ∙ ap (λ (n : Map). insert n key old) e ∙ insert_back m key u old (sym found ∙ is)

-- what two clauses on a call that ended well say together
pub ok_of_both : {X Y : Type 0} (r : Result X Y) (P Q R : X → Type 0) → ((x : X) → P x → Q x → R x) → IfOk r P → IfOk r Q → IfOk r R
ok_of_both (Ok x) P Q R f p q = f x p q
ok_of_both (Err e) P Q R f p q = tt
