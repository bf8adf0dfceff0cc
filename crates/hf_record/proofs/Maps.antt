-- A map with one key changed, at that key and at others.
use Rattle.std.proofs.Common.{◌≡◌, ◌≢◌, ◌∙◌, ◌⊎◌, inl, inr, ℕ, List, refl, sym, ap, Bool, true, false, cond, Some, None}
use Rattle.std.specs.declared.cmp.Ordering.TheVariants.{Less, Equal, Greater}
use Rattle.std.specs.declared.cmp.Ordering.{Ordering}
use Rattle.std.specs.Ordering.{nat_cmp, eq_by_cmp}
use Rattle.std.specs.Cmp.Lexicographic.{slice_cmp, nat_list_cmp_total}
use Rattle.std.proofs.lemmas.Cmp.{tied_itself}
use Rattle.std.specs.FinMap.{get, insert, remove, get-insert, get-remove, same_map}
use Rattle.std.specs.Cmp.{Equal-is}
use Rattle.std.proofs.lemmas.Map.Lookups.{exact_bytes}
use Rattle.tc_base.specs.Maps.{Map}
use Rattle.hf_tree.proofs.Orders.{slice_equal}

same_test : (k : List ℕ) → eq_by_cmp (slice_cmp nat_cmp) k k ≡ true
same_test k = rw (tied_itself nat_list_cmp_total k) refl

pub other_test : (q k : List ℕ) → q ≢ k → eq_by_cmp (slice_cmp nat_cmp) q k ≡ false
other_test q k ne = go (slice_cmp nat_cmp q k) refl
  where
    go : (o : Ordering) → slice_cmp nat_cmp q k ≡ o → eq_by_cmp (slice_cmp nat_cmp) q k ≡ false
    go Less e = rw e refl
    go Equal e = absurd (ne (slice_equal q k e))
    go Greater e = rw e refl

pub insert_here : (m : Map) (k v : List ℕ) → get (insert m k v) k ≡ Some v
insert_here m k v = get-insert nat_list_cmp_total m k v k ∙ ap (λ (b : Bool). cond b (Some v) (get m k)) (same_test k)

pub insert_other : (m : Map) (k v q : List ℕ) → q ≢ k → get (insert m k v) q ≡ get m q
insert_other m k v q ne = get-insert nat_list_cmp_total m k v q ∙ ap (λ (b : Bool). cond b (Some v) (get m q)) (other_test q k ne)

pub remove_here : (m : Map) (k : List ℕ) → get (remove m k) k ≡ None
remove_here m k = get-remove nat_list_cmp_total m k k ∙ ap (λ (b : Bool). cond b None (get m k)) (same_test k)

pub remove_other : (m : Map) (k q : List ℕ) → q ≢ k → get (remove m k) q ≡ get m q
remove_other m k q ne = get-remove nat_list_cmp_total m k q ∙ ap (λ (b : Bool). cond b None (get m q)) (other_test q k ne)

-- two keys are the same or not
pub same_or_not : (q k : List ℕ) → (q ≡ k) ⊎ (q ≢ k)
same_or_not q k = go (eq_by_cmp (slice_cmp nat_cmp) q k) refl
  where
    go : (b : Bool) → eq_by_cmp (slice_cmp nat_cmp) q k ≡ b → (q ≡ k) ⊎ (q ≢ k)
    go true e = inl (exact_bytes q k ((Equal-is (slice_cmp nat_cmp q k)).0 e))
    go false e = inr (λ is. let f : true ≡ false = sym (same_test k) ∙ ap (λ (z : List ℕ). eq_by_cmp (slice_cmp nat_cmp) z k) (sym is) ∙ e in cc)

-- a key taken out and put again
pub insert_again : (m : Map) (k v : List ℕ) → insert (remove m k) k v ≡ insert m k v
insert_again m k v = same_map nat_list_cmp_total exact_bytes (insert (remove m k) k v) (insert m k v) (λ q. elim (same_or_not q k) [
  | inl is ↦ ap (get (insert (remove m k) k v)) is ∙ insert_here (remove m k) k v ∙ sym (ap (get (insert m k v)) is ∙ insert_here m k v)
  | inr ne ↦ insert_other (remove m k) k v q ne ∙ remove_other m k q ne ∙ sym (insert_other m k v q ne)
])
