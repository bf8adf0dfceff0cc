-- The keys of a finite map are a list of those that it holds.
use Rattle.std.proofs.Common.{◌≡◌, ℕ, zero, suc, ◌<◌, List, [], ◌∷◌, Bool, true, false, length, get_or, Option, Some, None, refl, sym, ap, ◌∙◌, arith}
use Rattle.std.specs.Prelude.{is_some, ◌||◌}
use Rattle.std.specs.declared.cmp.Ordering.TheVariants.{Less, Equal, Greater}
use Rattle.std.specs.declared.cmp.Ordering.{Ordering}
use Rattle.std.specs.List.{list_any}
use Rattle.std.specs.Ordering.{nat_cmp, eq_by_cmp}
use Rattle.std.specs.FinMap.{get, keys, len, entries, contains_key-keys, len-entries}
use Rattle.std.proofs.lemmas.List.{length-map}
use Rattle.std.specs.Cmp.Lexicographic.{slice_cmp, nat_list_cmp_total}
use Rattle.std.proofs.lemmas.Cmp.{tied_itself}
use Rattle.std.proofs.lemmas.Map.Lookups.{exact_bytes}
use Rattle.tc_base.specs.Maps.{Map}
use Rattle.bt_check.specs.Keys.{IsAmong, IsHeldKey, IsListed}

abbrev same : List ℕ → List ℕ → Bool
same q k = eq_by_cmp (slice_cmp nat_cmp) q k

same_itself : (k : List ℕ) → same k k ≡ true
same_itself k = rw (tied_itself nat_list_cmp_total k) refl

same_is : (q k : List ℕ) → same q k ≡ true → q ≡ k
same_is q k t = go (slice_cmp nat_cmp q k) refl
  where
    go : (o : Ordering) → slice_cmp nat_cmp q k ≡ o → q ≡ k
    go Less e = absurd (let bad = rw e at t in cc)
    go Equal e = exact_bytes q k e
    go Greater e = absurd (let bad = rw e at t in cc)

any_among : (q : List ℕ) (ks : List (List ℕ)) → list_any (same q) ks ≡ true → IsAmong ks q
any_among q [] t = absurd cc
any_among q (k ∷ ks) t = (elim (same q k) as (λ b. same q k ≡ b → (b || list_any (same q) ks) ≡ true → IsAmong (k ∷ ks) q) [
  | true ↦ λ e t. record { place = 0; within = omega arith; is = sym (same_is q k e) }
  | false ↦ λ e t. let on = any_among q ks t in record { place = suc on.place; within = omega (arith, on.within); is = on.is }
]) refl t

among_any : (ks : List (List ℕ)) (i : ℕ) → i < length ks → list_any (same (get_or ks i [])) ks ≡ true
among_any [] i lt = absurd (omega (arith, lt))
among_any (k ∷ ks) zero lt = ap (λ (b : Bool). b || list_any (same k) ks) (same_itself k)
among_any (k ∷ ks) (suc i) lt = any_more (same (get_or ks i []) k) (among_any ks i (omega (arith, lt)))
  where
    any_more : (b : Bool) {c : Bool} → c ≡ true → (b || c) ≡ true
    any_more true e = refl
    any_more false e = e

held_key : (m : Map) (key : List ℕ) → is_some (get m key) ≡ true → IsHeldKey (get m) key
held_key m key t = go (get m key) refl t
  where
    go : (o : Option (List ℕ)) → get m key ≡ o → is_some o ≡ true → IsHeldKey (get m) key
    go None e t = absurd cc
    go (Some bytes) e t = record { bytes = bytes; is = e }

pub keys_listed : (m : Map) (ks : List (List ℕ)) → ks ≡ keys m → IsListed (get m) ks
keys_listed m ks e = record {
  all = λ key bytes is. any_among key ks (ap (list_any (same key)) e ∙ sym (contains_key-keys m key) ∙ ap is_some is);
  held = λ i lt. held_key m (get_or ks i []) (contains_key-keys m (get_or ks i []) ∙ ap (list_any (same (get_or ks i []))) (sym e) ∙ among_any ks i lt);
}

pub keys_len : (m : Map) (ks : List (List ℕ)) → ks ≡ keys m → length ks ≡ len m
keys_len m ks e = ap (λ (l : List (List ℕ)). length l) e ∙ length-map (entries m) (λ e. e.0) ∙ sym (len-entries m)
