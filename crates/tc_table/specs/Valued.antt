-- A map with a function of its values.
use Rattle.std.specs.Prelude.{◌≡◌, ℕ, Bool, true, false, ◌&&◌, List, [], ◌∷◌, length, Some, T, map, option_map}
use Rattle.std.proofs.Common.{◌∙◌, cond, suc, refl, sym, ap, subst}
use Rattle.std.specs.declared.cmp.Ordering.{Ordering}
use Rattle.std.specs.Ordering.{nat_cmp, eq_by_cmp, is_lt}
use Rattle.std.specs.Cmp.Lexicographic.{slice_cmp}
use Rattle.std.specs.FinMap.{entries, entries-from_sorted, entries_sorted, find, from_sorted, get, get-entries, get-from_sorted, is_sorted, keys, len, len-entries}
use Rattle.std.specs.FinMap.Entries.{below_all}
use Rattle.tc_base.specs.Maps.{Over}

abbrev R : List ℕ → List ℕ → Ordering
R = slice_cmp nat_cmp

module _ {A B : Type 0} (f : A → B) where
  abbrev valued : List (List ℕ × A) → List (List ℕ × B)
  valued es = map (λ e. (e.0, f e.1)) es

  below_valued : (k : List ℕ) (es : List (List ℕ × A)) → below_all R k (valued es) ≡ below_all R k es
  below_valued k [] = refl
  below_valued k (e ∷ es) = ap (λ (t : Bool). is_lt (R k e.0) && t) (below_valued k es)

  sorted_valued : (es : List (List ℕ × A)) → is_sorted R (valued es) ≡ is_sorted R es
  sorted_valued [] = refl
  sorted_valued (e ∷ es) = ap (λ (t : Bool). t && is_sorted R (valued es)) (below_valued e.0 es) ∙ ap (λ (t : Bool). below_all R e.0 es && t) (sorted_valued es)

  abbrev pub with_values : Over A → Over B
  with_values m = from_sorted (valued (entries m))

  valued_sorted : (m : Over A) → T (is_sorted R (valued (entries m)))
  valued_sorted m = subst T (sym (sorted_valued (entries m))) (entries_sorted m)

  found_valued : (k : List ℕ) (es : List (List ℕ × A)) → find R k (valued es) ≡ option_map f (find R k es)
  found_valued k [] = refl
  found_valued k (e ∷ es) = go (eq_by_cmp R k e.0) (found_valued k es)
    where
      go : (t : Bool) → find R k (valued es) ≡ option_map f (find R k es) → cond t (Some (f e.1)) (find R k (valued es)) ≡ option_map f (cond t (Some e.1) (find R k es))
      go true rest = refl
      go false rest = rest

  pub got_valued : (m : Over A) (k : List ℕ) → get (with_values m) k ≡ option_map f (get m k)
  got_valued m k = get-from_sorted R (valued (entries m)) k (valued_sorted m) ∙ (found_valued k (entries m) ∙ ap (option_map f) (sym (get-entries m k)))

  first_keys : (es : List (List ℕ × A)) → map (λ e. e.0) (valued es) ≡ map (λ e. e.0) es
  first_keys [] = refl
  first_keys (e ∷ es) = ap (λ (l : List (List ℕ)). e.0 ∷ l) (first_keys es)

  pub keys_valued : (m : Over A) → keys (with_values m) ≡ keys m
  keys_valued m = ap (map (λ e. e.0)) (entries-from_sorted R (valued (entries m)) (valued_sorted m)) ∙ first_keys (entries m)

  lengths : (es : List (List ℕ × A)) → length (valued es) ≡ length es
  lengths [] = refl
  lengths (e ∷ es) = ap suc (lengths es)

  pub len_valued : (m : Over A) → len (with_values m) ≡ len m
  len_valued m = len-entries (with_values m) ∙ (ap length (entries-from_sorted R (valued (entries m)) (valued_sorted m)) ∙ (lengths (entries m) ∙ sym (len-entries m)))
