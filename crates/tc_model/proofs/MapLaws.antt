-- The entries of a map after each change: by these the worked examples compute.
use Rattle.std.proofs.Common.{◌≡◌, Bool, true, false, cond, List, [], ◌∷◌, length, refl, sym, ap, ◌∙◌, arith}
use Rattle.std.specs.Prelude.{None, not}
use Rattle.std.specs.Ordering.{nat_cmp, eq_by_cmp}
use Rattle.std.specs.declared.cmp.Ordering.{Ordering}
use Rattle.std.specs.declared.cmp.Ordering.TheVariants.{Equal}
use Rattle.std.specs.Cmp.{IsTotalOrder, nat_cmp_total, eq_by_cmp_equiv}
use Rattle.std.specs.Cmp.Lexicographic.{slice_cmp, nat_list_cmp_total}
use Rattle.std.specs.FinMap.{FinMap, IsAntisymmetric, nat_cmp-IsAntisymmetric, slice_cmp-IsAntisymmetric, entries, entries_sorted, empty, get, remove, get-entries, get-remove, len-entries, len-empty, entries-insert}
use Rattle.std.specs.FinMap.Entries.{where_key, is_sorted-where_key, find-where_key, same_entries}

none : {A : Type 0} (es : List A) → length es ≡ 0 → es ≡ []
none [] e = refl
none (x ∷ es) e = absurd (omega arith)

pub entries-empty : {K X : Type 0} (R : K → K → Ordering) → entries (empty {X = X} {R = R}) ≡ []
entries-empty {X = X} R = none _ (sym (len-entries (empty {X = X} {R = R})) ∙ len-empty R X)

pub turned : {A : Type 0} (b : Bool) (x y : A) → cond (not b) x y ≡ cond b y x
turned true x y = refl
turned false x y = refl

-- without a key
pub entries-remove : {K X : Type 0} {R : K → K → Ordering} → IsTotalOrder R → IsAntisymmetric R → (m : FinMap R X) (k : K) → entries (remove m k) ≡ where_key R (λ x. not (eq_by_cmp R k x)) (entries m)
entries-remove {K} {X} {R} o same m k =
    let test = λ (x : K). not (eq_by_cmp R k x) in
    let alike : (q x : K) → R q x ≡ Equal → not (eq_by_cmp R k x) ≡ not (eq_by_cmp R k q) = λ q x e. ap (λ y. not (eq_by_cmp R k y)) (sym (same q x e)) in
    same_entries R o same (entries (remove m k)) (where_key R test (entries m)) (entries_sorted (remove m k)) (is_sorted-where_key R test (entries m) (entries_sorted m)) (λ q.
    sym (get-entries (remove m k) q) ∙ get-remove o m k q ∙ ap (λ b. cond b None (get m q)) ((eq_by_cmp_equiv o).symm q k) ∙ sym (turned (eq_by_cmp R k q) (get m q) None)
    ∙ ap (λ f. cond (not (eq_by_cmp R k q)) f None) (get-entries m q) ∙ sym (find-where_key R test q (alike q) (entries m)))

pub bytes_same : IsAntisymmetric (slice_cmp nat_cmp)
bytes_same = slice_cmp-IsAntisymmetric nat_cmp-IsAntisymmetric

-- each call on a map, as one on its entries
pub ruleset computing = (entries-empty, entries-insert, entries-remove, get-entries, len-entries, nat_list_cmp_total, nat_cmp_total, bytes_same, nat_cmp-IsAntisymmetric)
