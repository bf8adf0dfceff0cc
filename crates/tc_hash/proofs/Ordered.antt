-- The keys of records in order are those of the map that they make.
use Rattle.std.proofs.Common.{◌≡◌, ◌∙◌, ℕ, ◌+◌, refl, sym, ap, subst, arith, List, [], ◌∷◌, get_or, map, Bool, true, false, cond, Option, Some, None, is_some}
use Rattle.std.specs.Prelude.{◌||◌, ◌&&◌, unwrap_or, T}
use Rattle.std.specs.Ordering.{nat_cmp, eq_by_cmp, is_lt, ordering_reverse}
use Rattle.std.specs.declared.cmp.Ordering.TheVariants.{Less}
use Rattle.std.specs.Cmp.{eq_by_cmp_equiv, Equal-is}
use Rattle.std.specs.Cmp.Lexicographic.{slice_cmp, nat_list_cmp_total}
use Rattle.std.specs.FinMap.{get, keys, find, is_sorted, from_sorted, get-empty, get-insert, get-from_sorted, entries-from_sorted, same_map}
use Rattle.std.specs.FinMap.Entries.{below_all}
use Rattle.std.specs.List.{IsDistinct, AllByRecursion, list_any}
use Rattle.std.specs.List.Sorted.{IsPermutation, IsSorted, IsStrictlySortedBy}
use Rattle.std.proofs.lemmas.List.Sorted.{list_any-IsPermutation}
use Rattle.std.proofs.lemmas.Map.Keys.{apart_from_distinct, sorted_from_all_adjacent, IsDistinct-IsPermutation, sorted_head, sorted_tail}
use Rattle.std.proofs.lemmas.Map.Lookups.{exact_bytes}
use Rattle.tc_base.specs.Maps.{Map}
use Rattle.hf_block.specs.Pieces.{Piece, held, free, size_of, AllWhole}
use Rattle.hf_layout.specs.Layout.{record_at}
use Rattle.hf_tree.specs.Keys.{Key}
use Rattle.hf_tree.specs.Standing.{IsMapOf}
use Rattle.hf_tree.proofs.Orders.{three}
use Rattle.hf_tree.proofs.Ways.{two}
use Rattle.tc_hash.specs.Listed.{keys_of}
use Rattle.tc_hash.proofs.Keyed.{AreSingle, map_of, map_same, not_behind, tail_single}

abbrev same : Key → Key → Bool
same = eq_by_cmp (slice_cmp nat_cmp)

exact : (k q : Key) → same k q ≡ true → k ≡ q
exact k q e = exact_bytes k q ((Equal-is (slice_cmp nat_cmp k q)).0 e)

or_some : (b l : Bool) (v : List ℕ) (o : Option (List ℕ)) → l ≡ is_some o → (b || l) ≡ is_some (cond b (Some v) o)
or_some true l v o e = refl
or_some false l v o e = e

-- a key is listed exactly where the map has it
member_held : (ps : List Piece) (q : Key) → list_any (same q) (keys_of ps) ≡ is_some (get (map_of ps) q)
unfolding map_of
member_held [] q = sym (ap (λ (o : Option (List ℕ)). is_some o) (get-empty (slice_cmp nat_cmp) q))
member_held (held r ∷ ps) q = or_some (same q r.key) (list_any (same q) (keys_of ps)) r.value (get (map_of ps) q) (member_held ps q) ∙ sym (ap (λ (o : Option (List ℕ)). is_some o) (get-insert nat_list_cmp_total (map_of ps) r.key r.value q))
member_held (free size tail ∷ ps) q = member_held ps q

none_same : (q : Key) (ks : List Key) → list_any (same q) ks ≡ false → AllByRecursion (λ y. same q y ≡ false) ks
none_same q [] h = tt
none_same q (x ∷ xs) h = two (same q x) (λ t. absurd (let f : true ≡ false = rw t at h in cc)) (λ f. (f, none_same q xs (rw f at h)))

distinct_keys : (u at : ℕ) (ps : List Piece) → AllWhole u ps → AreSingle at ps → IsDistinct same (keys_of ps)
unfolding IsDistinct
distinct_keys u at [] whole h = tt
distinct_keys u at (held r ∷ ps) whole h = (
  none_same r.key (keys_of ps) (member_held ps r.key ∙ ap (λ (o : Option (List ℕ)). is_some o) (not_behind u at r ps whole h)),
  distinct_keys u (at + size_of (held r)) ps whole.1 (tail_single u at (held r) ps whole h),
)
distinct_keys u at (free size tail ∷ ps) whole h = distinct_keys u (at + size_of (free size tail)) ps whole.1 (tail_single u at (free size tail) ps whole h)

-- what isn't less and isn't the same is greater
less : (x y : Key) → is_lt (slice_cmp nat_cmp y x) ≡ false → same x y ≡ false → slice_cmp nat_cmp x y ≡ Less
less x y low apart = three (slice_cmp nat_cmp x y)
    (λ e. e)
    (λ e. absurd (let f : true ≡ false = rw e at apart in cc))
    (λ e. absurd (let g : slice_cmp nat_cmp y x ≡ Less = nat_list_cmp_total.antisymm y x ∙ ap ordering_reverse e in let f : true ≡ false = rw g at low in cc))

strictly : (ks : List Key) → IsSorted (slice_cmp nat_cmp) ks → IsDistinct same ks → IsStrictlySortedBy (slice_cmp nat_cmp) ks
strictly ks s d = sorted_from_all_adjacent nat_list_cmp_total ks [] (λ k low. less (get_or ks k []) (get_or ks (k + 1) []) (s k [] (omega arith) low) (apart_from_distinct same ks k (k + 1) [] d (omega arith) low))

-- ---- keys with values

abbrev pairs : (Key → List ℕ) → List Key → List (Key × List ℕ)
pairs f ks = map (λ k. (k, f k)) ks

below_pairs : (f : Key → List ℕ) (x : Key) (ks : List Key) → AllByRecursion (λ y. slice_cmp nat_cmp x y ≡ Less) ks → below_all (slice_cmp nat_cmp) x (pairs f ks) ≡ true
below_pairs f x [] h = refl
below_pairs f x (k ∷ ks) h = let first : slice_cmp nat_cmp x k ≡ Less = h.0 in rw first (below_pairs f x ks h.1)

sorted_pairs : (f : Key → List ℕ) (ks : List Key) → IsStrictlySortedBy (slice_cmp nat_cmp) ks → is_sorted (slice_cmp nat_cmp) (pairs f ks) ≡ true
sorted_pairs f [] h = refl
sorted_pairs f (k ∷ ks) h =
    let b = below_pairs f k ks (sorted_head (slice_cmp nat_cmp) k ks h) in
    let s = sorted_pairs f ks (sorted_tail (slice_cmp nat_cmp) k ks h) in
    λ i. b i && s i

find_pair : (f : Key → List ℕ) (q : Key) (ks : List Key) → find (slice_cmp nat_cmp) q (pairs f ks) ≡ cond (list_any (same q) ks) (Some (f q)) None
find_pair f q [] = refl
find_pair f q (k ∷ ks) = two (same q k)
    (λ t. rw t (ap (λ (z : Key). Some (f z)) (sym (exact q k t))))
    (λ n. rw n (find_pair f q ks))

keys_pairs : (f : Key → List ℕ) (ks : List Key) → map (λ (e : Key × List ℕ). e.0) (pairs f ks) ≡ ks
keys_pairs f [] = refl
keys_pairs f (k ∷ ks) = ap (λ (l : List Key). k ∷ l) (keys_pairs f ks)

some_or : (o : Option (List ℕ)) → cond (is_some o) (Some (unwrap_or o [])) None ≡ o
some_or None = refl
some_or (Some v) = refl

pub sorted_keys : (u at : ℕ) (ps : List Piece) (m : Map) (ks : List Key) → AllWhole u ps → AreSingle at ps → IsMapOf (record_at at ps) (get m) → IsPermutation (keys_of ps) ks → IsSorted (slice_cmp nat_cmp) ks → ks ≡ keys m
sorted_keys u at ps m ks whole h is perm order =
    let one = map_same u at ps m whole h is in
    let value : Key → List ℕ = λ k. unwrap_or (get m k) [] in
    let es : List (Key × List ℕ) = pairs value ks in
    let strict = strictly ks order (IsDistinct-IsPermutation same (λ x y. (eq_by_cmp_equiv nat_list_cmp_total).symm x y) (keys_of ps) ks perm (distinct_keys u at ps whole h)) in
    let t : T (is_sorted (slice_cmp nat_cmp) es) = subst T (sym (sorted_pairs value ks strict)) tt in
    let member : (q : Key) → list_any (same q) ks ≡ is_some (get m q) = λ q. sym (list_any-IsPermutation (same q) (keys_of ps) ks perm) ∙ member_held ps q ∙ ap (λ (x : Map). is_some (get x q)) (sym one) in
    let same_m : m ≡ from_sorted {R = slice_cmp nat_cmp} es = same_map nat_list_cmp_total exact_bytes m (from_sorted es) (λ q.
    sym (get-from_sorted (slice_cmp nat_cmp) es q t ∙ find_pair value q ks ∙ ap (λ (b : Bool). cond b (Some (value q)) None) (member q) ∙ some_or (get m q))) in
    sym (ap (λ (x : Map). keys x) same_m ∙ ap (λ (l : List (Key × List ℕ)). map (λ (e : Key × List ℕ). e.0) l) (entries-from_sorted (slice_cmp nat_cmp) es t) ∙ keys_pairs value ks)
