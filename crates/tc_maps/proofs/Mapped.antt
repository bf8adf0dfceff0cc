-- A map under keys of bytes, and the entries of the `BTreeMap` that it is seen in.
use Rattle.std.proofs.Common.{◌≡◌, ℕ, List, [], ◌∷◌, length, refl, sym, ap, subst, ◌∙◌, ◌+◌, true, false, cond, arith}
use Rattle.std.specs.Prelude.{Option, Some, None, IsSome}
use Rattle.std.specs.declared.cmp.Ordering.TheVariants.{Less, Equal, Greater}
use Rattle.std.specs.Ordering.{nat_cmp, is_eq, eq_by_cmp}
use Rattle.std.specs.Cmp.{eq_by_cmp_equiv}
use Rattle.std.specs.Cmp.Lexicographic.{slice_cmp, nat_list_cmp_total}
use Rattle.std.specs.List.{AllByRecursion, sum_by}
use Rattle.std.specs.List.Sorted.{IsStrictlySortedBy}
use Rattle.std.specs.Map.{lookup, keys_of}
use Rattle.std.specs.BTreeMap.{is_at}
use Rattle.std.specs.FinMap.{from_entries, entries, get, insert, remove, len, find, put, get-from_entries, get-insert, get-remove, same_map, entries-insert, len-entries, len-empty, keys}
use Rattle.std.proofs.lemmas.Map.Lookups.{exact_bytes}
use Rattle.std.proofs.lemmas.Map.Keys.{sorted_head, sorted_tail}
use Rattle.tc_base.specs.Maps.{Map}
use Rattle.tc_maps.specs.Sizes.{size_of}

abbrev pub Entry : Type 0
Entry = List ℕ × List ℕ

-- what entries have at a key, as a scan finds it
abbrev pub at_key : List Entry → List ℕ → Option (List ℕ)
at_key es q = lookup (is_at (slice_cmp nat_cmp q)) es

find_key : (es : List Entry) (q : List ℕ) → find (slice_cmp nat_cmp) q es ≡ at_key es q
find_key [] q = refl
find_key (e ∷ es) q = ap (cond (is_at (slice_cmp nat_cmp q) e.0) (Some e.1)) (find_key es q)

-- the map that entries make
abbrev pub map_of : List Entry → Map
map_of es = from_entries {R = slice_cmp nat_cmp} es

-- what the map that the entries make has at a key
pub get_key : (es : List Entry) (q : List ℕ) → get (map_of es) q ≡ at_key es q
get_key es q = get-from_entries nat_list_cmp_total es q ∙ find_key es q

-- entries that differ at one key make maps that differ there
pub one_set : (es fs : List Entry) (s v : List ℕ) → ((q : List ℕ) → at_key fs q ≡ cond (is_at (slice_cmp nat_cmp s) q) (Some v) (at_key es q)) → map_of fs ≡ insert (map_of es) s v
one_set es fs s v h = same_map nat_list_cmp_total exact_bytes _ _ (λ q.
    get_key fs q ∙ h q ∙ ap (λ b. cond b (Some v) (at_key es q)) ((eq_by_cmp_equiv nat_list_cmp_total).symm s q)
    ∙ sym (get-insert nat_list_cmp_total (map_of es) s v q ∙ ap (cond (is_at (slice_cmp nat_cmp q) s) (Some v)) (get_key es q)))

pub one_removed : (es fs : List Entry) (s : List ℕ) → ((q : List ℕ) → at_key fs q ≡ cond (is_at (slice_cmp nat_cmp s) q) None (at_key es q)) → map_of fs ≡ remove (map_of es) s
one_removed es fs s h = same_map nat_list_cmp_total exact_bytes _ _ (λ q.
    get_key fs q ∙ h q ∙ ap (λ b. cond b None (at_key es q)) ((eq_by_cmp_equiv nat_list_cmp_total).symm s q)
    ∙ sym (get-remove nat_list_cmp_total (map_of es) s q ∙ ap (cond (is_at (slice_cmp nat_cmp q) s) None) (get_key es q)))

-- an entry below all others is put in front
put_first : (k v : List ℕ) (es : List Entry) → AllByRecursion (λ y. slice_cmp nat_cmp k y ≡ Less) (keys_of es) → put (slice_cmp nat_cmp) k v es ≡ (k, v) ∷ es
put_first k v [] h = refl
put_first k v (e ∷ es) h = let first : slice_cmp nat_cmp k e.0 ≡ Less = h.0 in rw first refl

none : (es : List Entry) → length es ≡ 0 → es ≡ []
none [] e = refl
none (x ∷ es) e = absurd (omega arith)

-- entries whose keys rise are those of the map that they make
pub same_entries : (es : List Entry) → IsStrictlySortedBy (slice_cmp nat_cmp) (keys_of es) → entries (map_of es) ≡ es
same_entries [] s = none _ (sym (len-entries (map_of [])) ∙ len-empty (slice_cmp nat_cmp) (List ℕ))
same_entries (e ∷ es) s =
    entries-insert nat_list_cmp_total (map_of es) e.0 e.1
    ∙ ap (put (slice_cmp nat_cmp) e.0 e.1) (same_entries es (sorted_tail (slice_cmp nat_cmp) e.0 (keys_of es) s))
    ∙ put_first e.0 e.1 es (sorted_head (slice_cmp nat_cmp) e.0 (keys_of es) s)

pub same_len : (es : List Entry) → IsStrictlySortedBy (slice_cmp nat_cmp) (keys_of es) → len (map_of es) ≡ length es
same_len es s = len-entries (map_of es) ∙ ap length (same_entries es s)

-- what a map reads of its entries
pub same_keys : (es : List Entry) → IsStrictlySortedBy (slice_cmp nat_cmp) (keys_of es) → keys (map_of es) ≡ keys_of es
same_keys es s = ap keys_of (same_entries es s)

pub same_size : (es : List Entry) → IsStrictlySortedBy (slice_cmp nat_cmp) (keys_of es) → size_of (map_of es) ≡ sum_by (λ e. length e.0 + length e.1) es
same_size es s = ap (sum_by (λ e. length e.0 + length e.1)) (same_entries es s)

-- to give a key the value that it has changes nothing
pub insert_same : (m : Map) (k v : List ℕ) → get m k ≡ Some v → insert m k v ≡ m
insert_same m k v found = same_map nat_list_cmp_total exact_bytes _ _ (λ q. get-insert nat_list_cmp_total m k v q ∙ one q)
  where
    one : (q : List ℕ) → cond (eq_by_cmp (slice_cmp nat_cmp) q k) (Some v) (get m q) ≡ get m q
    one q = elim (slice_cmp nat_cmp q k) as (λ r. slice_cmp nat_cmp q k ≡ r → cond (is_eq r) (Some v) (get m q) ≡ get m q) [
      | Less ↦ λ e. refl
      | Equal ↦ λ e. sym found ∙ ap (get m) (sym (exact_bytes q k e))
      | Greater ↦ λ e. refl
    ] refl

pub not_held : (o : Option (List ℕ)) → o ≡ None → IsSome o → ⊥
not_held o e some = let never : false ≡ true = subst (λ (o : Option (List ℕ)). IsSome o) e some in absurd cc
