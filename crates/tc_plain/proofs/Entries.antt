-- A map, and the entries of the `BTreeMap` that it is seen in.
use Rattle.std.proofs.Common.{◌≡◌, List, [], ◌∷◌, length, refl, sym, ap, subst, ◌∙◌, cond, arith}
use Rattle.std.specs.Prelude.{Option, Some, None}
use Rattle.std.specs.declared.cmp.Ordering.{Ordering}
use Rattle.std.specs.declared.cmp.Ordering.TheVariants.{Less, Equal, Greater}
use Rattle.std.specs.Ordering.{is_eq, eq_by_cmp}
use Rattle.std.specs.Cmp.{IsTotalOrder, eq_by_cmp_equiv}
use Rattle.std.specs.List.{AllByRecursion}
use Rattle.std.specs.List.Sorted.{IsStrictlySortedBy}
use Rattle.std.specs.Map.{lookup, keys_of}
use Rattle.std.specs.BTreeMap.{is_at}
use Rattle.std.specs.FinMap.{FinMap, IsAntisymmetric, from_entries, entries, get, insert, remove, len, find, put, empty, get-empty, get-from_entries, get-insert, get-remove, same_map, entries-insert, len-entries, len-empty, keys}
use Rattle.std.proofs.lemmas.Map.Keys.{sorted_head, sorted_tail}

module _ {K X : Type 0} (R : K → K → Ordering) (o : IsTotalOrder R) (exact : IsAntisymmetric R) where
  -- what entries have at a key, as a scan finds it
  abbrev pub at_key : List (K × X) → K → Option X
  at_key es q = lookup (is_at (R q)) es

  find_key : (es : List (K × X)) (q : K) → find R q es ≡ at_key es q
  find_key [] q = refl
  find_key (e ∷ es) q = ap (cond (is_at (R q) e.0) (Some e.1)) (find_key es q)

  -- the map that entries make
  abbrev pub map_of : List (K × X) → FinMap R X
  map_of es = from_entries {R = R} es

  -- what the map that the entries make has at a key
  pub get_key : (es : List (K × X)) (q : K) → get (map_of es) q ≡ at_key es q
  get_key es q = get-from_entries o es q ∙ find_key es q

  -- entries that differ at one key make maps that differ there
  pub one_set : (es fs : List (K × X)) (s : K) (v : X) → ((q : K) → at_key fs q ≡ cond (is_at (R s) q) (Some v) (at_key es q)) → map_of fs ≡ insert (map_of es) s v
  one_set es fs s v h = same_map o exact _ _ (λ q.
      get_key fs q ∙ h q ∙ ap (λ b. cond b (Some v) (at_key es q)) ((eq_by_cmp_equiv o).symm s q)
      ∙ sym (get-insert o (map_of es) s v q ∙ ap (cond (is_at (R q) s) (Some v)) (get_key es q)))

  pub one_removed : (es fs : List (K × X)) (s : K) → ((q : K) → at_key fs q ≡ cond (is_at (R s) q) None (at_key es q)) → map_of fs ≡ remove (map_of es) s
  one_removed es fs s h = same_map o exact _ _ (λ q.
      get_key fs q ∙ h q ∙ ap (λ b. cond b None (at_key es q)) ((eq_by_cmp_equiv o).symm s q)
      ∙ sym (get-remove o (map_of es) s q ∙ ap (cond (is_at (R q) s) None) (get_key es q)))

  -- an entry below all others is put in front
  put_first : (k : K) (v : X) (es : List (K × X)) → AllByRecursion (λ y. R k y ≡ Less) (keys_of es) → put R k v es ≡ (k, v) ∷ es
  put_first k v [] h = refl
  put_first k v (e ∷ es) h = let first : R k e.0 ≡ Less = h.0 in rw first refl

  none : (es : List (K × X)) → length es ≡ 0 → es ≡ []
  none [] e = refl
  none (x ∷ es) e = absurd (omega arith)

  -- entries whose keys rise are those of the map that they make
  pub same_entries : (es : List (K × X)) → IsStrictlySortedBy R (keys_of es) → entries (map_of es) ≡ es
  same_entries [] s = none _ (sym (len-entries (map_of [])) ∙ len-empty R X)
  same_entries (e ∷ es) s =
      entries-insert o (map_of es) e.0 e.1
      ∙ ap (put R e.0 e.1) (same_entries es (sorted_tail R e.0 (keys_of es) s))
      ∙ put_first e.0 e.1 es (sorted_head R e.0 (keys_of es) s)

  pub same_len : (es : List (K × X)) → IsStrictlySortedBy R (keys_of es) → len (map_of es) ≡ length es
  same_len es s = len-entries (map_of es) ∙ ap length (same_entries es s)

  pub same_keys : (es : List (K × X)) → IsStrictlySortedBy R (keys_of es) → keys (map_of es) ≡ keys_of es
  same_keys es s = ap keys_of (same_entries es s)

  -- ---- a copy

  abbrev over : Option X → Option X → Option X
  over None b = b
  over (Some x) b = Some x

  -- what is still to come, over what is there, is all
  pub record Covers (all rest : List (K × X)) (m : FinMap R X) : Type 0 where
    pub sorted : IsStrictlySortedBy R (keys_of rest)
    pub at : (q : K) → over (at_key rest q) (get m q) ≡ at_key all q

  absent : (k : K) (es : List (K × X)) → AllByRecursion (λ y. R k y ≡ Less) (keys_of es) → at_key es k ≡ None
  absent k [] h = refl
  absent k (e ∷ es) h = let first : R k e.0 ≡ Less = h.0 in rw first (absent k es h.1)

  over_none : (a : Option X) → over a None ≡ a
  over_none None = refl
  over_none (Some x) = refl

  pub covers_start : (es : List (K × X)) → IsStrictlySortedBy R (keys_of es) → Covers es es empty
  covers_start es s = record { sorted = s; at = λ q. ap (over (at_key es q)) (get-empty R q) ∙ over_none (at_key es q) }

  pub covers_begin : (es fs : List (K × X)) (m : FinMap R X) → IsStrictlySortedBy R (keys_of es) → fs ≡ es → m ≡ empty → Covers fs fs m
  covers_begin es fs m s is none = subst (λ (l : List (K × X)). Covers l l m) (sym is) (subst (Covers es es) (sym none) (covers_start es s))

  pub covers_step : (all rest next : List (K × X)) (m n : FinMap R X) (k : K) (v : X) → Covers all rest m → rest ≡ (k, v) ∷ next → n ≡ insert m k v → Covers all next n
  covers_step all rest next m n k v c is e =
      let s : IsStrictlySortedBy R (k ∷ keys_of next) = subst (λ (l : List (K × X)). IsStrictlySortedBy R (keys_of l)) is c.sorted in
      record {
        sorted = sorted_tail R k (keys_of next) s;
        at = λ q. ap (λ (a : FinMap R X). over (at_key next q) (get a q)) e ∙ ap (over (at_key next q)) (get-insert o m k v q) ∙ one q (sorted_head R k (keys_of next) s) ∙ ap (λ (l : List (K × X)). over (at_key l q) (get m q)) (sym is) ∙ c.at q;
      }
    where
      one : (q : K) → AllByRecursion (λ y. R k y ≡ Less) (keys_of next) → over (at_key next q) (cond (eq_by_cmp R q k) (Some v) (get m q)) ≡ over (cond (is_at (R q) k) (Some v) (at_key next q)) (get m q)
      one q h = elim (R q k) as (λ r. R q k ≡ r → over (at_key next q) (cond (is_eq r) (Some v) (get m q)) ≡ over (cond (is_eq r) (Some v) (at_key next q)) (get m q)) [
        | Less ↦ λ e. refl
        | Equal ↦ λ e. ap (λ (a : Option X). over a (Some v)) (ap (at_key next) (exact q k e) ∙ absent k next h)
        | Greater ↦ λ e. refl
      ] refl

  pub covers_end : (all rest : List (K × X)) (m : FinMap R X) → Covers all rest m → rest ≡ [] → m ≡ map_of all
  covers_end all rest m c is = same_map o exact _ _ (λ q. ap (λ (l : List (K × X)). over (at_key l q) (get m q)) (sym is) ∙ c.at q ∙ sym (get_key all q))
