-- The tree of a bucket has as many nodes as keys of the map are in the bucket, at most.
use Rattle.std.proofs.Common.{◌≡◌, ◌∙◌, ℕ, ◌+◌, ◌*◌, ◌≤◌, refl, sym, ap, subst, arith, List, [], ◌∷◌, length, Bool, true, false, Option, is_some}
use Rattle.std.specs.Prelude.{◌==◌, filter, ◌&&◌}
use Rattle.std.specs.Ordering.{nat_cmp, eq_by_cmp}
use Rattle.std.specs.Cmp.{eq_by_cmp_equiv, Equal-is}
use Rattle.std.specs.Cmp.Lexicographic.{slice_cmp, nat_list_cmp_total}
use Rattle.std.specs.FinMap.{get, keys, contains_key-keys}
use Rattle.std.specs.List.{IsDistinct, AllByRecursion}
use Rattle.std.specs.Set.{is_member}
use Rattle.std.specs.declared.cmp.Ordering.TheVariants.{Less, Equal, Greater}
use Rattle.std.proofs.lemmas.Bool.{eq-eqb}
use Rattle.std.proofs.lemmas.Map.Made.{length-le_from_is_member, is_member-filter}
use Rattle.std.proofs.lemmas.Map.Lookups.{exact_bytes}
use Rattle.tc_base.specs.Maps.{Map}
use Rattle.hf_head.specs.declared.head.Head.{Head}
use Rattle.hf_block.specs.Pieces.{Piece}
use Rattle.hf_layout.specs.Frees.{Frees}
use Rattle.hf_layout.specs.Layout.{record_at}
use Rattle.hf_tree.specs.Keys.{Key, key_cmp, bucket_of}
use Rattle.hf_tree.specs.Trees.{Tree, leaf, node, nodes, AllOf, Above, Below, Ordered}
use Rattle.hf_tree.specs.Views.{Hung}
use Rattle.hf_tree.specs.Links.{view_of}
use Rattle.hf_chain.specs.Chains.{InTree}
use Rattle.hf_chain.specs.Costs.{Within}
use Rattle.hf_head.specs.Heads.{IsValid}
use Rattle.std.proofs.Math.Nat.{mul_comm, mul-le-mul_left}
use Rattle.hf_tree.proofs.Orders.{same_key, turned, less_then}
use Rattle.hf_tree.proofs.Trees.{all_map, all_both}
use Rattle.hf_tree.proofs.Hanging.{Keyed, hangs_keys}
use Rattle.hf_tree.proofs.Ways.{has_key, two}
use Rattle.hf_record.specs.Costs.{in_bucket}
use Rattle.hf_record.specs.Holding.{HasMap, IsHeld}
use Rattle.hf_record.proofs.Finding.{in_tree}

abbrev same : Key → Key → Bool
same = eq_by_cmp (slice_cmp nat_cmp)

exact : (k q : Key) → same k q ≡ true → k ≡ q
exact k q e = exact_bytes k q ((Equal-is (slice_cmp nat_cmp k q)).0 e)

-- the keys of a tree in front of others
abbrev gather : Tree → List Key → List Key
gather leaf acc = acc
gather (node p q l r) acc = gather l (q ∷ gather r acc)

long : (t : Tree) (acc : List Key) → length (gather t acc) ≡ nodes t + length acc
long leaf acc = omega arith
long (node p q l r) acc = let a = long l (q ∷ gather r acc) in let b = long r acc in omega (arith, a, b)

each_gather : (P : Key → Type 0) (t : Tree) (acc : List Key) → AllOf (λ p k. P k) t → AllByRecursion P acc → AllByRecursion P (gather t acc)
each_gather P leaf acc h e = e
each_gather P (node p q l r) acc h e = each_gather P l (q ∷ gather r acc) h.1 (h.0, each_gather P r acc h.2 e)

each_map : (P Q : Key → Type 0) → ((x : Key) → P x → Q x) → (xs : List Key) → AllByRecursion P xs → AllByRecursion Q xs
each_map P Q f [] h = tt
each_map P Q f (x ∷ xs) h = (f x h.0, each_map P Q f xs h.1)

abbrev Under : Key → Key → Type 0
Under q x = key_cmp x q ≡ Less

apart : (q x : Key) → Under q x → same q x ≡ false
apart q x low = two (same q x) (λ e. absurd (let s = same_key q in let f : key_cmp x q ≡ key_cmp q q = ap (λ (z : Key). key_cmp z q) (sym (exact q x e)) in let g : Less ≡ Equal = sym low ∙ f ∙ s in cc)) (λ e. e)

distinct_gather : (t : Tree) (acc : List Key) → Ordered t → AllOf (λ p q. AllByRecursion (Under q) acc) t → IsDistinct same acc → IsDistinct same (gather t acc)
unfolding IsDistinct
distinct_gather leaf acc o low d = d
distinct_gather (node p q l r) acc o low d =
    let right = distinct_gather r acc o.3 low.2 d in
    let rest : AllByRecursion (Under q) (gather r acc) = each_gather (Under q) r acc (all_map (Below q) (λ x k. Under q k) (λ x k b. b) r o.1) low.0 in
    let now : AllByRecursion (λ x. same q x ≡ false) (gather r acc) = each_map (Under q) (λ x. same q x ≡ false) (apart q) (gather r acc) rest in
    let more : (k : Key) → key_cmp k q ≡ Greater → AllByRecursion (Under k) (q ∷ gather r acc) = λ k a. (turned k q a, each_map (Under q) (Under k) (λ x w. less_then x q k w (turned k q a)) (gather r acc) rest) in
    distinct_gather l (q ∷ gather r acc) o.2 (all_map (Above q) (λ x k. AllByRecursion (Under k) (q ∷ gather r acc)) (λ x k a. more k a) l o.0) (now, right)

member_has : (P : Key → Type 0) (xs : List Key) (q : Key) → AllByRecursion P xs → is_member same xs q ≡ true → P q
member_has P [] q h e = absurd (let f : false ≡ true = e in cc)
member_has P (x ∷ xs) q h e = two (same q x) (λ t. subst P (sym (exact q x t)) h.0) (λ f. member_has P xs q h.1 (rw f at e))

-- a key of the map that is in a bucket
abbrev IsIn : ℕ → ℕ → Map → Key → Type 0
IsIn n b m k = (bucket_of n k ≡ b) × (is_some (get m k) ≡ true)

in_list : (n b : ℕ) (m : Map) (q : Key) → IsIn n b m q → is_member same (filter (λ k. bucket_of n k == b) (keys m)) q ≡ true
in_list n b m q h =
    let held : is_member same (keys m) q ≡ true = sym (contains_key-keys m q) ∙ h.1 in
    let home : (bucket_of n q == b) ≡ true = eq-eqb (bucket_of n q) b h.0 in
    is_member-filter (eq_by_cmp_equiv nat_list_cmp_total) (λ k. bucket_of n k == b) q (λ x e. ap (λ (k : Key). bucket_of n k == b) (exact q x e)) (keys m)
    ∙ (λ i. held i && home i)

pub nodes_few : (h : Head) (end : ℕ) (ps : List Piece) (frees : Frees) (places : Key → Option ℕ) (m : Map) (bytes : List ℕ) (b : ℕ) (t : Tree) → IsHeld h end ps frees places m bytes → Hung (view_of h ps bytes) h.buckets b t → nodes t ≤ in_bucket h.buckets b m
unfolding IsDistinct
nodes_few h end ps frees places m bytes b t w hung =
    let v = view_of h ps bytes in
    let has : AllOf (λ p k. IsIn h.buckets b m k) t = all_both (λ p k. bucket_of h.buckets k ≡ b) (Keyed v) (λ p k. IsIn h.buckets b m k)
    (λ p k home keyed. let x = has_key (record_at h.first ps) p k keyed in (home, ap (λ (o : Option (List ℕ)). is_some o) ((w.map k x.rec.value).1 (p, x.rec, x.at, x.key, refl)))) t hung.home (hangs_keys v _ t hung.hangs) in
    let all = each_gather (IsIn h.buckets b m) t [] has tt in
    let one = distinct_gather t [] hung.ordered (all_map (λ p k. IsIn h.buckets b m k) (λ p q. Unit {0}) (λ p k x. tt) t has) tt in
    let le = length-le_from_is_member (eq_by_cmp_equiv nat_list_cmp_total) (gather t []) (filter (λ k. bucket_of h.buckets k == b) (keys m)) one (λ q e. in_list h.buckets b m q (member_has (IsIn h.buckets b m) (gather t []) q all e)) in
    omega (arith, le, long t [])

within_more : (m n each s s' r r' : ℕ) → m ≤ n → Within m each s s' r r' → Within n each s s' r r'
within_more m n each s s' r r' le w =
    let e = mul_comm m each in
    let f = mul_comm n each in
    let g : each * m ≤ each * n = mul-le-mul_left each le in
    record { few = omega (arith, w.few, le); short = omega (arith, w.short, e, f, g) }

-- a search costs at most one more than there are keys in the bucket
pub search_within : (h : Head) (end : ℕ) (frees : Frees) (m : Map) (bytes : List ℕ) (key : Key) (each s s' r r' : ℕ) → IsValid h → HasMap h end frees m bytes
    → ((e : ℕ) (ps : List Piece) (t : Tree) → InTree h e ps bytes (bucket_of h.buckets key) t → Within (1 + nodes t) each s s' r r') → Within (1 + in_bucket h.buckets (bucket_of h.buckets key) m) each s s' r r'
search_within h end frees m bytes key each s s' r r' v has within =
    let b = bucket_of h.buckets key in
    let w = in_tree h end has.pieces frees has.places m bytes key v has.is in
    let t : Tree = has.is.hang.holds.trees b in
    let few = nodes_few h end has.pieces frees has.places m bytes b t has.is w.hung in
    within_more (1 + nodes t) (1 + in_bucket h.buckets b m) each s s' r r' (omega (arith, few)) (within end has.pieces t w)
