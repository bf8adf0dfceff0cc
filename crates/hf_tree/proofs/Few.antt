-- A bucket has no more records than places.
use Rattle.std.proofs.Common.{◌≡◌, ◌≢◌, ◌∙◌, ℕ, ◌+◌, ◌<◌, ◌≤◌, refl, sym, ap, Some, arith, List, [], ◌∷◌, length, Bool, true, false, eqb}
use Rattle.std.specs.List.{IsDistinct, list_any, AllByRecursion}
use Rattle.std.proofs.lemmas.Map.Steps.{length-le_from_distinct_below}
use Rattle.std.proofs.lemmas.Bool.Decides.{nat_tests}
use Rattle.std.specs.declared.cmp.Ordering.TheVariants.{Less, Equal, Greater}
use Rattle.hf_tree.specs.Keys.{Key, key_cmp}
use Rattle.hf_tree.specs.Trees.{Tree, leaf, node, nodes, AllOf, Above, Below, Ordered}
use Rattle.hf_tree.specs.Views.{View, Hangs}
use Rattle.hf_tree.proofs.Orders.{same_key, turned, less_then}
use Rattle.hf_tree.proofs.Trees.{all_map, all_both}
use Rattle.hf_tree.proofs.Hanging.{Keyed, hangs_keys}

-- the places of a tree in front of others
abbrev gather : Tree → List ℕ → List ℕ
gather leaf acc = acc
gather (node p q l r) acc = gather l (p ∷ gather r acc)

long : (t : Tree) (acc : List ℕ) → length (gather t acc) ≡ nodes t + length acc
long leaf acc = omega arith
long (node p q l r) acc = let a = long l (p ∷ gather r acc) in let b = long r acc in omega (arith, a, b)

-- each of the list has P
abbrev Each : (ℕ → Type 0) → List ℕ → Type 0
Each P [] = Unit {0}
Each P (x ∷ xs) = P x × Each P xs

each_gather : (P : ℕ → Type 0) (t : Tree) (acc : List ℕ) → AllOf (λ p k. P p) t → Each P acc → Each P (gather t acc)
each_gather P leaf acc h e = e
each_gather P (node p q l r) acc h e = each_gather P l (p ∷ gather r acc) h.1 (h.0, each_gather P r acc h.2 e)

-- no two equal
abbrev Apart2 : List ℕ → Type 0
Apart2 [] = Unit {0}
Apart2 (x ∷ xs) = Each (λ y. x ≢ y) xs × Apart2 xs

each_map : (P Q : ℕ → Type 0) → ((x : ℕ) → P x → Q x) → (xs : List ℕ) → Each P xs → Each Q xs
each_map P Q f [] h = tt
each_map P Q f (x ∷ xs) h = (f x h.0, each_map P Q f xs h.1)

-- a key's place isn't that of another key
other_place : (v : View) (p x : ℕ) (q k : Key) → v.keys p ≡ Some q → v.keys x ≡ Some k → k ≢ q → p ≢ x
other_place v p x q k h i ne e = ne (let g = ap (λ (z : ℕ). v.keys z) e in cc)

-- places that have a key below this one
record Low (v : View) (q : Key) (x : ℕ) : Type 0 where
  key : Key
  has : v.keys x ≡ Some key
  low : key_cmp key q ≡ Less

apart_gather : (v : View) (t : Tree) (acc : List ℕ) → AllOf (Keyed v) t → Ordered t → AllOf (λ p q. Each (Low v q) acc) t → Apart2 acc → Apart2 (gather t acc)
apart_gather v leaf acc keyed o low apart = apart
apart_gather v (node p q l r) acc keyed o low apart =
    let right = apart_gather v r acc keyed.2 o.3 low.2 apart in
    let B : ℕ → Key → Type 0 = λ x k. (v.keys x ≡ Some k) × (key_cmp k q ≡ Less) in
    let under : AllOf B r = all_both (Keyed v) (Below q) B (λ x k a b. (a, b)) r keyed.2 o.1 in
    let rest : Each (Low v q) (gather r acc) = each_gather (Low v q) r acc (all_map B (λ x k. Low v q x) (λ x k w. record { key = k; has = w.0; low = w.1 }) r under) low.0 in
    let now : Each (λ y. p ≢ y) (gather r acc) = each_map (Low v q) (λ y. p ≢ y) (λ x w. other_place v p x q w.key keyed.0 w.has (λ e. let s = same_key q in let f : key_cmp w.key q ≡ key_cmp q q = ap (λ (z : Key). key_cmp z q) e in let g = w.low in (let z : Less ≡ Equal = sym g ∙ f ∙ s in cc))) (gather r acc) rest in
    let more : (k : Key) → key_cmp k q ≡ Greater → Each (Low v k) (p ∷ gather r acc) = λ k a. (record { key = q; has = keyed.0; low = turned k q a }, each_map (Low v q) (Low v k) (λ x w. record { key = w.key; has = w.has; low = less_then w.key q k w.low (turned k q a) }) (gather r acc) rest) in
    apart_gather v l (p ∷ gather r acc) keyed.1 o.2 (all_map (Above q) (λ x k. Each (Low v k) (p ∷ gather r acc)) (λ x k a. more k a) l o.0) (now, right)

distinct : (xs : List ℕ) → Apart2 xs → IsDistinct eqb xs
unfolding IsDistinct
distinct [] h = tt
distinct (x ∷ xs) h = (tests xs h.0, distinct xs h.1)
  where
    tests : (ys : List ℕ) → Each (λ y. x ≢ y) ys → AllByRecursion (λ y. eqb x y ≡ false) ys
    tests [] h = tt
    tests (y ∷ ys) h = (let ne : x ≢ y = h.0 in grind (arith, nat_tests), tests ys h.1)

below : (xs : List ℕ) (n q : ℕ) → Each (λ x. x < n) xs → list_any (eqb q) xs ≡ true → q < n
below [] n q h e = absurd (let f : false ≡ true = e in cc)
below (x ∷ xs) n q h e = two (eqb q x) (λ f. let i : q ≡ x = grind (arith, nat_tests) in let j = h.0 in omega (arith, i, j)) (λ f. below xs n q h.1 (rw f at e))
  where
    two : {G : Type 0} (b : Bool) → (b ≡ true → G) → (b ≡ false → G) → G
    two true t f = t refl
    two false t f = f refl

-- as many records as places at most
pub few_nodes : (v : View) (a n : ℕ) (t : Tree) → Hangs v a t → Ordered t → AllOf (λ p k. p < n) t → nodes t ≤ n
few_nodes v a n t h o low =
    let xs = gather t [] in
    let apart = apart_gather v t [] (hangs_keys v a t h) o (all_map (λ p k. p < n) (λ p k. Unit {0}) (λ p k x. tt) t low) tt in
    let le = length-le_from_distinct_below xs n (distinct xs apart) (λ q e. below xs n q (each_gather (λ x. x < n) t [] low tt) e) in
    let l = long t [] in
    omega (arith, le, l)
