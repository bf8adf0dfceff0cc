-- One link more that is followed.
use Rattle.std.proofs.Common.{◌≡◌, ◌≢◌, ◌∙◌, ◌⊎◌, inl, inr, ⊎_elim, ℕ, zero, suc, ◌+◌, ◌-◌, ◌*◌, ◌<◌, ◌≤◌, List, [], ◌∷◌, ◌++◌, length, refl, sym, ap, subst, arith, Some, None, Bool, true, false, set, get_or, replicate}
use Rattle.std.proofs.lemmas.List.{length-set, length-replicate}
use Rattle.std.specs.Prelude.{slice_get}
use Rattle.std.proofs.lemmas.Bool.{cases_eq, cases_lt}
use Rattle.hf_tree.specs.declared.parent.Parent.TheVariants.{Bucket}
use Rattle.hf_tree.specs.Rules.{Links, Records, Turn, left, right, turned, end_of, IsRecord, IsLink, ReachedOnce}
use Rattle.hf_tree.proofs.Ways.{IsBare}
use Rattle.hf_survey.specs.declared.facts.Fact.{Fact}
use Rattle.hf_survey.specs.declared.reaching.Item.{Item}
use Rattle.hf_chain.specs.Heads.{capped}
use Rattle.hf_survey.specs.Facts.{Ascend, Names, IsListedAt, spot, place_in}
use Rattle.hf_survey.specs.Reaching.{Reached, Reach, code, root, child, IsIn, root_item, child_item, numbered, seen, all_seen, IsItem, AreLow, trues, Marked, Follows, Stops, AreRead, IsAllReached, IsNotOnce}
use Rattle.hf_survey.proofs.Lists.{get_low, get_front, get_end, long, which, same_item, get_map, got_map, map_push, map_long, get_some}
use Rattle.hf_survey.proofs.Followed.{child_place, child_bucket, code_same, code_low, bucket_none, chain_none, not_reached, pushed, bucket_twice, chain_twice}

module _ (links : Links) (records : Records) (n : ℕ) where
  pub root_new : (items new : List Reached) (b p done : ℕ) → b < n → p ≡ links (Bucket b) → IsRecord records p → done ≤ 2 * length items → new ≡ items ++ root b p ∷ [] → (IsIn items p → ⊥) → Reach links records n items b done → Reach links records n new (b + 1) done
  root_new items new b p done low is there most grown fresh r = subst (λ (l : List Reached). Reach links records n l (b + 1) done) (sym grown)
      (pushed links records n items b done (b + 1) done (root b p) [] r (omega arith) (omega arith) most there (low, sym is) (omega arith) (inl (refl, refl, omega arith)) fresh
      (λ d high less. let e : d ≡ b = omega (arith, high, less) in (ap (λ z. links (Bucket z)) e ∙ sym is, ap (λ z. root z p) (sym e), refl))
      (λ k y t at high less. absurd (omega (arith, high, less))))

  pub turned_link : (t : Turn) (p : ℕ) → IsRecord records p → IsLink records n (turned t p)
  turned_link left p w = w
  turned_link right p w = w

  pub chain_new : (items new : List Reached) (roots done k : ℕ) (y x : Reached) (t : Turn) → slice_get items k ≡ Some y → done ≡ 2 * k + code t → x ≡ child t y (links (turned t y.place)) → IsRecord records x.place → new ≡ items ++ x ∷ [] → (IsIn items x.place → ⊥) → Reach links records n items roots done → Reach links records n new roots (done + 1)
  chain_new items new roots done k y x t at d is there grown fresh r =
      let q = r.each k y at in
      let low = get_low items k y at in
      let e : x.place ≡ links (turned t y.place) = ap (λ (z : Reached). z.place) is ∙ child_place t y (links (turned t y.place)) in
      let bucket : x.bucket ≡ y.bucket = ap (λ (z : Reached). z.bucket) is ∙ child_bucket t y (links (turned t y.place)) in
      let self : x ≡ child t y x.place = is ∙ ap (child t y) (sym e) in
      subst (λ (l : List Reached). Reach links records n l roots (done + 1)) (sym grown)
      (pushed links records n items roots done roots (done + 1) x (t ∷ r.ways k) r (omega arith) (omega arith) (let c = code_low t in omega (arith, c, d, low)) there
      (omega (arith, q.leads.0, bucket), (λ i. links (turned t (links (end_of links (bucket i) (r.ways k))))) ∙ ap (λ z. links (turned t z)) q.leads.1 ∙ sym e)
      (let s = q.short in omega (arith, s, low)) (inr (k, y, t, at, omega (arith, d), refl, self)) fresh
      (λ b high less. absurd (omega (arith, high, less)))
      (λ l z s atl high less.
      let f : l ≡ k = (let a = code_low s in let b = code_low t in omega (arith, high, less, d, a, b)) in
      let c : s ≡ t = code_same s t (omega (arith, high, less, d, f)) in
      let g : z ≡ y = same_item (slice_get items k) z y (ap (slice_get items) (sym f) ∙ atl) at in
      ((λ i. links (turned (c i) (g i).place)) ∙ sym e, self ∙ (λ i. child (sym c i) (sym g i) x.place), (λ i. sym c i ∷ r.ways (sym f i)))))

-- ---- records by number

-- one fact stands at one place
pub facts_once : (facts : List Fact) (i j : ℕ) (x y : Fact) → Ascend facts → slice_get facts i ≡ Some x → slice_get facts j ≡ Some y → x.place ≡ y.place → i ≡ j
facts_once facts i j x y rises ati atj e = elim (cases_eq i j) [
  | inl s ↦ s
  | inr ne ↦ elim (cases_lt i j) [
    | inl less ↦ absurd (let l = rises i j x y ati atj less in omega (arith, l, e))
    | inr more ↦ absurd (let l = rises j i y x atj ati (omega (arith, more, ne)) in omega (arith, l, e))
  ]
]

-- the fact with a number
pub record Known (facts : List Fact) (m : ℕ) : Type 0 where
  pub i : ℕ
  pub x : Fact
  pub is : m ≡ suc i
  pub at : slice_get facts i ≡ Some x
  pub place : spot facts m ≡ x.place

pub known : (facts : List Fact) (m : ℕ) → 0 < m → m ≤ length facts → Known facts m
known facts zero some low = absurd (omega (arith, some))
known facts (suc i) some low = let w = get_some facts i (omega (arith, low)) in record { i = i; x = w.0; is = refl; at = w.1; place = ap place_in w.1 }

seen_child : (facts : List Fact) (t : Turn) (y : Item) (m : ℕ) → seen facts (numbered (child_item t y 0) m) ≡ child t (seen facts y) (spot facts m)
seen_child facts left y m = refl
seen_child facts right y m = refl

pub seen_in : (facts : List Fact) (items : List Item) (m : ℕ) → IsItem items m → IsIn (all_seen facts items) (spot facts m)
seen_in facts items m w = (w.0, seen facts w.1, get_map (seen facts) items w.0 w.1 w.2, ap (spot facts) w.3)

-- the place that a record's chain names
abbrev pub chain_in : Turn → Fact → ℕ
chain_in left x = x.left
chain_in right x = x.right

-- ---- what following a link leaves

pub followed_long : (facts : List Fact) (p : ℕ) (from : Item) (items new : List Item) → Follows facts p from items new → length items ≤ length new
followed_long facts p from items new (inl o) = omega (arith, ap length o.1)
followed_long facts p from items new (inr o) = omega (arith, ap length o.4, long items (numbered from o.0))

pub followed_at : (facts : List Fact) (p : ℕ) (from : Item) (items new : List Item) (k : ℕ) (y : Item) → Follows facts p from items new → slice_get items k ≡ Some y → slice_get new k ≡ Some y
followed_at facts p from items new k y (inl o) at = ap (λ (l : List Item). slice_get l k) o.1 ∙ at
followed_at facts p from items new k y (inr o) at = ap (λ (l : List Item). slice_get l k) o.4 ∙ get_front items (numbered from o.0) k (get_low items k y at) ∙ at

module _ (links : Links) (records : Records) (n : ℕ) (facts : List Fact) (read : AreRead links records facts) where
  spot_same : (m l : ℕ) → 0 < m → m ≤ length facts → 0 < l → l ≤ length facts → spot facts m ≡ spot facts l → m ≡ l
  spot_same m l some low some2 low2 e =
      let a = known facts m some low in
      let b = known facts l some2 low2 in
      elim (cases_eq a.i b.i) [
        | inl same ↦ a.is ∙ ap suc same ∙ sym b.is
        | inr ne ↦ elim (cases_lt a.i b.i) [
          | inl less ↦ absurd (let r = read.ascend a.i b.i a.x b.x a.at b.at less in omega (arith, r, a.place, b.place, e))
          | inr more ↦ absurd (let r = read.ascend b.i a.i b.x a.x b.at a.at (omega (arith, more, ne)) in omega (arith, r, a.place, b.place, e))
        ]
      ]

  pub in_seen : (items : List Item) (m : ℕ) → AreLow (length facts) items → 0 < m → m ≤ length facts → IsIn (all_seen facts items) (spot facts m) → IsItem items m
  in_seen items m lows some low w =
      let g = got_map (seen facts) items w.0 w.1 w.2 in
      let l = lows w.0 g.0 g.1 in
      (w.0, g.0, g.1, spot_same g.0.number m l.0 l.1 some low (sym (ap (λ (z : Reached). z.place) g.2) ∙ w.3))

  spot_record : (m : ℕ) → 0 < m → m ≤ length facts → IsRecord records (spot facts m)
  spot_record m some low = let k = known facts m some low in subst (λ z. IsRecord records z) (sym k.place) (read.to k.i k.x k.at)

  -- the place that a link was read with is the one that it names, where a record stands there
  link_spot : (m l : ℕ) → 0 < m → m ≤ length facts → spot facts m ≡ capped l → spot facts m ≡ l
  link_spot m l some low is = let w = spot_record m some low in let f = read.few (spot facts m) w in omega (arith, f, is)

  names_link : (l : ℕ) → (l ≡ 0) ⊎ IsRecord records l → Names facts (capped l)
  names_link l (inl z) = inl (omega (arith, z))
  names_link l (inr w) = let f = read.few l w in let e : l ≡ capped l = omega (arith, f) in inr (subst (λ z. IsListedAt facts z) e (read.from l w))

  -- ---- the entry of a bucket

  pub bucket_follows : (items new : List Item) (b p done : ℕ) → b < n → p ≡ capped (links (Bucket b)) → done ≤ 2 * length items → AreLow (length facts) items → Follows facts p (root_item b 0) items new → Reach links records n (all_seen facts items) b done → Reach links records n (all_seen facts new) (b + 1) done
  bucket_follows items new b p done low is most lows (inl o) r = subst (λ (l : List Item). Reach links records n (all_seen facts l) (b + 1) done) (sym o.1) (bucket_none links records n (all_seen facts items) b done (omega (arith, o.0, is)) r)
  bucket_follows items new b p done low is most lows (inr o) r =
      root_new links records n (all_seen facts items) (all_seen facts new) b (spot facts o.0) done low (link_spot o.0 (links (Bucket b)) o.1 o.2 (o.3 ∙ is)) (spot_record o.0 o.1 o.2) (omega (arith, most, map_long (seen facts) items))
      (ap (all_seen facts) o.4 ∙ map_push (seen facts) items (numbered (root_item b 0) o.0)) (λ w. o.5 (in_seen items o.0 lows o.1 o.2 w)) r

  pub bucket_stops : (items : List Item) (b p done : ℕ) → b < n → p ≡ capped (links (Bucket b)) → Stops facts p items → Reach links records n (all_seen facts items) b done → IsNotOnce links records n
  bucket_stops items b p done low is (inl bad) r names once = bad read.ascend (subst (λ z. Names facts z) (sym is) (names_link (links (Bucket b)) (names (Bucket b) low)))
  bucket_stops items b p done low is (inr o) r names once =
      bucket_twice links records n (all_seen facts items) b done low r (subst (λ z. IsIn (all_seen facts items) z) (link_spot o.0 (links (Bucket b)) o.1 o.2 (o.3 ∙ is)) (seen_in facts items o.0 o.4)) once

  -- ---- a chain of a record

  chain_is : (t : Turn) (i : ℕ) (x : Fact) → slice_get facts i ≡ Some x → chain_in t x ≡ capped (links (turned t x.place))
  chain_is left i x at = read.lefts i x at
  chain_is right i x at = read.rights i x at

  -- the fact of a record that was reached
  pub record Fact_of (items : List Item) (k : ℕ) (y : Item) (x : Fact) : Type 0 where
    pub at : slice_get items k ≡ Some y
    pub fact : slice_get facts (y.number - 1) ≡ Some x
    pub lows : AreLow (length facts) items

  place_is : (items : List Item) (k : ℕ) (y : Item) (x : Fact) → Fact_of items k y x → spot facts y.number ≡ x.place
  place_is items k y x f =
      let l = f.lows k y f.at in
      let w = known facts y.number l.0 l.1 in
      let i : y.number - 1 ≡ w.i = omega (arith, w.is) in
      w.place ∙ ap (λ (z : Fact). z.place) (same_item (slice_get facts w.i) w.x x w.at (ap (slice_get facts) (sym i) ∙ f.fact))

  link_is : (items : List Item) (k : ℕ) (y : Item) (x : Fact) (t : Turn) → Fact_of items k y x → chain_in t x ≡ capped (links (turned t (spot facts y.number)))
  link_is items k y x t f = chain_is t (y.number - 1) x f.fact ∙ ap (λ z. capped (links (turned t z))) (sym (place_is items k y x f))

  pub chain_follows : (items new : List Item) (roots done k : ℕ) (t : Turn) (y : Item) (x : Fact) → Fact_of items k y x → done ≡ 2 * k + code t → Follows facts (chain_in t x) (child_item t y 0) items new → Reach links records n (all_seen facts items) roots done → Reach links records n (all_seen facts new) roots (done + 1)
  chain_follows items new roots done k t y x f d (inl o) r =
      let e = link_is items k y x t f in
      subst (λ (l : List Item). Reach links records n (all_seen facts l) roots (done + 1)) (sym o.1) (chain_none links records n (all_seen facts items) roots done k (seen facts y) t (get_map (seen facts) items k y f.at) d (omega (arith, o.0, e)) r)
  chain_follows items new roots done k t y x f d (inr o) r =
      let s = link_spot o.0 (links (turned t (spot facts y.number))) o.1 o.2 (o.3 ∙ link_is items k y x t f) in
      chain_new links records n (all_seen facts items) (all_seen facts new) roots done k (seen facts y) (seen facts (numbered (child_item t y 0) o.0)) t (get_map (seen facts) items k y f.at) d (seen_child facts t y o.0 ∙ ap (child t (seen facts y)) s) (spot_record o.0 o.1 o.2)
      (ap (all_seen facts) o.4 ∙ map_push (seen facts) items (numbered (child_item t y 0) o.0)) (λ w. o.5 (in_seen items o.0 f.lows o.1 o.2 w)) r

  pub chain_stops : (items : List Item) (roots done k : ℕ) (t : Turn) (y : Item) (x : Fact) → Fact_of items k y x → done ≡ 2 * k + code t → Stops facts (chain_in t x) items → Reach links records n (all_seen facts items) roots done → IsNotOnce links records n
  chain_stops items roots done k t y x f d (inl bad) r names once =
      bad read.ascend (subst (λ z. Names facts z) (sym (chain_is t (y.number - 1) x f.fact)) (names_link (links (turned t x.place)) (names (turned t x.place) (turned_link links records n t x.place (read.to (y.number - 1) x f.fact)))))
  chain_stops items roots done k t y x f d (inr o) r names once =
      let s = link_spot o.0 (links (turned t (spot facts y.number))) o.1 o.2 (o.3 ∙ link_is items k y x t f) in
      chain_twice links records n (all_seen facts items) roots done k (seen facts y) t (get_map (seen facts) items k y f.at) d r (subst (λ z. IsIn (all_seen facts items) z) s (seen_in facts items o.0 o.4)) once

  -- ---- both chains of a record

  pub left_follows : (items mid : List Item) (roots k : ℕ) (y : Item) (x : Fact) → Fact_of items k y x → Follows facts x.left (child_item left y 0) items mid → Reach links records n (all_seen facts items) roots (2 * k) → Reach links records n (all_seen facts mid) roots (2 * k + 1)
  left_follows items mid roots k y x f first r = chain_follows items mid roots (2 * k) k left y x f (omega arith) first r

  pub both_follow : (items mid new : List Item) (roots k : ℕ) (y : Item) (x : Fact) → Fact_of items k y x → AreLow (length facts) mid → Follows facts x.left (child_item left y 0) items mid → Follows facts x.right (child_item right y 0) mid new → Reach links records n (all_seen facts items) roots (2 * k) → Reach links records n (all_seen facts new) roots (2 * k + 2)
  both_follow items mid new roots k y x f lows first second r = subst (λ d. Reach links records n (all_seen facts new) roots d) (omega arith)
      (chain_follows mid new roots (2 * k + 1) k right y x (record { at = followed_at facts x.left (child_item left y 0) items mid k y first f.at; fact = f.fact; lows = lows }) (omega arith) second (left_follows items mid roots k y x f first r))

  pub left_stops : (items : List Item) (roots k : ℕ) (y : Item) (x : Fact) → Fact_of items k y x → Stops facts x.left items → Reach links records n (all_seen facts items) roots (2 * k) → IsNotOnce links records n
  left_stops items roots k y x f stops r = chain_stops items roots (2 * k) k left y x f (omega arith) stops r

  pub right_stops : (items mid : List Item) (roots k : ℕ) (y : Item) (x : Fact) → Fact_of items k y x → AreLow (length facts) mid → Follows facts x.left (child_item left y 0) items mid → Stops facts x.right mid → Reach links records n (all_seen facts items) roots (2 * k) → IsNotOnce links records n
  right_stops items mid roots k y x f lows first stops r =
      chain_stops mid roots (2 * k + 1) k right y x (record { at = followed_at facts x.left (child_item left y 0) items mid k y first f.at; fact = f.fact; lows = lows }) (omega arith) stops (left_follows items mid roots k y x f first r)

  -- each record is reached where each is marked
  pub whole_reach : (items : List Item) (marks : List Bool) → length marks ≡ length facts → Marked items marks → ((i : ℕ) → i < length marks → slice_get marks i ≡ Some true) → (p : ℕ) → IsRecord records p → IsIn (all_seen facts items) p
  whole_reach items marks same m all p w =
      let f = read.from p w in
      let low : f.0 < length marks = (let l = get_low facts f.0 f.1 f.2 in omega (arith, l, same)) in
      subst (λ z. IsIn (all_seen facts items) z) (ap place_in f.2 ∙ f.3) (seen_in facts items (suc f.0) ((m.same f.0 low).0 (all f.0 low)))

  pub not_whole : (items : List Item) (marks : List Bool) (i : ℕ) → IsBare links records → length marks ≡ length facts → Marked items marks → IsAllReached links records n (all_seen facts items) → i < length marks → slice_get marks i ≡ Some false → ReachedOnce links records n → ⊥
  not_whole items marks i bare same m r low unset o =
      let w = get_some facts i (omega (arith, low, same)) in
      not_reached links records n (all_seen facts items) r.done r.is bare r.all w.0.place (read.to i w.0 w.1)
      (λ in_. let it = in_seen items (suc i) (subst (λ z. AreLow z items) same m.low) (omega arith) (omega (arith, low, same)) (subst (λ z. IsIn (all_seen facts items) z) (sym (ap place_in w.1)) in_) in
      let t = (m.same i low).1 it in let e : Some true ≡ Some false = sym t ∙ unset in cc) o

-- ---- marks

pub set_here : {A : Type 0} (xs : List A) (i : ℕ) (x : A) → i < length xs → slice_get (set xs i x) i ≡ Some x
set_here [] i x low = absurd (omega (arith, low))
set_here (y ∷ xs) zero x low = refl
set_here (y ∷ xs) (suc i) x low = set_here xs i x (omega (arith, low))

pub set_off : {A : Type 0} (xs : List A) (i j : ℕ) (x : A) → j ≢ i → slice_get (set xs i x) j ≡ slice_get xs j
set_off [] i j x ne = refl
set_off (y ∷ xs) zero zero x ne = absurd (ne refl)
set_off (y ∷ xs) zero (suc j) x ne = refl
set_off (y ∷ xs) (suc i) zero x ne = refl
set_off (y ∷ xs) (suc i) (suc j) x ne = set_off xs i j x (λ e. ne (ap suc e))

pub trues_set : (xs : List Bool) (i : ℕ) → slice_get xs i ≡ Some false → trues (set xs i true) ≡ trues xs + 1
trues_set [] i h = absurd (let e : None ≡ Some false = h in cc)
trues_set (b ∷ xs) zero h =
    let f : b ≡ false = (let e : Some b ≡ Some false = h in cc) in
    let g : trues (b ∷ xs) ≡ trues xs = ap (λ (c : Bool). trues (c ∷ xs)) f in
    omega (arith, g)
trues_set (true ∷ xs) (suc i) h = let k = trues_set xs i h in omega (arith, k)
trues_set (false ∷ xs) (suc i) h = trues_set xs i h

pub trues_most : (xs : List Bool) → trues xs ≤ length xs
trues_most [] = omega arith
trues_most (true ∷ xs) = let k = trues_most xs in omega (arith, k)
trues_most (false ∷ xs) = let k = trues_most xs in omega (arith, k)

pub get_of : (xs : List Bool) (i : ℕ) (b : Bool) → i < length xs → get_or xs i false ≡ b → slice_get xs i ≡ Some b
get_of [] i b low e = absurd (omega (arith, low))
get_of (x ∷ xs) zero b low e = ap (λ (z : Bool). Some z) e
get_of (x ∷ xs) (suc i) b low e = get_of xs i b (omega (arith, low)) e

in_front : (items : List Item) (x : Item) (m : ℕ) → IsItem items m → IsItem (items ++ x ∷ []) m
in_front items x m w = (w.0, w.1, get_front items x w.0 (get_low items w.0 w.1 w.2) ∙ w.2, w.3)

in_new : (items : List Item) (x : Item) (m : ℕ) → IsItem (items ++ x ∷ []) m → x.number ≢ m → IsItem items m
in_new items x m w ne = ⊎_elim (λ a. (w.0, w.1, a, w.3)) (λ b. absurd (ne (ap (λ (z : Item). z.number) (sym b.1) ∙ w.3))) (which items x w.0 w.1 w.2)

pub mark_more : (items : List Item) (marks : List Bool) (i : ℕ) (x : Item) → Marked items marks → x.number ≡ suc i → i < length marks → slice_get marks i ≡ Some false → x.above ≤ length marks → x.below ≤ length marks → Marked (items ++ x ∷ []) (set marks i true)
mark_more items marks i x m number inside unmarked above below = record {
  same = λ j low. elim (cases_eq j i) [
    | inl e ↦ (λ t. (length items, x, get_end items x, number ∙ ap suc (sym e)), λ w. ap (slice_get (set marks i true)) e ∙ set_here marks i true inside)
    | inr ne ↦ (let o = set_off marks i j true ne in let before = m.same j (omega (arith, low, length-set marks i true)) in (
      λ t. in_front items x (suc j) (before.0 (sym o ∙ t)),
      λ w. o ∙ before.1 (in_new items x (suc j) w (λ f. ne (omega (arith, f, number)))),
    ))
  ];
  count = trues_set marks i unmarked ∙ omega (arith, m.count, long items x);
  low = λ k y at. elim (which items x k y at) [
    | inl old ↦ (let l = m.low k y old in let s = length-set marks i true in (l.0, omega (arith, l.1, s), omega (arith, l.2, s), omega (arith, l.3, s)))
    | inr new ↦ (let e = new.1 in let s = length-set marks i true in (omega (arith, number, ap (λ (z : Item). z.number) e), omega (arith, number, inside, s, ap (λ (z : Item). z.number) e), omega (arith, above, s, ap (λ (z : Item). z.above) e), omega (arith, below, s, ap (λ (z : Item). z.below) e)))
  ];
}

pub unmarked_out : (items : List Item) (marks : List Bool) (i : ℕ) → Marked items marks → i < length marks → slice_get marks i ≡ Some false → IsItem items (suc i) → ⊥
unmarked_out items marks i m low f w = let t = (m.same i low).1 w in let e : Some true ≡ Some false = sym t ∙ f in cc

-- no more are reached than there are
pub few_items : (items : List Item) (marks : List Bool) → Marked items marks → length items ≤ length marks
few_items items marks m = omega (arith, m.count, trues_most marks)

falses : (n i : ℕ) → i < n → slice_get (replicate n false) i ≡ Some false
falses zero i low = absurd (omega (arith, low))
falses (suc n) zero low = refl
falses (suc n) (suc i) low = falses n i (omega (arith, low))

no_trues : (n : ℕ) → trues (replicate n false) ≡ 0
no_trues zero = refl
no_trues (suc n) = no_trues n

pub unmarked : (items : List Item) (marks : List Bool) (n : ℕ) → items ≡ [] → marks ≡ replicate n false → Marked items marks
unmarked items marks n none is = record {
  same = λ i low. (
    λ t. absurd (let l : i < n = omega (arith, low, ap length is, length-replicate {A = Bool} n false) in let f = falses n i l in let e : Some true ≡ Some false = sym t ∙ ap (λ (l : List Bool). slice_get l i) is ∙ f in cc),
    λ w. absurd (let e = w.2 in let f = ap (λ (l : List Item). slice_get l w.0) none in let k : None ≡ Some w.1 = sym f ∙ e in cc),
  );
  count = ap trues is ∙ no_trues n ∙ sym (ap length none);
  low = λ k x at. absurd (let f = ap (λ (l : List Item). slice_get l k) none in let e : None ≡ Some x = sym f ∙ at in cc);
}
