-- Records reached from the buckets, one by one.
use Rattle.std.proofs.Common.{◌≡◌, ◌≢◌, ◌∙◌, ◌⊎◌, inl, inr, ⊎_elim, ℕ, ◌+◌, ◌*◌, ◌<◌, ◌≤◌, List, [], ◌∷◌, ◌++◌, length, refl, sym, ap, subst, arith, Some, None, Bool, cond}
use Rattle.std.specs.Prelude.{slice_get, ◌==◌, if◌then◌else◌}
use Rattle.std.proofs.lemmas.Bool.{cases_lt, eq-eqb, ne_eqb}
use Rattle.std.specs.declared.cmp.Ordering.TheVariants.{Less, Greater}
use Rattle.hf_block.specs.Pieces.{Record}
use Rattle.hf_tree.specs.declared.parent.Parent.TheVariants.{Bucket, Left, Right}
use Rattle.hf_tree.specs.Keys.{key_cmp}
use Rattle.hf_tree.specs.Rules.{Links, Records, Turn, left, right, turned, Way, end_of, Leads, IsRecord, NamesRecords, ReachedOnce, AreAtHome, AreInOrder}
use Rattle.hf_tree.proofs.Orders.{less_then, greater_then}
use Rattle.hf_tree.proofs.Ways.{IsBare, AreShort, none_zero}
use Rattle.hf_survey.specs.Reaching.{Reached, code, root, child, IsIn, Origin, IsReached, Reach, IsAtHome, IsBetween}
use Rattle.hf_survey.proofs.Lists.{get_low, get_front, get_end, which, same_item}

pub child_place : (t : Turn) (y : Reached) (p : ℕ) → (child t y p).place ≡ p
child_place left y p = refl
child_place right y p = refl

pub child_bucket : (t : Turn) (y : Reached) (p : ℕ) → (child t y p).bucket ≡ y.bucket
child_bucket left y p = refl
child_bucket right y p = refl

pub code_same : (s t : Turn) → code s ≡ code t → s ≡ t
code_same left left e = refl
code_same left right e = absurd (omega (arith, e))
code_same right left e = absurd (omega (arith, e))
code_same right right e = refl

pub code_low : (t : Turn) → code t < 2
code_low left = omega arith
code_low right = omega arith

-- the ways with one more
abbrev with_way : ℕ → List Turn → (ℕ → List Turn) → ℕ → List Turn
with_way m w ways i = if i == m then w else ways i

module _ (links : Links) (records : Records) (n : ℕ) where
  pub reach_start : Reach links records n [] 0 0
  reach_start = record {
    ways = λ i. [];
    each = λ i x e. absurd (let f : None ≡ Some x = e in cc);
    buckets = λ b low. absurd (omega (arith, low));
    chains = λ k y t e low. absurd (let f : None ≡ Some y = e in cc);
    apart = λ i j x y e. absurd (let f : None ≡ Some x = e in cc);
  }

  origin_later : (items : List Reached) (roots done roots' done' : ℕ) (ways : ℕ → List Turn) (way : List Turn) (x : Reached) → roots ≤ roots' → done ≤ done' → Origin items roots done ways way x → Origin items roots' done' ways way x
  origin_later items roots done roots' done' ways way x le le2 (inl o) = inl (o.0, o.1, omega (arith, o.2, le))
  origin_later items roots done roots' done' ways way x le le2 (inr o) = inr (o.0, o.1, o.2, o.3, omega (arith, o.4, le2), o.5, o.6)

  each_later : (items : List Reached) (roots done roots' done' : ℕ) (ways : ℕ → List Turn) (i : ℕ) (x : Reached) → roots ≤ roots' → done ≤ done' → IsReached links records n items roots done ways i x → IsReached links records n items roots' done' ways i x
  each_later items roots done roots' done' ways i x le le2 r = record { is = r.is; leads = r.leads; short = r.short; origin = origin_later items roots done roots' done' ways (ways i) x le le2 r.origin }

  -- a link that names none
  pub bucket_none : (items : List Reached) (roots done : ℕ) → links (Bucket roots) ≡ 0 → Reach links records n items roots done → Reach links records n items (roots + 1) done
  bucket_none items roots done none r = record {
    ways = r.ways;
    each = λ i x e. each_later items roots done (roots + 1) done r.ways i x (omega arith) (omega arith) (r.each i x e);
    buckets = λ b low. elim (cases_lt b roots) [ inl less ↦ r.buckets b less | inr high ↦ (let e : b ≡ roots = omega (arith, low, high) in inl (ap (λ z. links (Bucket z)) e ∙ none)) ];
    chains = r.chains;
    apart = r.apart;
  }

  pub chain_none : (items : List Reached) (roots done k : ℕ) (y : Reached) (t : Turn) → slice_get items k ≡ Some y → done ≡ 2 * k + code t → links (turned t y.place) ≡ 0 → Reach links records n items roots done → Reach links records n items roots (done + 1)
  chain_none items roots done k y t at is none r = record {
    ways = r.ways;
    each = λ i x e. each_later items roots done roots (done + 1) r.ways i x (omega arith) (omega arith) (r.each i x e);
    buckets = r.buckets;
    chains = λ l z s e low. elim (cases_lt (2 * l + code s) done) [
      | inl less ↦ r.chains l z s e less
      | inr high ↦ (let f : l ≡ k = omega (arith, low, high, is, code_low s, code_low t) in let c : s ≡ t = code_same s t (omega (arith, low, high, is, f)) in let g : z ≡ y = same_item (slice_get items k) z y (ap (slice_get items) (sym f) ∙ e) at in inl ((λ i. links (turned (c i) (g i).place)) ∙ none))
    ];
    apart = r.apart;
  }

  -- a record more
  pub pushed : (items : List Reached) (roots done roots' done' : ℕ) (x : Reached) (w : List Turn) (r : Reach links records n items roots done) → roots ≤ roots' → done ≤ done' → done' ≤ 2 * length items
      → IsRecord records x.place → Leads links n (x.bucket, w) x.place → length w ≤ length items → Origin items roots' done' r.ways w x → (IsIn items x.place → ⊥)
      → ((b : ℕ) → roots ≤ b → b < roots' → (links (Bucket b) ≡ x.place) × (x ≡ root b x.place) × (w ≡ []))
      → ((k : ℕ) (y : Reached) (t : Turn) → slice_get items k ≡ Some y → done ≤ 2 * k + code t → 2 * k + code t < done' → (links (turned t y.place) ≡ x.place) × (x ≡ child t y x.place) × (w ≡ t ∷ r.ways k))
      → Reach links records n (items ++ x ∷ []) roots' done'
  pushed items roots done roots' done' x w r le le2 most is leads short origin fresh newb newc = record {
    ways = with_way (length items) w r.ways;
    each = λ i y e. elim (which items x i y e) [ inl f ↦ old i y f | inr f ↦ new i y f.0 f.1 ];
    buckets = λ b low. elim (cases_lt b roots) [
      | inl less ↦ ⊎_elim (λ z. inl z) (λ o. inr (o.0, get_front items x o.0 (get_low items o.0 (root b (links (Bucket b))) o.1) ∙ o.1, off o.0 (get_low items o.0 (root b (links (Bucket b))) o.1) ∙ o.2)) (r.buckets b less)
      | inr high ↦ (let o = newb b high low in inr (length items, get_end items x ∙ ap (λ (z : Reached). Some z) (o.1 ∙ ap (root b) (sym o.0)), at (length items) refl ∙ o.2))
    ];
    chains = λ k y t e low. elim (which items x k y e) [
      | inr f ↦ absurd (omega (arith, f.0, low, most))
      | inl f ↦ elim (cases_lt (2 * k + code t) done) [
        | inl less ↦ ⊎_elim (λ z. inl z) (λ o. inr (o.0, get_front items x o.0 (get_low items o.0 (child t y (links (turned t y.place))) o.1) ∙ o.1, off o.0 (get_low items o.0 (child t y (links (turned t y.place))) o.1) ∙ o.2 ∙ ap (λ (l : List Turn). t ∷ l) (sym (off k (get_low items k y f))))) (r.chains k y t f less)
        | inr high ↦ (let o = newc k y t f high low in inr (length items, get_end items x ∙ ap (λ (z : Reached). Some z) (o.1 ∙ ap (child t y) (sym o.0)), at (length items) refl ∙ o.2 ∙ ap (λ (l : List Turn). t ∷ l) (sym (off k (get_low items k y f)))))
      ]
    ];
    apart = λ i j y z e f same. elim (which items x i y e) [
      | inl a ↦ elim (which items x j z f) [
        | inl b ↦ r.apart i j y z a b same
        | inr b ↦ absurd (fresh (i, y, a, same ∙ ap (λ (q : Reached). q.place) b.1))
      ]
      | inr a ↦ elim (which items x j z f) [
        | inl b ↦ absurd (fresh (j, z, b, sym same ∙ ap (λ (q : Reached). q.place) a.1))
        | inr b ↦ a.0 ∙ sym b.0
      ]
    ];
  }
    where
      at : (i : ℕ) → i ≡ length items → with_way (length items) w r.ways i ≡ w
      at i e = ap (λ (b : Bool). cond b w (r.ways i)) (eq-eqb i (length items) e)

      off : (i : ℕ) → i < length items → with_way (length items) w r.ways i ≡ r.ways i
      off i low = ap (λ (b : Bool). cond b w (r.ways i)) (ne_eqb i (length items) (omega (arith, low)))

      carried : (v : List Turn) (y : Reached) → Origin items roots' done' r.ways v y → Origin (items ++ x ∷ []) roots' done' (with_way (length items) w r.ways) v y
      carried v y (inl o) = inl o
      carried v y (inr o) = inr (o.0, o.1, o.2, get_front items x o.0 (get_low items o.0 o.1 o.3) ∙ o.3, o.4, o.5 ∙ ap (λ (l : List Turn). o.2 ∷ l) (sym (off o.0 (get_low items o.0 o.1 o.3))), o.6)

      old : (i : ℕ) (y : Reached) → slice_get items i ≡ Some y → IsReached links records n (items ++ x ∷ []) roots' done' (with_way (length items) w r.ways) i y
      old i y e =
          let q = r.each i y e in
          let low = get_low items i y e in
          record {
            is = q.is;
            leads = (q.leads.0, ap (λ (l : List Turn). links (end_of links y.bucket l)) (off i low) ∙ q.leads.1);
            short = subst (λ (l : List Turn). length l ≤ i) (sym (off i low)) q.short;
            origin = subst (λ (l : List Turn). Origin (items ++ x ∷ []) roots' done' (with_way (length items) w r.ways) l y) (sym (off i low)) (carried (r.ways i) y (origin_later items roots done roots' done' r.ways (r.ways i) y le le2 q.origin));
          }

      new : (i : ℕ) (y : Reached) → i ≡ length items → y ≡ x → IsReached links records n (items ++ x ∷ []) roots' done' (with_way (length items) w r.ways) i y
      new i y e f = subst (λ (z : Reached). IsReached links records n (items ++ x ∷ []) roots' done' (with_way (length items) w r.ways) i z) (sym f) (record {
        is = is;
        leads = (leads.0, ap (λ (l : List Turn). links (end_of links x.bucket l)) (at i e) ∙ leads.1);
        short = subst (λ (l : List Turn). length l ≤ i) (sym (at i e)) (omega (arith, short, e));
        origin = subst (λ (l : List Turn). Origin (items ++ x ∷ []) roots' done' (with_way (length items) w r.ways) l x) (sym (at i e)) (carried w x origin);
      })

  -- ---- a record reached twice

  pub bucket_twice : (items : List Reached) (roots done : ℕ) → roots < n → Reach links records n items roots done → IsIn items (links (Bucket roots)) → ReachedOnce links records n → ⊥
  bucket_twice items roots done low r (j, y, at, e) once =
      let q = r.each j y at in
      let w = once y.place q.is in
      let a = w.2 (y.bucket, r.ways j) q.leads in
      let b = w.2 (roots, []) (low, sym e) in
      let c : ◌≡◌ {A = Way} (y.bucket, r.ways j) (roots, []) = a ∙ sym b in
      let bucket : y.bucket ≡ roots = ap (λ (z : Way). z.0) c in
      let way : r.ways j ≡ [] = ap (λ (z : Way). z.1) c in
      ⊎_elim (λ o. omega (arith, o.2, bucket)) (λ o. (let f : [] ≡ o.2 ∷ r.ways o.0 = sym way ∙ o.5 in cc)) q.origin

  -- the places of two records whose ways are the same
  same_way : (items : List Reached) (roots done : ℕ) (r : Reach links records n items roots done) (k l : ℕ) (y u : Reached) → slice_get items k ≡ Some y → slice_get items l ≡ Some u → u.bucket ≡ y.bucket → r.ways l ≡ r.ways k → (l ≡ k) × (u ≡ y)
  same_way items roots done r k l y u at al bucket way =
      let qk = r.each k y at in
      let ql = r.each l u al in
      let place : u.place ≡ y.place = sym ql.leads.1 ∙ (λ i. links (end_of links (bucket i) (way i))) ∙ qk.leads.1 in
      let e = r.apart l k u y al at place in
      (e, same_item (slice_get items k) u y (ap (slice_get items) (sym e) ∙ al) at)

  pub chain_twice : (items : List Reached) (roots done k : ℕ) (y : Reached) (t : Turn) → slice_get items k ≡ Some y → done ≡ 2 * k + code t → Reach links records n items roots done → IsIn items (links (turned t y.place)) → ReachedOnce links records n → ⊥
  chain_twice items roots done k y t at is r (j, z, atj, e) once =
      let qk = r.each k y at in
      let q = r.each j z atj in
      let w = once z.place q.is in
      let a = w.2 (z.bucket, r.ways j) q.leads in
      let b = w.2 (y.bucket, t ∷ r.ways k) (qk.leads.0, ap (λ (p : ℕ). links (turned t p)) qk.leads.1 ∙ sym e) in
      let c : ◌≡◌ {A = Way} (z.bucket, r.ways j) (y.bucket, t ∷ r.ways k) = a ∙ sym b in
      let bucket : z.bucket ≡ y.bucket = ap (λ (v : Way). v.0) c in
      let way : r.ways j ≡ t ∷ r.ways k = ap (λ (v : Way). v.1) c in
      ⊎_elim (λ o. (let f : [] ≡ t ∷ r.ways k = sym o.0 ∙ way in cc))
      (λ o. let f : o.2 ∷ r.ways o.0 ≡ t ∷ r.ways k = sym o.5 ∙ way in
      let g : o.2 ≡ t = cc in
      let h : r.ways o.0 ≡ r.ways k = cc in
      let home : o.1.bucket ≡ y.bucket = sym (ap (λ (x : Reached). x.bucket) o.6 ∙ child_bucket o.2 o.1 z.place) ∙ bucket in
      let m = same_way items roots done r k o.0 y o.1 at o.3 home h in
      omega (arith, m.0, ap code g, o.4, is))
      q.origin

  -- ---- all that was reached

  zero_turn : IsBare links records → (t : Turn) → links (turned t 0) ≡ 0
  zero_turn b left = b.lefts
  zero_turn b right = b.rights

  -- the record at the end of a way
  abbrev Ends : (items : List Reached) (roots done : ℕ) → Reach links records n items roots done → ℕ → List Turn → Type 0
  Ends items roots done r b turns = (j : ℕ) × (x : Reached) × (slice_get items j ≡ Some x) × (x.place ≡ links (end_of links b turns)) × (x.bucket ≡ b) × (r.ways j ≡ turns)

  complete : (items : List Reached) (done : ℕ) (r : Reach links records n items n done) → IsBare links records → 2 * length items ≤ done → (b : ℕ) (turns : List Turn) → b < n → (links (end_of links b turns) ≡ 0) ⊎ Ends items n done r b turns
  complete items done r bare all b [] low = ⊎_elim (λ z. inl z) (λ o. inr (o.0, root b (links (Bucket b)), o.1, refl, refl, o.2)) (r.buckets b low)
  complete items done r bare all b (t ∷ turns) low = ⊎_elim
      (λ z. inl (ap (λ (p : ℕ). links (turned t p)) z ∙ zero_turn bare t))
      (λ e. let place : links (turned t e.1.place) ≡ links (turned t (links (end_of links b turns))) = ap (λ (p : ℕ). links (turned t p)) e.3 in
      ⊎_elim (λ z. inl (sym place ∙ z))
      (λ o. inr (o.0, child t e.1 (links (turned t e.1.place)), o.1, child_place t e.1 (links (turned t e.1.place)) ∙ place, child_bucket t e.1 (links (turned t e.1.place)) ∙ e.4, o.2 ∙ ap (λ (l : List Turn). t ∷ l) e.5))
      (r.chains e.0 e.1 t e.2 (let l = get_low items e.0 e.1 e.2 in let c = code_low t in omega (arith, l, c, all))))
      (complete items done r bare all b turns low)

  item_of : (items : List Reached) (done : ℕ) (r : Reach links records n items n done) → IsBare links records → 2 * length items ≤ done → (way : Way) (p : ℕ) (s : Record) → records p ≡ Some s → Leads links n way p → Ends items n done r way.0 way.1
  item_of items done r bare all way p s at leads = ⊎_elim (λ z. absurd (none_zero records p s bare.none at (sym leads.1 ∙ z))) (λ e. e) (complete items done r bare all way.0 way.1 leads.0)

  pub reached_once : (items : List Reached) (done : ℕ) → Reach links records n items n done → IsBare links records → 2 * length items ≤ done → ((p : ℕ) → IsRecord records p → IsIn items p) → ReachedOnce links records n × AreShort links records n (length items)
  reached_once items done r bare all whole = (
    λ p is.
        let w = whole p is in
        let q = r.each w.0 w.1 w.2 in (
          (w.1.bucket, r.ways w.0),
          (q.leads.0, q.leads.1 ∙ w.3),
          λ other leads.
              let e = item_of items done r bare all other p is.0 is.1 leads in
              let place : e.1.place ≡ w.1.place = e.3 ∙ leads.1 ∙ sym w.3 in
              let i = r.apart e.0 w.0 e.1 w.1 e.2 w.2 place in
              let x : e.1 ≡ w.1 = same_item (slice_get items w.0) e.1 w.1 (ap (slice_get items) (sym i) ∙ e.2) w.2 in
              let bucket : other.0 ≡ w.1.bucket = sym e.4 ∙ ap (λ (z : Reached). z.bucket) x in
              let turns : other.1 ≡ r.ways w.0 = sym e.5 ∙ ap r.ways i in
              (λ j. (bucket j, turns j)),
        ),
    λ p way is leads.
        let e = item_of items done r bare all way p is.0 is.1 leads in
        let l = get_low items e.0 e.1 e.2 in
        let s = (r.each e.0 e.1 e.2).short in
        let t : length (r.ways e.0) ≡ length way.1 = ap length e.5 in
        omega (arith, l, s, t),
  )

  -- each link was followed, and so names none, or a record
  chain_named : (items : List Reached) (done : ℕ) → Reach links records n items n done → 2 * length items ≤ done → ((p : ℕ) → IsRecord records p → IsIn items p) → (t : Turn) (p : ℕ) → IsRecord records p → (links (turned t p) ≡ 0) ⊎ IsRecord records (links (turned t p))
  chain_named items done r all whole t p w =
      let k = whole p w in
      let l = get_low items k.0 k.1 k.2 in
      let c = code_low t in
      subst (λ q. (links (turned t q) ≡ 0) ⊎ IsRecord records (links (turned t q))) k.3
      (⊎_elim (λ z. inl z)
      (λ o. inr (subst (λ q. IsRecord records q) (child_place t k.1 (links (turned t k.1.place))) (r.each o.0 (child t k.1 (links (turned t k.1.place))) o.1).is))
      (r.chains k.0 k.1 t k.2 (omega (arith, l, c, all))))

  pub all_named : (items : List Reached) (done : ℕ) → Reach links records n items n done → 2 * length items ≤ done → ((p : ℕ) → IsRecord records p → IsIn items p) → NamesRecords links records n
  all_named items done r all whole (Bucket b) low = ⊎_elim (λ z. inl z) (λ o. inr (r.each o.0 (root b (links (Bucket b))) o.1).is) (r.buckets b low)
  all_named items done r all whole (Left p) w = chain_named items done r all whole left p w
  all_named items done r all whole (Right p) w = chain_named items done r all whole right p w

  pub not_reached : (items : List Reached) (done : ℕ) → Reach links records n items n done → IsBare links records → 2 * length items ≤ done → (p : ℕ) → IsRecord records p → (IsIn items p → ⊥) → ReachedOnce links records n → ⊥
  not_reached items done r bare all p is missing once =
      let w = once p is in
      let e = item_of items done r bare all w.0 p is.0 is.1 w.1 in
      missing (e.0, e.1, e.2, e.3 ∙ w.1.1)

  -- ---- at home

  pub all_home : (items : List Reached) (done : ℕ) → Reach links records n items n done → IsBare links records → 2 * length items ≤ done → ((i : ℕ) (x : Reached) → slice_get items i ≡ Some x → IsAtHome records n x) → AreAtHome links records n
  all_home items done r bare all home p s way at leads =
      let e = item_of items done r bare all way p s at leads in
      let h = home e.0 e.1 e.2 s (ap records (e.3 ∙ leads.1) ∙ at) in
      (h.0 ∙ e.4, h.1)

  pub not_home : (items : List Reached) (roots done i : ℕ) (x : Reached) → Reach links records n items roots done → slice_get items i ≡ Some x → (IsAtHome records n x → ⊥) → AreAtHome links records n → ⊥
  not_home items roots done i x r at bad home = bad (λ s e. home x.place s (x.bucket, r.ways i) e (r.each i x at).leads)

  -- ---- in order

  -- what hangs left of a record, however far down
  abbrev Greater_ : Reached → Reached → Record → Record → Type 0
  Greater_ x z r s = (key_cmp s.key r.key ≡ Greater) × ((z.above ≡ x.place) ⊎ ((a : Record) × (records z.above ≡ Some a) × (key_cmp a.key r.key ≡ Greater)))

  under_left : (items : List Reached) (roots done : ℕ) (w : Reach links records n items roots done) → ((i : ℕ) (x : Reached) → slice_get items i ≡ Some x → IsBetween records x) → (i : ℕ) (x : Reached) (r : Record) → slice_get items i ≡ Some x → records x.place ≡ Some r
      → (more : List Turn) (j : ℕ) (z : Reached) (s : Record) → slice_get items j ≡ Some z → records z.place ≡ Some s → z.bucket ≡ x.bucket → w.ways j ≡ more ++ (left ∷ w.ways i) → Greater_ x z r s
  under_left items roots done w between i x r at rec [] j z s atj its bucket way = ⊎_elim
      (λ o. absurd (let f : [] ≡ left ∷ w.ways i = sym o.0 ∙ way in cc))
      (λ o.
      let f : o.2 ∷ w.ways o.0 ≡ left ∷ w.ways i = sym o.5 ∙ way in
      let t : o.2 ≡ left = cc in
      let same : w.ways o.0 ≡ w.ways i = cc in
      let home : o.1.bucket ≡ x.bucket = sym (ap (λ (q : Reached). q.bucket) o.6 ∙ child_bucket o.2 o.1 z.place) ∙ bucket in
      let m = same_way items roots done w i o.0 x o.1 at o.3 home same in
      let is : z ≡ child left x z.place = o.6 ∙ (λ l. child (t l) (m.1 l) z.place) in
      let place : z.above ≡ x.place = ap (λ (q : Reached). q.above) is in
      ((between j z atj s its).0 r (ap records place ∙ rec), inl place))
      (w.each j z atj).origin
  under_left items roots done w between i x r at rec (u ∷ more) j z s atj its bucket way = ⊎_elim
      (λ o. absurd (let f : [] ≡ u ∷ (more ++ (left ∷ w.ways i)) = sym o.0 ∙ way in cc))
      (λ o.
      let f : o.2 ∷ w.ways o.0 ≡ u ∷ (more ++ (left ∷ w.ways i)) = sym o.5 ∙ way in
      let same : w.ways o.0 ≡ more ++ (left ∷ w.ways i) = cc in
      let home : o.1.bucket ≡ x.bucket = sym (ap (λ (q : Reached). q.bucket) o.6 ∙ child_bucket o.2 o.1 z.place) ∙ bucket in
      let e = (w.each o.0 o.1 o.3).is in
      go o.2 o.0 o.1 o.6 e (under_left items roots done w between i x r at rec more o.0 o.1 e.0 o.3 e.1 home same))
      (w.each j z atj).origin
    where
      go : (t : Turn) (k : ℕ) (y : Reached) → z ≡ child t y z.place → (e : IsRecord records y.place) → Greater_ x y r e.0 → Greater_ x z r s
      go left k y is e h =
          let place : z.above ≡ y.place = ap (λ (q : Reached). q.above) is in
          let now : records z.above ≡ Some e.0 = ap records place ∙ e.1 in
          (greater_then s.key e.0.key r.key ((between j z atj s its).0 e.0 now) h.0, inr (e.0, now, h.0))
      go right k y is e h =
          let place : z.above ≡ y.above = ap (λ (q : Reached). q.above) is in
          ⊎_elim
          (λ i. let p : z.above ≡ x.place = place ∙ i in ((between j z atj s its).0 r (ap records p ∙ rec), inl p))
          (λ o. let now : records z.above ≡ Some o.0 = ap records place ∙ o.1 in (greater_then s.key o.0.key r.key ((between j z atj s its).0 o.0 now) o.2, inr (o.0, now, o.2)))
          h.1

  -- the record that it hangs left of
  last_left : (items : List Reached) (roots done : ℕ) (w : Reach links records n items roots done) (turns : List Turn) (i : ℕ) (x : Reached) → slice_get items i ≡ Some x → w.ways i ≡ turns → (x.above ≡ 0) ⊎ ((k : ℕ) × (y : Reached) × (more : List Turn) × (slice_get items k ≡ Some y) × (y.place ≡ x.above) × (y.bucket ≡ x.bucket) × (w.ways i ≡ more ++ (left ∷ w.ways k)))
  last_left items roots done w [] i x at is = ⊎_elim
      (λ o. inl (ap (λ (q : Reached). q.above) o.1))
      (λ o. absurd (let f : [] ≡ o.2 ∷ w.ways o.0 = sym is ∙ o.5 in cc))
      (w.each i x at).origin
  last_left items roots done w (u ∷ turns) i x at is = ⊎_elim
      (λ o. absurd (let f : [] ≡ u ∷ turns = sym o.0 ∙ is in cc))
      (λ o. let f : o.2 ∷ w.ways o.0 ≡ u ∷ turns = sym o.5 ∙ is in let same : w.ways o.0 ≡ turns = cc in
      go o.2 o.0 o.1 o.3 o.5 o.6 (last_left items roots done w turns o.0 o.1 o.3 same))
      (w.each i x at).origin
    where
      go : (t : Turn) (k : ℕ) (y : Reached) → slice_get items k ≡ Some y → w.ways i ≡ t ∷ w.ways k → x ≡ child t y x.place
          → (y.above ≡ 0) ⊎ ((l : ℕ) × (z : Reached) × (more : List Turn) × (slice_get items l ≡ Some z) × (z.place ≡ y.above) × (z.bucket ≡ y.bucket) × (w.ways k ≡ more ++ (left ∷ w.ways l)))
          → (x.above ≡ 0) ⊎ ((l : ℕ) × (z : Reached) × (more : List Turn) × (slice_get items l ≡ Some z) × (z.place ≡ x.above) × (z.bucket ≡ x.bucket) × (w.ways i ≡ more ++ (left ∷ w.ways l)))
      go left k y atk way is h = inr (k, y, [], atk, sym (ap (λ (q : Reached). q.above) is), sym (ap (λ (q : Reached). q.bucket) is), way)
      go right k y atk way is h = ⊎_elim
          (λ z. inl (ap (λ (q : Reached). q.above) is ∙ z))
          (λ o. inr (o.0, o.1, right ∷ o.2, o.3, o.4 ∙ sym (ap (λ (q : Reached). q.above) is), o.5 ∙ sym (ap (λ (q : Reached). q.bucket) is), way ∙ ap (λ (l : List Turn). right ∷ l) o.6))
          h

  -- what hangs right of a record, however far down
  abbrev Lesser_ : Reached → Reached → Record → Record → Type 0
  Lesser_ x z r s = (key_cmp s.key r.key ≡ Less) × ((z.below ≡ x.place) ⊎ ((a : Record) × (records z.below ≡ Some a) × (key_cmp a.key r.key ≡ Less)))

  under_right : (items : List Reached) (roots done : ℕ) (w : Reach links records n items roots done) → ((i : ℕ) (x : Reached) → slice_get items i ≡ Some x → IsBetween records x) → (i : ℕ) (x : Reached) (r : Record) → slice_get items i ≡ Some x → records x.place ≡ Some r
      → (more : List Turn) (j : ℕ) (z : Reached) (s : Record) → slice_get items j ≡ Some z → records z.place ≡ Some s → z.bucket ≡ x.bucket → w.ways j ≡ more ++ (right ∷ w.ways i) → Lesser_ x z r s
  under_right items roots done w between i x r at rec [] j z s atj its bucket way = ⊎_elim
      (λ o. absurd (let f : [] ≡ right ∷ w.ways i = sym o.0 ∙ way in cc))
      (λ o.
      let f : o.2 ∷ w.ways o.0 ≡ right ∷ w.ways i = sym o.5 ∙ way in
      let t : o.2 ≡ right = cc in
      let same : w.ways o.0 ≡ w.ways i = cc in
      let home : o.1.bucket ≡ x.bucket = sym (ap (λ (q : Reached). q.bucket) o.6 ∙ child_bucket o.2 o.1 z.place) ∙ bucket in
      let m = same_way items roots done w i o.0 x o.1 at o.3 home same in
      let is : z ≡ child right x z.place = o.6 ∙ (λ l. child (t l) (m.1 l) z.place) in
      let place : z.below ≡ x.place = ap (λ (q : Reached). q.below) is in
      ((between j z atj s its).1 r (ap records place ∙ rec), inl place))
      (w.each j z atj).origin
  under_right items roots done w between i x r at rec (u ∷ more) j z s atj its bucket way = ⊎_elim
      (λ o. absurd (let f : [] ≡ u ∷ (more ++ (right ∷ w.ways i)) = sym o.0 ∙ way in cc))
      (λ o.
      let f : o.2 ∷ w.ways o.0 ≡ u ∷ (more ++ (right ∷ w.ways i)) = sym o.5 ∙ way in
      let same : w.ways o.0 ≡ more ++ (right ∷ w.ways i) = cc in
      let home : o.1.bucket ≡ x.bucket = sym (ap (λ (q : Reached). q.bucket) o.6 ∙ child_bucket o.2 o.1 z.place) ∙ bucket in
      let e = (w.each o.0 o.1 o.3).is in
      go o.2 o.0 o.1 o.6 e (under_right items roots done w between i x r at rec more o.0 o.1 e.0 o.3 e.1 home same))
      (w.each j z atj).origin
    where
      go : (t : Turn) (k : ℕ) (y : Reached) → z ≡ child t y z.place → (e : IsRecord records y.place) → Lesser_ x y r e.0 → Lesser_ x z r s
      go right k y is e h =
          let place : z.below ≡ y.place = ap (λ (q : Reached). q.below) is in
          let now : records z.below ≡ Some e.0 = ap records place ∙ e.1 in
          (less_then s.key e.0.key r.key ((between j z atj s its).1 e.0 now) h.0, inr (e.0, now, h.0))
      go left k y is e h =
          let place : z.below ≡ y.below = ap (λ (q : Reached). q.below) is in
          ⊎_elim
          (λ i. let p : z.below ≡ x.place = place ∙ i in ((between j z atj s its).1 r (ap records p ∙ rec), inl p))
          (λ o. let now : records z.below ≡ Some o.0 = ap records place ∙ o.1 in (less_then s.key o.0.key r.key ((between j z atj s its).1 o.0 now) o.2, inr (o.0, now, o.2)))
          h.1

  -- the record that it hangs right of
  last_right : (items : List Reached) (roots done : ℕ) (w : Reach links records n items roots done) (turns : List Turn) (i : ℕ) (x : Reached) → slice_get items i ≡ Some x → w.ways i ≡ turns → (x.below ≡ 0) ⊎ ((k : ℕ) × (y : Reached) × (more : List Turn) × (slice_get items k ≡ Some y) × (y.place ≡ x.below) × (y.bucket ≡ x.bucket) × (w.ways i ≡ more ++ (right ∷ w.ways k)))
  last_right items roots done w [] i x at is = ⊎_elim
      (λ o. inl (ap (λ (q : Reached). q.below) o.1))
      (λ o. absurd (let f : [] ≡ o.2 ∷ w.ways o.0 = sym is ∙ o.5 in cc))
      (w.each i x at).origin
  last_right items roots done w (u ∷ turns) i x at is = ⊎_elim
      (λ o. absurd (let f : [] ≡ u ∷ turns = sym o.0 ∙ is in cc))
      (λ o. let f : o.2 ∷ w.ways o.0 ≡ u ∷ turns = sym o.5 ∙ is in let same : w.ways o.0 ≡ turns = cc in
      go o.2 o.0 o.1 o.3 o.5 o.6 (last_right items roots done w turns o.0 o.1 o.3 same))
      (w.each i x at).origin
    where
      go : (t : Turn) (k : ℕ) (y : Reached) → slice_get items k ≡ Some y → w.ways i ≡ t ∷ w.ways k → x ≡ child t y x.place
          → (y.below ≡ 0) ⊎ ((l : ℕ) × (z : Reached) × (more : List Turn) × (slice_get items l ≡ Some z) × (z.place ≡ y.below) × (z.bucket ≡ y.bucket) × (w.ways k ≡ more ++ (right ∷ w.ways l)))
          → (x.below ≡ 0) ⊎ ((l : ℕ) × (z : Reached) × (more : List Turn) × (slice_get items l ≡ Some z) × (z.place ≡ x.below) × (z.bucket ≡ x.bucket) × (w.ways i ≡ more ++ (right ∷ w.ways l)))
      go right k y atk way is h = inr (k, y, [], atk, sym (ap (λ (q : Reached). q.below) is), sym (ap (λ (q : Reached). q.bucket) is), way)
      go left k y atk way is h = ⊎_elim
          (λ z. inl (ap (λ (q : Reached). q.below) is ∙ z))
          (λ o. inr (o.0, o.1, left ∷ o.2, o.3, o.4 ∙ sym (ap (λ (q : Reached). q.below) is), o.5 ∙ sym (ap (λ (q : Reached). q.bucket) is), way ∙ ap (λ (l : List Turn). left ∷ l) o.6))
          h

  pub all_ordered : (items : List Reached) (done : ℕ) → Reach links records n items n done → IsBare links records → 2 * length items ≤ done → ((i : ℕ) (x : Reached) → slice_get items i ≡ Some x → IsBetween records x) → AreInOrder links records n
  all_ordered items done w bare all between p q r s way more at there leads =
      let e = item_of items done w bare all way p r at leads in
      let rec : records e.1.place ≡ Some r = ap records (e.3 ∙ leads.1) ∙ at in (
        λ further.
            let f = item_of items done w bare all (way.0, more ++ (left ∷ way.1)) q s there further in
            (under_left items n done w between e.0 e.1 r e.2 rec more f.0 f.1 s f.2 (ap records (f.3 ∙ further.1) ∙ there) (f.4 ∙ sym e.4) (f.5 ∙ ap (λ (l : List Turn). more ++ (left ∷ l)) (sym e.5))).0,
        λ further.
            let f = item_of items done w bare all (way.0, more ++ (right ∷ way.1)) q s there further in
            (under_right items n done w between e.0 e.1 r e.2 rec more f.0 f.1 s f.2 (ap records (f.3 ∙ further.1) ∙ there) (f.4 ∙ sym e.4) (f.5 ∙ ap (λ (l : List Turn). more ++ (right ∷ l)) (sym e.5))).0,
      )

  pub not_ordered : (items : List Reached) (roots done i : ℕ) (x : Reached) → Reach links records n items roots done → IsBare links records → slice_get items i ≡ Some x → (IsBetween records x → ⊥) → AreInOrder links records n → ⊥
  not_ordered items roots done i x w bare at bad order = bad (λ r rec.
      let me = w.each i x at in (
        λ a above. ⊎_elim
            (λ z. absurd (let f : None ≡ Some a = sym bare.none ∙ ap records (sym z) ∙ above in cc))
            (λ o. let k = w.each o.0 o.1 o.3 in
            (order o.1.place x.place a r (o.1.bucket, w.ways o.0) o.2 (ap records o.4 ∙ above) rec k.leads).0 (k.leads.0, (λ j. links (end_of links (o.5 j) (sym o.6 j))) ∙ me.leads.1))
            (last_left items roots done w (w.ways i) i x at refl),
        λ a below. ⊎_elim
            (λ z. absurd (let f : None ≡ Some a = sym bare.none ∙ ap records (sym z) ∙ below in cc))
            (λ o. let k = w.each o.0 o.1 o.3 in
            (order o.1.place x.place a r (o.1.bucket, w.ways o.0) o.2 (ap records o.4 ∙ below) rec k.leads).1 (k.leads.0, (λ j. links (end_of links (o.5 j) (sym o.6 j))) ∙ me.leads.1))
            (last_right items roots done w (w.ways i) i x at refl),
      ))

  -- what it hangs between are records
  pub above_record : (items : List Reached) (roots done i : ℕ) (x : Reached) → Reach links records n items roots done → slice_get items i ≡ Some x → x.above ≢ 0 → IsRecord records x.above
  above_record items roots done i x w at some = ⊎_elim (λ z. absurd (some z)) (λ o. subst (λ p. IsRecord records p) o.4 (w.each o.0 o.1 o.3).is) (last_left items roots done w (w.ways i) i x at refl)

  pub below_record : (items : List Reached) (roots done i : ℕ) (x : Reached) → Reach links records n items roots done → slice_get items i ≡ Some x → x.below ≢ 0 → IsRecord records x.below
  below_record items roots done i x w at some = ⊎_elim (λ z. absurd (some z)) (λ o. subst (λ p. IsRecord records p) o.4 (w.each o.0 o.1 o.3).is) (last_right items roots done w (w.ways i) i x at refl)
