-- One record more, one less: what becomes of all buckets.
use Rattle.std.proofs.Common.{◌≡◌, ◌≢◌, ◌∙◌, ◌⊎◌, ⊎_elim, ℕ, ◌<◌, refl, sym, ap, subst, Option, Some, None, arith, Bool, true, false, cond}
use Rattle.std.specs.Prelude.{◌==◌}
use Rattle.std.specs.declared.cmp.Ordering.TheVariants.{Less, Equal, Greater}
use Rattle.std.proofs.lemmas.Bool.Decides.{nat_tests}
use Rattle.hf_tree.specs.declared.parent.Parent.{Parent}
use Rattle.hf_tree.specs.declared.parent.Parent.TheVariants.{Bucket, Left, Right}
use Rattle.hf_tree.specs.declared.parent.Found.TheVariants.{Here, Gap}
use Rattle.hf_tree.specs.Keys.{Key, key_cmp, bucket_of}
use Rattle.hf_tree.specs.Trees.{Tree, leaf, node, AllOf, Above, Below, Ordered, seek, look, graft, part}
use Rattle.hf_tree.specs.Views.{View, Hangs, Changed, owner, Apart, Owned, parent_of, Hung, Holds, with_key}
use Rattle.hf_tree.proofs.Orders.{three, same_key, turned, turned_back, less_then, greater_then, equal_same}
use Rattle.hf_tree.proofs.Trees.{all_map, all_both, all_graft, all_part, ordered_graft, look_graft_same, look_graft_other}
use Rattle.hf_tree.proofs.Hanging.{Keyed, hangs_keys, hangs_at, frame, owned_all, Touches, touches_owned, graft_hangs}

-- one tree hangs from one link
pub hangs_one : (v : View) (a : ℕ) (t u : Tree) → Hangs v a t → Hangs v a u → t ≡ u
hangs_one v a leaf leaf h i = refl
hangs_one v a leaf (node p q l r) h i = absurd (i.1 (sym i.0 ∙ h))
hangs_one v a (node p q l r) leaf h i = absurd (h.1 (sym h.0 ∙ i))
hangs_one v a (node p q l r) (node x y m s) h i =
    let e : p ≡ x = sym h.0 ∙ i.0 in
    let k : q ≡ y = (let hk = h.2 in let ik = i.2 in let g = ap (λ (z : ℕ). v.keys z) e in cc) in
    let f : l ≡ m = hangs_one v (v.links (Left p)) l m h.3 (subst (λ z. Hangs v (v.links (Left z)) m) (sym e) i.3) in
    let g : r ≡ s = hangs_one v (v.links (Right p)) r s h.4 (subst (λ z. Hangs v (v.links (Right z)) s) (sym e) i.4) in
    cc

-- where the search ends in a gap the key is none of the tree's
pub gap_lacks : (from : Parent) (t : Tree) (k : Key) (to : Parent) → Ordered t → seek from t k ≡ Gap to → (part t k ≡ leaf) × AllOf (λ p j. j ≢ k) t
gap_lacks from leaf k to o h = (refl, tt)
gap_lacks from (node p q l r) k to o h = three (key_cmp k q)
    (λ e. let i : seek (Right p) r k ≡ Gap to = rw e at h in
    let w = gap_lacks (Right p) r k to o.3 i in
    (rw e w.0, (ne q e, all_map (Above q) (λ x j. j ≢ k) (λ x j a. more j (greater_then j q k a (turned_back k q e))) l o.0, w.1)))
    (λ e. absurd (let i : Here p from ≡ Gap to = rw e at h in cc))
    (λ e. let i : seek (Left p) l k ≡ Gap to = rw e at h in
    let w = gap_lacks (Left p) l k to o.2 i in
    (rw e w.0, (ne2 q e, w.1, all_map (Below q) (λ x j. j ≢ k) (λ x j b. less j (less_then j q k b (turned k q e))) r o.1)))
  where
    ne : (q : Key) → key_cmp k q ≡ Less → q ≢ k
    ne q e i = let s = same_key k in let f : key_cmp k q ≡ key_cmp k k = ap (λ (z : Key). key_cmp k z) i in cc

    ne2 : (q : Key) → key_cmp k q ≡ Greater → q ≢ k
    ne2 q e i = let s = same_key k in let f : key_cmp k q ≡ key_cmp k k = ap (λ (z : Key). key_cmp k z) i in cc

    more : (j : Key) → key_cmp j k ≡ Greater → j ≢ k
    more j g i = let s = same_key k in let f : key_cmp j k ≡ key_cmp k k = ap (λ (z : Key). key_cmp z k) i in cc

    less : (j : Key) → key_cmp j k ≡ Less → j ≢ k
    less j g i = let s = same_key k in let f : key_cmp j k ≡ key_cmp k k = ap (λ (z : Key). key_cmp z k) i in cc

-- where it ends at a record, that is the root of the part
pub here_part : (from : Parent) (t : Tree) (k : Key) (at : ℕ) (par : Parent) → seek from t k ≡ Here at par → (l : Tree) × (r : Tree) × (part t k ≡ node at k l r)
here_part from leaf k at par h = absurd (let i : Gap from ≡ Here at par = h in cc)
here_part from (node p q l r) k at par h = three (key_cmp k q)
    (λ e. let i : seek (Right p) r k ≡ Here at par = rw e at h in let w = here_part (Right p) r k at par i in (w.0, w.1, rw e w.2))
    (λ e. let i : Here p from ≡ Here at par = rw e at h in let s = equal_same k q e in let j : p ≡ at = cc in (l, r, rw e (λ z. node (j z) (sym s z) l r)))
    (λ e. let i : seek (Left p) l k ≡ Here at par = rw e at h in let w = here_part (Left p) l k at par i in (w.0, w.1, rw e w.2))

-- a tree of another bucket is untouched
other_bucket : (v w : View) (n b d : ℕ) (D : Parent → Type 0) (t u : Tree) → Changed v w D → b ≢ d → ((c : Parent) → D c → (c ≡ Bucket b) ⊎ Owned c t) → Hung v n b t → Hung v n d u → Hung w n d u
other_bucket v w n b d D t u c apart owned h i = record {
  hangs = hangs_at w (v.links (Bucket d)) (w.links (Bucket d)) u (c.others (Bucket d) (λ x. ⊎_elim (λ e. apart (let j : Bucket d ≡ Bucket b = e in cc)) (λ o. no_bucket t o) (owned (Bucket d) x)))
      (frame v w D (v.links (Bucket d)) u c (all_both (Keyed v) (λ p k. bucket_of n k ≡ d) (λ p k. (D (Left p) → ⊥) × (D (Right p) → ⊥)) (λ p k key home. (λ x. clash p k key home (Left p) refl (λ e. let f : Left p ≡ Bucket b = e in cc) (owned (Left p) x), λ x. clash p k key home (Right p) refl (λ e. let f : Right p ≡ Bucket b = e in cc) (owned (Right p) x))) u (hangs_keys v (v.links (Bucket d)) u i.hangs) i.home) i.hangs);
  ordered = i.ordered;
  home = i.home;
}
  where
    no_bucket : (t : Tree) → Owned (Bucket d) t → ⊥
    no_bucket leaf o = o
    no_bucket (node p q l r) o = ⊎_elim (λ (e : None ≡ Some p). (let f : None ≡ Some p = e in cc)) (λ x. ⊎_elim (λ j. no_bucket l j) (λ j. no_bucket r j) x) o

    clash : (p : ℕ) (k : Key) → v.keys p ≡ Some k → bucket_of n k ≡ d → (x : Parent) → owner x ≡ Some p → (x ≡ Bucket b → ⊥) → (x ≡ Bucket b) ⊎ Owned x t → ⊥
    clash p k key home x own ne o = ⊎_elim ne (λ j.
        let w = owned_all (λ y ky. (v.keys y ≡ Some ky) × (bucket_of n ky ≡ b)) x t (all_both (Keyed v) (λ p k. bucket_of n k ≡ b) (λ y ky. (v.keys y ≡ Some ky) × (bucket_of n ky ≡ b)) (λ y ky m s. (m, s)) t (hangs_keys v (v.links (Bucket b)) t h.hangs) h.home) j in
        let e : w.at ≡ p = (let ow = w.owns in cc) in
        let f = ap (λ (z : ℕ). v.keys z) e in
        let hk = w.has.0 in
        let g : w.key ≡ k = cc in
        apart (sym w.has.1 ∙ ap (bucket_of n) g ∙ home)) o

-- a graft in one bucket
record Grafted (v w : View) (n : ℕ) (m : Key → Option ℕ) (k : Key) (o : Option ℕ) : Type 0 where
  holds : Holds w n (with_key m k o)

two : {G : Type 0} (b : Bool) → (b ≡ true → G) → (b ≡ false → G) → G
two true t f = t refl
two false t f = f refl

pub graft_holds : (v w : View) (n : ℕ) (m : Key → Option ℕ) (k : Key) (o : Option ℕ) (D : Parent → Type 0) (s : Tree) (h : Holds v n m) → bucket_of n k < n → Changed v w D
    → ((c : Parent) → D c → Touches c (Bucket (bucket_of n k)) (h.trees (bucket_of n k)) k)
    → Hangs w (w.links (parent_of (seek (Bucket (bucket_of n k)) (h.trees (bucket_of n k)) k))) s
    → Ordered s → ((P : ℕ → Key → Type 0) → AllOf P (part (h.trees (bucket_of n k)) k) → ((p : ℕ) → P p k) → AllOf P s)
    → look s k ≡ o → ((j : Key) → j ≢ k → look s j ≡ look (part (h.trees (bucket_of n k)) k) j) → Holds w n (with_key m k o)
graft_holds v w n m k o D s h low c touches hangs ord sub same other = record {
  trees = λ d. cond (d == b) (graft t k s) (h.trees d);
  hung = λ d dl. two (d == b) (λ e. rw e (subst (λ z. Hung w n z (graft t k s)) (sym (is d b e)) here)) (λ e. rw e (other_bucket v w n b d D t (h.trees d) c (λ i. not d b e (sym i)) (λ x y. touches_owned x (Bucket b) t k (touches x y)) hung (h.hung d dl)));
  map = λ j. three (key_cmp j k) (λ e. rw e (h.map j ∙ sym (kept j (λ i. unequal j (λ f. (let g : Less ≡ Equal = sym e ∙ f in cc)) i)))) (λ e. rw e (at_key j (equal_same j k e))) (λ e. rw e (h.map j ∙ sym (kept j (λ i. unequal j (λ f. (let g : Greater ≡ Equal = sym e ∙ f in cc)) i))));
}
  where
    b : ℕ
    b = bucket_of n k

    t : Tree
    t = h.trees b

    hung : Hung v n b t
    hung = h.hung b low

    is : (d x : ℕ) → (d == x) ≡ true → d ≡ x
    is d x e = grind (arith, nat_tests)

    not : (d x : ℕ) → (d == x) ≡ false → d ≢ x
    not d x e = grind (arith, nat_tests)

    yes_same : (d x : ℕ) → d ≡ x → (d == x) ≡ true
    yes_same d x e = grind (arith, nat_tests)

    apart_bucket : (u : Tree) → Apart (Bucket b) u
    apart_bucket leaf = tt
    apart_bucket (node p q l r) = (λ e. (let f : None ≡ Some p = e in cc), apart_bucket l, apart_bucket r)

    here : Hung w n b (graft t k s)
    here = record {
      hangs = graft_hangs v w D (Bucket b) t k s c touches hung.hangs hung.ordered (apart_bucket t) hangs;
      ordered = ordered_graft t k s sub hung.ordered ord;
      home = all_graft (λ p j. bucket_of n j ≡ b) t k s hung.home (sub (λ p j. bucket_of n j ≡ b) (all_part (λ p j. bucket_of n j ≡ b) t k hung.home) (λ p. refl));
    }

    unequal : (j : Key) → (key_cmp j k ≡ Equal → ⊥) → j ≡ k → ⊥
    unequal j f i = f (ap (λ (z : Key). key_cmp z k) i ∙ same_key k)

    kept : (j : Key) → (j ≡ k → ⊥) → look (cond (bucket_of n j == b) (graft t k s) (h.trees (bucket_of n j))) j ≡ look (h.trees (bucket_of n j)) j
    kept j ne = two (bucket_of n j == b) (λ e. rw e (look_graft_other t k s j (other j ne) ∙ ap (λ z. look (h.trees z) j) (sym (is (bucket_of n j) b e)))) (λ e. rw e refl)

    at_key : (j : Key) → j ≡ k → o ≡ look (cond (bucket_of n j == b) (graft t k s) (h.trees (bucket_of n j))) j
    at_key j i = let e : (bucket_of n j == b) ≡ true = yes_same (bucket_of n j) b (ap (bucket_of n) i) in
        rw e (sym (ap (look (graft t k s)) i ∙ look_graft_same t k s ∙ same))
