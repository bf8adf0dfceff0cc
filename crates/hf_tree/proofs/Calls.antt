-- What hanging a record and taking one out leave.
use Rattle.std.proofs.Common.{◌≡◌, ◌≢◌, ◌∙◌, ◌⊎◌, inl, inr, ⊎_elim, ℕ, ◌<◌, refl, sym, ap, subst, Option, Some, None}
use Rattle.std.specs.declared.cmp.Ordering.TheVariants.{Equal}
use Rattle.hf_tree.specs.declared.parent.Parent.{Parent}
use Rattle.hf_tree.specs.declared.parent.Parent.TheVariants.{Bucket, Left, Right}
use Rattle.hf_tree.specs.declared.parent.Found.{Found}
use Rattle.hf_tree.specs.declared.parent.Found.TheVariants.{Here, Gap}
use Rattle.hf_tree.specs.Keys.{Key, key_cmp, bucket_of}
use Rattle.hf_tree.specs.Trees.{Tree, leaf, node, AllOf, Above, Below, Ordered, seek, look, part, join, last}
use Rattle.hf_tree.specs.Views.{View, Hangs, Linked, Changed, owner, Apart, Owned, parent_of, Holds, with_key}
use Rattle.hf_tree.proofs.Orders.{three, same_key, equal_same}
use Rattle.hf_tree.proofs.Trees.{all_both, all_join, ordered_part, ordered_join, join_above, join_below, join_none}
use Rattle.hf_tree.proofs.Hanging.{Keyed, hangs_keys, hangs_at, frame_one, owned_all, seek_owner, part_hangs, seek_apart, join_hangs, join_leaf, only_linked}
use Rattle.hf_tree.proofs.Whole.{gap_lacks, here_part, graft_holds}

pub bucket_apart : (b : ℕ) (u : Tree) → Apart (Bucket b) u
bucket_apart b leaf = tt
bucket_apart b (node p q l r) = (λ e. (let f : None ≡ Some p = e in cc), bucket_apart b l, bucket_apart b r)

-- a link in which a search ended is none of a record's whose key is none of the tree's
own_other : (v : View) (b : ℕ) (t : Tree) (k : Key) (to : Parent) (p : ℕ) (c : Parent) → Hangs v (v.links (Bucket b)) t → Ordered t → seek (Bucket b) t k ≡ Gap to → v.keys p ≡ Some k → owner c ≡ Some p → c ≢ to
own_other v b t k to p c h o is key own e =
    ⊎_elim
    (λ i. let f : c ≡ Bucket b = e ∙ sym (ap parent_of is) ∙ i in (let g : None ≡ Some p = sym (ap owner f) ∙ own in cc))
    (λ i.
    let w = owned_all (λ y ky. (v.keys y ≡ Some ky) × (ky ≢ k)) to t (all_both (Keyed v) (λ y ky. ky ≢ k) (λ y ky. (v.keys y ≡ Some ky) × (ky ≢ k)) (λ y ky a d. (a, d)) t (hangs_keys v (v.links (Bucket b)) t h) (gap_lacks (Bucket b) t k to o is).1) (subst (λ (z : Parent). Owned z t) (ap parent_of is) i) in
    let j : Some w.at ≡ Some p = sym w.owns ∙ sym (ap owner e) ∙ own in
    let x : w.at ≡ p = cc in
    let g = ap (λ (z : ℕ). v.keys z) x in
    let hk = w.has.0 in
    w.has.1 cc)
    (seek_owner (Bucket b) t k)

not_equal : (j k : Key) → j ≢ k → key_cmp j k ≡ Equal → ⊥
not_equal j k ne e = ne (equal_same j k e)

one_other : (p : ℕ) (k j : Key) → j ≢ k → look (node p k leaf leaf) j ≡ None
one_other p k j ne = three (key_cmp j k) (λ e. rw e) (λ e. absurd (not_equal j k ne e)) (λ e. rw e)

-- a record whose chains are empty is hung in the gap of its key
pub hang_holds : (v w : View) (n : ℕ) (m : Key → Option ℕ) (k : Key) (p : ℕ) (to : Parent) (h : Holds v n m) → bucket_of n k < n → seek (Bucket (bucket_of n k)) (h.trees (bucket_of n k)) k ≡ Gap to → v.keys p ≡ Some k → p ≢ 0 → v.links (Left p) ≡ 0 → v.links (Right p) ≡ 0 → Linked v w to p → Holds w n (with_key m k (Some p))
hang_holds v w n m k p to h low is key some l r ln =
    let b = bucket_of n k in
    let t = h.trees b in
    let hung = h.hung b low in
    let lacks = gap_lacks (Bucket b) t k to hung.ordered is in
    graft_holds v w n m k (Some p) (λ c. c ≡ to) (node p k leaf leaf) h low (only_linked v w to p ln) (λ c e. inl (e ∙ sym (ap parent_of is))) (
      ap (λ f. w.links (parent_of f)) is ∙ ln.here,
      some,
      ln.keys p ∙ key,
      ln.others (Left p) (own_other v b t k to p (Left p) hung.hangs hung.ordered is key refl) ∙ l,
      ln.others (Right p) (own_other v b t k to p (Right p) hung.hangs hung.ordered is key refl) ∙ r,
    )
    (tt, tt, tt, tt) (λ P a d. (d p, tt, tt)) (let e = same_key k in rw e)
    (λ j ne. one_other p k j ne ∙ sym (ap (λ (z : Tree). look z j) lacks.0))

-- what is known where a search ended at a record
pub record Out (v : View) (n : ℕ) (m : Key → Option ℕ) (k : Key) (at : ℕ) (par : Parent) (h : Holds v n m) : Type 0 where
  pub l : Tree
  pub r : Tree
  pub part_is : part (h.trees (bucket_of n k)) k ≡ node at k l r
  pub hangs : Hangs v (v.links par) (node at k l r)
  pub ordered : Ordered (node at k l r)
  pub apart : Apart par (node at k l r)

pub out_of : (v : View) (n : ℕ) (m : Key → Option ℕ) (k : Key) (at : ℕ) (par : Parent) (h : Holds v n m) → bucket_of n k < n → seek (Bucket (bucket_of n k)) (h.trees (bucket_of n k)) k ≡ Here at par → Out v n m k at par h
out_of v n m k at par h low is =
    let b = bucket_of n k in
    let t = h.trees b in
    let hung = h.hung b low in
    let w = here_part (Bucket b) t k at par is in
    let G : Found → Tree → Type 0 = λ f u. Hangs v (v.links (parent_of f)) u in
    let A : Found → Tree → Type 0 = λ f u. Apart (parent_of f) u in
    record {
      l = w.0;
      r = w.1;
      part_is = w.2;
      hangs = subst (λ (f : Found). G f (node at k w.0 w.1)) is (subst (λ (u : Tree). G (seek (Bucket b) t k) u) w.2 (part_hangs v (Bucket b) t k hung.hangs));
      ordered = subst (λ (u : Tree). Ordered u) w.2 (ordered_part t k hung.ordered);
      apart = subst (λ (f : Found). A f (node at k w.0 w.1)) is (subst (λ (u : Tree). A (seek (Bucket b) t k) u) w.2 (seek_apart v (Bucket b) t k hung.hangs hung.ordered (bucket_apart b t)));
    }

join_other : (at : ℕ) (k : Key) (l r : Tree) (j : Key) → Ordered (node at k l r) → j ≢ k → look (join l r) j ≡ look (node at k l r) j
join_other at k l r j o ne = three (key_cmp j k) (λ e. rw e (join_below k j l r e o.0)) (λ e. absurd (not_equal j k ne e)) (λ e. rw e (join_above k j l r e o.1))

pub unhang_holds : (v w : View) (n : ℕ) (m : Key → Option ℕ) (k : Key) (at : ℕ) (par : Parent) (h : Holds v n m) → bucket_of n k < n → seek (Bucket (bucket_of n k)) (h.trees (bucket_of n k)) k ≡ Here at par → (u : Out v n m k at par h) (D : Parent → Type 0) → Changed v w D → ((c : Parent) → D c → (c ≡ par) ⊎ Owned c (node at k u.l u.r)) → Hangs w (w.links par) (join u.l u.r) → Holds w n (with_key m k None)
unhang_holds v w n m k at par h low is u D c touches hangs =
    let b = bucket_of n k in
    let t = h.trees b in
    let o = u.ordered in
    graft_holds v w n m k None D (join u.l u.r) h low c
    (λ x d. ⊎_elim (λ e. inl (e ∙ sym (ap parent_of is))) (λ i. inr (subst (λ (z : Tree). Owned x z) (sym u.part_is) i)) (touches x d))
    (subst (λ (f : Found). Hangs w (w.links (parent_of f)) (join u.l u.r)) (sym is) hangs)
    (ordered_join k u.l u.r o.0 o.1 o.2 o.3)
    (λ P a d. let i : AllOf P (node at k u.l u.r) = subst (λ (z : Tree). AllOf P z) u.part_is a in all_join P u.l u.r i.1 i.2)
    (join_none k u.l u.r o.0 o.1)
    (λ j ne. join_other at k u.l u.r j o ne ∙ sym (ap (λ (z : Tree). look z j) u.part_is))

leaf_if : (v : View) (a : ℕ) (t : Tree) → Hangs v a t → a ≡ 0 → t ≡ leaf
leaf_if v a leaf h z = refl
leaf_if v a (node p q l r) h z = absurd (h.1 (sym h.0 ∙ z))

-- no left child: the right one takes the place
pub unhang_right : (v w : View) (n : ℕ) (m : Key → Option ℕ) (k : Key) (at : ℕ) (par : Parent) (h : Holds v n m) → bucket_of n k < n → seek (Bucket (bucket_of n k)) (h.trees (bucket_of n k)) k ≡ Here at par → v.links (Left at) ≡ 0 → Linked v w par (v.links (Right at)) → Holds w n (with_key m k None)
unhang_right v w n m k at par h low is none ln =
    let u = out_of v n m k at par h low is in
    let e : u.l ≡ leaf = leaf_if v (v.links (Left at)) u.l u.hangs.3 none in
    unhang_holds v w n m k at par h low is u (λ c. c ≡ par) (only_linked v w par (v.links (Right at)) ln) (λ c i. inl i)
    (subst (λ (z : Tree). Hangs w (w.links par) (join z u.r)) (sym e) (hangs_at w (v.links (Right at)) (w.links par) u.r ln.here (frame_one v w par (v.links (Right at)) (v.links (Right at)) u.r ln u.apart.2 u.hangs.4)))

-- no right child: the left one does
pub unhang_left : (v w : View) (n : ℕ) (m : Key → Option ℕ) (k : Key) (at : ℕ) (par : Parent) (h : Holds v n m) → bucket_of n k < n → seek (Bucket (bucket_of n k)) (h.trees (bucket_of n k)) k ≡ Here at par → v.links (Right at) ≡ 0 → Linked v w par (v.links (Left at)) → Holds w n (with_key m k None)
unhang_left v w n m k at par h low is none ln =
    let u = out_of v n m k at par h low is in
    let e : u.r ≡ leaf = leaf_if v (v.links (Right at)) u.r u.hangs.4 none in
    unhang_holds v w n m k at par h low is u (λ c. c ≡ par) (only_linked v w par (v.links (Left at)) ln) (λ c i. inl i)
    (subst (λ (z : Tree). Hangs w (w.links par) (join u.l z)) (sym e) (subst (λ (z : Tree). Hangs w (w.links par) z) (sym (join_leaf u.l)) (hangs_at w (v.links (Left at)) (w.links par) u.l ln.here (frame_one v w par (v.links (Left at)) (v.links (Left at)) u.l ln u.apart.1 u.hangs.3))))

last_owned : (p : ℕ) (q : Key) (l m : Tree) → Owned (Right (last p m)) (node p q l m)
last_owned p q l leaf = inl refl
last_owned p q l (node y k x z) = inr (inr (last_owned y k x z))

both_hang : (v x : View) (k : Key) (a c d y : ℕ) (l r : Tree) → a ≢ 0 → Linked v x (Right y) c → y ≡ last d l → Hangs v a l → Hangs v c r → Ordered l → AllOf (Above k) l → AllOf (Below k) r → Hangs x a (join l r) × Owned (Right y) l
both_hang v x k a c d y leaf r some ln is h i o above below = absurd (some h)
both_hang v x k a c d y (node p q l m) r some ln is h i o above below =
    (join_hangs v x k a c p q l m r (subst (λ (z : ℕ). Linked v x (Right z) c) is ln) h i o above below, subst (λ (z : ℕ). Owned (Right z) (node p q l m)) (sym is) (last_owned p q l m))

-- two children: the left one takes the place, and the right one is hung on its rightmost node
pub unhang_both : (v x w : View) (n : ℕ) (m : Key → Option ℕ) (k : Key) (at y d : ℕ) (par : Parent) (h : Holds v n m) → bucket_of n k < n → seek (Bucket (bucket_of n k)) (h.trees (bucket_of n k)) k ≡ Here at par → v.links (Left at) ≢ 0 → ((t : Tree) → Hangs v (v.links (Left at)) t → y ≡ last d t) → Linked v x (Right y) (v.links (Right at)) → Linked x w par (v.links (Left at)) → Holds w n (with_key m k None)
unhang_both v x w n m k at y d par h low is some rightmost one two =
    let u = out_of v n m k at par h low is in
    let o = u.ordered in
    let b = both_hang v x k (v.links (Left at)) (v.links (Right at)) d y u.l u.r some one (rightmost u.l u.hangs.3) u.hangs.3 u.hangs.4 o.2 o.0 o.1 in
    unhang_holds v w n m k at par h low is u (λ c. (c ≡ par) ⊎ (c ≡ Right y))
    (record { keys = λ p. two.keys p ∙ one.keys p; others = λ q ne. two.others q (λ e. ne (inl e)) ∙ one.others q (λ e. ne (inr e)) })
    (λ c i. ⊎_elim (λ e. inl e) (λ e. inr (inr (inl (subst (λ (z : Parent). Owned z u.l) (sym e) b.1)))) i)
    (hangs_at w (v.links (Left at)) (w.links par) (join u.l u.r) two.here (frame_one x w par (v.links (Left at)) (v.links (Left at)) (join u.l u.r) two (all_join (λ p k. owner par ≢ Some p) u.l u.r u.apart.1 u.apart.2) b.0))
