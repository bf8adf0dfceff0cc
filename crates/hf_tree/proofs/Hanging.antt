-- Links that are written, and the trees that hang then.
use Rattle.std.proofs.Common.{◌≡◌, ◌≢◌, ◌∙◌, ◌⊎◌, inl, inr, ⊎_elim, ℕ, refl, sym, ap, subst, Some}
use Rattle.std.specs.declared.cmp.Ordering.{Ordering}
use Rattle.std.specs.declared.cmp.Ordering.TheVariants.{Less, Equal, Greater}
use Rattle.hf_tree.specs.declared.parent.Parent.{Parent}
use Rattle.hf_tree.specs.declared.parent.Parent.TheVariants.{Left, Right}
use Rattle.hf_tree.specs.declared.parent.Found.{Found}
use Rattle.hf_tree.specs.declared.parent.Found.TheVariants.{Here}
use Rattle.hf_tree.specs.Keys.{Key, key_cmp}
use Rattle.hf_tree.specs.Trees.{Tree, leaf, node, AllOf, Above, Below, Ordered, seek, graft, part, join, last}
use Rattle.hf_tree.specs.Views.{View, Hangs, Linked, Changed, owner, Apart, Owned, parent_of}
use Rattle.hf_tree.proofs.Orders.{three, same_key, turned, less_then}
use Rattle.hf_tree.proofs.Trees.{all_map, all_both}

abbrev pub Keyed : View → ℕ → Key → Type 0
Keyed v p k = v.keys p ≡ Some k

pub hangs_keys : (v : View) (a : ℕ) (t : Tree) → Hangs v a t → AllOf (Keyed v) t
hangs_keys v a leaf h = tt
hangs_keys v a (node p q l r) h = (h.2, hangs_keys v (v.links (Left p)) l h.3, hangs_keys v (v.links (Right p)) r h.4)

pub hangs_at : (v : View) (a b : ℕ) (t : Tree) → b ≡ a → Hangs v a t → Hangs v b t
hangs_at v a b t e h = subst (λ (x : ℕ). Hangs v x t) (sym e) h

-- none of a tree's links was written
abbrev pub Free : (Parent → Type 0) → Tree → Type 0
Free D t = AllOf (λ p k. (D (Left p) → ⊥) × (D (Right p) → ⊥)) t

pub frame : (v w : View) (D : Parent → Type 0) (a : ℕ) (t : Tree) → Changed v w D → Free D t → Hangs v a t → Hangs w a t
frame v w D a leaf c f h = h
frame v w D a (node p q l r) c f h = (
  h.0,
  h.1,
  c.keys p ∙ h.2,
  hangs_at w (v.links (Left p)) (w.links (Left p)) l (c.others (Left p) f.0.0) (frame v w D (v.links (Left p)) l c f.1 h.3),
  hangs_at w (v.links (Right p)) (w.links (Right p)) r (c.others (Right p) f.0.1) (frame v w D (v.links (Right p)) r c f.2 h.4),
)

-- a link's owner with a property
pub record OwnedBy (P : ℕ → Key → Type 0) (to : Parent) : Type 0 where
  pub at : ℕ
  pub key : Key
  pub owns : owner to ≡ Some at
  pub has : P at key

pub owned_all : (P : ℕ → Key → Type 0) (to : Parent) (t : Tree) → AllOf P t → Owned to t → OwnedBy P to
owned_all P to leaf h o = absurd o
owned_all P to (node p q l r) h o = ⊎_elim (λ e. record { at = p; key = q; owns = e; has = h.0 })
    (λ i. ⊎_elim (λ j. owned_all P to l h.1 j) (λ j. owned_all P to r h.2 j) i) o

pub owned_part : (to : Parent) (t : Tree) (k : Key) → Owned to (part t k) → Owned to t
owned_part to leaf k o = o
owned_part to (node p q l r) k o = three (key_cmp k q)
    (λ e. inr (inr (owned_part to r k (rw e at o))))
    (λ e. rw e at o)
    (λ e. inr (inl (owned_part to l k (rw e at o))))

pub seek_owner : (from : Parent) (t : Tree) (k : Key) → (parent_of (seek from t k) ≡ from) ⊎ Owned (parent_of (seek from t k)) t
seek_owner from leaf k = inl refl
seek_owner from (node p q l r) k =
    let G : Found → Type 0 = λ f. (parent_of f ≡ from) ⊎ Owned (parent_of f) (node p q l r) in
    three (key_cmp k q)
    (λ e. let is : seek from (node p q l r) k ≡ seek (Right p) r k = rw e in subst G (sym is) (⊎_elim (λ i. inr (inl (ap owner i))) (λ i. inr (inr (inr i))) (seek_owner (Right p) r k)))
    (λ e. let is : seek from (node p q l r) k ≡ Here p from = rw e in subst G (sym is) (inl refl))
    (λ e. let is : seek from (node p q l r) k ≡ seek (Left p) l k = rw e in subst G (sym is) (⊎_elim (λ i. inr (inl (ap owner i))) (λ i. inr (inr (inl i))) (seek_owner (Left p) l k)))

-- what a graft at a key may write
abbrev pub Touches : Parent → Parent → Tree → Key → Type 0
Touches to from t k = (to ≡ parent_of (seek from t k)) ⊎ Owned to (part t k)

pub touches_owned : (to from : Parent) (t : Tree) (k : Key) → Touches to from t k → (to ≡ from) ⊎ Owned to t
touches_owned to from t k h = ⊎_elim (λ e. ⊎_elim (λ i. inl (e ∙ i)) (λ i. inr (subst (λ (c : Parent). Owned c t) (sym e) i)) (seek_owner from t k)) (λ o. inr (owned_part to t k o)) h

apart_owned : (from to : Parent) (t : Tree) → Apart from t → to ≡ from → Owned to t → ⊥
apart_owned from to t a e o = let w = owned_all (λ p k. owner from ≢ Some p) to t a o in w.has (ap owner (sym e) ∙ w.owns)

-- a link whose owner's key is none of a tree's is apart
pub apart_by : (v : View) (to : Parent) (y : ℕ) (ky : Key) (t : Tree) → owner to ≡ Some y → v.keys y ≡ Some ky → AllOf (Keyed v) t → AllOf (λ p k. k ≢ ky) t → Apart to t
apart_by v to y ky t o h keyed other = all_both (Keyed v) (λ p k. k ≢ ky) (λ p k. owner to ≢ Some p)
    (λ p k e ne i. ne (let j : y ≡ p = cc in let g = ap (λ (z : ℕ). v.keys z) j in cc)) t keyed other

pub not_above : (q : Key) (t : Tree) → AllOf (Above q) t → AllOf (λ p k. k ≢ q) t
not_above q t h = all_map (Above q) (λ p k. k ≢ q) (λ p k a e. let s = same_key q in let f : key_cmp k q ≡ key_cmp q q = ap (λ (z : Key). key_cmp z q) e in cc) t h

pub not_below : (q : Key) (t : Tree) → AllOf (Below q) t → AllOf (λ p k. k ≢ q) t
not_below q t h = all_map (Below q) (λ p k. k ≢ q) (λ p k a e. let s = same_key q in let f : key_cmp k q ≡ key_cmp q q = ap (λ (z : Key). key_cmp z q) e in cc) t h

-- a set of links whose owners lie at or below a key touches nothing above it, and the other way round
free_above : (v : View) (q : Key) (D : Parent → Type 0) (t : Tree) → ((c : Parent) → D c → OwnedBy (λ y ky. (v.keys y ≡ Some ky) × (key_cmp ky q ≢ Greater)) c) → AllOf (Keyed v) t → AllOf (Above q) t → Free D t
free_above v q D t owns keyed above = all_both (Keyed v) (Above q) (λ p k. (D (Left p) → ⊥) × (D (Right p) → ⊥))
    (λ p k e a. (λ d. clash p k e a (Left p) refl (owns (Left p) d), λ d. clash p k e a (Right p) refl (owns (Right p) d))) t keyed above
  where
    clash : (p : ℕ) (k : Key) → v.keys p ≡ Some k → key_cmp k q ≡ Greater → (c : Parent) → owner c ≡ Some p → OwnedBy (λ y ky. (v.keys y ≡ Some ky) × (key_cmp ky q ≢ Greater)) c → ⊥
    clash p k e a c o w = w.has.1 (let j : w.at ≡ p = (let ow = w.owns in cc) in let g = ap (λ (z : ℕ). v.keys z) j in let h = w.has.0 in let i : w.key ≡ k = cc in subst (λ (z : Key). key_cmp z q ≡ Greater) (sym i) a)

free_below : (v : View) (q : Key) (D : Parent → Type 0) (t : Tree) → ((c : Parent) → D c → OwnedBy (λ y ky. (v.keys y ≡ Some ky) × (key_cmp ky q ≢ Less)) c) → AllOf (Keyed v) t → AllOf (Below q) t → Free D t
free_below v q D t owns keyed below = all_both (Keyed v) (Below q) (λ p k. (D (Left p) → ⊥) × (D (Right p) → ⊥))
    (λ p k e a. (λ d. clash p k e a (Left p) refl (owns (Left p) d), λ d. clash p k e a (Right p) refl (owns (Right p) d))) t keyed below
  where
    clash : (p : ℕ) (k : Key) → v.keys p ≡ Some k → key_cmp k q ≡ Less → (c : Parent) → owner c ≡ Some p → OwnedBy (λ y ky. (v.keys y ≡ Some ky) × (key_cmp ky q ≢ Less)) c → ⊥
    clash p k e a c o w = w.has.1 (let j : w.at ≡ p = (let ow = w.owns in cc) in let g = ap (λ (z : ℕ). v.keys z) j in let h = w.has.0 in let i : w.key ≡ k = cc in subst (λ (z : Key). key_cmp z q ≡ Less) (sym i) a)

left_right : (p y : ℕ) → Left p ≡ Right y → ⊥
left_right p y h = cc

less_greater : (o : Ordering) → o ≡ Less → o ≡ Greater → ⊥
less_greater o h i = cc

equal_less : (o : Ordering) → o ≡ Equal → o ≡ Less → ⊥
equal_less o h i = cc

equal_greater : (o : Ordering) → o ≡ Equal → o ≡ Greater → ⊥
equal_greater o h i = cc

pub apart_right : (v : View) (p : ℕ) (q : Key) (r : Tree) → v.keys p ≡ Some q → AllOf (Keyed v) r → AllOf (Below q) r → Apart (Right p) r
apart_right v p q r h keyed below = apart_by v (Right p) p q r refl h keyed (not_below q r below)

pub apart_left : (v : View) (p : ℕ) (q : Key) (l : Tree) → v.keys p ≡ Some q → AllOf (Keyed v) l → AllOf (Above q) l → Apart (Left p) l
apart_left v p q l h keyed above = apart_by v (Left p) p q l refl h keyed (not_above q l above)

-- the owner of a link that the search below a node's right, or left, chain may write
low_owner : (v : View) (p : ℕ) (q : Key) (r : Tree) (c : Parent) → v.keys p ≡ Some q → AllOf (Keyed v) r → AllOf (Below q) r → (c ≡ Right p) ⊎ Owned c r → OwnedBy (λ y ky. (v.keys y ≡ Some ky) × (key_cmp ky q ≢ Greater)) c
low_owner v p q r c h keyed below o = ⊎_elim
    (λ e. record { at = p; key = q; owns = ap owner e; has = (h, λ g. equal_greater (key_cmp q q) (same_key q) g) })
    (λ i. owned_all (λ y ky. (v.keys y ≡ Some ky) × (key_cmp ky q ≢ Greater)) c r (all_both (Keyed v) (Below q) (λ y ky. (v.keys y ≡ Some ky) × (key_cmp ky q ≢ Greater)) (λ y ky a b. (a, λ g. less_greater (key_cmp ky q) b g)) r keyed below) i) o

high_owner : (v : View) (p : ℕ) (q : Key) (l : Tree) (c : Parent) → v.keys p ≡ Some q → AllOf (Keyed v) l → AllOf (Above q) l → (c ≡ Left p) ⊎ Owned c l → OwnedBy (λ y ky. (v.keys y ≡ Some ky) × (key_cmp ky q ≢ Less)) c
high_owner v p q l c h keyed above o = ⊎_elim
    (λ e. record { at = p; key = q; owns = ap owner e; has = (h, λ g. equal_less (key_cmp q q) (same_key q) g) })
    (λ i. owned_all (λ y ky. (v.keys y ≡ Some ky) × (key_cmp ky q ≢ Less)) c l (all_both (Keyed v) (Above q) (λ y ky. (v.keys y ≡ Some ky) × (key_cmp ky q ≢ Less)) (λ y ky a b. (a, λ g. less_greater (key_cmp ky q) g b)) l keyed above) i) o

-- a node's own other chain isn't owned below or above it
own_low : (v : View) (p : ℕ) (q : Key) (r : Tree) (c : Parent) → owner c ≡ Some p → v.keys p ≡ Some q → AllOf (Keyed v) r → AllOf (λ y k. k ≢ q) r → Owned c r → ⊥
own_low v p q r c o h keyed other i = let w = owned_all (λ y k. owner c ≢ Some y) c r (apart_by v c p q r o h keyed other) i in w.has w.owns

pub graft_hangs : (v w : View) (D : Parent → Type 0) (from : Parent) (t : Tree) (k : Key) (s : Tree) → Changed v w D → ((c : Parent) → D c → Touches c from t k) → Hangs v (v.links from) t → Ordered t → Apart from t → Hangs w (w.links (parent_of (seek from t k))) s → Hangs w (w.links from) (graft t k s)
graft_hangs v w D from leaf k s c touches h o a hs = hs
graft_hangs v w D from (node p q l r) k s c touches h o a hs = three (key_cmp k q)
    (λ e.
    let keyed_l = hangs_keys v (v.links (Left p)) l h.3 in
    let keyed_r = hangs_keys v (v.links (Right p)) r h.4 in
    let touched : (x : Parent) → D x → Touches x (Right p) r k = λ x d. rw e at (touches x d) in
    let owned : (x : Parent) → D x → (x ≡ Right p) ⊎ Owned x r = λ x d. touches_owned x (Right p) r k (touched x d) in
    let at : w.links from ≡ p = c.others from (λ d. ⊎_elim (λ i. a.0 (ap owner i)) (λ i. apart_owned from from r a.2 refl i) (owned from d)) ∙ h.0 in
    let lf : w.links (Left p) ≡ v.links (Left p) = c.others (Left p) (λ d. ⊎_elim (λ i. left_right p p i) (λ i. own_low v p q r (Left p) refl h.2 keyed_r (not_below q r o.1) i) (owned (Left p) d)) in
    rw e (
      at,
      h.1,
      c.keys p ∙ h.2,
      hangs_at w (v.links (Left p)) (w.links (Left p)) l lf (frame v w D (v.links (Left p)) l c (free_above v q D l (λ x d. low_owner v p q r x h.2 keyed_r o.1 (owned x d)) keyed_l o.0) h.3),
      graft_hangs v w D (Right p) r k s c touched h.4 o.3 (apart_right v p q r h.2 keyed_r o.1) (rw e at hs),
    ))
    (λ e. rw e (rw e at hs))
    (λ e.
    let keyed_l = hangs_keys v (v.links (Left p)) l h.3 in
    let keyed_r = hangs_keys v (v.links (Right p)) r h.4 in
    let touched : (x : Parent) → D x → Touches x (Left p) l k = λ x d. rw e at (touches x d) in
    let owned : (x : Parent) → D x → (x ≡ Left p) ⊎ Owned x l = λ x d. touches_owned x (Left p) l k (touched x d) in
    let at : w.links from ≡ p = c.others from (λ d. ⊎_elim (λ i. a.0 (ap owner i)) (λ i. apart_owned from from l a.1 refl i) (owned from d)) ∙ h.0 in
    let rt : w.links (Right p) ≡ v.links (Right p) = c.others (Right p) (λ d. ⊎_elim (λ i. left_right p p (sym i)) (λ i. own_low v p q l (Right p) refl h.2 keyed_l (not_above q l o.0) i) (owned (Right p) d)) in
    rw e (
      at,
      h.1,
      c.keys p ∙ h.2,
      graft_hangs v w D (Left p) l k s c touched h.3 o.2 (apart_left v p q l h.2 keyed_l o.0) (rw e at hs),
      hangs_at w (v.links (Right p)) (w.links (Right p)) r rt (frame v w D (v.links (Right p)) r c (free_below v q D r (λ x d. high_owner v p q l x h.2 keyed_l o.0 (owned x d)) keyed_r o.1) h.4),
    ))

pub part_hangs : (v : View) (from : Parent) (t : Tree) (k : Key) → Hangs v (v.links from) t → Hangs v (v.links (parent_of (seek from t k))) (part t k)
part_hangs v from leaf k h = h
part_hangs v from (node p q l r) k h = three (key_cmp k q) (λ e. rw e (part_hangs v (Right p) r k h.4)) (λ e. rw e h) (λ e. rw e (part_hangs v (Left p) l k h.3))

-- what names a part isn't in it
pub seek_apart : (v : View) (from : Parent) (t : Tree) (k : Key) → Hangs v (v.links from) t → Ordered t → Apart from t → Apart (parent_of (seek from t k)) (part t k)
seek_apart v from leaf k h o a = tt
seek_apart v from (node p q l r) k h o a = three (key_cmp k q)
    (λ e. rw e (seek_apart v (Right p) r k h.4 o.3 (apart_right v p q r h.2 (hangs_keys v (v.links (Right p)) r h.4) o.1)))
    (λ e. rw e a)
    (λ e. rw e (seek_apart v (Left p) l k h.3 o.2 (apart_left v p q l h.2 (hangs_keys v (v.links (Left p)) l h.3) o.0)))

pub join_leaf : (t : Tree) → join t leaf ≡ t
join_leaf leaf = refl
join_leaf (node p q l r) = ap (λ (x : Tree). node p q l x) (join_leaf r)

-- the rightmost node
pub record IsLast (P : ℕ → Key → Type 0) (y : ℕ) : Type 0 where
  pub key : Key
  pub has : P y key

pub last_all : (P : ℕ → Key → Type 0) (p : ℕ) (q : Key) (r : Tree) → P p q → AllOf P r → IsLast P (last p r)
last_all P p q leaf h hr = record { key = q; has = h }
last_all P p q (node y k l r) h hr = last_all P y k r hr.0 hr.2

pub only_linked : (v w : View) (to : Parent) (x : ℕ) → Linked v w to x → Changed v w (λ c. c ≡ to)
only_linked v w to x l = record { keys = l.keys; others = λ c ne. l.others c ne }

-- a tree apart from the one link that was written
pub frame_one : (v w : View) (to : Parent) (x a : ℕ) (t : Tree) → Linked v w to x → Apart to t → Hangs v a t → Hangs w a t
frame_one v w to x a t l apart h = frame v w (λ c. c ≡ to) a t (only_linked v w to x l) (all_map (λ p k. owner to ≢ Some p) (λ p k. (Left p ≡ to → ⊥) × (Right p ≡ to → ⊥)) (λ p k ne. (λ e. ne (ap owner (sym e)), λ e. ne (ap owner (sym e)))) t apart) h

-- the right part is hung on the rightmost node of the left one
pub join_hangs : (v w : View) (z : Key) (a x : ℕ) (p : ℕ) (q : Key) (l m tr : Tree) → Linked v w (Right (last p m)) x → Hangs v a (node p q l m) → Hangs v x tr → Ordered (node p q l m) → AllOf (Above z) (node p q l m) → AllOf (Below z) tr → Hangs w a (join (node p q l m) tr)
join_hangs v w z a x p q l leaf tr ln h hx o above below =
    let keyed_l = hangs_keys v (v.links (Left p)) l h.3 in
    let keyed_t = hangs_keys v x tr hx in
    let low : AllOf (λ y k. k ≢ q) tr = not_below q tr (all_map (Below z) (Below q) (λ y k b. less_then k z q b (turned q z above.0)) tr below) in (
      h.0,
      h.1,
      ln.keys p ∙ h.2,
      hangs_at w (v.links (Left p)) (w.links (Left p)) l (ln.others (Left p) (λ e. left_right p p e)) (frame_one v w (Right p) x (v.links (Left p)) l ln (apart_by v (Right p) p q l refl h.2 keyed_l (not_above q l o.0)) h.3),
      hangs_at w x (w.links (Right p)) tr ln.here (frame_one v w (Right p) x x tr ln (apart_by v (Right p) p q tr refl h.2 keyed_t low) hx),
    )
join_hangs v w z a x p q l (node p2 q2 l2 m2) tr ln h hx o above below =
    let keyed_l = hangs_keys v (v.links (Left p)) l h.3 in
    let keyed_m = hangs_keys v (v.links (Right p)) (node p2 q2 l2 m2) h.4 in
    let B : ℕ → Key → Type 0 = λ y k. (v.keys y ≡ Some k) × (key_cmp k q ≡ Less) in
    let both : AllOf B (node p2 q2 l2 m2) = all_both (Keyed v) (Below q) B (λ y k i j. (i, j)) (node p2 q2 l2 m2) keyed_m o.1 in
    let y = last_all B p2 q2 m2 both.0 both.2 in
    let to = Right (last p2 m2) in
    let high : AllOf (λ (b : ℕ) (k : Key). k ≢ y.key) l = all_map (Above q) (λ b k. k ≢ y.key) (λ b k g e. less_greater (key_cmp k q) (subst (λ (c : Key). key_cmp c q ≡ Less) (sym e) y.has.1) g) l o.0 in
    let other : Right p ≡ to → ⊥ = λ e. (let i : p ≡ last p2 m2 = cc in let g = ap (λ (c : ℕ). v.keys c) i in let hk = h.2 in let yk = y.has.0 in let j : q ≡ y.key = cc in equal_less (key_cmp q q) (same_key q) (subst (λ (c : Key). key_cmp c q ≡ Less) (sym j) y.has.1)) in (
      h.0,
      h.1,
      ln.keys p ∙ h.2,
      hangs_at w (v.links (Left p)) (w.links (Left p)) l (ln.others (Left p) (λ e. left_right p (last p2 m2) e)) (frame_one v w to x (v.links (Left p)) l ln (apart_by v to (last p2 m2) y.key l refl y.has.0 keyed_l high) h.3),
      hangs_at w (v.links (Right p)) (w.links (Right p)) (join (node p2 q2 l2 m2) tr) (ln.others (Right p) other) (join_hangs v w z (v.links (Right p)) x p2 q2 l2 m2 tr ln h.4 hx o.3 above.2 below),
    )
