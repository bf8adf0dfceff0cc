-- Looking up, and what grafts leave.
use Rattle.std.proofs.Common.{◌≡◌, ◌≢◌, ◌∙◌, ℕ, refl, sym, None}
use Rattle.std.specs.declared.cmp.Ordering.TheVariants.{Less, Equal, Greater}
use Rattle.hf_tree.specs.Keys.{Key, key_cmp}
use Rattle.hf_tree.specs.Trees.{Tree, leaf, node, AllOf, Above, Below, Ordered, look, graft, part, join, rest}
use Rattle.hf_tree.proofs.Orders.{three, turned, turned_back, less_then, greater_then}

pub all_map : (P Q : ℕ → Key → Type 0) → ((p : ℕ) (k : Key) → P p k → Q p k) → (t : Tree) → AllOf P t → AllOf Q t
all_map P Q f leaf h = tt
all_map P Q f (node p q l r) h = (f p q h.0, all_map P Q f l h.1, all_map P Q f r h.2)

pub all_both : (P Q R : ℕ → Key → Type 0) → ((p : ℕ) (k : Key) → P p k → Q p k → R p k) → (t : Tree) → AllOf P t → AllOf Q t → AllOf R t
all_both P Q R f leaf h i = tt
all_both P Q R f (node p q l r) h i = (f p q h.0 i.0, all_both P Q R f l h.1 i.1, all_both P Q R f r h.2 i.2)

pub all_graft : (P : ℕ → Key → Type 0) (t : Tree) (k : Key) (s : Tree) → AllOf P t → AllOf P s → AllOf P (graft t k s)
all_graft P leaf k s h hs = hs
all_graft P (node p q l r) k s h hs = three (key_cmp k q)
    (λ e. rw e (h.0, h.1, all_graft P r k s h.2 hs))
    (λ e. rw e hs)
    (λ e. rw e (h.0, all_graft P l k s h.1 hs, h.2))

pub all_part : (P : ℕ → Key → Type 0) (t : Tree) (k : Key) → AllOf P t → AllOf P (part t k)
all_part P leaf k h = tt
all_part P (node p q l r) k h = three (key_cmp k q) (λ e. rw e (all_part P r k h.2)) (λ e. rw e h) (λ e. rw e (all_part P l k h.1))

pub all_join : (P : ℕ → Key → Type 0) (l r : Tree) → AllOf P l → AllOf P r → AllOf P (join l r)
all_join P leaf r hl hr = hr
all_join P (node p q l m) r hl hr = (hl.0, hl.1, all_join P m r hl.2 hr)

pub all_rest : (P : ℕ → Key → Type 0) (t : Tree) → AllOf P t → AllOf P (rest t)
all_rest P leaf h = tt
all_rest P (node p q l r) h = all_join P l r h.1 h.2

pub ordered_part : (t : Tree) (k : Key) → Ordered t → Ordered (part t k)
ordered_part leaf k h = tt
ordered_part (node p q l r) k h = three (key_cmp k q) (λ e. rw e (ordered_part r k h.3)) (λ e. rw e h) (λ e. rw e (ordered_part l k h.2))

pub ordered_graft : (t : Tree) (k : Key) (s : Tree) → ((P : ℕ → Key → Type 0) → AllOf P (part t k) → ((p : ℕ) → P p k) → AllOf P s) → Ordered t → Ordered s → Ordered (graft t k s)
ordered_graft leaf k s sub h hs = hs
ordered_graft (node p q l r) k s sub h hs = three (key_cmp k q)
    (λ e. rw e (let sub2 : (P : ℕ → Key → Type 0) → AllOf P (part r k) → ((p : ℕ) → P p k) → AllOf P s = λ P a b. sub P (rw e a) b in
    (h.0, all_graft (Below q) r k s h.1 (sub2 (Below q) (all_part (Below q) r k h.1) (λ _. e)), h.2, ordered_graft r k s sub2 h.3 hs)))
    (λ e. rw e hs)
    (λ e. rw e (let sub2 : (P : ℕ → Key → Type 0) → AllOf P (part l k) → ((p : ℕ) → P p k) → AllOf P s = λ P a b. sub P (rw e a) b in
    (all_graft (Above q) l k s h.0 (sub2 (Above q) (all_part (Above q) l k h.0) (λ _. e)), h.1, ordered_graft l k s sub2 h.2 hs, h.3)))

-- those of the first are above a key, those of the second below
pub ordered_join : (q : Key) (l r : Tree) → AllOf (Above q) l → AllOf (Below q) r → Ordered l → Ordered r → Ordered (join l r)
ordered_join q leaf r hl hr ol or = or
ordered_join q (node p k l m) r hl hr ol or = (ol.0, all_join (Below k) m r ol.1 (all_map (Below q) (Below k) (λ a x b. less_then x q k b (turned k q hl.0)) r hr), ol.2, ordered_join q m r hl.2 hr ol.3 or)

pub look_none : (j : Key) (t : Tree) → AllOf (λ p k. key_cmp j k ≢ Equal) t → look t j ≡ None
look_none j leaf h = refl
look_none j (node p q l r) h = three (key_cmp j q) (λ e. rw e (look_none j r h.2)) (λ e. absurd (h.0 e)) (λ e. rw e (look_none j l h.1))

pub look_graft_same : (t : Tree) (k : Key) (s : Tree) → look (graft t k s) k ≡ look s k
look_graft_same leaf k s = refl
look_graft_same (node p q l r) k s = three (key_cmp k q) (λ e. rw (e, e) (look_graft_same r k s)) (λ e. rw e) (λ e. rw (e, e) (look_graft_same l k s))

pub look_graft_other : (t : Tree) (k : Key) (s : Tree) (j : Key) → look s j ≡ look (part t k) j → look (graft t k s) j ≡ look t j
look_graft_other leaf k s j h = h
look_graft_other (node p q l r) k s j h = three (key_cmp k q)
    (λ e. rw e (three (key_cmp j q) (λ f. rw f (look_graft_other r k s j (rw e at h))) (λ f. rw f) (λ f. rw f)))
    (λ e. rw e (rw e at h))
    (λ e. rw e (three (key_cmp j q) (λ f. rw f) (λ f. rw f) (λ f. rw f (look_graft_other l k s j (rw e at h)))))

less_greater : Less ≡ Greater → ⊥
less_greater h = cc

less_equal : Less ≡ Equal → ⊥
less_equal h = cc

greater_equal : Greater ≡ Equal → ⊥
greater_equal h = cc

pub join_above : (q j : Key) (l r : Tree) → key_cmp j q ≡ Greater → AllOf (Below q) r → look (join l r) j ≡ look l j
join_above q j leaf r g hr = look_none j r (all_map (Below q) (λ p k. key_cmp j k ≢ Equal) (λ p k b same. greater_equal (sym (greater_then j q k g (turned_back k q b)) ∙ same)) r hr)
join_above q j (node p k l m) r g hr = three (key_cmp j k) (λ e. rw e (join_above q j m r g hr)) (λ e. rw e) (λ e. rw e)

pub join_below : (q j : Key) (l r : Tree) → key_cmp j q ≡ Less → AllOf (Above q) l → look (join l r) j ≡ look r j
join_below q j leaf r g hl = refl
join_below q j (node p k l m) r g hl = let e : key_cmp j k ≡ Less = less_then j q k g (turned k q hl.0) in rw e (join_below q j m r g hl.2)

pub join_none : (q : Key) (l r : Tree) → AllOf (Above q) l → AllOf (Below q) r → look (join l r) q ≡ None
join_none q leaf r hl hr = look_none q r (all_map (Below q) (λ p k. key_cmp q k ≢ Equal) (λ p k b same. greater_equal (sym (turned_back k q b) ∙ same)) r hr)
join_none q (node p k l m) r hl hr = let e : key_cmp q k ≡ Less = turned k q hl.0 in rw e (join_none q m r hl.2 hr)
