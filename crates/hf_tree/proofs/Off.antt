-- A record that is reached from no bucket comes or goes.
use Rattle.std.proofs.Common.{◌≡◌, ◌≢◌, ◌∙◌, ℕ, refl, sym, ap, Option, Some, None}
use Rattle.std.specs.declared.cmp.Ordering.TheVariants.{Less, Greater}
use Rattle.hf_tree.specs.declared.parent.Parent.{Parent}
use Rattle.hf_tree.specs.declared.parent.Parent.TheVariants.{Bucket, Left, Right}
use Rattle.hf_tree.specs.Keys.{Key, key_cmp, bucket_of}
use Rattle.hf_tree.specs.Trees.{Tree, leaf, node, AllOf, Above, Below, Ordered, look, seek}
use Rattle.hf_tree.specs.Views.{View, Hangs, Hung, Holds, Besides, found_place}
use Rattle.hf_tree.proofs.Orders.{three, same_key}
use Rattle.hf_tree.proofs.Trees.{all_both}
use Rattle.hf_tree.proofs.Hanging.{Keyed, hangs_keys, hangs_at}

-- each record of an ordered tree is found by its key
abbrev pub Looked : Tree → ℕ → Key → Type 0
Looked t p k = look t k ≡ Some p

pub all_looked : (t : Tree) → Ordered t → AllOf (Looked t) t
all_looked leaf o = tt
all_looked (node p q l r) o = (
  (let e = same_key q in rw e),
  all_both (Above q) (Looked l) (Looked (node p q l r)) (λ x k a h. let e : key_cmp k q ≡ Greater = a in rw e h) l o.0 (all_looked l o.2),
  all_both (Below q) (Looked r) (Looked (node p q l r)) (λ x k a h. let e : key_cmp k q ≡ Less = a in rw e h) r o.1 (all_looked r o.3),
)

off_hangs : (v w : View) (p a : ℕ) (t : Tree) → Besides v w p → AllOf (λ x k. x ≢ p) t → Hangs v a t → Hangs w a t
off_hangs v w p a leaf b f h = h
off_hangs v w p a (node x q l r) b f h =
    let ne : Some x ≢ Some p = λ e. f.0 (let i : Some x ≡ Some p = e in cc) in (
      h.0,
      h.1,
      b.keys x f.0 ∙ h.2,
      hangs_at w (v.links (Left x)) (w.links (Left x)) l (b.links (Left x) ne) (off_hangs v w p (v.links (Left x)) l b f.1 h.3),
      hangs_at w (v.links (Right x)) (w.links (Right x)) r (b.links (Right x) ne) (off_hangs v w p (v.links (Right x)) r b f.2 h.4),
    )

-- a place that no key is at
pub holds_off : (v w : View) (n p : ℕ) (m : Key → Option ℕ) → Besides v w p → ((k : Key) → v.keys p ≡ Some k → m k ≢ Some p) → Holds v n m → Holds w n m
holds_off v w n p m b off h = record {
  trees = h.trees;
  hung = λ d low. hung d (h.hung d low);
  map = h.map;
}
  where
    hung : (d : ℕ) → Hung v n d (h.trees d) → Hung w n d (h.trees d)
    hung d i =
        let t = h.trees d in
        let home : AllOf (λ x k. (bucket_of n k ≡ d) × (look t k ≡ Some x)) t = all_both (λ x k. bucket_of n k ≡ d) (Looked t) (λ x k. (bucket_of n k ≡ d) × (look t k ≡ Some x)) (λ x k y z. (y, z)) t i.home (all_looked t i.ordered) in
        let free : AllOf (λ x k. x ≢ p) t = all_both (Keyed v) (λ x k. (bucket_of n k ≡ d) × (look t k ≡ Some x)) (λ x k. x ≢ p)
        (λ x k key w e. off k (ap (λ (z : ℕ). v.keys z) (sym e) ∙ key) (h.map k ∙ ap (λ (z : ℕ). look (h.trees z) k) w.0 ∙ w.1 ∙ ap (λ (z : ℕ). Some z) e)) t (hangs_keys v (v.links (Bucket d)) t i.hangs) home in
        record {
          hangs = hangs_at w (v.links (Bucket d)) (w.links (Bucket d)) t (b.links (Bucket d) (λ e. (let f : None ≡ Some p = e in cc))) (off_hangs v w p (v.links (Bucket d)) t b free i.hangs);
          ordered = i.ordered;
          home = i.home;
        }

-- and the trees are the same
pub holds_off_same : (v w : View) (n p : ℕ) (m : Key → Option ℕ) → Besides v w p → ((k : Key) → v.keys p ≡ Some k → m k ≢ Some p) → (h : Holds v n m) → (x : Holds w n m) × (x.trees ≡ h.trees)
unfolding holds_off
holds_off_same v w n p m b off h = (holds_off v w n p m b off h, refl)

-- a search and a look-up agree
pub seek_look : (from : Parent) (t : Tree) (k : Key) → look t k ≡ found_place (seek from t k)
seek_look from leaf k = refl
seek_look from (node p q l r) k = three (key_cmp k q)
    (λ e. rw e (seek_look (Right p) r k))
    (λ e. rw e refl)
    (λ e. rw e (seek_look (Left p) l k))
