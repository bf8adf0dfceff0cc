-- The rules give trees that hang, and trees that hang give the rules.
use Rattle.std.proofs.Common.{◌≡◌, ◌≢◌, ◌∙◌, ◌⊎◌, inl, inr, ⊎_elim, ℕ, zero, suc, ◌+◌, ◌<◌, ◌≤◌, refl, sym, ap, subst, Option, Some, None, arith, List, [], ◌∷◌, ◌++◌, length, append_assoc, Bool, true, false}
use Rattle.std.specs.Prelude.{◌==◌}
use Rattle.std.proofs.lemmas.Bool.Decides.{nat_tests}
use Rattle.std.specs.declared.cmp.Ordering.TheVariants.{Less, Greater}
use Rattle.tc_base.specs.Hashes.{second}
use Rattle.hf_block.specs.Pieces.{Record}
use Rattle.hf_tree.specs.declared.parent.Parent.TheVariants.{Bucket, Left, Right}
use Rattle.hf_tree.specs.Keys.{Key, key_cmp, bucket_of}
use Rattle.hf_tree.specs.Trees.{Tree, leaf, node, AllOf, Above, Below, Ordered, look, by_order}
use Rattle.hf_tree.specs.Views.{View, Hangs, Hung, Holds}
use Rattle.hf_tree.specs.Links.{seen, key_of}
use Rattle.hf_tree.specs.Rules.{Links, Records, Turn, left, right, Way, end_of, Leads, IsRecord, IsLink, NamesRecords, ReachedOnce, AreAtHome, AreInOrder}
use Rattle.hf_tree.specs.Standing.{AllHang}
use Rattle.hf_tree.proofs.Orders.{three, same_key}
use Rattle.hf_tree.proofs.Trees.{all_map, all_both}
use Rattle.hf_tree.proofs.Hanging.{Keyed, hangs_keys}
use Rattle.hf_tree.proofs.Off.{Looked, all_looked}

-- ---- keys of records

pub two : {G : Type 0} (b : Bool) → (b ≡ true → G) → (b ≡ false → G) → G
two true t f = t refl
two false t f = f refl

-- the record that has a key
pub record HasKey (records : Records) (p : ℕ) (k : Key) : Type 0 where
  pub rec : Record
  pub at : records p ≡ Some rec
  pub hash : rec.hash ≡ second k
  pub key : rec.key ≡ k

pub has_key : (records : Records) (p : ℕ) (k : Key) → key_of (records p) ≡ Some k → HasKey records p k
has_key records p k h = go (records p) refl h
  where
    go : (o : Option Record) → records p ≡ o → key_of o ≡ Some k → HasKey records p k
    go None e i = absurd (let f : None ≡ Some k = i in cc)
    go (Some r) e i = two (r.hash == second r.key)
        (λ t. let f : Some r.key ≡ Some k = rw t at i in let g : r.key ≡ k = cc in let s : r.hash ≡ second r.key = grind (arith, nat_tests) in record { rec = r; at = e; hash = s ∙ ap second g; key = g })
        (λ t. absurd (let f : None ≡ Some k = rw t at i in cc))

pub key_is : (records : Records) (p : ℕ) (r : Record) → records p ≡ Some r → r.hash ≡ second r.key → key_of (records p) ≡ Some r.key
key_is records p r at hash = ap key_of at ∙ (let e : (r.hash == second r.key) ≡ true = grind (arith, nat_tests) in rw e refl)

pub none_zero : (records : Records) (p : ℕ) (r : Record) → records 0 ≡ None → records p ≡ Some r → p ≢ 0
none_zero records p r none at z = let f : None ≡ Some r = sym none ∙ ap records (sym z) ∙ at in cc

-- ---- trees of the rules

-- each way to a record is shorter than that
abbrev pub AreShort : Links → Records → ℕ → ℕ → Type 0
AreShort links records n most = (p : ℕ) (way : Way) → IsRecord records p → Leads links n way p → length way.1 < most

abbrev rooted : Option Record → ℕ → Tree → Tree → Tree
rooted None at l r = leaf
rooted (Some x) at l r = node at x.key l r

-- the records from a place on, so many steps down
abbrev pub grow : Links → Records → ℕ → ℕ → Tree
grow links records zero at = leaf
grow links records (suc k) at = rooted (records at) at (grow links records k (links (Left at))) (grow links records k (links (Right at)))

grown : (links : Links) (records : Records) (k at : ℕ) (r : Record) → records at ≡ Some r → grow links records (suc k) at ≡ node at r.key (grow links records k (links (Left at))) (grow links records k (links (Right at)))
grown links records k at r e = ap (λ (o : Option Record). rooted o at (grow links records k (links (Left at))) (grow links records k (links (Right at)))) e

bare : (links : Links) (records : Records) (k at : ℕ) → records at ≡ None → grow links records k at ≡ leaf
bare links records zero at e = refl
bare links records (suc k) at e = ap (λ (o : Option Record). rooted o at (grow links records k (links (Left at))) (grow links records k (links (Right at)))) e

module _ (links : Links) (records : Records) (n : ℕ) (none : records 0 ≡ None) (names : NamesRecords links records n) (home : AreAtHome links records n) where
  grow_hangs : (most : ℕ) → AreShort links records n most → (k b : ℕ) (turns : List Turn) → b < n → most ≤ length turns + k → IsLink records n (end_of links b turns) → Hangs (seen links records) (links (end_of links b turns)) (grow links records k (links (end_of links b turns)))
  grow_hangs most short zero b turns low enough is = ⊎_elim (λ z. z)
      (λ w. absurd (let s = short (links (end_of links b turns)) (b, turns) w (low, refl) in omega (arith, s, enough))) (names (end_of links b turns) is)
  grow_hangs most short (suc k) b turns low enough is = ⊎_elim
      (λ z. let e : grow links records (suc k) (links (end_of links b turns)) ≡ leaf = bare links records (suc k) (links (end_of links b turns)) (ap records z ∙ none) in
      subst (λ (t : Tree). Hangs (seen links records) (links (end_of links b turns)) t) (sym e) z)
      (λ w. let at = links (end_of links b turns) in
      let h = home at w.0 (b, turns) w.1 (low, refl) in
      subst (λ (t : Tree). Hangs (seen links records) at t) (sym (grown links records k at w.0 w.1)) (
        refl,
        none_zero records at w.0 none w.1,
        key_is records at w.0 w.1 h.1,
        grow_hangs most short k b (left ∷ turns) low (omega (arith, enough)) w,
        grow_hangs most short k b (right ∷ turns) low (omega (arith, enough)) w,
      ))
      (names (end_of links b turns) is)

-- a way leads on to this record
abbrev On : Links → ℕ → List Turn → ℕ → Key → Type 0
On links b turns p k = (more : List Turn) × (links (end_of links b (more ++ turns)) ≡ p)

on_more : (links : Links) (b : ℕ) (turns : List Turn) (t : Turn) (p : ℕ) (k : Key) → On links b (t ∷ turns) p k → On links b turns p k
on_more links b turns t p k w = (w.0 ++ (t ∷ []), ap (λ (l : List Turn). links (end_of links b l)) (append_assoc w.0 (t ∷ []) turns) ∙ w.1)

all_on : (v : View) (b : ℕ) (turns : List Turn) (t : Tree) → Hangs v (v.links (end_of v.links b turns)) t → AllOf (On v.links b turns) t
all_on v b turns leaf h = tt
all_on v b turns (node p q l r) h = (
  ([], h.0),
  all_map (On v.links b (left ∷ turns)) (On v.links b turns) (λ x k w. on_more v.links b turns left x k w) l (all_on v b (left ∷ turns) l (subst (λ z. Hangs v (v.links (Left z)) l) (sym h.0) h.3)),
  all_map (On v.links b (right ∷ turns)) (On v.links b turns) (λ x k w. on_more v.links b turns right x k w) r (all_on v b (right ∷ turns) r (subst (λ z. Hangs v (v.links (Right z)) r) (sym h.0) h.4)),
)

ordered_by : (links : Links) (records : Records) (n : ℕ) → AreInOrder links records n → (b : ℕ) (turns : List Turn) (t : Tree) → b < n → Hangs (seen links records) (links (end_of links b turns)) t → Ordered t
ordered_by links records n order b turns leaf low h = tt
ordered_by links records n order b turns (node p q l r) low h =
    let v = seen links records in
    let me = has_key records p q h.2 in
    let hl : Hangs v (links (end_of links b (left ∷ turns))) l = subst (λ z. Hangs v (links (Left z)) l) (sym h.0) h.3 in
    let hr : Hangs v (links (end_of links b (right ∷ turns))) r = subst (λ z. Hangs v (links (Right z)) r) (sym h.0) h.4 in (
      all_both (Keyed v) (On links b (left ∷ turns)) (Above q)
          (λ x k has w. let it = has_key records x k has in
          subst (λ (z : Key). key_cmp k z ≡ Greater) me.key (subst (λ (z : Key). key_cmp z me.rec.key ≡ Greater) it.key ((order p x me.rec it.rec (b, turns) w.0 me.at it.at (low, h.0)).0 (low, w.1))))
          l (hangs_keys v (links (end_of links b (left ∷ turns))) l hl) (all_on v b (left ∷ turns) l hl),
      all_both (Keyed v) (On links b (right ∷ turns)) (Below q)
          (λ x k has w. let it = has_key records x k has in
          subst (λ (z : Key). key_cmp k z ≡ Less) me.key (subst (λ (z : Key). key_cmp z me.rec.key ≡ Less) it.key ((order p x me.rec it.rec (b, turns) w.0 me.at it.at (low, h.0)).1 (low, w.1))))
          r (hangs_keys v (links (end_of links b (right ∷ turns))) r hr) (all_on v b (right ∷ turns) r hr),
      ordered_by links records n order b (left ∷ turns) l low hl,
      ordered_by links records n order b (right ∷ turns) r low hr,
    )

-- ---- down a tree along a way

-- nothing is at place 0
pub record IsBare (links : Links) (records : Records) : Type 0 where
  pub none : records 0 ≡ None
  pub lefts : links (Left 0) ≡ 0
  pub rights : links (Right 0) ≡ 0

-- the tree at the end of a way, whose records have what all have
pub record Below_ (v : View) (b : ℕ) (turns : List Turn) (P : ℕ → Key → Type 0) : Type 0 where
  pub tree : Tree
  pub hangs : Hangs v (v.links (end_of v.links b turns)) tree
  pub all : AllOf P tree

pub along : (v : View) → v.links (Left 0) ≡ 0 → v.links (Right 0) ≡ 0 → (b : ℕ) (turns : List Turn) (P : ℕ → Key → Type 0) (t : Tree) → Hangs v (v.links (end_of v.links b turns)) t → AllOf P t → (more : List Turn) → Below_ v b (more ++ turns) P
along v zl zr b turns P t h all [] = record { tree = t; hangs = h; all = all }
along v zl zr b turns P t h all (left ∷ more) = let w = along v zl zr b turns P t h all more in go w.tree w.hangs w.all
  where
    go : (s : Tree) → Hangs v (v.links (end_of v.links b (more ++ turns))) s → AllOf P s → Below_ v b (left ∷ (more ++ turns)) P
    go leaf hs al = record { tree = leaf; hangs = ap (λ z. v.links (Left z)) hs ∙ zl; all = tt }
    go (node p q l r) hs al = record { tree = l; hangs = subst (λ z. Hangs v (v.links (Left z)) l) (sym hs.0) hs.3; all = al.1 }
along v zl zr b turns P t h all (right ∷ more) = let w = along v zl zr b turns P t h all more in go w.tree w.hangs w.all
  where
    go : (s : Tree) → Hangs v (v.links (end_of v.links b (more ++ turns))) s → AllOf P s → Below_ v b (right ∷ (more ++ turns)) P
    go leaf hs al = record { tree = leaf; hangs = ap (λ z. v.links (Right z)) hs ∙ zr; all = tt }
    go (node p q l r) hs al = record { tree = r; hangs = subst (λ z. Hangs v (v.links (Right z)) r) (sym hs.0) hs.4; all = al.2 }

-- where a way ends at a place that isn't 0, a record is there and has what all have
ends_at : (v : View) (b : ℕ) (turns : List Turn) (P : ℕ → Key → Type 0) (p : ℕ) → Below_ v b turns P → v.links (end_of v.links b turns) ≡ p → p ≢ 0 → (k : Key) × (v.keys p ≡ Some k) × P p k
ends_at v b turns P p w is some = go w.tree w.hangs w.all
  where
    go : (s : Tree) → Hangs v (v.links (end_of v.links b turns)) s → AllOf P s → (k : Key) × (v.keys p ≡ Some k) × P p k
    go leaf hs al = absurd (some (sym is ∙ hs))
    go (node x q l r) hs al = let e : x ≡ p = sym hs.0 ∙ is in (q, subst (λ z. v.keys z ≡ Some q) e hs.2, subst (λ z. P z q) e al.0)

pub all_hang : (links : Links) (records : Records) (n most : ℕ) → IsBare links records → AreShort links records n most → NamesRecords links records n → ReachedOnce links records n → AreAtHome links records n → AreInOrder links records n → AllHang links records n (λ k. look (grow links records most (links (Bucket (bucket_of n k)))) k)
all_hang links records n most bare_ short names once home order = record {
  holds = record { trees = λ b. grow links records most (links (Bucket b)); hung = hung; map = λ k. refl };
  all = λ p r at.
      let w = once p (r, at) in
      let b = w.0.0 in
      let h = home p r w.0 at w.1 in
      let t = grow links records most (links (Bucket b)) in
      let g = hung b w.1.0 in
      let down = along v bare_.lefts bare_.rights b [] (Looked t) t g.hangs (all_looked t g.ordered) w.0.1 in
      let e = ends_at v b (w.0.1 ++ []) (Looked t) p down (ap (λ (l : List Turn). links (end_of links b l)) (nil w.0.1) ∙ w.1.1) (none_zero records p r bare_.none at) in
      let it = has_key records p e.0 e.1 in
      let same : r.key ≡ e.0 = (let i = it.at in let j : Some r ≡ Some it.rec = sym at ∙ i in let f : r ≡ it.rec = cc in ap (λ (x : Record). x.key) f ∙ it.key) in
      ap (λ z. look (grow links records most (links (Bucket z))) r.key) h.0 ∙ ap (λ (k : Key). look t k) same ∙ e.2;
}
  where
    v : View
    v = seen links records

    nil : (l : List Turn) → l ++ [] ≡ l
    nil [] = refl
    nil (x ∷ l) = ap (λ (m : List Turn). x ∷ m) (nil l)

    hung : (b : ℕ) → b < n → Hung v n b (grow links records most (links (Bucket b)))
    hung b low =
        let h = grow_hangs links records n bare_.none names home most short most b [] low (omega arith) low in
        record {
          hangs = h;
          ordered = ordered_by links records n order b [] (grow links records most (links (Bucket b))) low h;
          home = all_both (Keyed v) (On links b []) (λ p k. bucket_of n k ≡ b)
              (λ p k has w. let it = has_key records p k has in ap (bucket_of n) (sym it.key) ∙ (home p it.rec (b, w.0 ++ []) it.at (low, w.1)).0)
              (grow links records most (links (Bucket b))) (hangs_keys v (links (Bucket b)) (grow links records most (links (Bucket b))) h) (all_on v b [] (grow links records most (links (Bucket b))) h);
        }

-- ---- the rules of trees

-- the turns to a key from a tree on
abbrev pub path : Tree → Key → List Turn → List Turn
path leaf k turns = turns
path (node p q l r) k turns = by_order (key_cmp k q) (path r k (right ∷ turns)) turns (path l k (left ∷ turns))

record Traced (v : View) (b : ℕ) (t : Tree) (turns : List Turn) : Type 0 where
  pub tree : Tree
  pub hangs : Hangs v (v.links (end_of v.links b turns)) tree
  pub ordered : Ordered tree
  pub same : AllOf (λ p k. path t k [] ≡ path tree k turns) tree

all_refl : (t s : Tree) → AllOf (λ p k. path t k [] ≡ path t k []) s
all_refl t leaf = tt
all_refl t (node p q l r) = (refl, all_refl t l, all_refl t r)

traced : (v : View) → v.links (Left 0) ≡ 0 → v.links (Right 0) ≡ 0 → (b : ℕ) (t : Tree) → Hangs v (v.links (Bucket b)) t → Ordered t → (turns : List Turn) → Traced v b t turns
traced v zl zr b t h o [] = record { tree = t; hangs = h; ordered = o; same = all_refl t t }
traced v zl zr b t h o (left ∷ turns) = let w = traced v zl zr b t h o turns in go w.tree w.hangs w.ordered w.same
  where
    go : (s : Tree) → Hangs v (v.links (end_of v.links b turns)) s → Ordered s → AllOf (λ p k. path t k [] ≡ path s k turns) s → Traced v b t (left ∷ turns)
    go leaf hs os al = record { tree = leaf; hangs = ap (λ z. v.links (Left z)) hs ∙ zl; ordered = tt; same = tt }
    go (node p q l r) hs os al = record {
      tree = l;
      hangs = subst (λ z. Hangs v (v.links (Left z)) l) (sym hs.0) hs.3;
      ordered = os.2;
      same = all_both (Above q) (λ x k. path t k [] ≡ path (node p q l r) k turns) (λ x k. path t k [] ≡ path l k (left ∷ turns)) (λ x k a e. e ∙ (let g : key_cmp k q ≡ Greater = a in rw g refl)) l os.0 al.1;
    }
traced v zl zr b t h o (right ∷ turns) = let w = traced v zl zr b t h o turns in go w.tree w.hangs w.ordered w.same
  where
    go : (s : Tree) → Hangs v (v.links (end_of v.links b turns)) s → Ordered s → AllOf (λ p k. path t k [] ≡ path s k turns) s → Traced v b t (right ∷ turns)
    go leaf hs os al = record { tree = leaf; hangs = ap (λ z. v.links (Right z)) hs ∙ zr; ordered = tt; same = tt }
    go (node p q l r) hs os al = record {
      tree = r;
      hangs = subst (λ z. Hangs v (v.links (Right z)) r) (sym hs.0) hs.4;
      ordered = os.3;
      same = all_both (Below q) (λ x k. path t k [] ≡ path (node p q l r) k turns) (λ x k. path t k [] ≡ path r k (right ∷ turns)) (λ x k a e. e ∙ (let g : key_cmp k q ≡ Less = a in rw g refl)) r os.1 al.2;
    }

-- the turns to a key are those of each way that leads to its place
turns_are : (v : View) (b : ℕ) (t : Tree) (turns : List Turn) (p : ℕ) (k : Key) → Traced v b t turns → v.links (end_of v.links b turns) ≡ p → p ≢ 0 → v.keys p ≡ Some k → turns ≡ path t k []
turns_are v b t turns p k w is some has = go w.tree w.hangs w.same
  where
    go : (s : Tree) → Hangs v (v.links (end_of v.links b turns)) s → AllOf (λ p k. path t k [] ≡ path s k turns) s → turns ≡ path t k []
    go leaf hs al = absurd (some (sym is ∙ hs))
    go (node x q l r) hs al =
        let e : x ≡ p = sym hs.0 ∙ is in
        let f : q ≡ k = (let i : v.keys p ≡ Some q = subst (λ z. v.keys z ≡ Some q) e hs.2 in let j : Some q ≡ Some k = sym i ∙ has in cc) in
        let g : path (node x q l r) q turns ≡ turns = (let s = same_key q in rw s refl) in
        sym (ap (λ (z : Key). path t z []) (sym f) ∙ al.0 ∙ g)

-- and they lead there
path_leads : (v : View) (b : ℕ) (turns : List Turn) (t : Tree) (p : ℕ) (k : Key) → Hangs v (v.links (end_of v.links b turns)) t → look t k ≡ Some p → v.links (end_of v.links b (path t k turns)) ≡ p
path_leads v b turns leaf p k h is = absurd (let e : None ≡ Some p = is in cc)
path_leads v b turns (node x q l r) p k h is = three (key_cmp k q)
    (λ e. rw e (path_leads v b (right ∷ turns) r p k (subst (λ z. Hangs v (v.links (Right z)) r) (sym h.0) h.4) (rw e at is)))
    (λ e. rw e (h.0 ∙ (let f : Some x ≡ Some p = rw e at is in cc)))
    (λ e. rw e (path_leads v b (left ∷ turns) l p k (subst (λ z. Hangs v (v.links (Left z)) l) (sym h.0) h.3) (rw e at is)))

names_one : (v : View) (records : Records) (a : ℕ) (s : Tree) → ((p : ℕ) (k : Key) → v.keys p ≡ Some k → IsRecord records p) → Hangs v a s → (a ≡ 0) ⊎ IsRecord records a
names_one v records a leaf is h = inl h
names_one v records a (node p q l r) is h = inr (subst (λ z. IsRecord records z) (sym h.0) (is p q h.2))

module _ (links : Links) (records : Records) (n : ℕ) (places : Key → Option ℕ) (bare_ : IsBare links records) (hang : AllHang links records n places) where
  abbrev h : Holds (seen links records) n places
  h = hang.holds

  abbrev trees : ℕ → Tree
  trees = hang.holds.trees

  its_key : (p : ℕ) (k : Key) → key_of (records p) ≡ Some k → IsRecord records p
  its_key p k e = let w = has_key records p k e in (w.rec, w.at)

  -- at the end of a way to a record
  its_end : (p : ℕ) (r : Record) (way : Way) → records p ≡ Some r → Leads links n way p → (r.hash ≡ second r.key) × (bucket_of n r.key ≡ way.0) × (key_of (records p) ≡ Some r.key)
  its_end p r way at leads =
      let v = seen links records in
      let g = h.hung way.0 leads.0 in
      let w = traced v bare_.lefts bare_.rights way.0 (trees way.0) g.hangs g.ordered way.1 in
      let down = along v bare_.lefts bare_.rights way.0 [] (λ p k. bucket_of n k ≡ way.0) (trees way.0) g.hangs g.home way.1 in
      let e = ends_at v way.0 (way.1 ++ []) (λ p k. bucket_of n k ≡ way.0) p down (ap (λ (l : List Turn). links (end_of links way.0 l)) (no_more way.1) ∙ leads.1) (none_zero records p r bare_.none at) in
      let it = has_key records p e.0 e.1 in
      let same : it.rec ≡ r = (let i = it.at in let j : Some it.rec ≡ Some r = sym i ∙ at in cc) in
      let key : r.key ≡ e.0 = ap (λ (x : Record). x.key) (sym same) ∙ it.key in
      (ap (λ (x : Record). x.hash) (sym same) ∙ it.hash ∙ ap second (sym key), ap (bucket_of n) key ∙ e.2, e.1 ∙ ap (λ (z : Key). Some z) (sym key))
    where
      no_more : (l : List Turn) → l ++ [] ≡ l
      no_more [] = refl
      no_more (x ∷ l) = ap (λ (m : List Turn). x ∷ m) (no_more l)

  pub at_home : AreAtHome links records n
  at_home p r way at leads = let e = its_end p r way at leads in (e.1, e.0)

  abbrev way_of : Record → Way
  way_of r = (bucket_of n r.key, path (trees (bucket_of n r.key)) r.key [])

  pub once : ((k : Key) → bucket_of n k < n) → ReachedOnce links records n
  once low p w =
      let r = w.0 in
      let v = seen links records in
      let g = h.hung (bucket_of n r.key) (low r.key) in (
        way_of r,
        (low r.key, path_leads v (bucket_of n r.key) [] (trees (bucket_of n r.key)) p r.key g.hangs (sym (h.map r.key) ∙ hang.all p r w.1)),
        λ other leads.
            let e = its_end p r other w.1 leads in
            let i = h.hung other.0 leads.0 in
            let turns = turns_are v other.0 (trees other.0) other.1 p r.key (traced v bare_.lefts bare_.rights other.0 (trees other.0) i.hangs i.ordered other.1) leads.1 (none_zero records p r bare_.none w.1) e.2 in
            let same : other.1 ≡ path (trees (bucket_of n r.key)) r.key [] = turns ∙ ap (λ (z : ℕ). path (trees z) r.key []) (sym e.1) in
            (λ j. (sym e.1 j, same j)),
      )

  pub names : ((k : Key) → bucket_of n k < n) → NamesRecords links records n
  names low (Bucket b) is = names_one (seen links records) records (links (Bucket b)) (trees b) its_key (h.hung b is).hangs
  names low (Left p) is = let o = once low p is in let g = h.hung o.0.0 o.1.0 in
      let w = traced (seen links records) bare_.lefts bare_.rights o.0.0 (trees o.0.0) g.hangs g.ordered (left ∷ o.0.1) in
      subst (λ z. (links (Left z) ≡ 0) ⊎ IsRecord records (links (Left z))) o.1.1 (names_one (seen links records) records (links (end_of links o.0.0 (left ∷ o.0.1))) w.tree its_key w.hangs)
  names low (Right p) is = let o = once low p is in let g = h.hung o.0.0 o.1.0 in
      let w = traced (seen links records) bare_.lefts bare_.rights o.0.0 (trees o.0.0) g.hangs g.ordered (right ∷ o.0.1) in
      subst (λ z. (links (Right z) ≡ 0) ⊎ IsRecord records (links (Right z))) o.1.1 (names_one (seen links records) records (links (end_of links o.0.0 (right ∷ o.0.1))) w.tree its_key w.hangs)

  -- the tree at the end of a way to a record
  its_tree : (p : ℕ) (r : Record) (way : Way) → records p ≡ Some r → Leads links n way p → (x : Tree) × (y : Tree) × Hangs (seen links records) p (node p r.key x y) × Ordered (node p r.key x y)
  its_tree p r way at leads =
      let v = seen links records in
      let g = h.hung way.0 leads.0 in
      let w = traced v bare_.lefts bare_.rights way.0 (trees way.0) g.hangs g.ordered way.1 in
      let e = its_end p r way at leads in go v (links (end_of links way.0 way.1)) w.tree w.hangs w.ordered leads.1 (none_zero records p r bare_.none at) e.2
    where
      go : (v : View) (a : ℕ) (s : Tree) → Hangs v a s → Ordered s → a ≡ p → p ≢ 0 → v.keys p ≡ Some r.key → (x : Tree) × (y : Tree) × Hangs v p (node p r.key x y) × Ordered (node p r.key x y)
      go v a leaf hs os is some has = absurd (some (sym is ∙ hs))
      go v a (node z q x y) hs os is some has =
          let e : z ≡ p = sym hs.0 ∙ is in
          let f : q ≡ r.key = (let i : v.keys p ≡ Some q = subst (λ c. v.keys c ≡ Some q) e hs.2 in let j : Some q ≡ Some r.key = sym i ∙ has in cc) in
          let i : node z q x y ≡ node p r.key x y = (λ j. node (e j) (f j) x y) in
          (x, y, subst (λ c. Hangs v c (node p r.key x y)) is (subst (λ (s : Tree). Hangs v a s) i hs), subst (λ (s : Tree). Ordered s) i os)

  pub in_order : AreInOrder links records n
  in_order p q r s way more at there leads =
      let v = seen links records in
      let w = its_tree p r way at leads in
      let some = none_zero records q s bare_.none there in (
        λ further. let d = along v bare_.lefts bare_.rights way.0 (left ∷ way.1) (Above r.key) w.0 (subst (λ z. Hangs v (links (Left z)) w.0) (sym leads.1) w.2.3) w.3.0 more in
            let e = ends_at v way.0 (more ++ (left ∷ way.1)) (Above r.key) q d further.1 some in
            subst (λ (k : Key). key_cmp k r.key ≡ Greater) (key_same q s e.0 there e.1) e.2,
        λ further. let d = along v bare_.lefts bare_.rights way.0 (right ∷ way.1) (Below r.key) w.1 (subst (λ z. Hangs v (links (Right z)) w.1) (sym leads.1) w.2.4) w.3.1 more in
            let e = ends_at v way.0 (more ++ (right ∷ way.1)) (Below r.key) q d further.1 some in
            subst (λ (k : Key). key_cmp k r.key ≡ Less) (key_same q s e.0 there e.1) e.2,
      )
    where
      key_same : (q : ℕ) (s : Record) (k : Key) → records q ≡ Some s → key_of (records q) ≡ Some k → k ≡ s.key
      key_same q s k at e = let it = has_key records q k e in let i = it.at in let j : Some it.rec ≡ Some s = sym i ∙ at in let f : it.rec ≡ s = cc in sym it.key ∙ ap (λ (x : Record). x.key) f
