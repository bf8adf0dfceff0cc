-- Pages by their keys.
use Rattle.std.proofs.Common.{◌≡◌, ◌≢◌, ℕ, zero, suc, ◌+◌, ◌<◌, ◌≤◌, ◌^◌, ◌⊎◌, Bool, true, false, List, [], ◌∷◌, length, get_or, Option, Some, None, refl, sym, ap, subst, ◌∙◌, inl, inr, ⊎_elim, arith, length-append}
use Rattle.std.specs.Prelude.{◌&&◌, ◌==◌, ◌↔◌, IfNone, IfSome, IsTrue, if◌then◌else◌}
use Rattle.bt_page.specs.declared.page.Leaf.{Leaf}
use Rattle.bt_page.specs.declared.page.Node.{Node}
use Rattle.bt_page.specs.Limits.{NodeWithin}
use Rattle.bt_page.specs.Pages.{leaf_bytes, node_bytes, LeafFits, NodeFits}
use Rattle.bt_page.proofs.AtFronts.{leaf_only, node_only}
use Rattle.bt_page.specs.Spelled.{Spells}
use Rattle.bt_rows.specs.declared.head.TreeHead.{TreeHead}
use Rattle.bt_rows.specs.declared.page.Page.{Page}
use Rattle.bt_rows.specs.declared.page.Page.TheVariants.{Leaf as leaf_page, Node as node_page}
use Rattle.bt_rows.specs.Pages.{Map, PageMap, IsGiven, IsPage, IsHeldAs, AreHeld}
use Rattle.bt_check.specs.declared.collecting.Collected.{Collected}
use Rattle.bt_check.specs.declared.collecting.Found.{Found}
use Rattle.bt_check.specs.declared.collecting.Found.TheVariants.{Page as found_page, Column, Nothing}
use Rattle.bt_rows.specs.Rows.{held}
use Rattle.bt_rows.specs.Rules.{B1, B2, B5, IsPageAt, IsWithin, LeafLimits, column}
use Rattle.bt_page.specs.Keys.{key_of, node_offset}
use Rattle.std.specs.Ordering.{nat_cmp}
use Rattle.std.specs.BTreeSet.{BTreeSet, contains}
use Rattle.std.proofs.lemmas.Bool.{cases_eq, ne_eqb, eq-eqb, and_parts}
use Rattle.bt_check.specs.Collected.{has, IsOnePage, IsFound, IsNoted, IsCollected}
use Rattle.bt_check.specs.Keys.{IsListed, IsHeldKey}
use Rattle.bt_check.specs.ReadPages.{IsParsed, IsReadAs, leaf_or_none, node_or_none}
use Rattle.bt_page.proofs.IdKeys.{key_free}
use Rattle.bt_rows.proofs.Held.{given_small, decided, column_free}

-- ---- pages one by one

pub leaf_judged : (h : TreeHead) (id : ℕ) (bytes : List ℕ) (l : Leaf) (within : Bool) → id < node_offset → Spells LeafFits leaf_bytes bytes l → IsTrue within ↔ LeafLimits h id l → IsOnePage h id bytes within
leaf_judged h id bytes l within lt s iff = record { page = leaf_page l; is = (lt, s); only = only_leaf; inside = iff.0; outside = λ e w. let bad = sym e ∙ iff.1 w in cc }
  where
    only_leaf : (p : Page) → IsPage id bytes p → p ≡ leaf_page l
    only_leaf (leaf_page m) is = ap (λ (k : Leaf). leaf_page k) (leaf_only bytes l m s is.1)
    only_leaf (node_page m) is = absurd (omega (arith, lt, is.0))

pub node_judged : (h : TreeHead) (id : ℕ) (bytes : List ℕ) (n : Node) (within : Bool) → node_offset ≤ id → Spells NodeFits node_bytes bytes n → IsTrue within ↔ NodeWithin h.node_limit n → IsOnePage h id bytes within
node_judged h id bytes n within le s iff = record { page = node_page n; is = (le, s); only = only_node; inside = iff.0; outside = λ e w. let bad = sym e ∙ iff.1 w in cc }
  where
    only_node : (p : Page) → IsPage id bytes p → p ≡ node_page n
    only_node (leaf_page m) is = absurd (omega (arith, le, is.0))
    only_node (node_page m) is = ap (λ (k : Node). node_page k) (node_only bytes n m s is.1)

pub no_leaf : (id : ℕ) (bytes : List ℕ) → id < node_offset → ((l : Leaf) → Spells LeafFits leaf_bytes bytes l → ⊥) → (p : Page) → IsPage id bytes p → ⊥
no_leaf id bytes lt none (leaf_page l) is = none l is.1
no_leaf id bytes lt none (node_page n) is = omega (arith, lt, is.0)

pub no_node : (id : ℕ) (bytes : List ℕ) → node_offset ≤ id → ((n : Node) → Spells NodeFits node_bytes bytes n → ⊥) → (p : Page) → IsPage id bytes p → ⊥
no_node id bytes le none (leaf_page l) is = omega (arith, le, is.0)
no_node id bytes le none (node_page n) is = none n is.1

-- what is read of bytes under the id of a leaf, or of a node
pub leaf_parsed : (id : ℕ) (bytes : List ℕ) (r : Option Leaf) → id < node_offset → IfSome r (λ l. Spells LeafFits leaf_bytes bytes l) → IfNone r ((l : Leaf) → Spells LeafFits leaf_bytes bytes l → ⊥) → IsParsed id bytes (leaf_or_none r)
leaf_parsed id bytes None lt found none = no_leaf id bytes lt none
leaf_parsed id bytes (Some l) lt found none = ((lt, found), only_leaf)
  where
    only_leaf : (p : Page) → IsPage id bytes p → p ≡ leaf_page l
    only_leaf (leaf_page m) is = ap (λ (k : Leaf). leaf_page k) (leaf_only bytes l m found is.1)
    only_leaf (node_page m) is = absurd (omega (arith, lt, is.0))

pub node_parsed : (id : ℕ) (bytes : List ℕ) (r : Option Node) → node_offset ≤ id → IfSome r (λ n. Spells NodeFits node_bytes bytes n) → IfNone r ((n : Node) → Spells NodeFits node_bytes bytes n → ⊥) → IsParsed id bytes (node_or_none r)
node_parsed id bytes None le found none = no_node id bytes le none
node_parsed id bytes (Some n) le found none = ((le, found), only_node)
  where
    only_node : (p : Page) → IsPage id bytes p → p ≡ node_page n
    only_node (leaf_page m) is = absurd (omega (arith, le, is.0))
    only_node (node_page m) is = ap (λ (k : Node). node_page k) (node_only bytes n m found is.1)

-- what stands under a key is read as the page that its bytes are
pub read_some : (id : ℕ) (o : Option (List ℕ)) (bytes : List ℕ) (p : Option Page) → o ≡ Some bytes → IsParsed id bytes p → IsReadAs id o p
read_some id o bytes p e parsed = subst (λ (t : Option (List ℕ)). IsReadAs id t p) (sym e) parsed

pub read_none : (id : ℕ) (o : Option (List ℕ)) → o ≡ None → IsReadAs id o None
read_none id o e = subst (λ (t : Option (List ℕ)). IsReadAs id t None) (sym e) tt

-- ---- keys one by one

-- a key is a page's, or `column`
abbrev pub IsFine : TreeHead → Bool → Map → List ℕ → Type 0
IsFine h index m key = (bytes : List ℕ) → m key ≡ Some bytes → IsPageAt h key bytes ⊎ ((index ≡ true) × (key ≡ column))

-- a page breaks a limit
pub record IsBeyond (h : TreeHead) (m : Map) : Type 0 where
  pub id : ℕ
  pub bytes : List ℕ
  pub page : Page
  pub given : IsGiven h id
  pub at : m (key_of id) ≡ Some bytes
  pub is : IsPage id bytes page
  pub only : (p : Page) → IsPage id bytes p → p ≡ page
  pub outside : IsWithin h id (Some page) → ⊥

-- so many keys were looked at
pub record Collects (h : TreeHead) (index : Bool) (m : Map) (keys : List (List ℕ)) (i : ℕ) (ids : BTreeSet ℕ) (within : Bool) : Type 0 where
  pub done : (k : ℕ) → k < i → IsFine h index m (get_or keys k [])
  pub sound : (id : ℕ) → has ids id ≡ 1 → IsGiven h id × ((k : ℕ) × (k < i) × (get_or keys k [] ≡ key_of id))
  pub full : (id k : ℕ) → IsGiven h id → k < i → get_or keys k [] ≡ key_of id → has ids id ≡ 1
  pub inside : (id k : ℕ) (bytes : List ℕ) (p : Page) → within ≡ true → k < i → IsGiven h id → get_or keys k [] ≡ key_of id → m (get_or keys k []) ≡ Some bytes → IsPage id bytes p → IsWithin h id (Some p)
  pub outside : within ≡ false → IsBeyond h m

pub has_bound : (ids : BTreeSet ℕ) (id : ℕ) → has ids id ≤ 1
unfolding has
has_bound ids id = bit_most (contains nat_cmp ids id)
  where
    bit_most : (b : Bool) → (if b then 1 else 0) ≤ 1
    bit_most true = omega arith
    bit_most false = omega arith

empty_has : (ids : BTreeSet ℕ) (id : ℕ) → contains nat_cmp ids id ≡ false → has ids id ≡ 0
unfolding has
empty_has ids id e = ap (λ (b : Bool). if b then 1 else 0) e

pub collects_none : (h : TreeHead) (index : Bool) (m : Map) (keys : List (List ℕ)) (ids : BTreeSet ℕ) → ((id : ℕ) → contains nat_cmp ids id ≡ false) → Collects h index m keys 0 ids true
collects_none h index m keys ids none = record {
  done = λ k lt. absurd (omega (arith, lt));
  sound = λ id e. absurd (omega (arith, e, empty_has ids id (none id)));
  full = λ id k g lt e. absurd (omega (arith, lt));
  inside = λ id k bytes p w lt g e a i. absurd (omega (arith, lt));
  outside = λ e. absurd cc;
}

-- what holds below a place and there holds below the next
below_more : (P : ℕ → Type 0) (i : ℕ) → ((k : ℕ) → k < i → P k) → P i → (k : ℕ) → k < i + 1 → P k
below_more P i below here k lt = ⊎_elim (λ (is : k ≡ i). subst P (sym is) here) (λ (ne : k ≡ i → ⊥). below k (omega (arith, lt, ne))) (cases_eq k i)

has_same : (old new : BTreeSet ℕ) (id x : ℕ) → ((x : ℕ) → has new x ≡ (if x == id then 1 else has old x)) → x ≡ id → has new x ≡ 1
has_same old new id x h e = let t : (x == id) ≡ true = eq-eqb x id e in h x ∙ rw t refl

has_other : (old new : BTreeSet ℕ) (id x : ℕ) → ((x : ℕ) → has new x ≡ (if x == id then 1 else has old x)) → x ≢ id → has new x ≡ has old x
has_other old new id x h ne = let t : (x == id) ≡ false = ne_eqb x id ne in h x ∙ rw t refl

pub collects_column : (h : TreeHead) (index : Bool) (m : Map) (keys : List (List ℕ)) (i : ℕ) (ids : BTreeSet ℕ) (within : Bool) → IsFound h index m (get_or keys i []) Column → Collects h index m keys i ids within → Collects h index m keys (i + 1) ids within
collects_column h index m keys i ids within f c = record {
  done = below_more (λ k. IsFine h index m (get_or keys k [])) i c.done (λ bytes e. inr (f.0, f.1));
  sound = λ id e. let s = c.sound id e in (s.0, (s.1.0, omega (arith, s.1.1), s.1.2));
  full = λ id k g lt e. ⊎_elim (λ (is : k ≡ i). absurd (f.2 id g (ap (λ (j : ℕ). get_or keys j []) (sym is) ∙ e))) (λ (ne : k ≡ i → ⊥). c.full id k g (omega (arith, lt, ne)) e) (cases_eq k i);
  inside = λ id k bytes p w lt g e a s. ⊎_elim (λ (is : k ≡ i). absurd (f.2 id g (ap (λ (j : ℕ). get_or keys j []) (sym is) ∙ e))) (λ (ne : k ≡ i → ⊥). c.inside id k bytes p w (omega (arith, lt, ne)) g e a s) (cases_eq k i);
  outside = c.outside;
}

pub collects_page : (h : TreeHead) (index : Bool) (m : Map) (keys : List (List ℕ)) (i id : ℕ) (ids new : BTreeSet ℕ) (within inside both : Bool) → B1 h → IsHeldKey m (get_or keys i []) → IsFound h index m (get_or keys i []) (found_page id inside)
    → ((x : ℕ) → has new x ≡ (if x == id then 1 else has ids x)) → (both ≡ true → (within ≡ true) × (inside ≡ true)) → (both ≡ false → (within ≡ false) ⊎ (inside ≡ false)) → Collects h index m keys i ids within → Collects h index m keys (i + 1) new both
collects_page h index m keys i id ids new within inside both b at f added true_both false_one c =
    let one : IsOnePage h id at.bytes inside = f.2 at.bytes at.is in
    let same : (x k : ℕ) → k ≡ i → IsGiven h x → get_or keys k [] ≡ key_of x → x ≡ id = λ x k is g e. key_free x id (given_small h x b g) (given_small h id b f.0) (sym e ∙ ap (λ (j : ℕ). get_or keys j []) is ∙ f.1) in
    record {
      done = below_more (λ k. IsFine h index m (get_or keys k [])) i c.done (λ bytes e. let p = f.2 bytes e in inl (record { id = id; given = f.0; key_is = f.1; page = p.page; is = p.is }));
      sound = λ x e. ⊎_elim
          (λ (is : x ≡ id). (subst (IsGiven h) (sym is) f.0, (i, omega arith, f.1 ∙ ap key_of (sym is))))
          (λ (ne : x ≡ id → ⊥). let s = c.sound x (sym (has_other ids new id x added ne) ∙ e) in (s.0, (s.1.0, omega (arith, s.1.1), s.1.2))) (cases_eq x id);
      full = λ x k g lt e. ⊎_elim
          (λ (is : k ≡ i). has_same ids new id x added (same x k is g e))
          (λ (ne : k ≡ i → ⊥). ⊎_elim (λ (is : x ≡ id). has_same ids new id x added is) (λ (other : x ≡ id → ⊥). has_other ids new id x added other ∙ c.full x k g (omega (arith, lt, ne)) e) (cases_eq x id)) (cases_eq k i);
      inside = λ x k bytes p w lt g e a s. ⊎_elim
          (λ (is : k ≡ i).
          let was : x ≡ id = same x k is g e in
          let these : bytes ≡ at.bytes = some_same bytes at.bytes (sym a ∙ ap (λ (j : ℕ). m (get_or keys j [])) is ∙ at.is) in
          let there : IsPage id at.bytes p = subst (λ (l : List ℕ). IsPage id l p) these (subst (λ (y : ℕ). IsPage y bytes p) was s) in
          subst (λ (y : ℕ). IsWithin h y (Some p)) (sym was) (subst (λ (q : Page). IsWithin h id (Some q)) (sym (one.only p there)) (one.inside (true_both w).1)))
          (λ (ne : k ≡ i → ⊥). c.inside x k bytes p (true_both w).0 (omega (arith, lt, ne)) g e a s) (cases_eq k i);
      outside = λ w. ⊎_elim c.outside (λ (out : inside ≡ false). record { id = id; bytes = at.bytes; page = one.page; given = f.0; at = ap m (sym f.1) ∙ at.is; is = one.is; only = one.only; outside = one.outside out }) (false_one w);
    }
  where
    some_same : (x y : List ℕ) → Some x ≡ Some y → x ≡ y
    some_same x y e = cc

pub not_fine : (h : TreeHead) (index : Bool) (m : Map) (key : List ℕ) → IsHeldKey m key → IsFound h index m key Nothing → B2 h index m → ⊥
not_fine h index m key at f b = f at.bytes at.is (b key at.bytes at.is)

-- ---- in the end

pub collected_rule : (h : TreeHead) (index : Bool) (m : Map) (keys : List (List ℕ)) (n : ℕ) (ids : BTreeSet ℕ) (within : Bool) → n ≡ length keys → IsListed m keys → Collects h index m keys n ids within → B2 h index m
collected_rule h index m keys n ids within all listed c key bytes e =
    let a = listed.all key bytes e in
    elim (c.done a.place (omega (arith, a.within, all)) bytes (ap m a.is ∙ e)) [
      | inl p ↦ inl (record { id = p.id; given = p.given; key_is = sym a.is ∙ p.key_is; page = p.page; is = p.is })
      | inr col ↦ inr (col.0, sym a.is ∙ col.1)
    ]

-- how an id stands in the map and among the pages
data Standing (m : Map) (pages : PageMap) (id : ℕ) : Type 0 where
  absent : m (key_of id) ≡ None → pages id ≡ None → Standing m pages id
  present : (bytes : List ℕ) (p : Page) → m (key_of id) ≡ Some bytes → pages id ≡ Some p → IsPage id bytes p → Standing m pages id

standing : (m : Map) (pages : PageMap) (id : ℕ) → IsHeldAs id (m (key_of id)) (pages id) → Standing m pages id
standing m pages id h = go (m (key_of id)) (pages id) refl refl h
  where
    go : (o : Option (List ℕ)) (q : Option Page) → m (key_of id) ≡ o → pages id ≡ q → IsHeldAs id o q → Standing m pages id
    go None None e f h = absent e f
    go None (Some p) e f h = absurd h
    go (Some bytes) None e f h = absurd h
    go (Some bytes) (Some p) e f h = present bytes p e f h

pub is_held : (pages : PageMap) (id : ℕ) (p : Page) → pages id ≡ Some p → held pages id ≡ 1
is_held pages id p e = rw e refl

pub not_held : (pages : PageMap) (id : ℕ) → pages id ≡ None → held pages id ≡ 0
not_held pages id e = rw e refl

module _ (h : TreeHead) (index : Bool) (m : Map) (keys : List (List ℕ)) (n : ℕ) (ids : BTreeSet ℕ) (within : Bool) (pages : PageMap) (all : n ≡ length keys) (listed : IsListed m keys) (c : Collects h index m keys n ids within) (holds : AreHeld h m pages) where
  bit : (n : ℕ) → n ≤ 1 → (n ≡ 1) ⊎ (n ≡ 0)
  bit zero lt = inr refl
  bit (suc zero) lt = inl refl
  bit (suc (suc n)) lt = absurd (omega (arith, lt))

  -- a page that is held was found
  found_one : (id : ℕ) (p : Page) → pages id ≡ Some p → IsGiven h id → has ids id ≡ 1
  found_one id p e g = go (standing m pages id (holds.given id g))
    where
      go : Standing m pages id → has ids id ≡ 1
      go (absent a f) = absurd (let bad = sym f ∙ e in cc)
      go (present bytes q a f s) = let w = listed.all (key_of id) bytes a in c.full id w.place g (omega (arith, w.within, all)) w.is

  held_one : (id : ℕ) → has ids id ≡ 1 → held pages id ≡ 1
  held_one id e = let s = c.sound id e in go s.1.0 s.1.1 s.1.2 (standing m pages id (holds.given id s.0))
    where
      go : (k : ℕ) → k < n → get_or keys k [] ≡ key_of id → Standing m pages id → held pages id ≡ 1
      go k lt is (absent a f) = let at = listed.held k (omega (arith, lt, all)) in absurd (let bad = sym a ∙ ap m (sym is) ∙ at.is in cc)
      go k lt is (present bytes q a f s) = is_held pages id q f

  -- a page that the map holds is one of a given id
  given_page : (id : ℕ) (p : Page) → pages id ≡ Some p → (IsGiven h id → ⊥) → ⊥
  given_page id p e not = let bad = sym (holds.others id not) ∙ e in cc

  page_has : (id : ℕ) (o : Option Page) → pages id ≡ o → (IsGiven h id ⊎ (IsGiven h id → ⊥)) → has ids id ≡ 0 → held pages id ≡ 0
  page_has id None e g none = not_held pages id e
  page_has id (Some p) e (inl g) none = absurd (omega (arith, none, found_one id p e g))
  page_has id (Some p) e (inr not) none = absurd (given_page id p e not)

  page_within : (id : ℕ) (o : Option Page) → pages id ≡ o → (IsGiven h id ⊎ (IsGiven h id → ⊥)) → within ≡ true → IsWithin h id o
  page_within id None e g w = tt
  page_within id (Some p) e (inr not) w = absurd (given_page id p e not)
  page_within id (Some p) e (inl g) w = go (standing m pages id (holds.given id g))
    where
      go : Standing m pages id → IsWithin h id (Some p)
      go (absent a f) = absurd (let bad = sym f ∙ e in cc)
      go (present bytes q a f s) =
          let at = listed.all (key_of id) bytes a in
          let same : q ≡ p = let both = sym f ∙ e in cc in
          subst (λ (r : Page). IsWithin h id (Some r)) same (c.inside id at.place bytes q w (omega (arith, at.within, all)) g at.is (ap m at.is ∙ a) s)

  page_beyond : within ≡ false → B5 h pages → ⊥
  page_beyond w b5 = let o = c.outside w in go o (standing m pages o.id (holds.given o.id o.given))
    where
      go : (o : IsBeyond h m) → Standing m pages o.id → ⊥
      go o (absent a f) = let bad = sym a ∙ o.at in cc
      go o (present bytes q a f s) =
          let these : bytes ≡ o.bytes = let both = sym a ∙ o.at in cc in
          let same : q ≡ o.page = o.only q (subst (λ (l : List ℕ). IsPage o.id l q) these s) in
          o.outside (subst (λ (p : Page). IsWithin h o.id (Some p)) same (subst (λ (r : Option Page). IsWithin h o.id r) f (b5 o.id)))

  pub collected : IsCollected h m ids within pages
  collected = record {
    all = λ id. ⊎_elim (λ (one : has ids id ≡ 1). one ∙ sym (held_one id one)) (λ (none : has ids id ≡ 0). none ∙ sym (page_has id (pages id) refl (decided h id) none)) (bit (has ids id) (has_bound ids id));
    inside = λ w id. page_within id (pages id) refl (decided h id) w;
    outside = page_beyond;
  }

pub no_page : (h : TreeHead) (index : Bool) (m : Map) (key bytes : List ℕ) (id : ℕ) → B1 h → IsGiven h id → key ≡ key_of id → m key ≡ Some bytes → ((p : Page) → IsPage id bytes p → ⊥) → IsFound h index m key Nothing
no_page h index m key bytes id b g is at none other e (inl p) =
    let same : p.id ≡ id = key_free p.id id (given_small h p.id b p.given) (given_small h id b g) (sym p.key_is ∙ is) in
    let these : other ≡ bytes = let both = sym e ∙ at in cc in
    none p.page (subst (λ (i : ℕ). IsPage i bytes p.page) same (subst (λ (l : List ℕ). IsPage p.id l p.page) these p.is))
no_page h index m key bytes id b g is at none other e (inr col) = column_free id (given_small h id b g) (sym col.1 ∙ is)

-- the bytes of a key that were judged are those that it has
pub page_found : (h : TreeHead) (m : Map) (key bytes : List ℕ) (id : ℕ) (within : Bool) → m key ≡ Some bytes → IsOnePage h id bytes within → (other : List ℕ) → m key ≡ Some other → IsOnePage h id other within
page_found h m key bytes id within at one other e = let these : bytes ≡ other = let both = sym at ∙ e in cc in subst (λ (l : List ℕ). IsOnePage h id l within) these one

-- what was found of an item is found of the key in its place
pub found_at : (h : TreeHead) (index : Bool) (m n : Map) (keys items : List (List ℕ)) (i : ℕ) (key item : List ℕ) (f f' : Found) → n ≡ m → items ≡ keys → i < length items → key ≡ item → item ≡ get_or items i item → f ≡ f' → IsFound h index n key f → IsFound h index m (get_or keys i []) f'
found_at h index m n keys items i key item f f' same are lt is at found h' =
    let place : key ≡ get_or keys i [] = is ∙ at ∙ any_place items i item [] lt ∙ ap (λ (l : List (List ℕ)). get_or l i []) are in
    subst (λ (k : List ℕ). IsFound h index m k f') place (subst (λ (o : Map). IsFound h index o key f') same (subst (λ (g : Found). IsFound h index n key g) found h'))
  where
    any_place : (xs : List (List ℕ)) (i : ℕ) (d e : List ℕ) → i < length xs → get_or xs i d ≡ get_or xs i e
    any_place [] i d e lt = absurd (omega (arith, lt))
    any_place (x ∷ xs) zero d e lt = refl
    any_place (x ∷ xs) (suc i) d e lt = any_place xs i d e (omega (arith, lt))

and_false : (a b : Bool) → (a && b) ≡ false → (a ≡ false) ⊎ (b ≡ false)
and_false true b e = inr e
and_false false b e = inl refl

-- a key that was looked at and noted
pub collects_more : (h : TreeHead) (index : Bool) (m : Map) (keys : List (List ℕ)) (i : ℕ) (f : Found) (b : Bool) (old new : Collected) → B1 h → IsHeldKey m (get_or keys i []) → IsFound h index m (get_or keys i []) f
    → IsNoted f b old new → b ≡ true → Collects h index m keys i old.ids old.within → Collects h index m keys (i + 1) new.ids new.within
collects_more h index m keys i (found_page id inside) b old new one at found noted e c =
    collects_page h index m keys i id old.ids new.ids old.within inside new.within one at found noted.1 (λ w. and_parts old.within inside (sym noted.2 ∙ w)) (λ w. and_false old.within inside (sym noted.2 ∙ w)) c
collects_more h index m keys i Column b old new one at found noted e c =
    subst (λ (w : Bool). Collects h index m keys (i + 1) new.ids w) (sym noted.2) (subst (λ (s : BTreeSet ℕ). Collects h index m keys (i + 1) s old.within) (sym noted.1) (collects_column h index m keys i old.ids old.within found c))
collects_more h index m keys i Nothing b old new one at found noted e c = absurd (let bad = sym e ∙ noted in cc)

pub broken : (h : TreeHead) (index : Bool) (m : Map) (keys : List (List ℕ)) (i : ℕ) (f : Found) (b : Bool) (old new : Collected) → IsHeldKey m (get_or keys i []) → IsFound h index m (get_or keys i []) f → IsNoted f b old new → b ≡ false → B2 h index m → ⊥
broken h index m keys i (found_page id inside) b old new at found noted e rule = let bad = sym e ∙ noted.0 in cc
broken h index m keys i Column b old new at found noted e rule = let bad = sym e ∙ noted.0 in cc
broken h index m keys i Nothing b old new at found noted e rule = not_fine h index m (get_or keys i []) at found rule

pub empty_contains : (ids : BTreeSet ℕ) (id : ℕ) → ids.keys ≡ [] → contains nat_cmp ids id ≡ false
empty_contains ids id e = ap (λ (ks : List ℕ). contains nat_cmp (record { keys = ks }) id) e
