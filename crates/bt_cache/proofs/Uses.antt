-- What uses of pages leave of a cache and its store.
use Rattle.std.proofs.Common.{◌≡◌, ℕ, ◌+◌, ◌-◌, ◌^◌, List, [], ◌∷◌, Option, Some, None, Bool, true, false, cond, nat_eq, refl, sym, ap, subst, ◌∙◌, inl, inr, ⊎_elim}
use Rattle.std.specs.Prelude.{is_some, min, slice_get}
use Rattle.std.specs.Map.{keys_of, lookup, lookup_entry, remove_entry, set_value}
use Rattle.std.proofs.lemmas.Bool.{eq-eqb}
use Rattle.lru.specs.LruCache.{lru_cache, IsValid, promoted, put_entries}
use Rattle.tc_base.specs.Maps.{Map}
use Rattle.tc_space.specs.Frames.{Reads}
use Rattle.tc_space.specs.Stores.{IsReady}
use Rattle.tc_space.specs.declared.records.Records.{Ghosts as Stores}
use Rattle.tc_space.specs.declared.space.Space.{Ghosts}
use Rattle.bt_page.specs.declared.page.Leaf.{Leaf}
use Rattle.bt_rows.specs.declared.page.Page.{Page}
use Rattle.bt_rows.specs.declared.page.Page.TheVariants.{Leaf as leaf_page}
use Rattle.bt_cache.specs.declared.shared.SharedPage.{SharedPage}
use Rattle.bt_cache.specs.declared.shared.SharedPage.TheVariants.{Leaf as shared_leaf}
use Rattle.bt_cache.specs.Shared.{page_of, IsAny}
use Rattle.bt_cache.specs.Ids.{has, used}
use Rattle.bt_cache.specs.declared.cache.Cache.{Cache}
use Rattle.bt_cache.specs.Held.{Pages, ids, HasPage, HoldsLeaf, AreSame, Beside, Holds}
use Rattle.bt_cache.specs.Effects.{AsksOnce, CountsPage, unless}
use Rattle.bt_cache.proofs.Entries.{Fronts, Promotes, all_left, looked_up, promotes, put_front, has_found, found_is}
use Rattle.bt_cache.proofs.Kept.{one_page}

fronts_same : (m : Map) (c : Pages) (id : ℕ) (x : SharedPage) (es : List (ℕ × SharedPage)) → Fronts c id x es → HasPage m id (page_of x) → AreSame m c.entries → AreSame m es
fronts_same m c id x es f h a = subst (AreSame m) (sym f.is) (h, f.all (λ e. HasPage m e.0 (page_of e.1)) a)

fronts_first : (c : Pages) (id : ℕ) (x : SharedPage) (es : List (ℕ × SharedPage)) (c' : Pages) → c' ≡ lru_cache es c.cap → Fronts c id x es → (rest : List ℕ) × (ids c' ≡ id ∷ rest)
fronts_first c id x es c' e f = (ids (lru_cache f.rest c.cap), ap ids e ∙ ap (λ (l : List (ℕ × SharedPage)). ids (lru_cache l c.cap)) f.is)

-- ---- a page that is held

module _ (c c' : Pages) (id : ℕ) (held : Bool) (valid : IsValid nat_eq c) (tested : held ≡ is_some (lookup (nat_eq id) c.entries)) (new : c' ≡ lru_cache (promoted (nat_eq id) c.entries) c.cap) where
  pub held_has : has id (ids c) ≡ held
  held_has = sym (has_found id c.entries) ∙ sym tested

  is_promoted : held ≡ true → Promotes c id (promoted (nat_eq id) c.entries)
  is_promoted t = promotes c id valid (sym tested ∙ t)

  pub hit_list : held ≡ true → ids c' ≡ used c.cap id (ids c)
  hit_list t = ap ids new ∙ (is_promoted t).fronts.keys

  pub hit_first : held ≡ true → (rest : List ℕ) × (ids c' ≡ id ∷ rest)
  hit_first t = let p = is_promoted t in fronts_first c id p.value (promoted (nat_eq id) c.entries) c' new p.fronts

  pub hit_reads : {S V : Type 0} (s : Ghosts S) (R : Stores V S) (v : V) (a : S) → held ≡ true → s.sound a → Reads s (Beside s R) (c, v) (c', v) a a
  hit_reads s R v a t sound = let p = is_promoted t in record {
    now = λ _ g. refl;
    touched = refl;
    sound = sound;
    means = λ m b. (b.0, subst (λ (k : Pages). AreSame m k.entries) (sym new) (fronts_same m c id p.value (promoted (nat_eq id) c.entries) p.fronts (p.kept (λ e. HasPage m e.0 (page_of e.1)) b.1) b.1));
  }

  pub not_promoted : held ≡ false → c' ≡ c
  not_promoted f = new ∙ ap (λ (l : List (ℕ × SharedPage)). lru_cache l c.cap) (go (lookup_entry (nat_eq id) c.entries) refl)
    where
      go : (o : Option (ℕ × SharedPage)) → lookup_entry (nat_eq id) c.entries ≡ o → promoted (nat_eq id) c.entries ≡ c.entries
      go None e = rw e refl
      go (Some f') e = absurd (let g = found_is id c.entries f' e in let bad = sym f ∙ tested ∙ ap is_some g.3 in cc)

-- ---- one that is read

module _ {S V : Type 0} (s : Ghosts S) (R : Stores V S) where
  pub ready_store : (c : Pages) (v : V) (a : S) → IsReady s (Beside s R) (c, v) a → IsReady s (Holds s R) v a
  ready_store c v a r = record { sound = r.sound; held = λ t. let h = r.held t in (h.0, h.1.0) }

  pub same_reads : (c c' : Pages) (v v' : V) (a b : S) → c' ≡ c → Reads s (Holds s R) v v' a b → Reads s (Beside s R) (c, v) (c', v') a b
  same_reads c c' v v' a b e r = record { now = r.now; touched = r.touched; sound = r.sound; means = λ m h. (r.means m h.0, subst (λ (k : Pages). AreSame m k.entries) (sym e) h.1) }

  pub miss_reads : (c k c' : Pages) (id : ℕ) (x : SharedPage) (v v' : V) (a b : S) → k ≡ c → IsValid nat_eq c → c' ≡ lru_cache (put_entries nat_eq k id x) k.cap → Reads s (Holds s R) v v' a b
      → ((m n : Map) (p : Page) → Holds s R v a m → Holds s R v a n → HasPage m id p → (page_of x ≡ p) × HasPage n id p) → (s.tells → (m : Map) × (p : Page) × Beside s R (c, v) a m × HasPage m id p × IsAny p) → Reads s (Beside s R) (c, v) (c', v') a b
  miss_reads c k c' id x v v' a b same valid new r found there = record {
    now = r.now;
    touched = r.touched;
    sound = r.sound;
    means = λ m h.
        let t = there h.0.0 in
        let f = found t.0 m t.1 t.2.0 h.0 t.3 in
        let is : c' ≡ lru_cache (put_entries nat_eq c id x) c.cap = new ∙ ap (λ (j : Pages). lru_cache (put_entries nat_eq j id x) j.cap) same in
        (r.means m h.0, subst (λ (j : Pages). AreSame m j.entries) (sym is) (fronts_same m c id x (put_entries nat_eq c id x) (put_front c id x valid) (subst (HasPage m id) (sym f.0) f.1) h.1));
  }

pub miss_list : (c k c' : Pages) (id : ℕ) (x : SharedPage) → k ≡ c → IsValid nat_eq c → c' ≡ lru_cache (put_entries nat_eq k id x) k.cap → ids c' ≡ used c.cap id (ids c)
miss_list c k c' id x same valid new = ap ids new ∙ ap (λ (j : Pages). ids (lru_cache (put_entries nat_eq j id x) j.cap)) same ∙ (put_front c id x valid).keys

pub miss_first : (c k c' : Pages) (id : ℕ) (x : SharedPage) → k ≡ c → IsValid nat_eq c → c' ≡ lru_cache (put_entries nat_eq k id x) k.cap → (rest : List ℕ) × (ids c' ≡ id ∷ rest)
miss_first c k c' id x same valid new = fronts_first c id x (put_entries nat_eq c id x) c' (new ∙ ap (λ (j : Pages). lru_cache (put_entries nat_eq j id x) j.cap) same) (put_front c id x valid)

-- ---- counts

pub asked_hit : (b : Bool) (n : ℕ) → b ≡ true → n ≡ unless b n
asked_hit b n t = sym (ap (λ (d : Bool). unless d n) t)

pub asked_miss : (b : Bool) (n n' : ℕ) → b ≡ false → n' ≡ min (n + 1) (2 ^ 64 - 1) → n' ≡ unless b n
asked_miss b n n' f e = e ∙ sym (ap (λ (d : Bool). unless d n) f)

module _ {S V : Type 0} (R : Stores V S) (id : ℕ) (c : Cache V) where
  pub counts_hit : (v : V) (n : ℕ) → has id (ids c.pages) ≡ true → CountsPage R id c v v n n
  counts_hit v n t = record { counted = asked_hit (has id (ids c.pages)) n t; asked = inl refl }

  pub counts_miss : (v v' : V) (n n' : ℕ) → has id (ids c.pages) ≡ false → AsksOnce R v v' → n' ≡ min (n + 1) (2 ^ 64 - 1) → CountsPage R id c v v' n n'
  counts_miss v v' n n' f a e = record {
    counted = asked_miss (has id (ids c.pages)) n n' f e;
    asked = ⊎_elim (λ same. inl same) (λ more. inr (asked_miss (has id (ids c.pages)) (R.gets v) (R.gets v') f more)) a.asked;
  }

-- ---- a page that is taken out of the list

module _ (c c' : Pages) (id : ℕ) (found : Option SharedPage) (value : found ≡ lookup (nat_eq id) c.entries) (new : c' ≡ lru_cache (remove_entry (nat_eq id) c.entries) c.cap) where
  pub taken_has : (o : Option SharedPage) → found ≡ o → has id (ids c) ≡ is_some o
  taken_has o e = sym (has_found id c.entries) ∙ ap is_some (sym value ∙ e)

  pub taken_page : (m : Map) (x : SharedPage) (p : Page) → found ≡ Some x → AreSame m c.entries → HasPage m id p → page_of x ≡ p
  taken_page m x p e a h = one_page m id (page_of x) p (looked_up (λ e. HasPage m e.0 (page_of e.1)) id c.entries x (sym value ∙ e) a) h

  pub taken_reads : {S V : Type 0} (s : Ghosts S) (R : Stores V S) (v v' : V) (a b : S) → Reads s (Holds s R) v v' a b → Reads s (Beside s R) (c, v) (c', v') a b
  taken_reads s R v v' a b r = record {
    now = r.now;
    touched = r.touched;
    sound = r.sound;
    means = λ m h. (r.means m h.0, subst (λ (k : Pages). AreSame m k.entries) (sym new) (all_left (λ e. HasPage m e.0 (page_of e.1)) id c.entries h.1));
  }

-- ---- the page in front

front_is : (m : Map) (es : List (ℕ × SharedPage)) (id k : ℕ) (x : SharedPage) (rest : List ℕ) (p : Page) → Some (k, x) ≡ slice_get es 0 → ids (lru_cache es 1) ≡ id ∷ rest → AreSame m es → HasPage m id p → page_of x ≡ p
front_is m [] id k x rest p e l a h = absurd cc
front_is m (f ∷ es) id k x rest p e l a h =
    let first : (k, x) ≡ f = cc in
    let is : f.0 ≡ id = cc in
    let there : HasPage m id (page_of x) = subst (λ (y : SharedPage). HasPage m id (page_of y)) (sym (ap (λ (q : ℕ × SharedPage). q.1) first)) (subst (λ (j : ℕ). HasPage m j (page_of f.1)) is a.0) in
    one_page m id (page_of x) p there h

pub front_page : (m : Map) (c : Pages) (id k : ℕ) (x : SharedPage) (p : Page) → Some (k, x) ≡ slice_get c.entries 0 → (rest : List ℕ) × (ids c ≡ id ∷ rest) → AreSame m c.entries → HasPage m id p → page_of x ≡ p
front_page m c id k x p e l a h = front_is m c.entries id k x l.0 p e l.1 a h

front_none : (es : List (ℕ × SharedPage)) (id : ℕ) (rest : List ℕ) → None ≡ slice_get es 0 → ids (lru_cache es 1) ≡ id ∷ rest → ⊥
front_none [] id rest e l = cc
front_none (f ∷ es) id rest e l = cc

pub no_front : (c : Pages) (id : ℕ) → None ≡ slice_get c.entries 0 → (rest : List ℕ) × (ids c ≡ id ∷ rest) → ⊥
no_front c id e l = front_none c.entries id l.0 e l.1

-- ---- a leaf that is held

-- what is in front is held
pub front_holds : (m : Map) (c : Pages) (id : ℕ) (l : Leaf) → (rest : List ℕ) × (ids c ≡ id ∷ rest) → AreSame m c.entries → HasPage m id (leaf_page l) → HoldsLeaf id l c
front_holds m c id l first same page = go c.entries first.1 same refl
  where
    go : (es : List (ℕ × SharedPage)) → keys_of es ≡ id ∷ first.0 → AreSame m es → c.entries ≡ es → HoldsLeaf id l c
    go [] e a is = absurd cc
    go (f ∷ es) e a is =
        let own : f.0 ≡ id = cc in
        let test : nat_eq id f.0 ≡ true = eq-eqb id f.0 (sym own) in
        record {
          page = f.1;
          there = ap (lookup (nat_eq id)) is ∙ ap (λ (b : Bool). cond b (Some f.1) (lookup (nat_eq id) es)) test;
          is = one_page m id (page_of f.1) (leaf_page l) (subst (λ (j : ℕ). HasPage m j (page_of f.1)) own a.0) page;
        }

-- the page of an id written over by itself
pub same_value : (id : ℕ) (es : List (ℕ × SharedPage)) (x : SharedPage) → lookup (nat_eq id) es ≡ Some x → set_value (nat_eq id) es x ≡ es
same_value id [] x e = refl
same_value id (f ∷ es) x e = (elim (nat_eq id f.0) as (λ b. cond b (Some f.1) (lookup (nat_eq id) es) ≡ Some x → cond b ((f.0, x) ∷ es) (f ∷ set_value (nat_eq id) es x) ≡ f ∷ es) [
  | true ↦ λ e. let is : f.1 ≡ x = cc in ap (λ (y : SharedPage). (f.0, y) ∷ es) (sym is)
  | false ↦ λ e. ap (λ (l : List (ℕ × SharedPage)). f ∷ l) (same_value id es x e)
]) e

pub held_same : (id : ℕ) (c c' : Pages) (x y : SharedPage) → lookup (nat_eq id) c.entries ≡ Some x → y ≡ x → c' ≡ lru_cache (set_value (nat_eq id) c.entries y) c.cap → c' ≡ c
held_same id c c' x y e is new = new ∙ ap (λ (z : SharedPage). lru_cache (set_value (nat_eq id) c.entries z) c.cap) is ∙ ap (λ (es : List (ℕ × SharedPage)). lru_cache es c.cap) (same_value id c.entries x e)

-- it is the one that was looked up
pub held_is : (id : ℕ) (l : Leaf) (c : Pages) (x : SharedPage) → lookup (nat_eq id) c.entries ≡ Some x → HoldsLeaf id l c → page_of x ≡ leaf_page l
held_is id l c x e h = let same : x ≡ h.page = let both = sym e ∙ h.there in cc in ap page_of same ∙ h.is

pub not_held : (id : ℕ) (l : Leaf) (c : Pages) → lookup (nat_eq id) c.entries ≡ None → HoldsLeaf id l c → ⊥
not_held id l c e h = let bad = sym e ∙ h.there in cc

-- what is so of the leaf that a page is
pub leaf_of_page : (x : SharedPage) (k l : Leaf) (P : Leaf → Type 0) → x ≡ shared_leaf k → P k → page_of x ≡ leaf_page l → P l
leaf_of_page x k l P is p e = let same : k ≡ l = let both = sym (ap page_of is) ∙ e in cc in subst P same p
