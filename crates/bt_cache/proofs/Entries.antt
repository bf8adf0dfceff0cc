-- What uses and drops make of the entries of a list of the latest used.
use Rattle.std.proofs.Common.{◌≡◌, ℕ, zero, suc, ◌-◌, ◌<◌, ◌≤◌, Bool, true, false, cond, List, [], ◌∷◌, length, take, Option, Some, None, nat_eq, refl, sym, ap, subst, ◌∙◌, arith}
use Rattle.std.specs.Prelude.{is_some, ◌||◌, not}
use Rattle.std.specs.List.{AllByRecursion, IsDistinct}
use Rattle.std.specs.Map.{keys_of, lookup, lookup_entry, remove_entry}
use Rattle.std.proofs.lemmas.Bool.{eqb-true}
use Rattle.std.proofs.lemmas.List.{take_all, take-map, length-map}
use Rattle.std.proofs.lemmas.Map.Keys.{IsDistinct-head, IsDistinct-tail}
use Rattle.lru.specs.LruCache.{LruCache, IsValid, promoted, put_entries}
use Rattle.bt_cache.specs.Ids.{has, without, used}

take_front : (n id : ℕ) (ks : List ℕ) → 0 < n → take n (id ∷ ks) ≡ id ∷ take (n - 1) ks
take_front zero id ks lt = absurd (omega (arith, lt))
take_front (suc n) id ks lt = let less : suc n - 1 ≡ n = omega arith in ap (λ (k : ℕ). id ∷ take k ks) (sym less)

module _ {X : Type 0} where
  -- another id than this
  abbrev pub Others : ℕ → List (ℕ × X) → Type 0
  Others id es = AllByRecursion (λ e. nat_eq id e.0 ≡ false) es

  all_removed : (P : ℕ × X → Type 0) (test : ℕ → Bool) (es : List (ℕ × X)) → AllByRecursion P es → AllByRecursion P (remove_entry test es)
  all_removed P test [] a = a
  all_removed P test (e ∷ es) a = elim (test e.0) as (λ b. AllByRecursion P (cond b es (e ∷ remove_entry test es))) [
    | true ↦ a.1
    | false ↦ (a.0, all_removed P test es a.1)
  ]

  all_taken : (P : ℕ × X → Type 0) (n : ℕ) (es : List (ℕ × X)) → AllByRecursion P es → AllByRecursion P (take n es)
  all_taken P zero es a = tt
  all_taken P (suc n) [] a = tt
  all_taken P (suc n) (e ∷ es) a = (a.0, all_taken P n es a.1)

  all_keys : (id : ℕ) (es : List (ℕ × X)) → AllByRecursion (λ y. nat_eq id y ≡ false) (keys_of es) → Others id es
  all_keys id [] a = tt
  all_keys id (e ∷ es) a = (a.0, all_keys id es a.1)

  without_others : (id : ℕ) (es : List (ℕ × X)) → Others id es → without id (keys_of es) ≡ keys_of es
  without_others id [] o = refl
  without_others id (e ∷ es) o = ap (λ b. cond (not b) (e.0 ∷ without id (keys_of es)) (without id (keys_of es))) o.0 ∙ ap (λ (l : List ℕ). e.0 ∷ l) (without_others id es o.1)

  -- behind an entry of the id there is no other
  apart : (id : ℕ) (e : ℕ × X) (es : List (ℕ × X)) → IsDistinct nat_eq (keys_of (e ∷ es)) → nat_eq id e.0 ≡ true → Others id es
  apart id e es d t = let is : id ≡ e.0 = eqb-true id e.0 t in subst (λ (j : ℕ). Others j es) (sym is) (all_keys e.0 es (IsDistinct-head nat_eq e.0 (keys_of es) d))

  pub removed_others : (id : ℕ) (es : List (ℕ × X)) → IsDistinct nat_eq (keys_of es) → Others id (remove_entry (nat_eq id) es)
  removed_others id [] d = tt
  removed_others id (e ∷ es) d = (elim (nat_eq id e.0) as (λ b. nat_eq id e.0 ≡ b → Others id (cond b es (e ∷ remove_entry (nat_eq id) es))) [
    | true ↦ λ t. apart id e es d t
    | false ↦ λ f. (f, removed_others id es (IsDistinct-tail nat_eq e.0 (keys_of es) d))
  ]) refl

  pub removed_keys : (id : ℕ) (es : List (ℕ × X)) → IsDistinct nat_eq (keys_of es) → keys_of (remove_entry (nat_eq id) es) ≡ without id (keys_of es)
  removed_keys id [] d = refl
  removed_keys id (e ∷ es) d = (elim (nat_eq id e.0) as (λ b. nat_eq id e.0 ≡ b → keys_of (cond b es (e ∷ remove_entry (nat_eq id) es)) ≡ cond (not b) (e.0 ∷ without id (keys_of es)) (without id (keys_of es))) [
    | true ↦ λ t. sym (without_others id es (apart id e es d t))
    | false ↦ λ f. ap (λ (l : List ℕ). e.0 ∷ l) (removed_keys id es (IsDistinct-tail nat_eq e.0 (keys_of es) d))
  ]) refl

  pub all_left : (P : ℕ × X → Type 0) (id : ℕ) (es : List (ℕ × X)) → AllByRecursion P es → AllByRecursion P (remove_entry (nat_eq id) es)
  all_left P id es a = all_removed P (nat_eq id) es a

  none_others : (id : ℕ) (es : List (ℕ × X)) → lookup_entry (nat_eq id) es ≡ None → Others id es
  none_others id [] n = tt
  none_others id (e ∷ es) n = (elim (nat_eq id e.0) as (λ b. nat_eq id e.0 ≡ b → cond b (Some e) (lookup_entry (nat_eq id) es) ≡ None → Others id (e ∷ es)) [
    | true ↦ λ t n. absurd cc
    | false ↦ λ f n. (f, none_others id es n)
  ]) refl n

  -- an entry that is found has the id, and what holds of all
  pub found_is : (id : ℕ) (es : List (ℕ × X)) (e : ℕ × X) → lookup_entry (nat_eq id) es ≡ Some e → (e.0 ≡ id) × (suc (length (remove_entry (nat_eq id) es)) ≡ length es) × ((P : ℕ × X → Type 0) → AllByRecursion P es → P e) × (lookup (nat_eq id) es ≡ Some e.1)
  found_is id [] e h = absurd cc
  found_is id (f ∷ es) e h = (elim (nat_eq id f.0) as (λ b. nat_eq id f.0 ≡ b → cond b (Some f) (lookup_entry (nat_eq id) es) ≡ Some e → (e.0 ≡ id) × (suc (length (cond b es (f ∷ remove_entry (nat_eq id) es))) ≡ length (f ∷ es)) × ((P : ℕ × X → Type 0) → AllByRecursion P (f ∷ es) → P e) × (cond b (Some f.1) (lookup (nat_eq id) es) ≡ Some e.1)) [
    | true ↦ λ t h. let same : f ≡ e = cc in (sym (ap (λ p. p.0) same) ∙ sym (eqb-true id f.0 t), omega arith, λ P a. subst P same a.0, ap (λ p. Some p.1) same)
    | false ↦ λ t h. let on = found_is id es e h in (on.0, omega (arith, on.1), λ P a. on.2 P a.1, on.3)
  ]) refl h

  -- a value that is found has what holds of all
  pub looked_up : (P : ℕ × X → Type 0) (id : ℕ) (es : List (ℕ × X)) (x : X) → lookup (nat_eq id) es ≡ Some x → AllByRecursion P es → P (id, x)
  looked_up P id [] x h a = absurd cc
  looked_up P id (f ∷ es) x h a = (elim (nat_eq id f.0) as (λ b. nat_eq id f.0 ≡ b → cond b (Some f.1) (lookup (nat_eq id) es) ≡ Some x → P (id, x)) [
    | true ↦ λ t h. let same : f.1 ≡ x = cc in subst (λ (k : ℕ). P (k, x)) (sym (eqb-true id f.0 t)) (subst (λ (y : X). P (f.0, y)) same a.0)
    | false ↦ λ t h. looked_up P id es x h a.1
  ]) refl h

  pub has_found : (id : ℕ) (es : List (ℕ × X)) → is_some (lookup (nat_eq id) es) ≡ has id (keys_of es)
  has_found id [] = refl
  has_found id (e ∷ es) = elim (nat_eq id e.0) as (λ b. is_some (cond b (Some e.1) (lookup (nat_eq id) es)) ≡ (b || has id (keys_of es))) [
    | true ↦ refl
    | false ↦ has_found id es
  ]

  -- an entry is in front, and behind it are others
  pub record Fronts (c : LruCache ℕ X) (id : ℕ) (x : X) (es : List (ℕ × X)) : Type 1 where
    pub rest : List (ℕ × X)
    pub is : es ≡ (id, x) ∷ rest
    pub keys : keys_of es ≡ used c.cap id (keys_of c.entries)
    pub others : Others id rest
    pub all : (P : ℕ × X → Type 0) → AllByRecursion P c.entries → AllByRecursion P rest

  new_front : (c : LruCache ℕ X) (id : ℕ) (x : X) → IsValid nat_eq c → lookup_entry (nat_eq id) c.entries ≡ None → Fronts c id x ((id, x) ∷ take (c.cap - 1) c.entries)
  new_front c id x v n =
      let others : Others id c.entries = none_others id c.entries n in
      record {
        rest = take (c.cap - 1) c.entries;
        is = refl;
        keys = ap (λ (l : List ℕ). id ∷ l) (sym (take-map (λ (e : ℕ × X). e.0) (c.cap - 1) c.entries)) ∙ sym (take_front c.cap id (keys_of c.entries) v.2) ∙ ap (λ (l : List ℕ). take c.cap (id ∷ l)) (sym (without_others id c.entries others));
        others = all_taken (λ e. nat_eq id e.0 ≡ false) (c.cap - 1) c.entries others;
        all = λ P a. all_taken P (c.cap - 1) c.entries a;
      }

  old_front : (c : LruCache ℕ X) (id : ℕ) (x : X) (e : ℕ × X) → IsValid nat_eq c → lookup_entry (nat_eq id) c.entries ≡ Some e → Fronts c id x ((e.0, x) ∷ remove_entry (nat_eq id) c.entries)
  old_front c id x e v h =
      let f = found_is id c.entries e h in
      let left : keys_of (remove_entry (nat_eq id) c.entries) ≡ without id (keys_of c.entries) = removed_keys id c.entries v.0 in
      let few : length (id ∷ without id (keys_of c.entries)) ≤ c.cap = omega (arith, f.1, v.1, ap (λ (l : List ℕ). length l) left, length-map (remove_entry (nat_eq id) c.entries) (λ (e : ℕ × X). e.0)) in
      record {
        rest = remove_entry (nat_eq id) c.entries;
        is = ap (λ (k : ℕ). (k, x) ∷ remove_entry (nat_eq id) c.entries) f.0;
        keys = ap (λ (k : ℕ). k ∷ keys_of (remove_entry (nat_eq id) c.entries)) f.0 ∙ ap (λ (l : List ℕ). id ∷ l) left ∙ sym (take_all c.cap (id ∷ without id (keys_of c.entries)) few);
        others = removed_others id c.entries v.0;
        all = λ P a. all_removed P (nat_eq id) c.entries a;
      }

  pub put_front : (c : LruCache ℕ X) (id : ℕ) (x : X) → IsValid nat_eq c → Fronts c id x (put_entries nat_eq c id x)
  put_front c id x v = go (lookup_entry (nat_eq id) c.entries) refl
    where
      go : (o : Option (ℕ × X)) → lookup_entry (nat_eq id) c.entries ≡ o → Fronts c id x (put_entries nat_eq c id x)
      go None e = rw e (new_front c id x v e)
      go (Some f) e = rw e (old_front c id x f v e)

  -- a use of an entry that is held
  pub record Promotes (c : LruCache ℕ X) (id : ℕ) (es : List (ℕ × X)) : Type 1 where
    pub value : X
    pub fronts : Fronts c id value es
    pub kept : (P : ℕ × X → Type 0) → AllByRecursion P c.entries → P (id, value)

  pub promotes : (c : LruCache ℕ X) (id : ℕ) → IsValid nat_eq c → is_some (lookup (nat_eq id) c.entries) ≡ true → Promotes c id (promoted (nat_eq id) c.entries)
  promotes c id v there = go (lookup_entry (nat_eq id) c.entries) refl
    where
      go : (o : Option (ℕ × X)) → lookup_entry (nat_eq id) c.entries ≡ o → Promotes c id (promoted (nat_eq id) c.entries)
      go None e = absurd (let none = no_lookup c.entries e in let bad = sym there ∙ ap is_some none in cc)
        where
          no_lookup : (es : List (ℕ × X)) → lookup_entry (nat_eq id) es ≡ None → lookup (nat_eq id) es ≡ None
          no_lookup [] n = refl
          no_lookup (e ∷ es) n = elim (nat_eq id e.0) as (λ b. cond b (Some e) (lookup_entry (nat_eq id) es) ≡ None → cond b (Some e.1) (lookup (nat_eq id) es) ≡ None) [
            | true ↦ λ n. absurd cc
            | false ↦ λ n. no_lookup es n
          ] n
      go (Some f) e = rw e (record {
        value = f.1;
        fronts = old_front c id f.1 f v e;
        kept = λ P a. let i = found_is id c.entries f e in subst (λ (k : ℕ). P (k, f.1)) i.0 (i.2 P a);
      })
