-- A limit of the hash file is one of the database.
use Rattle.std.proofs.Common.{◌≡◌, ◌⊎◌, ◌∙◌, ℕ, ◌≤◌, List, refl, sym, ap, subst, inl, inr, ⊎_elim, arith}
use Rattle.std.specs.Prelude.{None, Some}
use Rattle.std.specs.FinMap.{get}
use Rattle.tc_base.specs.Maps.{Map}
use Rattle.tc_base.specs.declared.kind.Mode.{Mode}
use Rattle.tc_space.specs.Changes.{out_of, put_in, put_value}
use Rattle.tc_space.specs.Frames.{In}
use Rattle.tc_space.specs.declared.space.Space.{Ghosts}
use Rattle.tc_hash.specs.declared.hash.Hash.{Hash}
use Rattle.tc_hash.specs.Keeping.{LacksBlock, LacksIts, WantsFrom, file_of, holds, size_for}
use Rattle.tc_hash.proofs.Least.{own_most}
use Rattle.hf_pool.specs.declared.pool.Pool.{Pool}
use Rattle.hf_pool.specs.Pools.{frees}
use Rattle.hf_record.proofs.Maps.{insert_here, remove_here, remove_other, same_or_not}
use Rattle.tc_hashdb.specs.Filling.{FillsKey, FillsMap, IsTakenOut, WantsKey}

-- a map, or that map without a key that didn't have its value, where each key has what it had before or has after
pub between_out : (m held before after : Map) (key value : List ℕ) → (held ≡ m) ⊎ ((held ≡ out_of key m) × (get m key ≡ Some value → ⊥)) → get after key ≡ Some value → ((k : List ℕ) → (get m k ≡ get before k) ⊎ (get m k ≡ get after k)) → (k : List ℕ)
    → (get held k ≡ get before k) ⊎ ((get held k ≡ get after k) ⊎ IsTakenOut before after held key k)
between_out m held before after key value (inl is) there between k = ⊎_elim (λ was. inl (ap (λ (x : Map). get x k) is ∙ was)) (λ now. inr (inl (ap (λ (x : Map). get x k) is ∙ now))) (between k)
between_out m held before after key value (inr out) there between k = ⊎_elim
    (λ (own : k ≡ key). inr (inr (record {
      own = own;
      none = ap (λ (x : Map). get x k) out.0 ∙ ap (get (out_of key m)) own ∙ remove_here m key;
      changes = λ same.
          let had : get before key ≡ Some value = subst (λ (q : List ℕ). get before q ≡ get after q) own same ∙ there in
          out.1 (⊎_elim (λ was. was ∙ had) (λ now. now ∙ there) (between key));
    })))
    (λ other.
    let kept = ap (λ (x : Map). get x k) out.0 ∙ remove_other m key k other in
    ⊎_elim (λ was. inl (kept ∙ was)) (λ now. inr (inl (kept ∙ now))) (between k))
    (same_or_not k key)

-- a map from which a record was taken out since its block was too small
kept_from : {S : Type 0} (h : Hash S) (key value : List ℕ) (m held : Map) (bytes : List ℕ) (own : Pool) → WantsFrom h key m bytes (size_for h key value) held own → (held ≡ m) ⊎ ((held ≡ out_of key m) × (get m key ≡ Some value → ⊥))
kept_from h key value m held bytes own (inl is) = inl is.map
kept_from h key value m held bytes own (inr larger) =
    inr (larger.map, λ had. let most : size_for h key value ≤ larger.room = own_most h.body.head h.body.pool.size (frees h.body.pool) m key value larger.at larger.room bytes larger.stood had in omega (arith, larger.few, most))

module _ {S : Type 0} (s : Ghosts S) where
  -- in the file of the store
  pub wants_own : (h : Hash S) (a b : S) (m : Map) (key value : List ℕ) → LacksIts s h key m a b (size_for h key value) → WantsKey (s.limit b h.body.file) (s.now b h.body.file) m key value
  wants_own h a b m key value lacks = record {
    held = lacks.held;
    kept = kept_from h key value m lacks.held (s.now a h.body.file) lacks.none.own lacks.since;
    wants = record { head = h.body.head; fields = h.body.valid; none = lacks.none };
  }

  -- which is file 0
  pub wants_key : (h : Hash S) (a b : S) (m : Map) (key value : List ℕ) → h.body.file ≡ 0 → LacksIts s h key m a b (size_for h key value) → WantsKey (s.limit b 0) (s.now b 0) m key value
  wants_key h a b m key value file lacks = subst (λ (f : ℕ). WantsKey (s.limit b f) (s.now b f) m key value) file (wants_own h a b m key value lacks)

  -- no block was to be had for the record of a key that was put
  pub key_fills : (mode : Mode) (key value : List ℕ) (h : Hash S) (a b : S) (m : Map) → h.body.file ≡ 0 → In s file_of holds h a m → LacksBlock s mode key value h a b → FillsKey s b m key (put_value mode (get m key) value)
  key_fills mode key value h a b m file held lacks = ⊎_elim (λ log. inl log) (λ its. inr (its.brought, wants_key h a b m key (put_value mode (get m key) value) file its)) (lacks.wants m held)

  pub fills_up : (mode : Mode) (key value : List ℕ) (h : Hash S) (a b : S) (m : Map) → h.body.file ≡ 0 → In s file_of holds h a m → LacksBlock s mode key value h a b → FillsMap s b m (put_in mode key value m)
  fills_up mode key value h a b m file held lacks =
      let v : List ℕ = put_value mode (get m key) value in
      ⊎_elim
      (λ log. inl log)
      (λ x. inr (x.0, record { held = x.1.held; key = key; value = v; between = between_out m x.1.held m (put_in mode key value m) key v x.1.kept (insert_here m key v) (λ k. inl refl); there = insert_here m key v; wants = x.1.wants }))
      (key_fills mode key value h a b m file held lacks)
