-- A file written anew in the large form with the pairs that it had.
use Rattle.std.proofs.Common.{◌≡◌, ◌∙◌, ◌⊎◌, inl, inr, ⊎_elim, ℕ, zero, suc, ◌+◌, ◌^◌, ◌≤◌, true, false, List, [], ◌∷◌, ◌++◌, length, take, drop, map, refl, sym, ap, subst, arith, Option, Some, None, Bool, add-one}
use Rattle.std.specs.Prelude.{is_some, slice_get, ◌||◌}
use Rattle.std.specs.FinMap.{empty, get, insert, keys, contains_key-keys, get-empty, same_map}
use Rattle.std.specs.List.{list_any}
use Rattle.std.specs.Ordering.{nat_cmp, eq_by_cmp}
use Rattle.std.specs.Cmp.Lexicographic.{slice_cmp, nat_list_cmp_total}
use Rattle.std.proofs.lemmas.Map.Lookups.{exact_bytes}
use Rattle.std.proofs.lemmas.Bool.{cases_eq, ne_eqb}
use Rattle.std.proofs.lemmas.List.{map-append}
use Rattle.tc_base.specs.Maps.{Map}
use Rattle.tc_base.specs.declared.seq.Pair.{Pair}
use Rattle.tc_base.specs.declared.kind.Mode.TheVariants.{Over}
use Rattle.tc_space.specs.Changes.{put_in, same as same_map_of}
use Rattle.tc_space.specs.Frames.{In, Reads, Writes, reads_writes, writes_then}
use Rattle.tc_space.specs.Stores.{Only}
use Rattle.tc_space.specs.declared.space.Space.{Ghosts}
use Rattle.hf_block.specs.Written.{block_len}
use Rattle.hf_tree.specs.Links.{width}
use Rattle.hf_layout.specs.Frees.{none}
use Rattle.hf_layout.specs.Layout.{LaidOut}
use Rattle.hf_head.specs.declared.head.Head.{Head}
use Rattle.hf_head.specs.Heads.{Spells, head_in, is_large, spelled, unit}
use Rattle.hf_pool.specs.declared.pool.Pool.{Pool}
use Rattle.hf_pool.specs.Pools.{Takes, frees as frees_in}
use Rattle.tc_hash.specs.Creating.{IsNew, new_bytes, with_region}
use Rattle.hf_record.specs.Fields.{HasFields}
use Rattle.tc_hash.specs.Holding.{Holds}
use Rattle.tc_hash.specs.declared.hash.Hash.{Hash}
use Rattle.tc_hash.specs.Keeping.{file_of, holds, size_for, GivesValue, StaysOpen}
use Rattle.hf_record.specs.Moves.{IsRefusedFor, LacksRoom}
use Rattle.tc_hash.specs.Packing.{AllIn, ArePairs, IsLargeOf, LacksAnew, LacksEnd, LacksOne, LacksRecord, MakesLarge, PutsPairs, WritesLarge, blocks_long, with_pairs}
use Rattle.tc_hash.proofs.Cleared.{anew_holds, may_be}
use Rattle.tc_hash.proofs.Created.{new_fields}
use Rattle.hf_record.proofs.Maps.{insert_here, insert_other, other_test, same_or_not}

abbrev same : List ℕ → List ℕ → Bool
same = eq_by_cmp (slice_cmp nat_cmp)

abbrev key_of : Pair → List ℕ
key_of p = p.key

-- what pairs leave of a key that one of them has, or of one that had its value before
pairs_get : (m n : Map) (ps : List Pair) (q : List ℕ) → AllIn m ps → (get n q ≡ get m q) ⊎ (list_any (same q) (map key_of ps) ≡ true) → get (with_pairs n ps) q ≡ get m q
pairs_get m n [] q all (inl e) = e
pairs_get m n [] q all (inr e) = absurd cc
pairs_get m n (p ∷ ps) q all given = elim (same_or_not q p.key) [
  | inl is ↦ pairs_get m (insert n p.key p.value) ps q all.1 (inl (ap (get (insert n p.key p.value)) is ∙ insert_here n p.key p.value ∙ sym all.0 ∙ ap (get m) (sym is)))
  | inr ne ↦ pairs_get m (insert n p.key p.value) ps q all.1 (⊎_elim (λ e. inl (insert_other n p.key p.value q ne ∙ e)) (λ e. inr (skip p.key (map key_of ps) ne e)) given)
]
  where
    skip : (k : List ℕ) (ks : List (List ℕ)) → (q ≡ k → ⊥) → (same q k || list_any (same q) ks) ≡ true → list_any (same q) ks ≡ true
    skip k ks ne e = rw (other_test q k ne) at e

-- all pairs of a map make it
pub pairs_make : (m : Map) (ps : List Pair) → ArePairs m (keys m) ps → with_pairs empty ps ≡ m
pairs_make m ps are = same_map nat_list_cmp_total exact_bytes (with_pairs empty ps) m (λ q. pairs_get m empty ps q are.each (which q (get m q) refl))
  where
    which : (q : List ℕ) (o : Option (List ℕ)) → get m q ≡ o → (get (empty {R = slice_cmp nat_cmp}) q ≡ get m q) ⊎ (list_any (same q) (map key_of ps) ≡ true)
    which q None e = inl (get-empty (slice_cmp nat_cmp) q ∙ sym e)
    which q (Some v) e = inr (ap (λ (ks : List (List ℕ)). list_any (same q) ks) are.keys_are ∙ sym (contains_key-keys m q) ∙ ap (λ (o : Option (List ℕ)). is_some o) e)

-- ---- one pair more

pub with_one : (m : Map) (ps : List Pair) (p : Pair) → with_pairs m (ps ++ p ∷ []) ≡ insert (with_pairs m ps) p.key p.value
with_one m [] p = refl
with_one m (q ∷ ps) p = with_one (insert m q.key q.value) ps p

all_one : (m : Map) (ps : List Pair) (p : Pair) → AllIn m ps → get m p.key ≡ Some p.value → AllIn m (ps ++ p ∷ [])
all_one m [] p all there = (there, tt)
all_one m (q ∷ ps) p all there = (all.0, all_one m ps p all.1 there)

pub no_pairs : (m : Map) (ps : List Pair) → ps ≡ [] → ArePairs m [] ps
no_pairs m ps e = record { each = subst (AllIn m) (sym e) tt; keys_are = ap (map key_of) e }

pub one_pair : (m : Map) (ks : List (List ℕ)) (ps qs : List Pair) (p : Pair) → ArePairs m ks ps → get m p.key ≡ Some p.value → qs ≡ ps ++ p ∷ [] → ArePairs m (ks ++ p.key ∷ []) qs
one_pair m ks ps qs p are there e = record {
  each = subst (AllIn m) (sym e) (all_one m ps p are.each there);
  keys_are = ap (map key_of) e ∙ map-append key_of ps (p ∷ []) ∙ ap (λ (l : List (List ℕ)). l ++ p.key ∷ []) are.keys_are;
}

pub take_more : (i : ℕ) (ps : List Pair) (p : Pair) → slice_get ps i ≡ Some p → take (suc i) ps ≡ take i ps ++ p ∷ []
take_more i [] p e = absurd (let f : None ≡ Some p = e in cc)
take_more zero (q ∷ ps) p e = let f : Some q ≡ Some p = e in let g : q ≡ p = cc in ap (λ (x : Pair). x ∷ []) g
take_more (suc i) (q ∷ ps) p e = ap (λ (l : List Pair). q ∷ l) (take_more i ps p e)

-- a pair, with those in front of it and behind it
pub parted_at : (i : ℕ) (ps : List Pair) (p : Pair) → slice_get ps i ≡ Some p → ps ≡ take i ps ++ p ∷ drop (suc i) ps
parted_at i [] p e = absurd (let f : None ≡ Some p = e in cc)
parted_at zero (q ∷ ps) p e = let f : Some q ≡ Some p = e in let g : q ≡ p = cc in ap (λ (x : Pair). x ∷ ps) g
parted_at (suc i) (q ∷ ps) p e = ap (λ (l : List Pair). q ∷ l) (parted_at i ps p e)

none_before : (n : ℕ) → n + 0 ≡ 0 + n
none_before n = omega arith

one_before : (q a b c : ℕ) → a ≡ b + c → q + a ≡ q + b + c
one_before q a b c e = omega (arith, e)

ends_sum : (a b c x y z : ℕ) → a ≡ b + x → b ≡ c + y → z ≡ y + x → a ≡ c + z
ends_sum a b c x y z p q r = omega (arith, p, q, r)

pub blocks_one : (h : Head) (ps : List Pair) (p : Pair) → blocks_long h (ps ++ p ∷ []) ≡ blocks_long h ps + block_len (width h) p.key p.value (unit h)
blocks_one h [] p = none_before (block_len (width h) p.key p.value (unit h))
blocks_one h (q ∷ ps) p = one_before _ _ _ _ (blocks_one h ps p)

pub blocks_more : (h : Head) (i : ℕ) (ps : List Pair) (p : Pair) → slice_get ps i ≡ Some p → blocks_long h (take (i + 1) ps) ≡ blocks_long h (take i ps) + block_len (width h) p.key p.value (unit h)
blocks_more h i ps p e = ap (λ (n : ℕ). blocks_long h (take n ps)) (add-one i) ∙ ap (blocks_long h) (take_more i ps p e) ∙ blocks_one h (take i ps) p

pub mapped_same : (ks : List (List ℕ)) → map (λ (k : List ℕ). k) ks ≡ ks
mapped_same [] = refl
mapped_same (k ∷ ks) = ap (λ (l : List (List ℕ)). k ∷ l) (mapped_same ks)

pub in_all : (m : Map) (ps : List Pair) (i : ℕ) (p : Pair) → slice_get ps i ≡ Some p → AllIn m ps → get m p.key ≡ Some p.value
in_all m [] i p e all = absurd (let f : None ≡ Some p = e in cc)
in_all m (q ∷ ps) zero p e all = let f : Some q ≡ Some p = e in let g : q ≡ p = cc in subst (λ (x : Pair). get m x.key ≡ Some x.value) g all.0
in_all m (q ∷ ps) (suc i) p e all = in_all m ps i p e all.1

-- ---- the pool

-- a pool without free blocks stays so
pub still_nothing : (most size place : ℕ) (old new : Pool) → Takes most old new size place → ((q : ℕ) → frees_in old q ≡ None) → (q : ℕ) → frees_in new q ≡ None
still_nothing most size place old new (inl w) nothing q = absurd (let e : None ≡ Some w.0 = sym (nothing place) ∙ w.1.best.there in cc)
still_nothing most size place old new (inr g) nothing q = g.same q ∙ nothing q

-- and grows by each block
pub ends_behind : (most size place : ℕ) (old new : Pool) → Takes most old new size place → ((q : ℕ) → frees_in old q ≡ None) → new.size ≡ old.size + size
ends_behind most size place old new (inl w) nothing = absurd (let e : None ≡ Some w.0 = sym (nothing place) ∙ w.1.best.there in cc)
ends_behind most size place old new (inr g) nothing = g.end

-- ---- the file made anew

pub large_fields : (h new : Head) → HasFields h → IsNew h.kind h.apow h.fpow h.buckets true new → new.size ≤ 2 ^ 40 → HasFields new
large_fields h new f is short = new_fields h.kind h.apow h.fpow h.buckets true new (may_be h f) is short

-- nothing is held in it
pub large_holds : (h new g : Head) (region : List ℕ) (p : Pool) (bytes : List ℕ) → HasFields h → IsNew h.kind h.apow h.fpow h.buckets true new → new.size ≤ 2 ^ 40 → g ≡ with_region new region → p.unit ≡ unit new → p.size ≡ new.size → ((q : ℕ) → frees_in p q ≡ None)
    → ((bs : List ℕ) → new.size ≤ length bs → LaidOut (unit new) new.first new.size [] (frees_in p) none bs) → Spells g (spelled g) → length (spelled g) ≡ 256 → bytes ≡ new_bytes g → Holds new p.size (frees_in p) 0 empty bytes
large_holds h new g region p bytes f is short written same sized nothing laid spells long e = anew_holds new g region p bytes (large_fields h new f is short) is.records is.size written same sized nothing laid spells long e

pub options_one : (h : Head) → is_large h ≡ true → h.options ≡ 1
options_one h large = elim (cases_eq h.options 1) [
  | inl is ↦ is
  | inr ne ↦ absurd (let e : false ≡ true = sym (ne_eqb h.options 1 ne) ∙ large in cc)
]

-- ---- one put after the other

module _ {S : Type 0} (s : Ghosts S) where
  pub lacks_end : (v w : Hash S) (b : S) (end : ℕ) (key key' value value' : List ℕ) → key' ≡ key → value' ≡ value → StaysOpen v w → ((q : ℕ) → frees_in w.body.pool q ≡ None) → w.body.pool.size ≡ end → (a : S) → LacksRoom s w.body a b (size_for w key' value') → s.log_full b ⊎ LacksEnd s v.body.head v.body.file end b key value
  lacks_end v w b end key key' value value' ek ev stays nothing ends a lacks = ⊎_elim
      (λ log. inl log)
      (λ none. inr (record {
        brought = none.0.brought;
        free = frees_in w.body.pool;
        nothing = nothing;
        refused =
            subst (λ (n : ℕ). IsRefusedFor v.body.head n (frees_in w.body.pool) (s.limit b v.body.file) (length (s.now b v.body.file)) (block_len (width v.body.head) key value (unit v.body.head))) ends
            (subst (λ (k : List ℕ). IsRefusedFor v.body.head w.body.pool.size (frees_in w.body.pool) (s.limit b v.body.file) (length (s.now b v.body.file)) (block_len (width v.body.head) k value (unit v.body.head))) ek
            (subst (λ (x : List ℕ). IsRefusedFor v.body.head w.body.pool.size (frees_in w.body.pool) (s.limit b v.body.file) (length (s.now b v.body.file)) (block_len (width v.body.head) key' x (unit v.body.head))) ev
            (subst (λ (h : Head). IsRefusedFor h w.body.pool.size (frees_in w.body.pool) (s.limit b v.body.file) (length (s.now b v.body.file)) (block_len (width h) key' value' (unit h))) stays.head
            (subst (λ (f : ℕ). IsRefusedFor w.body.head w.body.pool.size (frees_in w.body.pool) (s.limit b f) (length (s.now b f)) (size_for w key' value')) stays.map.file none.1))));
      }))
      lacks

  pub put_more : (u v w : Hash S) (a b c : S) (ps : List Pair) (i : ℕ) (p : Pair) (key value : List ℕ) → key ≡ p.key → value ≡ p.value → slice_get ps i ≡ Some p → StaysOpen u v → Writes s (Only (file_of u)) (In s file_of holds) (λ m. with_pairs m (take i ps)) u v a b → GivesValue s Over key value 13 v w b c → Writes s (Only (file_of u)) (In s file_of holds) (λ m. with_pairs m (take (i + 1) ps)) u w a c
  put_more u v w a b c ps i p key value ek ev at stays first second =
      let own : Writes s (Only (file_of u)) (In s file_of holds) (put_in Over key value) v w b c = subst (λ (f : ℕ). Writes s (Only f) (In s file_of holds) (put_in Over key value) v w b c) stays.map.file second.writes in
      let both = writes_then s (In s file_of holds) (Only (file_of u)) (λ m. with_pairs m (take i ps)) (put_in Over key value) u v w a b c first own in
      record {
        sound = both.sound;
        means = λ m holding. subst (λ (x : Map). In s file_of holds w c x) (next m) (both.means m holding);
        others = both.others;
      }
    where
      next : (m : Map) → insert (with_pairs m (take i ps)) key value ≡ with_pairs m (take (i + 1) ps)
      next m = (λ j. insert (with_pairs m (take i ps)) (ek j) (ev j)) ∙ sym (with_one m (take i ps) p) ∙ ap (with_pairs m) (sym (take_more i ps p at)) ∙ ap (λ (n : ℕ). with_pairs m (take n ps)) (sym (add-one i))

  -- where the blocks end behind one pair more
  pub ends_more : (u v w : Hash S) (ps : List Pair) (i : ℕ) (p : Pair) (key value : List ℕ) → key ≡ p.key → value ≡ p.value → slice_get ps i ≡ Some p → StaysOpen u v → w.body.pool.size ≡ v.body.pool.size + size_for v key value
      → v.body.pool.size ≡ u.body.pool.size + blocks_long u.body.head (take i ps) → w.body.pool.size ≡ u.body.pool.size + blocks_long u.body.head (take (i + 1) ps)
  ends_more u v w ps i p key value ek ev at stays grows ends =
      let sized : size_for v key value ≡ block_len (width u.body.head) p.key p.value (unit u.body.head) = λ j. block_len (width (stays.head j)) (ek j) (ev j) (unit (stays.head j)) in
      ends_sum _ _ _ _ _ _ (grows ∙ ap (λ (n : ℕ). v.body.pool.size + n) sized) ends (blocks_more u.body.head i ps p at)

  -- ---- the whole

  -- what is held now was held before what only reads
  pub in_before : (v v' : Hash S) (a b : S) (m : Map) → v' ≡ v → (s.tells → (g : ℕ) → s.now b g ≡ s.now a g) → In s file_of holds v' b m → In s file_of holds v a m
  in_before v v' a b m e now w =
      let x : In s file_of holds v b m = subst (λ (h : Hash S). In s file_of holds h b m) e w in
      (x.0, subst (λ (l : List ℕ). holds v l m) (now x.0 v.body.file) x.1)

  pub anew_packed : (u v w : Hash S) (a b c : S) (ps : List Pair) → v.body.file ≡ u.body.file → ((m : Map) → In s file_of holds u a m → AllIn m ps × (with_pairs empty ps ≡ m)) → Writes s (Only (file_of u)) (In s file_of holds) (λ m. empty) u v a b → Writes s (Only (file_of v)) (In s file_of holds) (λ m. with_pairs m ps) v w b c → Writes s (Only (file_of u)) (In s file_of holds) same_map_of u w a c
  anew_packed u v w a b c ps same_file make first second =
      let own : Writes s (Only (file_of u)) (In s file_of holds) (λ m. with_pairs m ps) v w b c = subst (λ (f : ℕ). Writes s (Only f) (In s file_of holds) (λ m. with_pairs m ps) v w b c) same_file second in
      let both = writes_then s (In s file_of holds) (Only (file_of u)) (λ m. empty) (λ m. with_pairs m ps) u v w a b c first own in
      record {
        sound = both.sound;
        means = λ m holding. subst (λ (x : Map). In s file_of holds w c x) (make m holding).1 (both.means m holding);
        others = both.others;
      }

  pub lacks_record : (u v : Hash S) (a c : S) (ps : List Pair) → v.body.file ≡ u.body.file → IsLargeOf u v.body.head → v.body.pool.size ≡ v.body.head.first → ((m : Map) → In s file_of holds u a m → ArePairs m (keys m) ps) → LacksOne s v.body.head v.body.file v.body.pool.size c ps → LacksRecord s u a c
  lacks_record u v a c ps same_file new ends are one = record {
    head = v.body.head;
    is_new = new;
    pairs = ps;
    are = are;
    one = subst (λ (f : ℕ). LacksOne s v.body.head f v.body.head.first c ps) same_file (subst (λ (n : ℕ). LacksOne s v.body.head v.body.file n c ps) ends one);
  }

  pub packed_after : (v v' w : Hash S) (a b c : S) → Reads s (In s file_of holds) v v' a b → v'.body.file ≡ v.body.file → Writes s (Only (file_of v')) (In s file_of holds) same_map_of v' w b c → Writes s (Only (file_of v)) (In s file_of holds) same_map_of v w a c
  packed_after v v' w a b c reads same_file writes = reads_writes s (In s file_of holds) (Only (file_of v)) same_map_of v v' w a b c reads (subst (λ (f : ℕ). Writes s (Only f) (In s file_of holds) same_map_of v' w b c) same_file writes)

  -- a file written anew lacked room, by what was held before what only reads
  pub large_before : (v v' : Hash S) (a b c : S) → v' ≡ v → (s.tells → (g : ℕ) → s.now b g ≡ s.now a g) → LacksAnew s v' b c → LacksAnew s v a c
  large_before v v' a b c e now lacks = ⊎_elim
      (λ sections. inl sections)
      (λ one. inr (record { head = one.head; is_new = one.is_new; pairs = one.pairs; are = λ m w. one.are m (w.0, subst (λ (l : List ℕ). holds v l m) (sym (now w.0 v.body.file)) w.1); one = one.one }))
      (subst (λ (h : Hash S). LacksAnew s h b c) e lacks)

  -- so it was written anew with what was held before
  pub writes_before : (v v' w : Hash S) (a b c : S) → v' ≡ v → (s.tells → (g : ℕ) → s.now b g ≡ s.now a g) → WritesLarge s v' w b c → WritesLarge s v w a c
  writes_before v v' w a b c e now writes =
      let x = subst (λ (h : Hash S). WritesLarge s h w b c) e writes in
      record { packs = x.packs; is_new = x.is_new; fills = λ m h. x.fills m (h.0, subst (λ (l : List ℕ). holds v l m) (sym (now h.0 v.body.file)) h.1); region = x.region }

  -- pairs that were put into a file that was made anew, which are all of a map
  pub writes_pairs : (u v w : Hash S) (a b c : S) (ps : List Pair) → MakesLarge s u v a b → StaysOpen v w → PutsPairs s ps v w b c → ((m : Map) → In s file_of holds u a m → ArePairs m (keys m) ps) → WritesLarge s u w a c
  writes_pairs u v w a b c ps made stays puts are = record {
    packs = record { nothing = puts.nothing; options_is = ap (λ (h : Head). h.options) stays.head ∙ options_one v.body.head made.is_new.form };
    is_new = subst (λ (h : Head). IsLargeOf u h) (sym stays.head) made.is_new;
    fills = λ m h. record {
      pairs = ps;
      are = are m h;
      ends = puts.ends ∙ (λ i. (made.ends i + blocks_long v.body.head ps)) ∙ ap (λ (h : Head). h.first + blocks_long h ps) (sym stays.head);
    };
    region = λ t.
        subst (λ (f : ℕ). (head_in (take 256 (s.now c f))).opaque ≡ w.region) (sym stays.map.file)
        (ap (λ (l : List ℕ). (head_in l).opaque) (puts.front t) ∙ made.region t ∙ sym stays.map.region_same);
  }
